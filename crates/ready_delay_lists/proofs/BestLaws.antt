-- The best of the first rows, row by row.
use Rattle.std.proofs.Common.{◌≡◌, ℕ, ◌+◌, ◌<◌, ◌≤◌, true, false, Option, Some, None, sym, subst, ◌∙◌, ⊎_elim, inl, inr, ◌⊎◌, arith, ltb, ◌==◌, ◌&&◌, eqb-true, eq-eqb, ltb-true, lt-ltb, true≢false}
use Rattle.std.specs.Prelude.{IfSome}
use Rattle.std.proofs.lemmas.Bool.{cases_eq, cases_lt, cases_Bool, or_cases, or_left, or_right, and_parts, and_from}
use Rattle.kernel_image.specs.Decoded.{Decoded, RowWords, row_at}
use Rattle.kernel_image.specs.Shown.{Numbered, is_more_urgent}
use Rattle.ready_delay_lists.specs.Best.{IsReady, comes_before, IsBest}

-- what it means to be more urgent
abbrev pub IsMoreUrgent : RowWords → RowWords → Type 0
IsMoreUrgent a b = (b.priority < a.priority) ⊎ ((a.priority ≡ b.priority) × (a.stamp < b.stamp))

-- what it means not to be
pub record IsNotBefore (a b : RowWords) : Type 0 where
  pub level : a.priority ≤ b.priority
  pub stamp : a.priority ≡ b.priority → b.stamp ≤ a.stamp

more_urgent : (a b : Numbered) → is_more_urgent a b ≡ true → IsMoreUrgent a.1 b.1
more_urgent a b e = ⊎_elim (λ l. inl (ltb-true b.1.priority a.1.priority l))
    (λ both. let parts = and_parts (a.1.priority == b.1.priority) (ltb a.1.stamp b.1.stamp) both in
    inr (eqb-true a.1.priority b.1.priority parts.0, ltb-true a.1.stamp b.1.stamp parts.1))
    (or_cases (ltb b.1.priority a.1.priority) (a.1.priority == b.1.priority && ltb a.1.stamp b.1.stamp) e)

more_urgent-from : (a b : Numbered) → IsMoreUrgent a.1 b.1 → is_more_urgent a b ≡ true
more_urgent-from a b h = ⊎_elim
    (λ l. or_left (ltb b.1.priority a.1.priority) (a.1.priority == b.1.priority && ltb a.1.stamp b.1.stamp) (lt-ltb b.1.priority a.1.priority l))
    (λ both. or_right (ltb b.1.priority a.1.priority) (a.1.priority == b.1.priority && ltb a.1.stamp b.1.stamp)
    (and_from (a.1.priority == b.1.priority) (ltb a.1.stamp b.1.stamp) (eq-eqb a.1.priority b.1.priority both.0) (lt-ltb a.1.stamp b.1.stamp both.1)))
    h

pub not_before : (d : Decoded) (t u : ℕ) → comes_before d t u ≡ false → IsNotBefore (row_at d t) (row_at d u)
unfolding comes_before
not_before d t u e = record {
  level = ⊎_elim (λ l. absurd (true≢false (sym (more_urgent-from (t, row_at d t) (u, row_at d u) (inl l)) ∙ e))) (λ le. le) (cases_lt (row_at d u).priority (row_at d t).priority);
  stamp = λ same. ⊎_elim (λ l. absurd (true≢false (sym (more_urgent-from (t, row_at d t) (u, row_at d u) (inr (same, l))) ∙ e))) (λ le. le) (cases_lt (row_at d t).stamp (row_at d u).stamp);
}

not_before-from : (d : Decoded) (t u : ℕ) → IsNotBefore (row_at d t) (row_at d u) → comes_before d t u ≡ false
unfolding comes_before
not_before-from d t u h = ⊎_elim
    (λ more. ⊎_elim (λ l. absurd (omega (arith, l, h.level))) (λ both. let le = h.stamp both.0 in absurd (omega (arith, le, both.1))) (more_urgent (t, row_at d t) (u, row_at d u) more))
    (λ e. e) (cases_Bool (is_more_urgent (t, row_at d t) (u, row_at d u)))

before : (d : Decoded) (t u : ℕ) → comes_before d t u ≡ true → IsMoreUrgent (row_at d t) (row_at d u)
unfolding comes_before
before d t u e = more_urgent (t, row_at d t) (u, row_at d u) e

-- one comes not before itself
itself : (d : Decoded) (t : ℕ) → comes_before d t t ≡ false
itself d t = not_before-from d t t (record { level = omega arith; stamp = λ same. omega arith })

-- what comes not before one, comes not before what comes before it
along : (d : Decoded) (t first u : ℕ) → comes_before d t first ≡ true → comes_before d u first ≡ false → comes_before d u t ≡ false
along d t first u more less = let h = not_before d u first less in ⊎_elim
    (λ l. not_before-from d u t (record { level = omega (arith, h.level, l); stamp = λ same. absurd (omega (arith, h.level, l, same)) }))
    (λ both. not_before-from d u t (record {
      level = omega (arith, h.level, both.0);
      stamp = λ same. let le = h.stamp (same ∙ both.0) in omega (arith, le, both.1);
    }))
    (before d t first more)

-- the last row, or one before it
last_or_before : (t u : ℕ) → u < t + 1 → (u ≡ t) ⊎ (u < t)
last_or_before t u l = ⊎_elim (λ e. inl e) (λ ne. inr (omega arith)) (cases_eq u t)

-- nothing is known of no rows
pub best_start : (d : Decoded) → IsBest d 0 None
unfolding IsBest
best_start d = λ u l. absurd (omega arith)

-- a row that isn't ready changes nothing
pub best_passed : (d : Decoded) (t : ℕ) (best : Option ℕ) → IsBest d t best → (IsReady d t → ⊥) → IsBest d (t + 1) best
unfolding IsBest
best_passed d t None h not = λ u l. ⊎_elim (λ e. λ is. not (subst (IsReady d) e is)) (λ less. h u less) (last_or_before t u l)
best_passed d t (Some first) h not = record {
  within = omega (arith, h.within);
  ready = h.ready;
  none_before = λ u l is. ⊎_elim (λ e. absurd (not (subst (IsReady d) e is))) (λ less. h.none_before u less is) (last_or_before t u l);
}

-- the first ready row
pub best_first : (d : Decoded) (t : ℕ) → IsBest d t None → IsReady d t → IsBest d (t + 1) (Some t)
unfolding IsBest
best_first d t h ready = record {
  within = omega arith;
  ready = ready;
  none_before = λ u l is. ⊎_elim (λ e. subst (λ (k : ℕ). comes_before d k t ≡ false) (sym e) (itself d t)) (λ less. absurd (h u less is)) (last_or_before t u l);
}

-- a row that isn't more urgent than the best changes nothing
pub best_kept : (d : Decoded) (t first : ℕ) → IsBest d t (Some first) → comes_before d t first ≡ false → IsBest d (t + 1) (Some first)
unfolding IsBest
best_kept d t first h less = record {
  within = omega (arith, h.within);
  ready = h.ready;
  none_before = λ u l is. ⊎_elim (λ e. subst (λ (k : ℕ). comes_before d k first ≡ false) (sym e) less) (λ before. h.none_before u before is) (last_or_before t u l);
}

-- a ready row that is more urgent than the best is the best one
pub best_better : (d : Decoded) (t first : ℕ) → IsBest d t (Some first) → IsReady d t → comes_before d t first ≡ true → IsBest d (t + 1) (Some t)
unfolding IsBest
best_better d t first h ready more = record {
  within = omega arith;
  ready = ready;
  none_before = λ u l is. ⊎_elim (λ e. subst (λ (k : ℕ). comes_before d k t ≡ false) (sym e) (itself d t)) (λ before. along d t first u more (h.none_before u before is)) (last_or_before t u l);
}

-- the best one is ready
pub best_ready : (d : Decoded) (rows : ℕ) (best : Option ℕ) → IsBest d rows best → IfSome best (IsReady d)
unfolding IsBest
best_ready d rows None h = tt
best_ready d rows (Some t) h = h.ready
