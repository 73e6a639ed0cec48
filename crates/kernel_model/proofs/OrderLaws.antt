-- The first of a line is the most urgent of those that pass the test, and the lines that can be seen agree with it.
use Rattle.std.proofs.Common.{ltb, ◌≡◌, ◌≢◌, ◌⊎◌, ℕ, ◌<◌, ◌≤◌, Bool, true, false, cond, ◌&&◌, ◌==◌, List, [], ◌∷◌, map, get_or, filter, Option, Some, None, slice_get, refl, sym, ap, subst, ◌∙◌, ⊎_elim, inl, inr, arith, eqb-true, eq-eqb, ltb-true, lt-ltb, true≢false}
use Rattle.std.specs.Prelude.{⊤}
use Rattle.std.specs.List.{AllByRecursion}
use Rattle.std.proofs.lemmas.Bool.{cases_eq, cases_lt, cases_Bool, or_cases, or_left, or_right, and_parts, and_from}
use Rattle.kernel_model.specs.Kernel.{Thread, Row, State, row_of, thread_of}
use Rattle.kernel_model.specs.Kernel.Row.{Free, Live}
use Rattle.kernel_model.specs.Order.{inserted, in_order, Numbered, live_threads, is_more_urgent, by_urgency, line_of}
use Rattle.kernel_model.proofs.RowLemmas.{live_in-Some}
use Rattle.kernel_model.proofs.OrderLemmas.{inserted-All, in_order-All, in_order-parts, passing, passing-parts, IsIn, threads_are, each_has, head_of_line, empty_line}

-- no later thing comes before an earlier one
abbrev pub InOrder : {X : Type 0} → (X → X → Bool) → List X → Type 0
InOrder before [] = ⊤
InOrder before (x ∷ xs) = AllByRecursion (λ y. before y x ≡ false) xs × InOrder before xs

-- what holds of all holds of those that pass a test
kept-All : {X : Type 0} (P : X → Type 0) (test : X → Bool) (xs : List X) → AllByRecursion P xs → AllByRecursion P (filter test xs)
kept-All P test [] all = tt
kept-All P test (x ∷ xs) all = go (test x) (kept-All P test xs all.1)
  where
    go : (b : Bool) → AllByRecursion P (filter test xs) → AllByRecursion P (cond b (x ∷ filter test xs) (filter test xs))
    go true rest = (all.0, rest)
    go false rest = rest

module _ {X : Type 0} (before : X → X → Bool)
    (one_way : (x y : X) → before y x ≡ true → before x y ≡ false)
    (along : (x y z : X) → before z y ≡ false → before y x ≡ false → before z x ≡ false) where
  each_along : (x y : X) (zs : List X) → before y x ≡ false → AllByRecursion (λ z. before z y ≡ false) zs → AllByRecursion (λ z. before z x ≡ false) zs
  each_along x y [] h all = tt
  each_along x y (z ∷ zs) h all = (along x y z all.0 h, each_along x y zs h all.1)

  pub inserted-order : (x : X) (ys : List X) → InOrder before ys → InOrder before (inserted before x ys)
  inserted-order x [] h = (tt, tt)
  inserted-order x (y ∷ ys) h = go (before y x) refl (inserted-order x ys h.1)
    where
      go : (b : Bool) → before y x ≡ b → InOrder before (inserted before x ys) → InOrder before (cond b (y ∷ inserted before x ys) (x ∷ y ∷ ys))
      go true e rest = (inserted-All (λ z. before z y ≡ false) before x ys (one_way x y e) h.0, rest)
      go false e rest = ((e, each_along x y ys e h.0), h)

  pub in_order-order : (xs : List X) → InOrder before (in_order before xs)
  in_order-order [] = tt
  in_order-order (x ∷ xs) = inserted-order x (in_order before xs) (in_order-order xs)

  -- those that pass a test are in order too
  pub filter-order : (test : X → Bool) (xs : List X) → InOrder before xs → InOrder before (filter test xs)
  filter-order test [] h = tt
  filter-order test (x ∷ xs) h = go (test x) (filter-order test xs h.1)
    where
      go : (b : Bool) → InOrder before (filter test xs) → InOrder before (cond b (x ∷ filter test xs) (filter test xs))
      go true rest = (kept-All (λ y. before y x ≡ false) test xs h.0, rest)
      go false rest = rest

-- what it means to be more urgent, and not to be
pub more_urgent : (a b : Numbered) → is_more_urgent a b ≡ true →
    (b.1.priority < a.1.priority) ⊎ ((a.1.priority ≡ b.1.priority) × (a.1.stamp < b.1.stamp))
more_urgent a b e = ⊎_elim (λ l. inl (ltb-true b.1.priority a.1.priority l))
    (λ both. let parts = and_parts (a.1.priority == b.1.priority) (ltb a.1.stamp b.1.stamp) both in
    inr (eqb-true a.1.priority b.1.priority parts.0, ltb-true a.1.stamp b.1.stamp parts.1))
    (or_cases (ltb b.1.priority a.1.priority) (a.1.priority == b.1.priority && ltb a.1.stamp b.1.stamp) e)

pub more_urgent-from : (a b : Numbered) →
    (b.1.priority < a.1.priority) ⊎ ((a.1.priority ≡ b.1.priority) × (a.1.stamp < b.1.stamp)) → is_more_urgent a b ≡ true
more_urgent-from a b h = ⊎_elim
    (λ l. or_left (ltb b.1.priority a.1.priority) (a.1.priority == b.1.priority && ltb a.1.stamp b.1.stamp) (lt-ltb b.1.priority a.1.priority l))
    (λ both. or_right (ltb b.1.priority a.1.priority) (a.1.priority == b.1.priority && ltb a.1.stamp b.1.stamp)
    (and_from (a.1.priority == b.1.priority) (ltb a.1.stamp b.1.stamp) (eq-eqb a.1.priority b.1.priority both.0) (lt-ltb a.1.stamp b.1.stamp both.1)))
    h

-- what is more urgent by no means is the other way round
not_both : (a b : Numbered) → (is_more_urgent a b ≡ true → ⊥) → is_more_urgent a b ≡ false
not_both a b never = ⊎_elim (λ more. absurd (never more)) (λ e. e) (cases_Bool (is_more_urgent a b))

pub less_urgent : (a b : Numbered) → is_more_urgent a b ≡ false →
    (a.1.priority ≤ b.1.priority) × (a.1.priority ≡ b.1.priority → b.1.stamp ≤ a.1.stamp)
less_urgent a b e = (
  ⊎_elim (λ l. absurd (true≢false (sym (more_urgent-from a b (inl l)) ∙ e))) (λ le. le) (cases_lt b.1.priority a.1.priority),
  λ same. ⊎_elim (λ l. absurd (true≢false (sym (more_urgent-from a b (inr (same, l))) ∙ e))) (λ le. le) (cases_lt a.1.stamp b.1.stamp),
)

one_way : (x y : Numbered) → is_more_urgent y x ≡ true → is_more_urgent x y ≡ false
one_way x y e = not_both x y (λ other. ⊎_elim
    (λ l. ⊎_elim (λ m. absurd (omega arith)) (λ m. absurd (omega (arith, m.0))) (more_urgent x y other))
    (λ l. ⊎_elim (λ m. absurd (omega (arith, l.0))) (λ m. absurd (omega (arith, l.1, m.1))) (more_urgent x y other))
    (more_urgent y x e))

along : (x y z : Numbered) → is_more_urgent z y ≡ false → is_more_urgent y x ≡ false → is_more_urgent z x ≡ false
along x y z e f = let zy = less_urgent z y e in let yx = less_urgent y x f in not_both z x (λ more. ⊎_elim
    (λ l. absurd (omega (arith, zy.0, yx.0)))
    (λ l. let a : z.1.priority ≡ y.1.priority = omega (arith, zy.0, yx.0, l.0) in
    let b : y.1.priority ≡ x.1.priority = omega (arith, zy.0, yx.0, l.0) in
    let c = zy.1 a in let d = yx.1 b in absurd (omega (arith, l.1)))
    (more_urgent z x more))

-- no later one of the live threads is more urgent than an earlier one
pub by_urgency-order : (rows : List Row) → InOrder is_more_urgent (by_urgency rows)
unfolding by_urgency
by_urgency-order rows = in_order-order is_more_urgent one_way along (live_threads rows)

-- none of those that pass the test is more urgent than the first of the line
pub none_before : (test : Thread → Bool) (K : State) (t : ℕ) (thread : Thread) → slice_get (line_of test K.rows) 0 ≡ Some t → thread_of K t ≡ Some thread →
    (u : ℕ) (other : Thread) → thread_of K u ≡ Some other → test other ≡ true → is_more_urgent (u, other) (t, thread) ≡ false
unfolding by_urgency
none_before test K t thread e lives u other lives' passes =
    each_has (λ a. test a.1 ≡ true → is_more_urgent a (t, thread) ≡ false) 0 K.rows
    (in_order-parts (λ a. test a.1 ≡ true → is_more_urgent a (t, thread) ≡ false) is_more_urgent (live_threads K.rows)
    (passing-parts (λ a. is_more_urgent a (t, thread) ≡ false) (λ a. test a.1) (by_urgency K.rows)
    (go (filter (λ a. test a.1) (by_urgency K.rows))
    (filter-order is_more_urgent one_way along (λ a. test a.1) (by_urgency K.rows) (by_urgency-order K.rows))
    (passing (IsIn 0 K.rows) (λ a. test a.1) (by_urgency K.rows) (in_order-All (IsIn 0 K.rows) is_more_urgent (live_threads K.rows) (threads_are 0 K.rows)))
    e)))
    u other (live_in-Some (row_of K u) other lives') passes
  where
    itself : is_more_urgent (t, thread) (t, thread) ≡ false
    itself = not_both (t, thread) (t, thread) (λ more. ⊎_elim (λ l. absurd (omega arith)) (λ l. absurd (omega (arith, l.1))) (more_urgent (t, thread) (t, thread) more))

    go : (xs : List Numbered) → InOrder is_more_urgent xs → AllByRecursion (λ a. IsIn 0 K.rows a × (test a.1 ≡ true)) xs → slice_get (map (λ a. a.0) xs) 0 ≡ Some t →
        AllByRecursion (λ a. is_more_urgent a (t, thread) ≡ false) xs
    go [] order all e = tt
    go (x ∷ xs) order all e =
        let number : x.0 ≡ t = cc in
        let row : get_or K.rows t Free ≡ Live x.1 = ap (λ k. get_or K.rows k Free) (sym number ∙ all.0.0.1 ∙ omega arith) ∙ all.0.0.2 in
        let live : Live x.1 ≡ Live thread = sym row ∙ live_in-Some (row_of K t) thread lives in
        let own : x.1 ≡ thread = cc in
        let same : x ≡ (t, thread) = λ i. (number i, own i) in
        subst (λ (y : Numbered). AllByRecursion (λ a. is_more_urgent a y ≡ false) (x ∷ xs)) same
        (subst (λ (y : Numbered). is_more_urgent y y ≡ false) (sym same) itself, order.0)

-- who passes the test and is more urgent than all others that do is the first of the line
pub is_first : (test : Thread → Bool) (K : State) (t : ℕ) (thread : Thread) → thread_of K t ≡ Some thread → test thread ≡ true →
    ((u : ℕ) (other : Thread) → thread_of K u ≡ Some other → test other ≡ true → t ≢ u → is_more_urgent (t, thread) (u, other) ≡ true) →
    slice_get (line_of test K.rows) 0 ≡ Some t
is_first test K t thread lives passes best = go (slice_get (line_of test K.rows) 0) refl
  where
    go : (o : Option ℕ) → slice_get (line_of test K.rows) 0 ≡ o → slice_get (line_of test K.rows) 0 ≡ Some t
    go None e = absurd (true≢false (sym passes ∙ empty_line test K e t thread lives))
    go (Some u) e = let head = head_of_line test K u e in ⊎_elim
        (λ same. e ∙ ap Some (sym same))
        (λ ne. absurd (true≢false (sym (best u head.0 head.1 head.2 ne) ∙ none_before test K u head.0 e head.1 t thread lives passes)))
        (cases_eq t u)

-- where no live thread passes the test the line is empty
pub no_line : (test : Thread → Bool) (K : State) → ((t : ℕ) (thread : Thread) → thread_of K t ≡ Some thread → test thread ≡ false) → line_of test K.rows ≡ []
no_line test K none = go (line_of test K.rows) refl
  where
    go : (xs : List ℕ) → line_of test K.rows ≡ xs → line_of test K.rows ≡ []
    go [] e = e
    go (x ∷ xs) e = let head = head_of_line test K x (ap (λ ys. slice_get ys 0) e) in absurd (true≢false (sym head.2 ∙ none x head.0 head.1))
