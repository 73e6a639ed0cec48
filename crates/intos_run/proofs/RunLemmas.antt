-- Boot after boot.
use Rattle.std.proofs.Common.{◌≡◌, ℕ, zero, suc, ◌+◌, ◌*◌, ◌<◌, ◌≤◌, List, [], ◌∷◌, ◌++◌, Option, Some, None, length, drop, refl, sym, ◌∙◌, ap, subst, arith, append_assoc, append-nil, length-append}
use Rattle.nv_memory.specs.Budget.{first_budget, later_budgets}
use Rattle.nv_memory.specs.declared.nv.Nv.{Ghosts}
use Rattle.outer_world.specs.Written.{put_to, IsPart}
use Rattle.outer_world.proofs.Callers.{put_nothing, put_twice, part_of_second}
use Rattle.kernel_model.specs.Dump.{text_of}
use Rattle.kernel_model.proofs.Callers.{text_of-append}
use Rattle.kernel_model.specs.declared.event.Event.{Event}
use Rattle.intos_run.specs.Boots.{IsLater, IsCutBoot, EachBoot}
use Rattle.kernel_boots.specs.Boots.{DidNotRise, IsSpent}
use Rattle.kernel_boots.specs.Courses.{Course, last, IsUnderWay}
use Rattle.replay_list.specs.Kept.{counter_of}
use Rattle.boot_report.specs.Lines.{end_line}
use Rattle.intos_run.specs.Ends.{BootSteps, IsDone, IsCut, IsFailed}
use Rattle.intos_run.specs.Report.{goes_dark, before_last, cut_boot, cut_boots, last_boot, start_lines, report}
use Rattle.intos_run.specs.Runs.{restoring, recovered, StepsWithin, budgets_of, HasBudgets, HasImages, lines_before_dump, IsWhole, IsBroken}

-- one boot more at the end

before_last-snoc : (first : List ℕ) (ends : List (List ℕ)) (left : List ℕ) → before_last first (ends ++ left ∷ []) ≡ left
before_last-snoc first [] left = refl
before_last-snoc first (x ∷ ends) left = before_last-snoc x ends left

drop-later : (k : ℕ) (cuts : List ℕ) → drop k (later_budgets cuts) ≡ drop (suc k) cuts
drop-later zero [] = refl
drop-later (suc k) [] = refl
drop-later k (cut ∷ cuts) = refl

later-drop : (k : ℕ) (cuts : List ℕ) → later_budgets (drop k cuts) ≡ drop (suc k) cuts
later-drop zero [] = refl
later-drop zero (cut ∷ cuts) = refl
later-drop (suc k) [] = refl
later-drop (suc k) (cut ∷ cuts) = later-drop k cuts

module _ (R : Option ℕ → List ℕ → List ℕ → Type 0) where
  pub EachBoot-snoc : (number : ℕ) (cuts before : List ℕ) (ends : List (List ℕ)) (left : List ℕ) → EachBoot (λ number. R) number cuts before ends
      → R (first_budget (drop (length ends) cuts)) (before_last before ends) left → EachBoot (λ number. R) number cuts before (ends ++ left ∷ [])
  EachBoot-snoc number cuts before [] left each last = (last, tt)
  EachBoot-snoc number cuts before (x ∷ ends) left each last = (
    each.0,
    EachBoot-snoc (number + 1) (later_budgets cuts) x ends left each.1
        (subst (λ (later : List ℕ). R (first_budget later) (before_last x ends) left) (sym (drop-later (length ends) cuts)) last),
  )

cut_boots-snoc : (c : Course) (number : ℕ) (cuts before : List ℕ) (ends : List (List ℕ)) (left : List ℕ)
    → cut_boots c number cuts before (ends ++ left ∷ [])
    ≡ cut_boots c number cuts before ends ++ cut_boot c (length ends + number) (first_budget (drop (length ends) cuts)) (before_last before ends) left
unfolding cut_boots
cut_boots-snoc c number cuts before [] left = let e : 0 + number ≡ number = omega arith in rw e (append-nil _)
cut_boots-snoc c number cuts before (x ∷ ends) left =
    let e : length ends + (number + 1) ≡ suc (length ends) + number = omega arith in
    ap (λ (lines : List (List ℕ)). cut_boot c number (first_budget cuts) before x ++ lines)
    (cut_boots-snoc c (number + 1) (later_budgets cuts) x ends left
    ∙ rw (e, drop-later (length ends) cuts) refl)
    ∙ sym (append_assoc (cut_boot c number (first_budget cuts) before x) _ _)

recovered-snoc : (c : Course) (first : List ℕ) (ends : List (List ℕ)) (left : List ℕ) → recovered c first (ends ++ left ∷ []) ≡ recovered c first ends + restoring c (before_last first ends)
recovered-snoc c first [] left = omega arith
recovered-snoc c first (x ∷ ends) left = omega (arith, recovered-snoc c x ends left)

-- what holds by the events that a world has holds by those that it had, since they are the same
pub by_events : (P Q : List Event → Type 0) (events now : List Event) → now ≡ events → (P now → Q now) → P events → Q events
by_events P Q events now same holds before = subst Q same (holds (subst P (sym same) before))

-- where a run stands before its next boot
pub record IsAt {N : Type 0} (g : Ghosts N) (c : Course) (cuts first : List ℕ) (old now : Option (List ℕ)) (number : ℕ) (nv : N) : Type 0 where
  pub counted : number ≡ length (g.ends nv) + 1
  pub under_way : IsUnderWay c (g.words nv)
  pub last : g.words nv ≡ before_last first (g.ends nv)
  pub left : g.left nv ≡ first_budget (drop (length (g.ends nv)) cuts)
  pub to_come : g.to_come nv ≡ later_budgets (drop (length (g.ends nv)) cuts)
  pub boots : EachBoot (λ number. IsCutBoot c) 1 cuts first (g.ends nv)
  pub text : now ≡ put_to old (text_of (cut_boots c 1 cuts first (g.ends nv)))

-- the budgets of a device, taken apart
pub budgets-first : (left : Option ℕ) (to_come : List ℕ) → first_budget (budgets_of left to_come) ≡ left
budgets-first None to_come = refl
budgets-first (Some left) to_come = refl

pub budgets-later : (left : Option ℕ) (to_come : List ℕ) → (left ≡ None → to_come ≡ []) → later_budgets (budgets_of left to_come) ≡ to_come
budgets-later None to_come mains = sym (mains refl)
budgets-later (Some left) to_come mains = refl

-- a boot on mains isn't cut
pub some_budget : (cuts : List ℕ) (k : ℕ) (left : Option ℕ) → DidNotRise (first_budget (drop k cuts)) left → left ≡ Some 0 → k < length cuts
some_budget [] zero left most dark = absurd (subst (DidNotRise None) dark most)
some_budget [] (suc k) left most dark = absurd (subst (DidNotRise None) dark most)
some_budget (cut ∷ cuts) zero left most dark = omega arith
some_budget (cut ∷ cuts) (suc k) left most dark = omega (arith, some_budget cuts k left most dark)

module _ {N : Type 0} (g : Ghosts N) (c : Course) (cuts first : List ℕ) where
  pub at_first : (nv : N) (old : Option (List ℕ)) → IsUnderWay c (g.words nv) → g.ends nv ≡ [] → cuts ≡ budgets_of (g.left nv) (g.to_come nv) → first ≡ g.words nv
      → (g.left nv ≡ None → g.to_come nv ≡ []) → IsAt g c cuts first old old 1 nv
  unfolding cut_boots
  at_first nv old under_way none is_cuts is_first mains = record {
    counted = ap (λ (ends : List (List ℕ)). length ends + 1) (sym none);
    under_way = under_way;
    last = sym is_first ∙ ap (before_last first) (sym none);
    left = sym (budgets-first (g.left nv) (g.to_come nv)) ∙ ap first_budget (sym is_cuts) ∙ ap (λ (ends : List (List ℕ)). first_budget (drop (length ends) cuts)) (sym none);
    to_come = sym (budgets-later (g.left nv) (g.to_come nv) mains) ∙ ap later_budgets (sym is_cuts) ∙ ap (λ (ends : List (List ℕ)). later_budgets (drop (length ends) cuts)) (sym none);
    boots = subst (EachBoot (λ number. IsCutBoot c) 1 cuts first) (sym none) tt;
    text = sym (put_nothing old) ∙ ap (λ (ends : List (List ℕ)). put_to old (text_of (cut_boots c 1 cuts first ends))) (sym none);
  }

  module _ (old now later : Option (List ℕ)) (number : ℕ) (nv : N) (at : IsAt g c cuts first old now number nv) where
    -- the budget of the boot, and the words before it, by the boots before
    same_cut : (left : List ℕ) → cut_boot c number (g.left nv) (g.words nv) left ≡ cut_boot c (length (g.ends nv) + 1) (first_budget (drop (length (g.ends nv)) cuts)) (before_last first (g.ends nv)) left
    same_cut left = ap (λ (n : ℕ). cut_boot c n (g.left nv) (g.words nv) left) at.counted
        ∙ ap (λ (b : Option ℕ). cut_boot c (length (g.ends nv) + 1) b (g.words nv) left) at.left
        ∙ ap (λ (w : List ℕ). cut_boot c (length (g.ends nv) + 1) (first_budget (drop (length (g.ends nv)) cuts)) w left) at.last

    same_last : (left : List ℕ) → last_boot c number (g.left nv) (g.words nv) left ≡ last_boot c (length (g.ends nv) + 1) (first_budget (drop (length (g.ends nv)) cuts)) (before_last first (g.ends nv)) left
    same_last left = ap (λ (n : ℕ). last_boot c n (g.left nv) (g.words nv) left) at.counted
        ∙ ap (λ (b : Option ℕ). last_boot c (length (g.ends nv) + 1) b (g.words nv) left) at.left
        ∙ ap (λ (w : List ℕ). last_boot c (length (g.ends nv) + 1) (first_budget (drop (length (g.ends nv)) cuts)) w left) at.last

    pub fewer_left : (dark : N) → IsCut g c number nv now later dark → length (g.ends nv) < length cuts
    fewer_left dark cut = some_budget cuts (length (g.ends nv)) (g.left dark) (subst (λ (b : Option ℕ). DidNotRise b (g.left dark)) at.left cut.spent.left) cut.dark

    -- the next boot begins where the one that was cut ended
    pub at_next : (dark next : N) → IsCut g c number nv now later dark → g.words next ≡ g.words dark → g.left next ≡ first_budget (g.to_come dark) → g.to_come next ≡ later_budgets (g.to_come dark)
        → g.ends next ≡ g.ends dark ++ g.words dark ∷ [] → IsAt g c cuts first old later (number + 1) next
    at_next dark next cut words left to_come ends =
        let is_ends : g.ends next ≡ g.ends nv ++ g.words dark ∷ [] = ends ∙ ap (λ (e : List (List ℕ)). e ++ g.words dark ∷ []) cut.spent.ends in
        let longer : length (g.ends next) ≡ suc (length (g.ends nv)) = ap length is_ends ∙ length-append (g.ends nv) (g.words dark ∷ []) ∙ omega arith in
        let come : g.to_come dark ≡ drop (length (g.ends next)) cuts = cut.spent.to_come ∙ at.to_come ∙ later-drop (length (g.ends nv)) cuts ∙ ap (λ (k : ℕ). drop k cuts) (sym longer) in
        record {
          counted = omega (arith, at.counted, longer);
          under_way = subst (IsUnderWay c) (sym words) cut.boot.images.under_way;
          last = words ∙ sym (before_last-snoc first (g.ends nv) (g.words dark)) ∙ ap (before_last first) (sym is_ends);
          left = left ∙ ap first_budget come;
          to_come = to_come ∙ ap later_budgets come;
          boots = subst (EachBoot (λ number. IsCutBoot c) 1 cuts first) (sym is_ends)
              (EachBoot-snoc (IsCutBoot c) 1 cuts first (g.ends nv) (g.words dark) at.boots
              (subst (λ (w : List ℕ). IsCutBoot c (first_budget (drop (length (g.ends nv)) cuts)) w (g.words dark)) at.last
              (subst (λ (b : Option ℕ). IsCutBoot c b (g.words nv) (g.words dark)) at.left cut.boot)));
          text = cut.text ∙ ap (λ (held : Option (List ℕ)). put_to held (text_of (cut_boot c number (g.left nv) (g.words nv) (g.words dark)))) at.text
              ∙ put_twice old _ _
              ∙ ap (put_to old) (sym (text_of-append (cut_boots c 1 cuts first (g.ends nv)) _)
              ∙ ap (λ (lines : List (List ℕ)). text_of (cut_boots c 1 cuts first (g.ends nv) ++ lines)) (same_cut (g.words dark))
              ∙ ap text_of (sym (cut_boots-snoc c 1 cuts first (g.ends nv) (g.words dark)))
              ∙ ap (λ (ends : List (List ℕ)). text_of (cut_boots c 1 cuts first ends)) (sym is_ends));
        }

    -- the steps of the next boot come to those of the boots before
    pub steps_at : (before since after_it : ℕ) (end : N) → since ≤ before + recovered c first (g.ends nv) + 10000 * (counter_of (g.words nv) + length (g.ends nv))
        → BootSteps c since after_it (g.words nv) (g.words end) → g.ends end ≡ g.ends nv → StepsWithin c before after_it first (g.ends end) (g.words end)
    steps_at before since after_it end so_far boot same =
        subst (λ (ends : List (List ℕ)). StepsWithin c before after_it first ends (g.words end)) (sym same)
        (omega (arith, so_far, boot, ap (restoring c) at.last))

    pub steps_next : (before since after_it : ℕ) (dark next : N) → since ≤ before + recovered c first (g.ends nv) + 10000 * (counter_of (g.words nv) + length (g.ends nv))
        → BootSteps c since after_it (g.words nv) (g.words dark) → g.ends dark ≡ g.ends nv → g.ends next ≡ g.ends dark ++ g.words dark ∷ [] → g.words next ≡ g.words dark
        → after_it ≤ before + recovered c first (g.ends next) + 10000 * (counter_of (g.words next) + length (g.ends next))
    steps_next before since after_it dark next so_far boot same ends words =
        let is_ends : g.ends next ≡ g.ends nv ++ g.words dark ∷ [] = ends ∙ ap (λ (e : List (List ℕ)). e ++ g.words dark ∷ []) same in
        let longer : length (g.ends next) ≡ suc (length (g.ends nv)) = ap length is_ends ∙ length-append (g.ends nv) (g.words dark ∷ []) ∙ omega arith in
        omega (arith, so_far, boot, longer, ap counter_of words, ap (restoring c) at.last, recovered-snoc c first (g.ends nv) (g.words dark), ap (recovered c first) is_ends)

    budgets_at : (end : N) → IsSpent g nv end → HasBudgets cuts (g.ends end) (g.left end) (g.to_come end)
    budgets_at end spent =
        let same : length (g.ends nv) ≡ length (g.ends end) = ap length (sym spent.ends) in
        record {
          left = subst (λ (k : ℕ). DidNotRise (first_budget (drop k cuts)) (g.left end)) same (subst (λ (b : Option ℕ). DidNotRise b (g.left end)) at.left spent.left);
          to_come = spent.to_come ∙ at.to_come ∙ later-drop (length (g.ends nv)) cuts ∙ ap (λ (k : ℕ). drop k cuts) (let e : suc (length (g.ends nv)) ≡ length (g.ends end) + 1 = omega (arith, same) in e);
        }

    images_at : (end : N) → IsSpent g nv end → IsLater c (g.words nv) (g.words end) → HasImages c cuts first (g.ends end) (g.words end)
    images_at end spent images = record {
      each = subst (EachBoot (λ number. IsCutBoot c) 1 cuts first) (sym spent.ends) at.boots;
      last = subst (λ (w : List ℕ). IsLater c w (g.words end)) (at.last ∙ ap (before_last first) (sym spent.ends)) images;
    }

    -- a boot that came to the last event ends the run
    pub whole_at : (end : N) → IsDone g c number nv now later end → IsWhole g c cuts first old later end
    whole_at end done = record {
      budgets = budgets_at end done.spent;
      images = images_at end done.spent done.images;
      complete = done.all;
      at_rest = done.at_rest;
      stands = done.stands;
      live = ap (λ (ends : List (List ℕ)). goes_dark (first_budget (drop (length ends) cuts)) (before_last first ends)) done.spent.ends
          ∙ ap (λ (w : List ℕ). goes_dark (first_budget (drop (length (g.ends nv)) cuts)) w) (sym at.last) ∙ ap (λ (b : Option ℕ). goes_dark b (g.words nv)) (sym at.left) ∙ done.live;
      text = done.text ∙ ap (λ (held : Option (List ℕ)). put_to held (text_of (start_lines c number (g.words nv) ++ end_line number (last c) ∷ []))) at.text
          ∙ put_twice old _ _
          ∙ ap (put_to old) (sym (text_of-append (cut_boots c 1 cuts first (g.ends nv)) _)
          ∙ ap (λ (n : ℕ). text_of (cut_boots c 1 cuts first (g.ends nv) ++ (start_lines c n (g.words nv) ++ end_line n (last c) ∷ []))) at.counted
          ∙ ap (λ (w : List ℕ). text_of (cut_boots c 1 cuts first (g.ends nv) ++ (start_lines c (length (g.ends nv) + 1) w ++ end_line (length (g.ends nv) + 1) (last c) ∷ []))) at.last
          ∙ ap (λ (ends : List (List ℕ)). text_of (lines_before_dump c cuts first ends)) (sym done.spent.ends));
    }

    -- and so does a failure of the sink
    pub broken_at : (end : N) → IsFailed g c number nv now later end → IsBroken g c cuts first old later end
    unfolding report
    broken_at end failed = record {
      budgets = budgets_at end failed.spent;
      images = images_at end failed.spent failed.images;
      text = subst (λ (ends : List (List ℕ)). IsPart old later (report c cuts first ends (g.words end))) (sym failed.spent.ends)
          (rw text_of-append (part_of_second old later (text_of (cut_boots c 1 cuts first (g.ends nv))) _
          (subst (λ (held : Option (List ℕ)). IsPart held later (text_of (last_boot c (length (g.ends nv) + 1) (first_budget (drop (length (g.ends nv)) cuts)) (before_last first (g.ends nv)) (g.words end)))) at.text
          (subst (λ (lines : List (List ℕ)). IsPart now later (text_of lines)) (same_last (g.words end)) failed.text))));
    }
