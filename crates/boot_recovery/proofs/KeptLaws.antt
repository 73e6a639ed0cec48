-- Words that are kept, before and after a recovery.
use Rattle.std.proofs.Common.{◌≡◌, ◌≢◌, ℕ, ◌+◌, ◌-◌, ◌*◌, ◌<◌, ◌≤◌, ◌==◌, List, [], ◌∷◌, length, inl, inr, refl, ap, sym, subst, ◌∙◌, arith}
use Rattle.std.proofs.lemmas.Bool.{cases_eq}
use Rattle.std.proofs.lemmas.Bool.Decides.{nat_tests}
use Rattle.std.proofs.lemmas.List.{get_or-set_other, get_or-set_same}
use Rattle.std.proofs.lemmas.List.Sums.{sum_by-append, sum_by-cons}
use Rattle.std.proofs.lemmas.List.Folds.{sum_by-replicate}
use Rattle.std.specs.Prelude.{map, slice_index, slice_set, slice_get, sum_by, replicate, Option, Some, None}
use Rattle.std.specs.List.{enumerate_from}
use Rattle.undo_journal.specs.Undo.{magic, entries, undoing, undone, durable, IsAtRest}
use Rattle.undo_journal.proofs.Callers.{durable-at_rest, undone-at_rest}
use Rattle.thread_tree.specs.Program.{Program, Template, Start}
use Rattle.kernel_model.specs.Kernel as kernel
use Rattle.kernel_model.specs.Kernel.{State}
use Rattle.kernel_model.specs.Kernel.Row.{Free, Ended, Live}
use Rattle.thread_tree.specs.Numbers.{template_number}
use Rattle.kernel_model.specs.Calls.{born}
use Rattle.kernel_model.specs.Run.{initial, start_row, start_rows}
use Rattle.kernel_image.specs.Cells.{cells, cell_of}
use Rattle.kernel_image.specs.Decoded.{Decoded, decoded_of, image_in}
use Rattle.kernel_image.specs.Initial.{initial_cell, initial_word}
use Rattle.kernel_image.specs.Start.{IsFormatted}
use Rattle.boot_recovery.proofs.Choices.{by_test}
use Rattle.replay_list.specs.Kept.{IsKept, cost_of_row, cost, recovering, recovery_steps}
use Rattle.replay_list.specs.Stands.{Stands}
use Rattle.boot_recovery.specs.Remaining.{age_in}

-- what the undone words stood for, the present ones stand for
pub settled_stands : (p : Program) (old new : List ℕ) (K : State) → IsKept p old K → slice_index old 0 ≡ magic → IsAtRest new → durable new ≡ durable old → Stands p (image_in new) K
settled_stands p old new K kept is rest same =
    subst (λ (words : ℕ → ℕ). Stands p (decoded_of (cells words)) K) (sym same ∙ durable-at_rest new rest) (kept.saved is).stands

-- words that are all written
pub written_formatted : (p : Program) (words : List ℕ) → length words ≡ 16384 → ((at : ℕ) → 1 ≤ at → at < 16384 → slice_index words at ≡ initial_word p at) → IsFormatted p (slice_set words 0 magic)
unfolding cell_of initial_cell
written_formatted p words sized written = record {
  each = λ at within. elim (cases_eq at 0) [
    | inl first ↦ ap (λ (a : ℕ). slice_index (slice_set words 0 magic) a) first ∙ get_or-set_same words 0 magic 0 (omega (arith, sized)) ∙ ap (initial_word p) (sym first)
    | inr some ↦ get_or-set_other words 0 at magic 0 some ∙ written at (omega arith) within
  ];
}

-- a thread that was just born made no moves
start_age : (p : Program) (n : ℕ) (s : Start) → age_in (start_row p (n, s)) ≡ 0
start_age p n s = go (slice_get p.templates (template_number p s.template)) where
  go : (o : Option Template) → age_in (elim o [ None ↦ Free | Some template ↦ Live (born (template_number p s.template) template s.arguments n) ]) ≡ 0
  go None = refl
  go (Some template) = refl

start_ages : (p : Program) (n : ℕ) (starts : List Start) → sum_by age_in (map (start_row p) (enumerate_from n starts)) ≡ 0
start_ages p n [] = refl
start_ages p n (s ∷ starts) =
    let first = start_age p n s in
    let rest = start_ages p (n + 1) starts in
    let sum = sum_by-cons age_in (start_row p (n, s)) (map (start_row p) (enumerate_from (n + 1) starts)) in
    omega (arith, first, rest, sum)

no_ages : (m : ℕ) → m * 0 ≡ 0
no_ages m = omega arith

initial_ages : (p : Program) → sum_by age_in (initial p).rows ≡ 0
unfolding initial
initial_ages p =
    let started = start_ages p 0 p.starts in
    let free = sum_by-replicate age_in (16 - length p.starts) Free ∙ no_ages (16 - length p.starts) in
    let all = sum_by-append age_in (start_rows p) (replicate (16 - length p.starts) Free) in
    omega (arith, started, free, all)

-- the moves are part of the cost
age_least : (row : kernel.Row) → age_in row ≤ cost_of_row row
age_least Free = omega arith
age_least (Ended template priority code) = omega arith
age_least (Live thread) = omega arith

ages_least : (rows : List kernel.Row) → sum_by age_in rows ≤ sum_by cost_of_row rows
ages_least [] = omega arith
ages_least (row ∷ rows) =
    let first = age_least row in
    let rest = ages_least rows in
    let ages = sum_by-cons age_in row rows in
    let costs = sum_by-cons cost_of_row row rows in
    omega (arith, first, rest, ages, costs)

undoing_least : (words : List ℕ) → undoing words ≤ entries words + 1
undoing_least words = by_test (entries words == 0) _ (λ is. rw is (omega arith)) (λ other. rw other (omega arith))

-- a recovery takes no more steps than it may
pub recovery_bound : (p : Program) (words : List ℕ) (K : State) (old mid new : ℕ) → IsKept p words K → mid ≤ old + recovering words → new ≡ mid + sum_by age_in K.rows → new ≤ old + recovery_steps words K
recovery_bound p words K old mid new kept most stepped = by_test (slice_index words 0 == magic) _
    (λ is.
    let some : recovering words ≡ undoing words = rw is refl in
    let all : recovery_steps words K ≡ cost words K = rw is refl in
    let undo = undoing_least words in
    let ages = ages_least K.rows in
    omega (arith, some, all, undo, ages, most, stepped))
    (λ other.
    let none : slice_index words 0 ≢ magic = grind (arith, nat_tests) in
    let some : recovering words ≡ 16384 = rw other refl in
    let all : recovery_steps words K ≡ 16384 = rw other refl in
    let ages = ap (λ (k : State). sum_by age_in k.rows) (kept.blank none).initial ∙ initial_ages p in
    omega (arith, some, all, ages, most, stepped))

-- a device that was formatted is at rest, and stands for the start
pub made_stands : (p : Program) (words new : List ℕ) → IsAtRest words → new ≡ undone words → image_in words ≡ decoded_of (initial_cell p) → Stands p (decoded_of (initial_cell p)) (initial p) → Stands p (image_in new) (initial p)
made_stands p words new rest is image stands =
    subst (λ (d : Decoded). Stands p d (initial p)) (sym (ap (λ (ws : List ℕ). image_in ws) (is ∙ undone-at_rest words rest) ∙ image)) stands

-- a blank device is kept for the start
pub blank_is_kept : (p : Program) (words : List ℕ) → slice_index words 0 ≡ 0 → IsKept p words (initial p)
blank_is_kept p words is = record {
  saved = λ formatted. absurd (omega (arith, is, formatted));
  blank = λ none. record { blank = is; initial = refl };
}
