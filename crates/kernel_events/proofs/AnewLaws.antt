-- A transaction that is undone and opened anew.
use Rattle.std.proofs.Common.{◌≡◌, ℕ, ◌+◌, ◌≤◌, List, Bool, true, false, refl, arith, cond}
use Rattle.std.specs.Prelude.{◌==◌, slice_index}
use Rattle.undo_journal.specs.Undo.{magic, entries, undone, durable, outside, undoing, room_of}

undoing-by : (count : ℕ) (b : Bool) → count ≤ 960 → cond b 0 (count + 1) ≤ 961
undoing-by count true few = omega arith
undoing-by count false few = omega (arith, few)

entries-by : (count : ℕ) (b : Bool) → count ≤ 960 → cond b count 0 ≤ 960
entries-by count true few = few
entries-by count false few = omega arith

-- a journal with room left has few entries to undo
pub few_undoing : (words : List ℕ) → 320 ≤ room_of words → undoing words ≤ 961
few_undoing words room =
    undoing-by (entries words) (entries words == 0) (entries-by (slice_index words 4) (slice_index words 0 == magic) (omega (arith, room)))

-- what undoing leaves
pub outside_undone : (words : List ℕ) → outside (undone words) ≡ durable words
unfolding durable
outside_undone words = refl
