-- The count of events of a device whose journal isn't undone.
use Rattle.std.proofs.Common.{◌≡◌, ◌≢◌, ℕ, ◌<◌, ◌==◌, List, length, ◌∙◌, arith, eq-eqb}
use Rattle.std.proofs.lemmas.Bool.{cond-true, cond-false, ne_eqb}
use Rattle.std.specs.Prelude.{slice_index}
use Rattle.undo_journal.specs.Undo.{magic, entry_address, entry_value, undone, durable, outside, IsJournalled}
use Rattle.undo_journal.proofs.Callers.{KeepNone, undone_first, undone_none}
use Rattle.kernel_image.specs.Cells.{cells}
use Rattle.kernel_image.specs.Decoded.{decoded_of}
use Rattle.replay_list.specs.Kept.{counter_of}

-- the count is word 1 with the journal undone
saved_counter : (words : List ℕ) → slice_index words 0 ≡ magic → counter_of words ≡ slice_index (undone words) 1
unfolding counter_of decoded_of cells durable outside
saved_counter words is = cond-true (slice_index words 0 == magic) (slice_index (undone words) 1) 0 (eq-eqb (slice_index words 0) magic is)

-- a device that isn't formatted counts no event
pub counter_unformatted : (words : List ℕ) → slice_index words 0 ≢ magic → counter_of words ≡ 0
unfolding counter_of
counter_unformatted words not = cond-false (slice_index words 0 == magic) _ 0 (ne_eqb (slice_index words 0) magic not)

-- the first entry that keeps word 1 tells the count
pub counter_first : (words : List ℕ) (j : ℕ) → IsJournalled words → length words ≡ 16384 → j < slice_index words 4 → entry_address words j ≡ 1 → KeepNone words j 1 → counter_of words ≡ entry_value words j
counter_first words j journalled sized lt named none =
    saved_counter words journalled.formatted ∙ undone_first words j 1 journalled sized lt named none

-- where none keeps it word 1 does
pub counter_none : (words : List ℕ) → IsJournalled words → KeepNone words (slice_index words 4) 1 → counter_of words ≡ slice_index words 1
counter_none words journalled none = saved_counter words journalled.formatted ∙ undone_none words 1 journalled (omega arith) none
