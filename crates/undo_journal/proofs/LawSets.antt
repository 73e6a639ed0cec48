-- Sets of laws, by the functions that use them.
use Rattle.undo_journal.proofs.Outside.{outside-set_entry, outside-set_count, outside-set_plain}
use Rattle.undo_journal.proofs.Undone.{IsJournalled-set_entry, durable-set_entry, IsJournalled-set_count, durable-set_count, IsAtRest-set_count, IsJournalled-set_plain, durable-set_last, durable-set_named, count-set_plain, durable-at_rest, undone-at_rest}
use Rattle.undo_journal.proofs.Settled.{set_count-restored, outside-restored}
use Rattle.undo_journal.proofs.Restoring.{restored-next}

-- for a write behind the entries
pub ruleset entry_writes = (IsJournalled-set_entry, durable-set_entry, outside-set_entry)

-- for a write of the count
pub ruleset count_writes = (IsJournalled-set_count, durable-set_count, outside-set_count, IsAtRest-set_count, durable-at_rest)

-- for a write to the word that the last entry names
pub ruleset word_writes = (IsJournalled-set_plain, durable-set_last, outside-set_plain, count-set_plain)

-- for a write of an entry's old value
pub ruleset restores = (IsJournalled-set_plain, durable-set_named, count-set_plain, restored-next)

-- for the whole of undoing
pub ruleset settles = (undone-at_rest, durable-at_rest, set_count-restored, outside-restored)
