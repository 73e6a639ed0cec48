-- What the crates above may cite of these proofs: laws, and sets of laws for `using`.
pub use Rattle.undo_journal.proofs.Restoring.{KeepNone}
pub use Rattle.undo_journal.proofs.Undone.{durable-at_rest, undone-at_rest, IsJournalled-at_rest, undone_first, undone_none}
pub use Rattle.undo_journal.proofs.Lending.{IsLent-same, IsLent-then, IsWithin-none, IsWithin-more, IsWithin-then, IsShort-IsWithin}
pub use Rattle.undo_journal.proofs.Outside.{outside-plain}
use Rattle.undo_journal.proofs.Lending.{IsShort-more, IsWithin-same}
use Rattle.undo_journal.proofs.Outside.{outside-zero, outside-one}
use Rattle.undo_journal.proofs.Undone.{IsAtRest-undone, undone-undone, durable-undone, outside-undone, durable-zero, undone-unformatted, durable-unformatted}

-- words at rest
pub ruleset at_rest_laws = (undone-at_rest, durable-at_rest, IsJournalled-at_rest)

-- undone words
pub ruleset undone_laws = (IsAtRest-undone, undone-undone, durable-undone, outside-undone, durable-zero)

-- a device that isn't formatted
pub ruleset unformatted_laws = (undone-unformatted, durable-unformatted)

-- single words outside the journal
pub ruleset outside_laws = (outside-plain, outside-zero, outside-one)

-- one call after another
pub ruleset lending_laws = (IsWithin-same, IsWithin-then, IsShort-IsWithin, IsLent-same, IsLent-then)

-- more room, and more writes, than were asked for
pub ruleset weakening_laws = (IsShort-more, IsWithin-more, IsWithin-none)
