-- A device at rest has a journal that is well formed.
use Rattle.undo_journal.proofs.Callers.{IsJournalled-at_rest}
use Rattle.boot_tests.proofs.boots.ends.Goals as goal

pub counter-requires : goal.counter-requires
counter-requires g c = record { journalled = λ formatted. IsJournalled-at_rest (g.N.Nv.words c.rest-nv.result) c.rest-nv.ensures.at_rest }
