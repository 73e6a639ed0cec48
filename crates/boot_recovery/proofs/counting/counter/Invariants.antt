use Rattle.undo_journal.proofs.Callers.{KeepNone}
use Rattle.boot_recovery.proofs.counting.counter.Given as goal

abbrev pub invariant-loop-number : goal.invariant-loop-number
invariant-loop-number g l = KeepNone (g.N.Nv.words l.nv) l.number 1
