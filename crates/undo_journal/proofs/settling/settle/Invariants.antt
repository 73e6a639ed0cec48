use Rattle.std.proofs.Common.{◌≡◌, ◌+◌, ◌-◌, slice_index}
use Rattle.undo_journal.proofs.Settled.{IsRestoring}
use Rattle.undo_journal.proofs.settling.settle.Given as goal

abbrev pub invariant-loop-entry : goal.invariant-loop-entry
invariant-loop-entry g l = record {
  restoring : IsRestoring g.N.Nv l.initial.nv l.nv l.entry;
  steps : l.steps ≡ l.fn.steps + (slice_index (g.N.Nv.words l.initial.nv) 4 - l.entry);
}
