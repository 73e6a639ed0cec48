use Rattle.std.proofs.Common.{arith, refl}
use Rattle.undo_journal.proofs.Callers.{IsLent-then, IsWithin-then}
use Rattle.kernel_image.specs.Cells.{present}
use Rattle.replay_list.proofs.ValueLaws.{values_pasted}
use Rattle.replay_list.proofs.starting.store_values.Goals as goal

pub loop-at-preserved : goal.loop-at-preserved
loop-at-preserved g c = record {
  lent = IsLent-then g.N.Nv _ _ _ c.loop-at.invariant.lent c.in_ok-store_value.ensures.lent;
  within = IsWithin-then g.N.Nv _ _ _ c.loop-at.at 1 c.loop-at.invariant.within c.in_ok-store_value.ensures.within;
  stored = values_pasted (present (g.N.Nv.words c.args.tx.now)) c.args.thread c.loop-at.at _ c.args.values.now _ _
      c.requires.thread (omega arith) (omega arith) refl c.loop-at.invariant.stored c.in_ok-store_value.ensures.stored;
}
