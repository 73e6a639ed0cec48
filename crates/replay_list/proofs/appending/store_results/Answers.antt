use Rattle.std.proofs.Common.{arith, refl}
use Rattle.undo_journal.proofs.Callers.{IsLent-then, IsWithin-then}
use Rattle.kernel_image.specs.Cells.{present}
use Rattle.replay_list.proofs.AppendLaws.{pasted_more}
use Rattle.replay_list.proofs.appending.store_results.Goals as goal

pub loop-at-preserved : goal.loop-at-preserved
loop-at-preserved g c = record {
  lent = IsLent-then g.N.Nv _ _ _ c.loop-at.invariant.lent c.in_ok-store_word.ensures.lent;
  within = IsWithin-then g.N.Nv _ _ _ c.loop-at.at 1 c.loop-at.invariant.within c.in_ok-store_word.ensures.within;
  stored = pasted_more (present (g.N.Nv.words c.args.tx.now)) c.args.thread c.args.from c.loop-at.at _ c.args.results.now _ _
      c.requires.thread (omega arith) (omega arith) refl c.loop-at.invariant.stored c.in_ok-store_word.ensures.stored;
}
