-- One zero more.
use Rattle.std.proofs.Common.{arith, ◌∙◌, ◌+◌}
use Rattle.user_transactions.proofs.PerformLaws.{zeros_more}
use Rattle.user_transactions.proofs.performing.zeros.Goals as goal

pub loop-at-preserved : goal.loop-at-preserved
loop-at-preserved c = c.keep.ensures.kept ∙ zeros_more c.loop-at.at (c.loop-at.at + 1) c.loop-at.values.items (omega arith) c.loop-at.invariant
