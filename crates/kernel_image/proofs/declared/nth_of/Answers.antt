use Rattle.std.proofs.Common.{arith}
use Rattle.kernel_image.proofs.Walks.{nth_none}
use Rattle.kernel_image.proofs.declared.nth_of.Goals as goal

pub returns : goal.returns
returns c = record { found = nth_none _ _ _ _ _ (omega arith) c.loop-at.invariant }
