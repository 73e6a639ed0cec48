-- The objects to come end where the hole begins.
use Rattle.kernel_image.proofs.Packed.{IsEnding}
use Rattle.kernel_image.proofs.statics.first_hole.Given as goal

abbrev pub invariant-loop-at : goal.invariant-loop-at
invariant-loop-at l = IsEnding l.program l.next l.at
