-- The object is among those to come, if it is there.
use Rattle.kernel_image.proofs.Packed.{IsSought}
use Rattle.kernel_image.proofs.statics.static_kind_at.Given as goal

abbrev pub invariant-loop-at : goal.invariant-loop-at
invariant-loop-at l = IsSought l.program l.place l.next l.at
