-- The object is among those to come, if it is there.
use Rattle.persistent_objects.proofs.StaticLaws.{IsAhead}
use Rattle.persistent_objects.proofs.statics.static_object.Given as goal

abbrev pub invariant-loop-at : goal.invariant-loop-at
invariant-loop-at l = IsAhead l.program l.number l.next l.left l.at
