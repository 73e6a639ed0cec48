-- No field has the name so far.
use Rattle.persistent_objects.proofs.NumberLaws.{IsBefore}
use Rattle.persistent_objects.proofs.declared.number_in.Given as goal

abbrev pub invariant-loop-at : goal.invariant-loop-at
invariant-loop-at l = IsBefore l.name l.fields l.at
