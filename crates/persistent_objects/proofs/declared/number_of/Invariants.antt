-- No name of the sort is the sought one so far.
use Rattle.persistent_objects.specs.NamesIn.{name_in, is_name}
use Rattle.persistent_objects.proofs.Given.{IsPassed}
use Rattle.persistent_objects.proofs.declared.number_of.Given as goal

abbrev pub invariant-loop-at : goal.invariant-loop-at
invariant-loop-at l = IsPassed (name_in l.what) (is_name l.name) l.decls l.at l.number
