-- No declaration of the sort has the name so far.
use Rattle.kernel_image.specs.Declarations.{is_of, has_name}
use Rattle.kernel_image.proofs.Walks.{IsPassed}
use Rattle.kernel_image.proofs.declared.number_of.Given as goal

abbrev pub invariant-loop-at : goal.invariant-loop-at
invariant-loop-at l = IsPassed (is_of l.sort) (has_name l.name) l.decls l.at l.number
