-- So many declarations of the sort were passed.
use Rattle.kernel_image.specs.Declarations.{is_of}
use Rattle.kernel_image.proofs.Walks.{IsCounted}
use Rattle.kernel_image.proofs.declared.count_of.Given as goal

abbrev pub invariant-loop-at : goal.invariant-loop-at
invariant-loop-at l = IsCounted (is_of l.sort) l.decls l.at l.count
