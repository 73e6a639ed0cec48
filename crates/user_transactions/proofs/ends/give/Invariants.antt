-- The values of the expressions so far were read.
use Rattle.thread_tree.specs.Program.{program_of}
use Rattle.kernel_image.specs.Decoded.{image_in}
use Rattle.persistent_objects.specs.Objects.{objects_of}
use Rattle.user_transactions.proofs.GiveLaws.{IsGiven}
use Rattle.user_transactions.proofs.ends.give.Given as goal

abbrev pub invariant-loop-at : goal.invariant-loop-at
invariant-loop-at g l = IsGiven (program_of l.program) (objects_of (program_of l.program) (image_in (g.N.Nv.words l.tx))) l.work.locals.items l.es l.work.operations l.at l.operations l.values.items
