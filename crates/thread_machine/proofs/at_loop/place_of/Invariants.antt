use Rattle.std.proofs.Common.{◌≡◌}
use Rattle.std.specs.Prelude.{slice_get}
use Rattle.thread_tree.specs.Actions.{loops}
use Rattle.thread_tree.specs.Program.{program_of}
use Rattle.thread_machine.specs.Seeking.{loops_behind}
use Rattle.thread_machine.proofs.at_loop.place_of.Given as goal

abbrev pub invariant-loop-at : goal.invariant-loop-at
invariant-loop-at l = slice_get (loops (program_of l.tree)) l.number ≡ slice_get (loops_behind (program_of l.tree) l.at) l.left
