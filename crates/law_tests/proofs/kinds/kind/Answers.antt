-- A call and a persistent loop are actions, of a program that declares nothing too.
use Rattle.std.proofs.Common.{refl}
use denote.Hole.Carrier.{out, shown, hidden}
use Rattle.thread_tree.specs.declared.block.Stmt.{out-Stmt}
use Rattle.thread_tree.specs.declared.block.Stmt.TheBlock.{shown-the_row-Stmt-0}
use Rattle.thread_tree.specs.Kinds.{action_layer}
use Rattle.thread_tree.specs.Program.{no_program}
use Rattle.law_tests.proofs.kinds.kind.Goals as goal

pub kind_of-requires : goal.kind_of-requires
unfolding out-Stmt out shown hidden shown-the_row-Stmt-0
kind_of-requires c = record { action = (no_program, rw (c.in-Call.is) refl) }

pub kind_of-requires-in-Ploop : goal.kind_of-requires-in-Ploop
unfolding out-Stmt out shown hidden shown-the_row-Stmt-0
kind_of-requires-in-Ploop c = record { action = (no_program, rw (c.in-Ploop.is) refl) }
