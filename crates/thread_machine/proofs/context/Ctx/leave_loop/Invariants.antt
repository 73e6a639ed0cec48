use Rattle.std.proofs.Common.{◌≡◌, false, length}
use Rattle.thread_tree.specs.Program.{program_of}
use Rattle.thread_tree.specs.LocalState.{broken_off}
use Rattle.thread_machine.specs.Context.{IsCounted, local_of}
use Rattle.thread_machine.specs.Scope.{IsOpen}
use Rattle.thread_machine.proofs.context.Ctx.leave_loop.Given as goal

abbrev pub invariant-leaving : goal.invariant-leaving
invariant-leaving l =
    (l.self.again ≡ false)
    × IsCounted (program_of l.tree) l.self
    × (broken_off (local_of (program_of l.tree) l.self) (local_of (program_of l.tree) l.self).top.todo
    ≡ broken_off (local_of (program_of l.tree) l.initial.self) (local_of (program_of l.tree) l.initial.self).top.todo)
    × (IsOpen (program_of l.tree) l.initial.self → IsOpen (program_of l.tree) l.self)

abbrev pub decreases-leaving : goal.decreases-leaving
decreases-leaving l = length l.self.cursors.items
