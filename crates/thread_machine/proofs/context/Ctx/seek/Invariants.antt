use Rattle.std.proofs.Common.{◌≡◌, length}
use Rattle.thread_tree.specs.Program.{program_of}
use Rattle.thread_machine.specs.Seeking.{IsOnWay, sought}
use Rattle.thread_machine.proofs.context.Ctx.seek.Given as goal

abbrev pub invariant-loop-depth : goal.invariant-loop-depth
invariant-loop-depth l =
    IsOnWay (program_of l.tree) l.self
    × (l.self.at ≡ 0)
    × (length l.self.cursors.items ≡ l.depth)
    × (sought (program_of l.tree) l.self l.left ≡ sought (program_of l.tree) l.initial.self l.number)
