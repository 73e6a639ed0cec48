use Rattle.std.proofs.Common.{◌≡◌}
use Rattle.thread_tree.specs.Program.{program_of}
use Rattle.thread_machine.specs.Seeking.{IsOnWay, sought}
use Rattle.thread_machine.proofs.context.Ctx.approach.Given as goal

abbrev pub invariant-loop-at : goal.invariant-loop-at
invariant-loop-at l =
    IsOnWay (program_of l.tree) l.self
    × (l.self.at ≡ l.at)
    × (l.self.body ≡ l.initial.self.body)
    × (l.self.cursors ≡ l.initial.self.cursors)
    × (sought (program_of l.tree) l.self l.left ≡ sought (program_of l.tree) l.initial.self l.initial.left)
