use Rattle.std.proofs.Common.{◌≡◌, ◌+◌, ◌-◌}
use Rattle.thread_tree.specs.Ahead.{ahead}
use Rattle.thread_tree.specs.Program.{program_of}
use Rattle.thread_machine.specs.Context.{local_of}
use Rattle.thread_machine.specs.Reached.{IsContext}
use Rattle.thread_machine.proofs.RunLemmas.{IsAhead}
use Rattle.thread_machine.proofs.context.Ctx.run.Given as goal

abbrev pub invariant-loop-at : goal.invariant-loop-at
invariant-loop-at g l =
    let p = program_of l.tree in
    IsContext p l.self
    × (l.steps ≡ l.initial.steps + l.at)
    × IsAhead p (local_of p l.initial.self) l.at (10000 - l.at) (local_of p l.self) (ahead p (local_of p l.initial.self))
