use Rattle.std.proofs.Common.{◌≡◌, take}
use Rattle.std.specs.Option.{option_copied}
use Rattle.thread_tree.specs.Actions.{actions}
use Rattle.thread_tree.specs.Program.{program_of}
use Rattle.thread_machine.specs.Context.{statements}
use Rattle.thread_machine.specs.Parts.{IsPart, actions_if_some}
use Rattle.thread_machine.proofs.AlongLemmas.{IsPlaced}
use Rattle.thread_machine.proofs.LevelLemmas.{stmts_along}
use Rattle.thread_machine.proofs.context.Ctx.number.Given as goal

abbrev pub invariant-loop-at : goal.invariant-loop-at
invariant-loop-at l =
    (statements (option_copied l.block) ≡ stmts_along (program_of l.tree) l.self.body l.self.cursors.items l.at)
    × IsPart (actions_if_some (option_copied l.block)) (actions (program_of l.tree)) l.offset
    × IsPlaced (program_of l.tree) l.self.body (take l.at l.self.cursors.items) (option_copied l.block) l.offset
