-- The next move is that of the statement at hand, or of the end of its block.
use Rattle.std.proofs.Common.{◌∙◌, sym, ap}
use Rattle.std.specs.Prelude.{slice_get}
use Rattle.thread_tree.specs.Program.{program_of}
use Rattle.thread_machine.proofs.StepLemmas.{step_some, step_none}
use Rattle.thread_machine.proofs.context.Ctx.step.Goals as goal

pub returns-in-Some-clause-moved : goal.returns-in-Some-clause-moved
returns-in-Some-clause-moved c =
    step_some (program_of c.args.tree.now) c.args.self.now c.in-Some.statement.now (sym (c.in-Some.ensures.found ∙ ap (λ xs. slice_get xs c.args.self.now.at) c.block.ensures.found))
    ∙ c.perform.ensures.moved

pub returns-in-None-clause-moved : goal.returns-in-None-clause-moved
returns-in-None-clause-moved c =
    step_none (program_of c.args.tree.now) c.args.self.now (sym (c.in-None.ensures.found ∙ ap (λ xs. slice_get xs c.args.self.now.at) c.block.ensures.found))
    ∙ c.end.ensures.moved
