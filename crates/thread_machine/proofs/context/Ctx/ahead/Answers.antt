-- The arrival is the action at hand, or the end.
use Rattle.std.proofs.Common.{◌∙◌, refl, sym, ap}
use Rattle.std.specs.Prelude.{slice_get}
use Rattle.thread_tree.specs.Ahead.{ahead}
use Rattle.thread_tree.specs.Program.{program_of}
use Rattle.thread_machine.specs.Context.{local_of}
use Rattle.thread_machine.proofs.ArrivalLemmas.{action_required, next_action_is, next_finished_is, next_spot_is}
use Rattle.thread_machine.proofs.context.Ctx.ahead.Goals as goal

pub number-requires-clause-action : goal.number-requires-clause-action
number-requires-clause-action g c =
    let p = program_of c.tree-tree.result.now in
    let s = c.run.new.self in
    action_required p s c.in-Some.field-0.now (sym (c.in-Some.ensures.found ∙ ap (λ xs. slice_get xs s.at) c.block.ensures.found)) (c.if-not-run.ensures.stopped refl)

pub returns-in-Some-clause-arrived : goal.returns-in-Some-clause-arrived
returns-in-Some-clause-arrived g c =
    let p = program_of c.tree-tree.result.now in
    let s = c.run.new.self in
    rw (← c.tree-tree.ensures.same)
    (next_action_is p s c.in-Some.field-0.now (ahead p (local_of p c.args.self.now)).arrival c.number.result c.if-not-run.ensures.arrived (sym (c.in-Some.ensures.found ∙ ap (λ xs. slice_get xs s.at) c.block.ensures.found)) (c.if-not-run.ensures.stopped refl) c.number.ensures.number)

pub returns-in-Some-clause-spot : goal.returns-in-Some-clause-spot
returns-in-Some-clause-spot g c =
    let p = program_of c.tree-tree.result.now in
    let s = c.run.new.self in
    rw (← c.tree-tree.ensures.same)
    (next_spot_is p s c.in-Some.field-0.now c.number.result (sym (c.in-Some.ensures.found ∙ ap (λ xs. slice_get xs s.at) c.block.ensures.found)) (c.if-not-run.ensures.stopped refl) c.number.ensures.spot)

pub returns-in-None-clause-arrived : goal.returns-in-None-clause-arrived
returns-in-None-clause-arrived g c =
    let p = program_of c.tree-tree.result.now in
    let s = c.run.new.self in
    rw (← c.tree-tree.ensures.same)
    (next_finished_is p s (ahead p (local_of p c.args.self.now)).arrival c.if-not-run.ensures.arrived (sym (c.in-None.ensures.found ∙ ap (λ xs. slice_get xs s.at) c.block.ensures.found)))
