use Rattle.std.proofs.Common.{◌≡◌, ◌≤◌, Option, ap, subst}
use Rattle.std.specs.Prelude.{IfSome}
use Rattle.thread_tree.specs.Kinds.{Action, kind_word, result_count}
use Rattle.thread_tree.specs.LocalState.{next_action}
use Rattle.thread_tree.specs.Program.{program_of}
use Rattle.thread_machine.specs.Context.{local_of}
use Rattle.replay_list.proofs.StandsAt.{some_and, number_asks, numbered, action_found}
use Rattle.replay_list.proofs.finishing.kind_word_at.Goals as goal

pub number-number-requires-clause-action : goal.number-number-requires-clause-action
number-number-requires-clause-action c =
    let p = program_of c.args.program.now in
    let a = some_and (λ (action : Action). result_count action.kind action.given ≤ 4) (next_action p (local_of p c.args.ctx.now)) c.requires.action in
    rw (c.tree.ensures.same) (number_asks p c.args.ctx.now a.0 a.1)

pub action-requires : goal.action-requires
action-requires c =
    let p = program_of c.args.program.now in
    let a = some_and (λ (action : Action). result_count action.kind action.given ≤ 4) (next_action p (local_of p c.args.ctx.now)) c.requires.action in
    numbered p _ c.args.ctx.now a.0 c.number-number.result (ap program_of c.tree.ensures.same) a.1 c.number-number.ensures.number

pub kind_word_of-requires : goal.kind_word_of-requires
kind_word_of-requires c =
    let p = program_of c.args.program.now in
    let a = some_and (λ (action : Action). result_count action.kind action.given ≤ 4) (next_action p (local_of p c.args.ctx.now)) c.requires.action in
    let found = action_found p _ c.args.ctx.now a.0 c.number-number.result c.action.result.now (ap program_of c.tree.ensures.same) a.1 c.number-number.ensures.number c.action.ensures in
    record { action = (p, rw found (a.2)) }

pub returns : goal.returns
returns c =
    let p = program_of c.args.program.now in
    let a = some_and (λ (action : Action). result_count action.kind action.given ≤ 4) (next_action p (local_of p c.args.ctx.now)) c.requires.action in
    let found = action_found p _ c.args.ctx.now a.0 c.number-number.result c.action.result.now (ap program_of c.tree.ensures.same) a.1 c.number-number.ensures.number c.action.ensures in
    let word : c.kind_word_of.result ≡ kind_word a.0.kind a.0.given = subst (λ (o : Option Action). IfSome o (λ action. c.kind_word_of.result ≡ kind_word action.kind action.given)) found (c.kind_word_of.ensures.kind p) in
    record { kind = rw (a.1) word }
