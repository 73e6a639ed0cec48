-- The results of the action at hand.
use Rattle.std.proofs.Common.{◌≡◌, ◌∙◌, sym, ap}
use Rattle.std.specs.Option.{option_copied}
use Rattle.std.specs.Prelude.{length, slice_get}
use Rattle.thread_tree.specs.Kinds.{Action, result_count}
use Rattle.thread_tree.specs.LocalState.{next_action}
use Rattle.thread_tree.specs.Program.{program_of}
use Rattle.thread_machine.specs.Context.{local_of}
use Rattle.thread_machine.specs.Operands.{names_if_some}
use Rattle.thread_machine.proofs.BindLemmas.{bound_local, bound_context, no_action_at_end, some_and, some_is_none}
use Rattle.thread_machine.proofs.context.Ctx.bind.Goals as goal

pub returns-in-Some-clause-bound : goal.returns-in-Some-clause-bound
returns-in-Some-clause-bound c =
    let p = program_of c.args.program.now in
    let s = c.args.self.now in
    let a = some_and (λ (a : Action). length c.args.results.now ≡ result_count a.kind a.given) (next_action p (local_of p s)) c.requires.action in
    bound_local p s c.give_results.new.slots c.in-Some.statement.now a.0 (names_if_some (option_copied c.names_taking.result)) c.args.results.now
    (sym (c.in-Some.ensures.found ∙ ap (λ xs. slice_get xs s.at) (rw (← c.tree.ensures.same) c.block.ensures.found))) a.1 c.requires.context.counted.within c.names_taking.ensures.names c.give_results.ensures.given

pub returns-in-Some-clause-context : goal.returns-in-Some-clause-context
returns-in-Some-clause-context c =
    let p = program_of c.args.program.now in
    let s = c.args.self.now in
    let a = some_and (λ (a : Action). length c.args.results.now ≡ result_count a.kind a.given) (next_action p (local_of p s)) c.requires.action in
    bound_context p s c.give_results.new.slots c.in-Some.statement.now (names_if_some (option_copied c.names_taking.result)) c.args.results.now a.0 c.requires.context
    (sym (c.in-Some.ensures.found ∙ ap (λ xs. slice_get xs s.at) (rw (← c.tree.ensures.same) c.block.ensures.found))) a.1 a.2 c.give_results.ensures.given
    (bound_local p s c.give_results.new.slots c.in-Some.statement.now a.0 (names_if_some (option_copied c.names_taking.result)) c.args.results.now
    (sym (c.in-Some.ensures.found ∙ ap (λ xs. slice_get xs s.at) (rw (← c.tree.ensures.same) c.block.ensures.found))) a.1 c.requires.context.counted.within c.names_taking.ensures.names c.give_results.ensures.given)

pub returns-in-None-clause-bound : goal.returns-in-None-clause-bound
returns-in-None-clause-bound c =
    let p = program_of c.args.program.now in
    let s = c.args.self.now in
    let a = some_and (λ (a : Action). length c.args.results.now ≡ result_count a.kind a.given) (next_action p (local_of p s)) c.requires.action in
    let none = no_action_at_end p s (sym (c.in-None.ensures.found ∙ ap (λ xs. slice_get xs s.at) (rw (← c.tree.ensures.same) c.block.ensures.found))) in
    absurd (some_is_none a.0 (sym a.1 ∙ none))
