-- The operand is the value of the item.
use Rattle.std.proofs.Common.{◌≡◌, ◌<◌, length, Some, ◌∙◌}
use Rattle.std.specs.Prelude.{slice_get}
use Rattle.std.proofs.lemmas.Option.{slice_get_within}
use Rattle.thread_tree.specs.LocalState.{next_action}
use Rattle.thread_tree.specs.Program.{program_of}
use Rattle.thread_machine.specs.Context.{local_of}
use Rattle.kernel_events.proofs.PrintLemmas.{some_also, value_printed}
use Rattle.kernel_events.proofs.prints.item_bytes.Goals as goal

pub operand-requires-clause-operand : goal.operand-requires-clause-operand
operand-requires-clause-operand c =
    some_also (next_action (program_of c.args.program.now) (local_of (program_of c.args.program.now) c.args.ctx.now)) (λ action. slice_get action.operands c.args.which ≡ Some c.in-Value.field-1) (λ action. c.args.which < length action.operands) (c.requires.operand c.in-Value.field-0 c.in-Value.field-1 c.in-Value.is) (λ action here. slice_get_within action.operands c.args.which c.in-Value.field-1 here)

pub returns-in-Value : goal.returns-in-Value
returns-in-Value c = record {
  bytes = c.digits.ensures.digits ∙ value_printed (next_action (program_of c.args.program.now) (local_of (program_of c.args.program.now) c.args.ctx.now)) c.args.which c.operand.result (local_of (program_of c.args.program.now) c.args.ctx.now).top.locals c.args.item.now c.in-Value.field-0 c.in-Value.field-1 c.in-Value.is (c.requires.operand c.in-Value.field-0 c.in-Value.field-1 c.in-Value.is) c.operand.ensures.value;
}
