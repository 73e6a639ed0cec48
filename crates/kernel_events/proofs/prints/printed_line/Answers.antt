-- One item more.
use Rattle.std.proofs.Common.{rules, ◌≡◌, ◌+◌, ◌++◌, length, take, sym, ◌∙◌, ap, arith, Some}
use Rattle.std.specs.Prelude.{slice_get, flat_map}
use Rattle.std.proofs.lemmas.List.{length-append}
use Rattle.thread_tree.specs.Kinds.{operands_of_item}
use Rattle.thread_tree.specs.LocalState.{next_action}
use Rattle.thread_tree.specs.Program.{program_of}
use Rattle.thread_machine.specs.Context.{local_of}
use Rattle.kernel_model.specs.Act.{printed}
use Rattle.kernel_events.proofs.PrintLemmas.{some_also, operand_here, printed_more}
use Rattle.kernel_events.proofs.prints.printed_line.Goals as goal

pub item_bytes-piece-requires-clause-operand : goal.item_bytes-piece-requires-clause-operand
item_bytes-piece-requires-clause-operand c = λ place e is.
    some_also (next_action (program_of c.args.program.now) (local_of (program_of c.args.program.now) c.args.ctx.now)) (λ action. action.operands ≡ flat_map operands_of_item c.args.items.now) (λ action. slice_get action.operands c.loop-at.which ≡ Some e) c.requires.action
    (λ action same. rw same (rw c.loop-at.invariant.1 (operand_here c.args.items.now c.loop-at.at c.get-item.result.now place e c.get-item.ensures is)))

pub loop-at-preserved : goal.loop-at-preserved
loop-at-preserved c =
    let locals = (local_of (program_of c.args.program.now) c.args.ctx.now).top.locals in
    let more : c.try_extend_from_slice.new.self.items ≡ c.loop-at.bytes.items ++ c.item_bytes-piece.result.items = search rules in
    let bytes = printed_more (printed locals) c.args.items.now c.loop-at.at c.get-item.result.now c.get-item.ensures in
    let operands = printed_more operands_of_item c.args.items.now c.loop-at.at c.get-item.result.now c.get-item.ensures in
    let count : c.loop-at.which + c.operand_count-which.result ≡ length (flat_map operands_of_item (take (c.loop-at.at + 1) c.args.items.now)) = rw operands (omega (arith, length-append (flat_map operands_of_item (take c.loop-at.at c.args.items.now)) (operands_of_item c.get-item.result.now), c.loop-at.invariant.1, c.operand_count-which.ensures.count)) in (
      more ∙ ap (λ bytes. bytes ++ c.item_bytes-piece.result.items) c.loop-at.invariant.0 ∙ ap (λ piece. flat_map (printed locals) (take c.loop-at.at c.args.items.now) ++ piece) c.item_bytes-piece.ensures.bytes ∙ sym bytes,
      count,
      search rules,
      search rules,
    )
