use Rattle.std.proofs.Common.{◌≡◌}
use Rattle.thread_machine.proofs.OperandLemmas.{operand_from}
use Rattle.thread_machine.proofs.operands.of_items.Given as goal

abbrev pub invariant-loop-at : goal.invariant-loop-at
invariant-loop-at l = operand_from l.items 0 l.which ≡ operand_from l.items l.at l.left
