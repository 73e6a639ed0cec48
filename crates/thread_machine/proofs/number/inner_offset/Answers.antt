-- The actions before a block that is entered.
use Rattle.std.proofs.Common.{refl}
use Rattle.thread_tree.specs.Actions.{actions}
use Rattle.thread_tree.specs.Program.{program_of}
use Rattle.thread_machine.proofs.NumberLemmas.{first_entered, first_inner, other_entered, other_inner}
use Rattle.thread_machine.proofs.number.inner_offset.Goals as goal

pub returns-in-First : goal.returns-in-First
returns-in-First c = record {
  part = rw c.in-First.is (first_inner (program_of c.args.tree.now) (actions (program_of c.args.tree.now)) c.args.block.now c.args.at c.args.offset c.count_before.result c.first_offset.result _ c.get-statement.result.now c.requires.few c.requires.part c.get-statement.ensures c.count_before.ensures.count c.first_offset.ensures.value refl);
  entered = rw c.in-First.is (first_entered (actions (program_of c.args.tree.now)) c.args.block.now c.args.at c.args.offset c.count_before.result c.first_offset.result _ c.get-statement.result.now c.requires.few c.requires.part c.get-statement.ensures c.count_before.ensures.count c.first_offset.ensures.value refl);
}

pub returns-in-Else : goal.returns-in-Else
returns-in-Else c = record {
  part = rw c.in-Else.is (other_inner (program_of c.args.tree.now) (actions (program_of c.args.tree.now)) c.args.block.now c.args.at c.args.offset c.count_before.result c.other_offset.result _ c.get-statement.result.now c.requires.few c.requires.part c.get-statement.ensures c.count_before.ensures.count c.other_offset.ensures.value refl);
  entered = rw c.in-Else.is (other_entered (actions (program_of c.args.tree.now)) c.args.block.now c.args.at c.args.offset c.count_before.result c.other_offset.result _ c.get-statement.result.now c.requires.few c.requires.part c.get-statement.ensures c.count_before.ensures.count c.other_offset.ensures.value refl);
}
