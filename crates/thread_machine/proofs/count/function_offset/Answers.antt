-- The actions of the declarations before the function.
use Rattle.std.proofs.Common.{◌∙◌, sym, arith}
use Rattle.thread_machine.specs.Seen.{seen}
use Rattle.thread_machine.proofs.BodyLemmas.{function_passed}
use Rattle.thread_machine.proofs.CountLemmas.{function_part, function_part_none, wrapped_offset}
use Rattle.thread_machine.proofs.count.function_offset.Goals as goal

pub returns-in-Some : goal.returns-in-Some
returns-in-Some c = record {
  part = function_part c.args.tree.now c.loop-at.at c.args.name c.loop-at.offset c.get-decl.result.now (seen c.in-Some.field-0) c.loop-at.invariant.0 c.get-decl.ensures (sym c.in-Some.ensures.found) c.loop-at.invariant.1;
}

pub loop-at-preserved : goal.loop-at-preserved
loop-at-preserved c = (
  c.loop-at.invariant.0 ∙ function_passed c.args.tree.now.decls c.loop-at.at c.get-decl.result.now c.args.name c.get-decl.ensures (sym c.in-None.ensures.found),
  wrapped_offset c.args.tree.now c.loop-at.at c.loop-at.offset c.count_declared-offset.result c.get-decl.result.now c.get-decl.ensures c.requires.few c.loop-at.invariant.1 c.count_declared-offset.ensures.count,
)

pub returns : goal.returns
returns c = record {
  part = function_part_none c.args.tree.now c.loop-at.at c.args.name c.loop-at.invariant.0 (omega (arith, c.loop-at-test.false));
}
