use Rattle.std.proofs.Common.{sym, ◌∙◌}
use Rattle.thread_check.proofs.ExpressionLaws.{one_more}
use Rattle.thread_check.proofs.names.Names.expressions.Goals as goal

pub loop-i-preserved : goal.loop-i-preserved
loop-i-preserved c = one_more c.args.self.now c.args.scope.now c.args.exprs.now c.loop-i.i c.get.result.now _ c.get.ensures (sym c.expression.ensures ∙ c.in-Ok.is) ∙ c.loop-i.invariant
