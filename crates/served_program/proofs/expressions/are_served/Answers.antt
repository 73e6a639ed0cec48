use Rattle.std.proofs.Common.{◌∙◌}
use Rattle.served_program.specs.Served.{is_served_expr}
use Rattle.served_program.proofs.Steps.{all_step}
use Rattle.served_program.proofs.expressions.are_served.Goals as goal

pub loop-i-preserved : goal.loop-i-preserved
loop-i-preserved c = all_step is_served_expr c.args.exprs.now c.loop-i.i c.get.result.now c.is_served_expr.result c.get.ensures c.is_served_expr.ensures.served c.if-not-is_served_expr.false ∙ c.loop-i.invariant
