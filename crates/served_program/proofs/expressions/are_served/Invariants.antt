use Rattle.std.proofs.Common.{◌≡◌, drop}
use Rattle.std.specs.List.{list_all}
use Rattle.served_program.specs.Served.{is_served_expr}
use Rattle.served_program.proofs.expressions.are_served.Given as goal

abbrev pub invariant-loop-i : goal.invariant-loop-i
invariant-loop-i l = list_all is_served_expr (drop l.i l.exprs) ≡ list_all is_served_expr l.exprs
