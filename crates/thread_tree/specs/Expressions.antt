-- Expressions of one operator, as the contracts see them: an operand is what its box holds.
use Rattle.thread_tree.specs.declared.expr.Op.{Op}
use Rattle.thread_tree.specs.declared.expr.Expr.{Expr, more_of-Expr, end_of-Expr}
use Rattle.thread_tree.specs.declared.expr.Expr.TheVariants as expr

-- a prefix before an operand
abbrev pub unary : Op → Expr → Expr
unary op e = expr.Prefix' op tt (more_of-Expr e end_of-Expr)

-- an operator between two operands
abbrev pub binary : Op → Expr → Expr → Expr
binary op x y = expr.Binary' op tt (more_of-Expr x end_of-Expr) tt (more_of-Expr y end_of-Expr)
