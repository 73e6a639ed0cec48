-- What the crates above may cite of these proofs.
pub use Rattle.thread_tree.proofs.PieceLaws.{has_shape, same_call}
use Rattle.std.specs.Prelude.{◌≡◌, refl}
use Rattle.thread_tree.specs.declared.expr.Op.{Op}
use Rattle.thread_tree.specs.declared.expr.Expr.{Expr}
use Rattle.thread_tree.specs.declared.expr.Expr.TheBlock as block
use Rattle.thread_tree.specs.declared.expr.Expr.TheViews as seen
use Rattle.thread_tree.specs.Expressions.{unary, binary}

-- what a `match` shows of an expression with an operator
pub prefix_seen : (op : Op) (e : Expr) → seen.Prefix op e ≡ unary op e
unfolding block.shape-the_row-Expr-0 block.hidden-the_row-Expr-0 denote.Hole.Carrier.hidden
prefix_seen op e = refl

pub binary_seen : (op : Op) (x y : Expr) → seen.Binary op x y ≡ binary op x y
unfolding block.shape-the_row-Expr-0 block.hidden-the_row-Expr-0 denote.Hole.Carrier.hidden
binary_seen op x y = refl
