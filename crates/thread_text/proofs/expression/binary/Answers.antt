use Rattle.std.proofs.Common.{◌+◌, subst, sym}
use Rattle.thread_tree.specs.declared.expr.Expr.TheBlock as block
use Rattle.thread_tree.specs.Spelling.{SpellsLevel, binary}
use Rattle.thread_text.proofs.expression.binary.Goals as goal

pub returns-clause-tree : goal.returns-clause-tree
unfolding block.shape-the_row-Expr-0 block.hidden-the_row-Expr-0 denote.Hole.Carrier.hidden
returns-clause-tree c = λ fields level before a b after same left op right.
    binary same (subst (λ x. SpellsLevel fields level before a x) (sym c.in_ok-left.ensures.ok) left) op (subst (λ x. SpellsLevel fields (level + 1) b after x) (sym c.in_ok-right.ensures.ok) right)
