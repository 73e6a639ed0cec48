use Rattle.std.proofs.Common.{◌≡◌, Some, rules}
use Rattle.thread_tree.specs.declared.expr.Expr.TheBlock as block
use Rattle.thread_tree.specs.Spelling.{number, parenthesised, prefixed, tighter}
use Rattle.thread_text.specs.Fate.{next_of}
use Rattle.thread_text.specs.Kinds.{number_in}
use Rattle.thread_text.proofs.Taken.{number_any}
use Rattle.thread_text.proofs.cursor.Cursor.+expression.Goals as goal

pub level-operators-init : goal.level-operators-init
level-operators-init t c = (search rules, search rules, search rules, tighter c.in_ok-left.ensures.tree)

pub operand-returns-in-Some-clause-tree : goal.operand-returns-in-Some-clause-tree
operand-returns-in-Some-clause-tree t c =
    let h : next_of number_in c.args.self.now ≡ Some c.in-Some.value = cc in
    number (number_any c.args.self.now _ _ _ h c.skip.ensures.taken)

pub parenthesised-returns-clause-tree : goal.parenthesised-returns-clause-tree
parenthesised-returns-clause-tree t c = search (rules, parenthesised)

pub prefixed-returns-clause-tree : goal.prefixed-returns-clause-tree
unfolding block.shape-the_row-Expr-0 block.hidden-the_row-Expr-0 denote.Hole.Carrier.hidden
prefixed-returns-clause-tree t c = search (rules, prefixed)
