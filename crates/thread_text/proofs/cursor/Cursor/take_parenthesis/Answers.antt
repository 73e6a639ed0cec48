use Rattle.std.proofs.Common.{◌≡◌, subst}
use Rattle.thread_tree.specs.declared.token.Mark.TheVariants.{OpenParenthesis}
use Rattle.thread_tree.specs.Spelling.{TakesMark}
use Rattle.thread_text.proofs.Taken.{mark_any}
use Rattle.thread_text.proofs.cursor.Cursor.take_parenthesis.Goals as goal

pub returns-clause-tree : goal.returns-clause-tree
returns-clause-tree c =
    let e : c.skip.new.self.left ≡ c.self-2.inside.rest.now = cc in
    subst (λ x. TakesMark OpenParenthesis c.args.self.now.left x) e (mark_any c.args.self.now _ _ _ c.requires.parenthesis c.skip.ensures.taken)
