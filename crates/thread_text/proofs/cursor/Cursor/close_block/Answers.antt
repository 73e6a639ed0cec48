use Rattle.std.proofs.Common.{◌≡◌, subst}
use Rattle.thread_tree.specs.declared.token.Mark.TheVariants.{CloseBrace}
use Rattle.thread_tree.specs.Spelling.{TakesMark}
use Rattle.thread_text.proofs.Taken.{mark_any}
use Rattle.thread_text.proofs.cursor.Cursor.close_block.Goals as goal

pub returns-clause-tree : goal.returns-clause-tree
returns-clause-tree c =
    let e : c.skip.new.self.left ≡ c.self.inside.rest.now = cc in
    subst (λ x. TakesMark CloseBrace c.args.self.now.left x) e (mark_any c.args.self.now _ _ _ c.requires.brace c.skip.ensures.taken)
