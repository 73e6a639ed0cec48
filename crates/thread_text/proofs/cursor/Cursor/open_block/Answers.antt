use Rattle.std.proofs.Common.{◌≡◌, true, subst}
use Rattle.thread_tree.specs.declared.token.Mark.TheVariants.{OpenBrace}
use Rattle.thread_tree.specs.declared.token.Token.TheVariants as token
use Rattle.thread_tree.specs.Spelling.{Takes}
use Rattle.thread_text.specs.Fate.{sees}
use Rattle.thread_text.proofs.Taken.{mark_takes}
use Rattle.thread_text.proofs.cursor.Cursor.open_block.Goals as goal

pub returns-clause-tree : goal.returns-clause-tree
returns-clause-tree c =
    let h : sees OpenBrace c.args.self.now ≡ true = cc in
    let e : c.skip-place.new.self.left ≡ c.self-2.inside.rest.now = cc in
    subst (λ x. Takes (token.Mark OpenBrace) c.skip-place.result c.args.self.now.left x) e (mark_takes c.args.self.now _ _ _ h c.skip-place.ensures.taken)
