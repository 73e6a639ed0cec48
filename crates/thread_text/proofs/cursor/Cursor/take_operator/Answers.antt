use Rattle.std.proofs.Common.{◌≡◌, Some, subst, sym, ap}
use Rattle.thread_tree.specs.declared.token.Token.TheVariants as token
use Rattle.thread_tree.specs.Spelling.{TakesAny}
use Rattle.thread_text.specs.Fate.{Reading, next_of}
use Rattle.thread_text.specs.Kinds.{operator_in}
use Rattle.thread_text.proofs.Taken.{operator_any, operator_level}
use Rattle.thread_text.proofs.cursor.Cursor.take_operator.Goals as goal

pub returns-clause-tree : goal.returns-clause-tree
returns-clause-tree c =
    let h : next_of operator_in c.args.self.now ≡ Some c.in-Some.op = cc in
    let e : c.skip.new.self.left ≡ c.self-2.inside.rest.now = sym (ap (λ (r : Reading). r.left) c.self-2.view_is) in
    subst (λ x. TakesAny (token.Operator c.in-Some.op) c.args.self.now.left x) e (operator_any c.args.self.now _ _ _ h c.skip.ensures.taken)

pub returns-clause-level : goal.returns-clause-level
returns-clause-level c =
    let h : next_of operator_in c.args.self.now ≡ Some c.in-Some.op = cc in
    operator_level c.args.self.now _ h
