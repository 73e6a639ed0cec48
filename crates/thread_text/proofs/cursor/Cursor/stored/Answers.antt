use Rattle.std.proofs.Common.{◌≡◌, rules, subst}
use Rattle.thread_tree.specs.declared.expr.FieldOf.TheVariants as field
use Rattle.thread_tree.specs.Spelling.{SpellsName, static, through}
use Rattle.thread_tree.specs.SpellingOfTransactions.{store}
use Rattle.thread_text.proofs.Layers.{tout_store}
use Rattle.thread_text.proofs.cursor.Cursor.stored.Goals as goal

pub returns-then-not-eat-clause-tree : goal.returns-then-not-eat-clause-tree
returns-then-not-eat-clause-tree c = λ before a b h k l. let s = c.in_ok-value.ensures.tree in store (tout_store (field.Static c.args.first c.args.second) c.in_ok-value.value) (static h k (let e : c.args.self.now.left ≡ c.eat.new.self.left = search rules in subst (λ x. SpellsName b x c.args.second) e l)) s.equals s.expression s.semicolon

pub returns-clause-tree : goal.returns-clause-tree
returns-clause-tree c = λ before a b h k l. let s = c.in_ok-value-2.ensures.tree in store (tout_store (field.Through c.args.first c.args.second c.in_ok-third.third) c.in_ok-value-2.value) (through h k l (c.eat.ensures.taken c.if-not-eat.false) c.in_ok-third.ensures.tree) s.equals s.expression s.semicolon
