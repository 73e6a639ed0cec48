use Rattle.std.proofs.Common.{rules}
use Rattle.std.proofs.Common.{subst, ◌≡◌, None, []}
use Rattle.thread_tree.specs.SpellingOfDeclarations.{SpellsDecls, no_decls}
use Rattle.thread_text.specs.Fate.{next}
use Rattle.thread_text.proofs.Made.{none_left}
use Rattle.thread_text.proofs.Sequences.{decls_more}
use Rattle.thread_text.proofs.cursor.Cursor.declarations.Goals as goal

pub decls-init : goal.decls-init
decls-init c = (search rules, search (rules, no_decls))

pub decls-preserved : goal.decls-preserved
decls-preserved c = (search rules, search (rules, decls_more))

pub returns-clause-tree : goal.returns-clause-tree
returns-clause-tree c = let h : next c.decls.self.left ≡ None = search rules in let k : c.decls.decls.items ≡ c.of.result = search rules in subst (λ d. SpellsDecls c.args.self.now.left [] d) k (subst (λ x. SpellsDecls c.args.self.now.left x c.decls.decls.items) (none_left _ h) c.decls.invariant.1)
