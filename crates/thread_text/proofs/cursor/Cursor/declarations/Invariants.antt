use Rattle.std.proofs.Common.{◌≡◌, [], length}
use Rattle.thread_tree.specs.SpellingOfDeclarations.{SpellsDecls}
use Rattle.thread_text.specs.Fate.{ahead}
use Rattle.thread_text.proofs.cursor.Cursor.declarations.Given as goal

abbrev pub invariant-decls : goal.invariant-decls
invariant-decls l = (ahead [] l.fn.self ≡ ahead [] l.self) × SpellsDecls l.fn.self.left l.self.left l.decls.items

abbrev pub decreases-decls : goal.decreases-decls
decreases-decls l = length l.self.left
