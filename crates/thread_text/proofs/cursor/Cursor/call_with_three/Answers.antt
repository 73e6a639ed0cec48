use Rattle.std.proofs.Common.{sym, subst}
use Rattle.thread_tree.specs.Spelling.{one, more}
use Rattle.thread_tree.specs.SpellingOfCalls.{SpellsPieces, some_pieces}
use Rattle.thread_text.proofs.cursor.Cursor.call_with_three.Goals as goal

pub returns-clause-tree : goal.returns-clause-tree
returns-clause-tree c = subst (λ ps. SpellsPieces c.args.self.now.left c.filled.new.self.left ps) (sym c.call_of_three.ensures.pieces) (some_pieces (more c.in_ok-first.ensures.tree.piece c.in_ok-first.ensures.tree.comma (more c.in_ok-second.ensures.tree.piece c.in_ok-second.ensures.tree.comma (one c.in_ok-third.ensures.tree))))
