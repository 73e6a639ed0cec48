use Rattle.std.proofs.Common.{Some, ap, sym, subst, ◌∙◌}
use Rattle.thread_tree.specs.Few.{listed}
use Rattle.thread_tree.specs.Spelling.{one}
use Rattle.thread_tree.specs.SpellingOfCalls.{SpellsPieces, no_pieces, some_pieces}
use Rattle.thread_text.proofs.CallRows.{no_four}
use Rattle.thread_text.proofs.cursor.Cursor.call.Goals as goal

pub unreachable-requires : goal.unreachable-requires
unreachable-requires c = no_four _ _ _ _ _ _ (c.requires.shape ∙ ap (λ few. Some (listed few)) c.in-Four.is)

pub unreachable-requires-in-Five : goal.unreachable-requires-in-Five
unreachable-requires-in-Five c = no_four _ _ _ _ _ _ (c.requires.shape ∙ ap (λ few. Some (listed few)) c.in-Five.is)

pub returns-in-Zero-clause-tree : goal.returns-in-Zero-clause-tree
returns-in-Zero-clause-tree c = subst (λ ps. SpellsPieces c.args.self.now.left c.args.self.now.left ps) (sym c.call_of_none.ensures.pieces) no_pieces

pub returns-in_ok-operand-in-One-clause-tree : goal.returns-in_ok-operand-in-One-clause-tree
returns-in_ok-operand-in-One-clause-tree c = subst (λ ps. SpellsPieces c.args.self.now.left c.filled.new.self.left ps) (sym c.call_of_one.ensures.pieces) (some_pieces (one c.in_ok-operand-in-One.ensures.tree))
