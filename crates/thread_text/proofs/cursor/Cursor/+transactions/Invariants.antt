use Rattle.std.proofs.Common.{◌≡◌, ◌<◌, ◌+◌, ◌*◌, List, ◌∷◌, length}
use Rattle.thread_tree.specs.Parts.{Part, ATBlock, TStatements}
use Rattle.thread_tree.specs.declared.token.Mark.TheVariants.{OpenBrace}
use Rattle.thread_tree.specs.declared.token.Placed.{Placed}
use Rattle.thread_tree.specs.declared.token.Token.TheVariants as token
use Rattle.thread_tree.specs.Spelling.{Takes}
use Rattle.thread_tree.specs.SpellingOfTransactions.{SpellsTStmts}
use Rattle.thread_text.specs.Fate.{ahead}
use Rattle.thread_text.proofs.cursor.Cursor.+transactions.Given as goal

abbrev pub decreases-if_tstatement : goal.decreases-if_tstatement
decreases-if_tstatement l = 4 * length l.self.now.left

abbrev pub decreases-while_tstatement : goal.decreases-while_tstatement
decreases-while_tstatement l = 4 * length l.self.now.left

abbrev pub decreases-tstatement : goal.decreases-tstatement
decreases-tstatement l = 4 * length l.self.now.left + 1

abbrev pub decreases-tblock : goal.decreases-tblock
decreases-tblock l = 4 * length l.self.now.left + 2

abbrev pub decreases-totherwise : goal.decreases-totherwise
decreases-totherwise l = 4 * length l.self.now.left + 3

abbrev pub invariant-tblock-stmts : goal.invariant-tblock-stmts
invariant-tblock-stmts l =
    ((parts : List Part) → ahead (ATBlock ∷ parts) l.fn.self ≡ ahead (TStatements ∷ parts) l.self) × (length l.self.left < length l.fn.self.left) × ((a : List Placed) × Takes (token.Mark OpenBrace) l.place l.fn.self.left a × SpellsTStmts a l.self.left l.stmts.items)

abbrev pub decreases-tblock-stmts : goal.decreases-tblock-stmts
decreases-tblock-stmts l = length l.self.left
