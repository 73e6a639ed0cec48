use Rattle.std.proofs.Common.{◌≡◌, ◌<◌, ◌+◌, ◌*◌, List, ◌∷◌, length}
use Rattle.thread_tree.specs.Parts.{Part, ABlock, Statements}
use Rattle.thread_tree.specs.declared.token.Mark.TheVariants.{OpenBrace}
use Rattle.thread_tree.specs.declared.token.Placed.{Placed}
use Rattle.thread_tree.specs.declared.token.Token.TheVariants as token
use Rattle.thread_tree.specs.Spelling.{Takes}
use Rattle.thread_tree.specs.SpellingOfBlocks.{SpellsStmts}
use Rattle.thread_text.specs.Fate.{ahead}
use Rattle.thread_text.proofs.cursor.Cursor.+statements.Given as goal

abbrev pub decreases-if_statement : goal.decreases-if_statement
decreases-if_statement l = 4 * length l.self.now.left

abbrev pub decreases-ploop_statement : goal.decreases-ploop_statement
decreases-ploop_statement l = 4 * length l.self.now.left

abbrev pub decreases-while_statement : goal.decreases-while_statement
decreases-while_statement l = 4 * length l.self.now.left

abbrev pub decreases-statement : goal.decreases-statement
decreases-statement l = 4 * length l.self.now.left + 1

abbrev pub decreases-block : goal.decreases-block
decreases-block l = 4 * length l.self.now.left + 2

abbrev pub decreases-otherwise : goal.decreases-otherwise
decreases-otherwise l = 4 * length l.self.now.left + 3

abbrev pub invariant-block-stmts : goal.invariant-block-stmts
invariant-block-stmts l =
    ((parts : List Part) → ahead (ABlock ∷ parts) l.fn.self ≡ ahead (Statements ∷ parts) l.self) × (length l.self.left < length l.fn.self.left) × ((a : List Placed) × Takes (token.Mark OpenBrace) l.place l.fn.self.left a × SpellsStmts a l.self.left l.stmts.items)

abbrev pub decreases-block-stmts : goal.decreases-block-stmts
decreases-block-stmts l = length l.self.left
