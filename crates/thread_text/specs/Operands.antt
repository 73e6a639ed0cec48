-- What fills the places of a call.
use Rattle.std.specs.Prelude.{Bool, true, false, List}
use Rattle.thread_tree.specs.declared.slot.Slot.{Slot}
use Rattle.thread_tree.specs.declared.slot.Slot.TheVariants as slot
use Rattle.thread_tree.specs.declared.token.Mark.TheVariants.{Comma}
use Rattle.thread_tree.specs.declared.token.Placed.{Placed}
use Rattle.thread_tree.specs.Pieces.{Piece, named, valued, whom, itemized, applied}
use Rattle.thread_tree.specs.Spelling.{TakesMark}
use Rattle.thread_tree.specs.SpellingOfCalls.{SpellsPiece}
use Rattle.thread_text.specs.declared.operand.Operand.{Operand}
use Rattle.thread_text.specs.declared.operand.Operand.TheVariants as operand

-- the piece that an operand is
abbrev pub piece_of : Operand → Piece
piece_of (operand.Name needed at) = named needed at
piece_of (operand.Value e) = valued e
piece_of (operand.Whom w) = whom w
piece_of (operand.Items items) = itemized items
piece_of (operand.Application template arguments) = applied template arguments

-- whether a place may stand before another: items and arguments go on at a comma
abbrev pub goes_on : Slot → Bool
goes_on (slot.Name needed) = true
goes_on slot.Value = true
goes_on slot.Whom = true
goes_on slot.Items = false
goes_on slot.Application = false

-- a piece and the comma behind it
pub record SpellsFirst (before after : List Placed) (p : Piece) : Type 0 where
  pub middle : List Placed
  pub piece : SpellsPiece before middle p
  pub comma : TakesMark Comma middle after
