-- Which tokens spell a kernel call.
use Rattle.std.specs.Prelude.{false, List, []}
use Rattle.thread_tree.specs.declared.expr.Expr.{Expr}
use Rattle.thread_tree.specs.declared.place.At.{At}
use Rattle.thread_tree.specs.declared.place.Place.{Place}
use Rattle.thread_tree.specs.declared.token.Mark.TheVariants as mark
use Rattle.thread_tree.specs.declared.token.Placed.{Placed}
use Rattle.thread_tree.specs.declared.token.Token.{Token}
use Rattle.thread_tree.specs.declared.token.Token.TheVariants as token
use Rattle.thread_tree.specs.declared.token.Word.TheVariants as word
use Rattle.thread_tree.specs.Pieces.{Piece, named, valued, whom, itemized, applied, word_of, pieces}
use Rattle.thread_tree.specs.declared.needed.Needed.{Needed}
use Rattle.thread_tree.specs.Spelling.{Placing, Takes, TakesAny, TakesMark, SpellsNameBy, SpellsNamesBy, SpellsExprBy, Separated}
use Rattle.thread_tree.specs.declared.action.Call.{Call}
use Rattle.thread_tree.specs.declared.action.Item.{Item}
use Rattle.thread_tree.specs.declared.action.Item.TheVariants as item
use Rattle.thread_tree.specs.declared.action.Who.{Who}
use Rattle.thread_tree.specs.declared.action.Who.TheVariants as who
use Rattle.thread_tree.specs.declared.name.Text.{Text}

-- the first token stands for one at this place
pub record BeginsBy (T : Placing) (place : Place) (before : List Placed) : Type 0 where
  pub token : Token
  pub after : List Placed
  pub first : T token place before after

-- an item of a `print`: a string, or a value
pub data SpellsItemBy (T : Placing) : List Placed → List Placed → Item → Type 0 where
  text : {before after : List Placed} {place : Place} {x : Text} → T (token.Text x) place before after → SpellsItemBy T before after (item.Text place x)
  value : {before after : List Placed} {place : Place} {e : Expr} → BeginsBy T place before → SpellsExprBy T false before after e → SpellsItemBy T before after (item.Value place e)

-- `self`, or the number of a thread
pub data SpellsWhoBy (T : Placing) : List Placed → List Placed → Who → Type 0 where
  own : {before after : List Placed} → TakesAny (token.Word word.Own) before after → SpellsWhoBy T before after who.Own
  of : {before after : List Placed} {e : Expr} → SpellsExprBy T false before after e → SpellsWhoBy T before after (who.Of e)

-- arguments in parentheses, without the opening one
pub data SpellsArgumentsBy (T : Placing) : List Placed → List Placed → List Expr → Type 0 where
  no_arguments : {before after : List Placed} → TakesMark mark.CloseParenthesis before after → SpellsArgumentsBy T before after []
  arguments : {before a after : List Placed} {es : List Expr} → Separated (SpellsExprBy T false) before a es → TakesMark mark.CloseParenthesis a after → SpellsArgumentsBy T before after es

-- the end of a call: the names that get its results, and the semicolon
pub data SpellsResultsBy (T : Placing) : List Placed → List Placed → List At → Type 0 where
  no_results : {before after : List Placed} → TakesMark mark.Semicolon before after → SpellsResultsBy T before after []
  results : {before a b after : List Placed} {names : List At} → TakesMark mark.Arrow before a → SpellsNamesBy T a b names → TakesMark mark.Semicolon b after → SpellsResultsBy T before after names

-- a piece of a call
pub data SpellsPieceBy (T : Placing) : List Placed → List Placed → Piece → Type 0 where
  name_piece : {before after : List Placed} {needed : Needed} {name : At} → SpellsNameBy T before after name → SpellsPieceBy T before after (named needed name)
  value_piece : {before after : List Placed} {e : Expr} → SpellsExprBy T false before after e → SpellsPieceBy T before after (valued e)
  whom_piece : {before after : List Placed} {w : Who} → SpellsWhoBy T before after w → SpellsPieceBy T before after (whom w)
  items_piece : {before after : List Placed} {items : List Item} → Separated (SpellsItemBy T) before after items → SpellsPieceBy T before after (itemized items)
  applied_piece : {before a b after : List Placed} {template : At} {es : List Expr} → SpellsNameBy T before a template → TakesMark mark.OpenParenthesis a b → SpellsArgumentsBy T b after es → SpellsPieceBy T before after (applied template es)

-- the pieces of a call with commas between them, if it has any
pub data SpellsPiecesBy (T : Placing) : List Placed → List Placed → List Piece → Type 0 where
  no_pieces : {before : List Placed} → SpellsPiecesBy T before before []
  some_pieces : {before after : List Placed} {ps : List Piece} → Separated (SpellsPieceBy T) before after ps → SpellsPiecesBy T before after ps

-- a call whose word stands at this place, without its end
pub record SpellsCallBy (T : Placing) (place : Place) (before after : List Placed) (c : Call) : Type 0 where
  pub behind : List Placed
  pub word : T (token.Word (word_of c)) place before behind
  pub operands : SpellsPiecesBy T behind after (pieces c)

-- the same with each token at the place that the tree has for it
abbrev pub BeginsAt : Place → List Placed → Type 0
BeginsAt = BeginsBy Takes

abbrev pub SpellsItem : List Placed → List Placed → Item → Type 0
SpellsItem = SpellsItemBy Takes

abbrev pub SpellsWho : List Placed → List Placed → Who → Type 0
SpellsWho = SpellsWhoBy Takes

abbrev pub SpellsArguments : List Placed → List Placed → List Expr → Type 0
SpellsArguments = SpellsArgumentsBy Takes

abbrev pub SpellsResults : List Placed → List Placed → List At → Type 0
SpellsResults = SpellsResultsBy Takes

abbrev pub SpellsPiece : List Placed → List Placed → Piece → Type 0
SpellsPiece = SpellsPieceBy Takes

abbrev pub SpellsPieces : List Placed → List Placed → List Piece → Type 0
SpellsPieces = SpellsPiecesBy Takes

abbrev pub SpellsCall : Place → List Placed → List Placed → Call → Type 0
SpellsCall = SpellsCallBy Takes
