-- A call as its word and its pieces. What is spelled, printed, checked and read of a call goes by these.
use Rattle.std.specs.Prelude.{Bool, true, false, List, [], ◌∷◌, map, Option, Some, None}
use Rattle.thread_tree.specs.declared.action.Call.{Call}
use Rattle.thread_tree.specs.declared.action.Call.TheVariants as call
use Rattle.thread_tree.specs.declared.action.Item.{Item}
use Rattle.thread_tree.specs.declared.action.Who.{Who}
use Rattle.thread_tree.specs.declared.expr.Expr.{Expr}
use Rattle.thread_tree.specs.declared.few.Few.{Few}
use Rattle.thread_tree.specs.declared.needed.Needed.{Needed}
use Rattle.thread_tree.specs.declared.needed.Needed.TheVariants.{Queue, Semaphore}
use Rattle.thread_tree.specs.declared.piece.Piece as seen
use Rattle.thread_tree.specs.declared.piece.Piece.TheVariants as piece
use Rattle.thread_tree.specs.declared.place.At.{At}
use Rattle.thread_tree.specs.declared.slot.Slot.{Slot}
use Rattle.thread_tree.specs.declared.slot.Slot.TheVariants.{Name, Value, Whom, Items, Application}
use Rattle.thread_tree.specs.declared.token.Word.{Word}
use Rattle.thread_tree.specs.declared.token.Word.TheVariants as word
use Rattle.thread_tree.specs.Few.{listed}

-- a piece: a name with what it has to be, a value, whom a call speaks of, the items of a `print`, and a template
-- that is applied to arguments
pub data Piece : Type 0 where
  named : Needed → At → Piece
  valued : Expr → Piece
  whom : Who → Piece
  itemized : List Item → Piece
  applied : At → List Expr → Piece

-- the place that a piece fills
abbrev pub slot_of : Piece → Slot
slot_of (named needed at) = Name needed
slot_of (valued e) = Value
slot_of (whom w) = Whom
slot_of (itemized items) = Items
slot_of (applied template arguments) = Application

-- the word that a call begins with
abbrev pub word_of : Call → Word
word_of (call.Print items) = word.Print
word_of (call.Spawn template arguments) = word.Spawn
word_of (call.Delete w) = word.Delete
word_of (call.Delay ticks) = word.Delay
word_of (call.Setprio w priority) = word.Setprio
word_of (call.Getprio w) = word.Getprio
word_of (call.Send queue value limit) = word.Send
word_of (call.Receive queue limit) = word.Receive
word_of (call.Take semaphore limit) = word.Take
word_of (call.Give semaphore) = word.Give
word_of call.Now = word.Now
word_of call.Yield = word.Yield
word_of (call.Waiting queue) = word.Waiting

-- the pieces behind it, in order of the text
abbrev pub pieces : Call → List Piece
pieces (call.Print items) = itemized items ∷ []
pieces (call.Spawn template arguments) = applied template arguments ∷ []
pieces (call.Delete w) = whom w ∷ []
pieces (call.Delay ticks) = valued ticks ∷ []
pieces (call.Setprio w priority) = whom w ∷ valued priority ∷ []
pieces (call.Getprio w) = whom w ∷ []
pieces (call.Send queue value limit) = named Queue queue ∷ valued value ∷ valued limit ∷ []
pieces (call.Receive queue limit) = named Queue queue ∷ valued limit ∷ []
pieces (call.Take semaphore limit) = named Semaphore semaphore ∷ valued limit ∷ []
pieces (call.Give semaphore) = named Semaphore semaphore ∷ []
pieces call.Now = []
pieces call.Yield = []
pieces (call.Waiting queue) = named Queue queue ∷ []

-- the places behind a word that begins a call
unfoldable pub shape : Word → Option (List Slot)
shape word.Print = Some (Items ∷ [])
shape word.Spawn = Some (Application ∷ [])
shape word.Delete = Some (Whom ∷ [])
shape word.Delay = Some (Value ∷ [])
shape word.Setprio = Some (Whom ∷ Value ∷ [])
shape word.Getprio = Some (Whom ∷ [])
shape word.Send = Some (Name Queue ∷ Value ∷ Value ∷ [])
shape word.Receive = Some (Name Queue ∷ Value ∷ [])
shape word.Take = Some (Name Semaphore ∷ Value ∷ [])
shape word.Give = Some (Name Semaphore ∷ [])
shape word.Now = Some []
shape word.Yield = Some []
shape word.Waiting = Some (Name Queue ∷ [])
shape _ = None

-- whether items and arguments, which go on at a comma, stand last
abbrev pub fit : List Slot → Bool
fit [] = true
fit (slot ∷ []) = true
fit (Name needed ∷ slot ∷ slots) = fit (slot ∷ slots)
fit (Value ∷ slot ∷ slots) = fit (slot ∷ slots)
fit (Whom ∷ slot ∷ slots) = fit (slot ∷ slots)
fit (Items ∷ slot ∷ slots) = false
fit (Application ∷ slot ∷ slots) = false

-- a piece as the code has it
abbrev pub piece_seen : seen.Piece → Piece
piece_seen (piece.Name needed at) = named needed at
piece_seen (piece.Value e) = valued e.now
piece_seen (piece.Whom w) = whom w.now
piece_seen (piece.Items items) = itemized items.now
piece_seen (piece.Application template arguments) = applied template arguments.now

-- pieces as the code has them
abbrev pub pieces_seen : Few seen.Piece → List Piece
pieces_seen few = map piece_seen (listed few)
