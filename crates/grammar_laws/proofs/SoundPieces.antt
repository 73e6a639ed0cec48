-- What the table takes of a kernel call spells it: its word and the pieces behind it.
use Rattle.std.proofs.Common.{◌≡◌, List, [], ◌∷◌, ◌++◌, Option, Some, None, refl, sym, ap, append_assoc}
use Rattle.thread_tree.specs.Grammar.{row}
use Rattle.thread_tree.specs.Parts.{Part, Statements}
use Rattle.thread_tree.specs.Pieces.{Piece, named, valued, whom, itemized, applied, word_of, pieces, shape}
use Rattle.thread_tree.specs.Spelling.{Separated, one, more}
use Rattle.thread_tree.specs.SpellingOfBlocks.{SpellsStmt}
use Rattle.thread_tree.specs.SpellingOfBlocks as blocks
use Rattle.thread_tree.specs.SpellingOfCalls.{SpellsResults, SpellsPiece, name_piece, value_piece, whom_piece, items_piece, applied_piece, SpellsPieces, no_pieces, some_pieces, SpellsCall}
use Rattle.thread_tree.specs.declared.action.Call.{Call}
use Rattle.thread_tree.specs.declared.action.Call.TheVariants as call
use Rattle.thread_tree.specs.declared.action.Item.{Item}
use Rattle.thread_tree.specs.declared.action.Who.{Who}
use Rattle.thread_tree.specs.declared.block.Stmt.{out-roll-Stmt}
use Rattle.thread_tree.specs.declared.expr.Expr.{Expr}
use Rattle.thread_tree.specs.declared.place.At.{At}
use Rattle.thread_tree.specs.declared.place.Place.{Place}
use Rattle.thread_tree.specs.declared.slot.Slot.{Slot}
use Rattle.thread_tree.specs.declared.slot.Slot.TheVariants.{Name, Value, Whom, Items, Application}
use Rattle.thread_tree.specs.declared.token.Placed.{Placed}
use Rattle.thread_tree.specs.declared.token.Token.TheVariants as token
use Rattle.thread_tree.specs.declared.token.Word.{Word}
use Rattle.thread_tree.specs.declared.token.Word.TheVariants as word
use Rattle.grammar_laws.proofs.Meaning.{Thing, Whole, Turned, took_at}

-- what fills the places behind the word of a call, as far as a row of the table reads them
abbrev pub Filled : List Slot → Type 0
Filled [] = Unit {0}
Filled (Name needed ∷ slots) = At × Filled slots
Filled (Value ∷ slots) = Expr × Filled slots
Filled (Whom ∷ slots) = Who × Filled slots
Filled (Items ∷ slots) = List Item
Filled (Application ∷ slots) = At × List Expr

-- the pieces that they are
abbrev pub filled : (slots : List Slot) → Filled slots → List Piece
filled [] f = []
filled (Name needed ∷ slots) f = named needed f.0 ∷ filled slots f.1
filled (Value ∷ slots) f = valued f.0 ∷ filled slots f.1
filled (Whom ∷ slots) f = whom f.0 ∷ filled slots f.1
filled (Items ∷ slots) f = itemized f ∷ []
filled (Application ∷ slots) f = applied f.0 f.1 ∷ []

-- the call of a word and its pieces
pub record Built (w : Word) (ps : List Piece) : Type 0 where
  made : Call
  word : word_of made ≡ w
  all : pieces made ≡ ps

abbrev pub BuiltBy : Word → Option (List Slot) → Type 0
BuiltBy w None = Unit {0}
BuiltBy w (Some slots) = (f : Filled slots) → Built w (filled slots f)

pub built : (w : Word) → BuiltBy w (shape w)
unfolding shape
built word.Print = λ f. record { made = call.Print f; word = refl; all = refl }
built word.Spawn = λ f. record { made = call.Spawn f.0 f.1; word = refl; all = refl }
built word.Delete = λ f. record { made = call.Delete f.0; word = refl; all = refl }
built word.Delay = λ f. record { made = call.Delay f.0; word = refl; all = refl }
built word.Setprio = λ f. record { made = call.Setprio f.0 f.1.0; word = refl; all = refl }
built word.Getprio = λ f. record { made = call.Getprio f.0; word = refl; all = refl }
built word.Send = λ f. record { made = call.Send f.0 f.1.0 f.1.1.0; word = refl; all = refl }
built word.Receive = λ f. record { made = call.Receive f.0 f.1.0; word = refl; all = refl }
built word.Take = λ f. record { made = call.Take f.0 f.1.0; word = refl; all = refl }
built word.Give = λ f. record { made = call.Give f.0; word = refl; all = refl }
built word.Now = λ f. record { made = call.Now; word = refl; all = refl }
built word.Yield = λ f. record { made = call.Yield; word = refl; all = refl }
built word.Waiting = λ f. record { made = call.Waiting f.0; word = refl; all = refl }
built _ = tt

-- the pieces that the tokens from here on spell, the end of the call, and the parts that are left
record Pieced (Spelled : List Placed → List Placed → List Piece → Type 0) (slots : List Slot) (parts : List Part) (before : List Placed) : Type 0 where
  given : Filled slots
  behind : List Placed
  spelled : Spelled before behind (filled slots given)
  after : List Placed
  results : Thing SpellsResults behind after
  rest : Whole parts after

pieced : (slot : Slot) (slots : List Slot) (parts : List Part) (before : List Placed) → Whole (row (slot ∷ slots) ++ parts) before → Pieced (Separated SpellsPiece) (slot ∷ slots) parts before
pieced (Name needed) [] parts before (a, (n, s), (m, end, w)) = record { given = (n, tt); behind = a; spelled = one (name_piece s); after = m; results = end; rest = w }
pieced (Name needed) (next ∷ slots) parts before (a, (n, s), (b, comma, w)) = let r = pieced next slots parts b w in record { given = (n, r.given); behind = r.behind; spelled = more (name_piece s) comma r.spelled; after = r.after; results = r.results; rest = r.rest }
pieced Value [] parts before (m, (a, e, s, end), w) = record { given = (e, tt); behind = a; spelled = one (value_piece s); after = m; results = end; rest = w }
pieced Value (next ∷ slots) parts before (b, (a, e, s, comma), w) = let r = pieced next slots parts b w in record { given = (e, r.given); behind = r.behind; spelled = more (value_piece s) comma r.spelled; after = r.after; results = r.results; rest = r.rest }
pieced Whom [] parts before (m, (a, x, s, end), w) = record { given = (x, tt); behind = a; spelled = one (whom_piece s); after = m; results = end; rest = w }
pieced Whom (next ∷ slots) parts before (b, (a, x, s, comma), w) = let r = pieced next slots parts b w in record { given = (x, r.given); behind = r.behind; spelled = more (whom_piece s) comma r.spelled; after = r.after; results = r.results; rest = r.rest }
pieced Items slots parts before (m, (a, xs, s, end), w) = record { given = xs; behind = a; spelled = one (items_piece s); after = m; results = end; rest = w }
pieced Application slots parts before (a, (n, s), (b, opening, (c, (es, xs), (m, end, w)))) = record { given = (n, es); behind = c; spelled = one (applied_piece s opening xs); after = m; results = end; rest = w }

all_pieced : (slots : List Slot) (parts : List Part) (before : List Placed) → Whole (row slots ++ parts) before → Pieced SpellsPieces slots parts before
all_pieced [] parts before (m, end, w) = record { given = tt; behind = before; spelled = no_pieces; after = m; results = end; rest = w }
all_pieced (slot ∷ slots) parts before h = let r = pieced slot slots parts before h in record { given = r.given; behind = r.behind; spelled = some_pieces r.spelled; after = r.after; results = r.results; rest = r.rest }

-- the call of a word and pieces that are spelled behind it
spelled_call : (w : Word) (place : Place) (rest behind : List Placed) (ps : List Piece) (b : Built w ps) → SpellsPieces rest behind ps → SpellsCall place (record { token = token.Word w; place = place } ∷ rest) behind b.made
spelled_call w place rest behind ps b s = record { behind = rest; word = took_at _ rest _ (ap token.Word (sym b.word)); operands = rw (b.all) s }

-- a call with its end, behind the word that it begins with
pub called : (w : Word) (slots : List Slot) → BuiltBy w (Some slots) → (place : Place) (parts : List Part) (rest : List Placed) → Turned (Some (row slots ++ Statements ∷ [])) parts rest → (m : List Placed) × Thing SpellsStmt (record { token = token.Word w; place = place } ∷ rest) m × Whole (Statements ∷ parts) m
called w slots make place parts rest h =
    let r = all_pieced slots (Statements ∷ parts) rest (rw (append_assoc (row slots) (Statements ∷ []) parts) at h) in
    (r.after, (_, blocks.call (out-roll-Stmt _) (spelled_call w place rest r.behind _ (make r.given) r.spelled) r.results.1), r.rest)
