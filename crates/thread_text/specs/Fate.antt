-- What becomes of tokens: they are whole, or stop at one of them.
use Rattle.std.specs.Prelude.{◌≡◌, ℕ, Bool, false, if◌then◌else◌, List, [], ◌∷◌, ◌++◌, drop, Option, Some, None, Result, Ok, Err}
use Rattle.thread_tree.specs.declared.token.Mark.TheVariants.{OpenParenthesis}
use Rattle.thread_tree.specs.declared.token.Placed.{Placed}
use Rattle.thread_tree.specs.declared.token.Mark.{Mark}
use Rattle.thread_tree.specs.declared.token.Token.{Token}
use Rattle.thread_tree.specs.declared.token.Word.{Word}
use Rattle.thread_tree.specs.Grammar.{turn, advance, is_mark, is_word, is_name}
use Rattle.thread_tree.specs.Levels.{binding}
use Rattle.thread_tree.specs.Parts.{Part}
use Rattle.thread_text.specs.Bounds.{Counts, counted, afresh}
use Rattle.thread_text.specs.declared.halt.Halt.{Halt}
use Rattle.thread_text.specs.declared.halt.Halt.TheVariants as halt

-- a place in the tokens: those that are left, and the counts
pub record Reading : Type 0 where
  pub left : List Placed
  pub counts : Counts

-- all tokens are used and nothing is owed; or these are left, the first of which can't stand here, or
-- passes a bound
pub data Fate : Type 0 where
  Whole : Fate
  StuckAt : (left : List Placed) → Fate
  LongAt : (left : List Placed) → Fate

-- one token: what is owed then, or why not
pub data Step : Type 0 where
  Goes : (parts : List Part) (counts : Counts) → Step
  Stuck : Step
  Long : Step

-- the step, by what may stand there and the counts: the first is asked first
unfoldable pub judged : Option (List Part) → Option Counts → List Part → Step
judged (Some first) (Some counts) parts = Goes (first ++ parts) counts
judged (Some first) None parts = Long
judged None counts parts = Stuck

-- one token where these parts are owed
unfoldable pub step : List Part → Counts → Token → Step
step [] c t = judged (advance [] t) (Some c) []
step (part ∷ parts) c t = judged (turn part t) (counted part t c) parts

-- the fate of tokens where these parts are owed
unfoldable pub fate : List Part → Counts → List Placed → Fate
fate [] c [] = Whole
fate (part ∷ parts) c [] = StuckAt []
fate parts c (t ∷ ts) =
    elim (step parts c t.token) [ Goes after counts ↦ fate after counts ts | Stuck ↦ StuckAt (t ∷ ts) | Long ↦ LongAt (t ∷ ts) ]

-- the fate of what is left to read
unfoldable pub ahead : List Part → Reading → Fate
ahead parts r = fate parts r.counts r.left

-- the next token
unfoldable pub next : List Placed → Option Token
next [] = None
next (t ∷ ts) = Some t.token

-- whether the next token passes a test
unfoldable pub next_is : (Token → Bool) → Reading → Bool
next_is test r = elim (next r.left) [ Some t ↦ test t | None ↦ false ]

-- whether the next token is this mark, this word
abbrev pub sees : Mark → Reading → Bool
sees mark r = next_is (is_mark mark) r

abbrev pub sees_word : Word → Reading → Bool
sees_word word r = next_is (is_word word) r

-- with the first token read
unfoldable pub skipped : Reading → Reading
skipped r = record { left = drop 1 r.left; counts = r.counts }

-- with the first token read and these counts
unfoldable pub counting : Counts → Reading → Reading
counting counts r = record { left = drop 1 r.left; counts = counts }

-- where an expression of its own begins
unfoldable pub begun : Reading → Reading
begun r = record { left = r.left; counts = afresh r.counts }

-- what is read of the next token
unfoldable pub next_of : {X : Type 0} → (Token → Option X) → Reading → Option X
next_of reading r = elim (next r.left) [ Some t ↦ reading t | None ↦ None ]

-- whether a name and an opening parenthesis are next
unfoldable pub sees_call : Reading → Bool
sees_call r = if next_is is_name r then sees OpenParenthesis (skipped r) else false

-- how tightly the next token binds, and 0 where it is no operator between two operands
unfoldable pub next_binding : Reading → ℕ
next_binding r = elim (next r.left) [ Some t ↦ binding t | None ↦ 0 ]

-- What a function did that was to read some parts: with them read the fate is as it was with them owed,
-- and where it halted it is that of the first token left.
abbrev pub Follows : {X : Type 0} → Result X Halt → Fate → Fate → Reading → Type 0
Follows (Ok x) before after now = before ≡ after
Follows (Err halt.Stuck) before after now = before ≡ StuckAt now.left
Follows (Err halt.Long) before after now = before ≡ LongAt now.left
Follows (Err halt.NoMemory) before after now = Unit {0}
