-- The bounds that a text has to keep, counted by its tokens alone.
use Rattle.std.specs.Prelude.{◌≡◌, ◌++◌, ℕ, ◌+◌, ◌-◌, nat_le, Bool, true, false, if◌then◌else◌, List, [], ◌∷◌, Option, Some, None}
use Rattle.thread_tree.specs.declared.token.Mark.{Mark}
use Rattle.thread_tree.specs.declared.token.Mark.TheVariants.{OpenBrace, CloseBrace, OpenParenthesis, CloseParenthesis, Dot}
use Rattle.thread_tree.specs.declared.token.Placed.{Placed}
use Rattle.thread_tree.specs.declared.token.Token.{Token}
use Rattle.thread_tree.specs.declared.token.Token.TheVariants as token
use Rattle.thread_tree.specs.declared.token.Word.TheVariants as word
use Rattle.thread_tree.specs.Grammar.{advance}
use Rattle.thread_tree.specs.Parts.{Part}
use Rattle.grammar_laws.specs.Open.{bare, owed}
use Rattle.thread_text.specs.Fate.{Fate, Whole, StuckAt, LongAt}

-- how many operators and opening parentheses the expression at hand has so far, how many blocks are open, whether
-- the last token is a name, and whether the type of an object is being declared, whose braces are no block
pub record Tally : Type 0 where
  pub operators : ℕ
  pub parentheses : ℕ
  pub blocks : ℕ
  pub named : Bool
  pub typing : Bool

-- where a text begins
abbrev pub none_tallied : Tally
none_tallied = record { operators = 0; parentheses = 0; blocks = 0; named = false; typing = false }

-- where a new expression may begin
abbrev pub anew : Tally → Tally
anew s = record s { operators = 0; parentheses = 0; named = false }

-- after a mark: a parenthesis behind a name is that of a call
unfoldable pub marked : Mark → Tally → Tally
marked OpenParenthesis s = if s.named then anew s else record s { parentheses = s.parentheses + 1; named = false }
marked CloseParenthesis s = record s { named = false }
marked Dot s = record s { named = false }
marked OpenBrace s = if s.typing then anew s else record (anew s) { blocks = s.blocks + 1 }
marked CloseBrace s = if s.typing then record (anew s) { typing = false } else record (anew s) { blocks = s.blocks - 1 }
marked _ s = anew s

-- after a token: operators, names, numbers, dots and closing parentheses go on with the expression at hand
unfoldable pub told : Token → Tally → Tally
told (token.Operator op) s = record s { operators = s.operators + 1; named = false }
told (token.Name name) s = record s { named = true }
told (token.Number value) s = record s { named = false }
told (token.Mark mark) s = marked mark s
told (token.Word word.Type) s = record (anew s) { typing = true }
told _ s = anew s

-- at most 32 operators and 64 parentheses in an expression, and at most 24 open blocks
unfoldable pub within : Tally → Bool
within s = if nat_le s.operators 32 then (if nat_le s.parentheses 64 then nat_le s.blocks 24 else false) else false

-- The fate of tokens: the table says whether one can stand, and the tally whether it passes a bound. They are
-- stuck at the first one that can't stand, or too long at the first one that can and passes a bound.
unfoldable pub tallied : List Part → Tally → List Placed → Fate
tallied [] s [] = Whole
tallied (part ∷ parts) s [] = StuckAt []
tallied parts s (t ∷ ts) =
    elim (advance parts t.token) [ Some after ↦ if within (told t.token s) then tallied after (told t.token s) ts else LongAt (t ∷ ts) | None ↦ StuckAt (t ∷ ts) ]

-- the tally behind some tokens, or `None` where one of them passes a bound
unfoldable pub tally_of : List Placed → Tally → Option Tally
tally_of [] s = Some s
tally_of (t ∷ ts) s = if within (told t.token s) then tally_of ts (told t.token s) else None

-- The token `t` of these, with `behind` behind it, is the first to pass a bound: those in front keep all bounds,
-- it can stand behind them, and with it the tally isn't within the bounds.
pub record PassesFirst (parts : List Part) (start : Tally) (tokens : List Placed) (t : Placed) (behind : List Placed) : Type 0 where
  pub front : List Placed
  pub after : List Part
  pub before : Tally
  pub whole : tokens ≡ front ++ t ∷ behind
  pub can_stand : owed parts (bare (front ++ t ∷ [])) ≡ Some after
  pub in_front : tally_of front start ≡ Some before
  pub past_it : within (told t.token before) ≡ false
