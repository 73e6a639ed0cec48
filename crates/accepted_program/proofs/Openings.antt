-- Statements and declarations are told apart by their first tokens.
use Rattle.std.proofs.Common.{◌≡◌, ◌∙◌, ℕ, false, eqb, List, Option, Some, None, sym, ap, subst}
use Rattle.std.proofs.Math.Facts.{yes_eqb}
use Rattle.std.proofs.Math.Dec.{T}
use Rattle.thread_tree.specs.declared.token.Placed.{Placed}
use Rattle.thread_tree.specs.declared.token.Token.{Token}
use Rattle.thread_tree.specs.declared.token.Token.TheVariants as token
use Rattle.thread_tree.specs.declared.token.Word.{Word}
use Rattle.thread_tree.specs.declared.token.Word.TheVariants as word
use Rattle.thread_tree.specs.declared.slot.Slot.{Slot}
use Rattle.thread_tree.specs.Grammar.{word_number}
use Rattle.thread_tree.specs.Pieces.{shape}
use Rattle.thread_tree.specs.Spelling.{TakesAny}
use Rattle.accepted_program.proofs.Takes.{takes_any}

-- a number for the word, 100 for a name, 101 for any other token
unfoldable pub kind_of : Token → ℕ
kind_of (token.Word w) = word_number w
kind_of (token.Name _) = 100
kind_of _ = 101

-- the same with one number, 50, for all words that have places behind them: those of calls
abbrev pub class_by : Word → Option (List Slot) → ℕ
class_by w (Some slots) = 50
class_by w None = word_number w

unfoldable pub class_of_word : Word → ℕ
class_of_word w = class_by w (shape w)

unfoldable pub class_of : Token → ℕ
class_of (token.Word w) = class_of_word w
class_of (token.Name _) = 100
class_of _ = 101

-- the first token, which has this number
pub record Opening (number_of : Token → ℕ) (n : ℕ) (p : List Placed) : Type 0 where
  pub token : Token
  pub after : List Placed
  pub takes : TakesAny token p after
  pub numbered : number_of token ≡ n

pub opens : {t : Token} {p a : List Placed} (number_of : Token → ℕ) (n : ℕ) → TakesAny t p a → number_of t ≡ n → Opening number_of n p
opens {t} {p} {a} number_of n h k = record { token = t; after = a; takes = h; numbered = k }

pub told : {number_of : Token → ℕ} {p q : List Placed} (m n : ℕ) → p ≡ q → Opening number_of m p → Opening number_of n q → eqb m n ≡ false → ⊥
told {number_of} m n e h k apart =
    let same = (takes_any e h.takes k.takes).0 in
    let equal : m ≡ n = sym h.numbered ∙ (ap number_of same ∙ k.numbered) in
    subst T apart (yes_eqb equal)

-- no `else` stands here
abbrev pub NoElse : List Placed → Type 0
NoElse p = (a : List Placed) → TakesAny (token.Word word.Else) p a → ⊥
