-- Tokens whose tally is worked out by hand.
use Rattle.std.specs.Prelude.{ℕ, zero, suc, List, [], ◌∷◌}
use Rattle.thread_tree.specs.declared.expr.Op.TheVariants as op
use Rattle.thread_tree.specs.declared.token.Mark.TheVariants as mark
use Rattle.thread_tree.specs.declared.token.Placed.{Placed}
use Rattle.thread_tree.specs.declared.token.Token.{Token}
use Rattle.thread_tree.specs.declared.token.Token.TheVariants as token
use Rattle.thread_tree.specs.declared.token.Word.TheVariants as word

-- tokens at whatever place, since a tally asks for none
abbrev pub somewhere : List Token → List Placed
somewhere [] = []
somewhere (t ∷ ts) = record { token = t; place = record { line = 1; column = 1 } } ∷ somewhere ts

-- `if (a + (2`
abbrev pub enclosed : List Token
enclosed = token.Word word.If ∷ token.Mark mark.OpenParenthesis ∷ token.Name 0 ∷ token.Operator op.Plus ∷ token.Mark mark.OpenParenthesis ∷ token.Number 2 ∷ []

-- `a = b(-`
abbrev pub called : List Token
called = token.Name 0 ∷ token.Mark mark.Equals ∷ token.Name 1 ∷ token.Mark mark.OpenParenthesis ∷ token.Operator op.Flip ∷ []

-- `type a { b } fn c() {`
abbrev pub typed : List Token
typed = token.Word word.Type ∷ token.Name 0 ∷ token.Mark mark.OpenBrace ∷ token.Name 1 ∷ token.Mark mark.CloseBrace ∷ token.Word word.Fn ∷ token.Name 2 ∷ token.Mark mark.OpenParenthesis ∷ token.Mark mark.CloseParenthesis ∷ token.Mark mark.OpenBrace ∷ []

-- a number of prefixes
abbrev pub prefixed : ℕ → List Token
prefixed zero = []
prefixed (suc n) = token.Operator op.Not ∷ prefixed n
