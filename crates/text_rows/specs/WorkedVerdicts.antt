-- Tokens whose answer by the table was worked out by hand.
use Rattle.std.specs.Prelude.{◌≡◌, ℕ, [], ◌∷◌}
use Rattle.thread_tree.specs.declared.place.Place.{Place}
use Rattle.thread_tree.specs.declared.expr.Op.TheVariants.{Plus}
use Rattle.thread_tree.specs.declared.token.Mark.TheVariants as mark
use Rattle.thread_tree.specs.declared.token.Placed.{Placed}
use Rattle.thread_tree.specs.declared.token.Token.{Token}
use Rattle.thread_tree.specs.declared.token.Token.TheVariants as token
use Rattle.thread_tree.specs.declared.token.Word.TheVariants as word
use Rattle.thread_tokens.specs.declared.ending.Ending.TheVariants.{End, BadToken}
use Rattle.thread_text.specs.Verdict.{Fine, Faulty, verdict}
use Rattle.thread_text.specs.declared.fault.TextFault.TheVariants as fault

-- a place of the first line, and a token there
abbrev pub column : ℕ → Place
column n = record { line = 1; column = n }

abbrev pub at : ℕ → Token → Placed
at n t = record { token = t; place = column n }

-- `start t();`
abbrev pub Started : Type 0
Started = verdict (at 1 (token.Word word.Start) ∷ at 7 (token.Name 0) ∷ at 8 (token.Mark mark.OpenParenthesis) ∷ at 9 (token.Mark mark.CloseParenthesis) ∷ at 10 (token.Mark mark.Semicolon) ∷ []) (End (column 11)) ≡ Fine

-- `thread t(`: the end of the text is where more is expected
abbrev pub Unfinished : Type 0
Unfinished = verdict (at 1 (token.Word word.Thread) ∷ at 8 (token.Name 0) ∷ at 9 (token.Mark mark.OpenParenthesis) ∷ []) (End (column 10)) ≡ Faulty (fault.Expected (column 10))

-- `start t( @`: the tokens are open, and the bad one ends them
abbrev pub Bad : Type 0
Bad = verdict (at 1 (token.Word word.Start) ∷ at 7 (token.Name 0) ∷ at 8 (token.Mark mark.OpenParenthesis) ∷ []) (BadToken (column 10)) ≡ Faulty (fault.BadToken (column 10))

-- `fn f() { x = 1 + ; }`: no operand begins with a semicolon
abbrev pub NoOperand : Type 0
NoOperand = verdict (at 1 (token.Word word.Fn) ∷ at 4 (token.Name 0) ∷ at 5 (token.Mark mark.OpenParenthesis) ∷ at 6 (token.Mark mark.CloseParenthesis) ∷ at 8 (token.Mark mark.OpenBrace) ∷ at 10 (token.Name 1) ∷ at 12 (token.Mark mark.Equals) ∷ at 14 (token.Number 1) ∷ at 16 (token.Operator Plus) ∷ at 18 (token.Mark mark.Semicolon) ∷ at 20 (token.Mark mark.CloseBrace) ∷ []) (End (column 21)) ≡ Faulty (fault.Expected (column 18))
