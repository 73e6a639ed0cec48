-- Two small programs written down as tokens: `start a(7);`, and `thread a() priority 3 { send b, 1, c - 1; }`.
use Rattle.std.specs.Prelude.{ℕ, List, [], ◌∷◌}
use Rattle.thread_tree.specs.declared.expr.Op.TheVariants as op
use Rattle.thread_tree.specs.declared.token.Mark.TheVariants as mark
use Rattle.thread_tree.specs.declared.token.Placed.{Placed}
use Rattle.thread_tree.specs.declared.token.Token.{Token}
use Rattle.thread_tree.specs.declared.token.Token.TheVariants as token
use Rattle.thread_tree.specs.declared.token.Word.TheVariants as word
use Rattle.thread_tree.specs.declared.tree.Decl.{Decl}
use Rattle.thread_tree.specs.declared.tree.Decl.TheVariants as decl

-- a token of the first line
abbrev pub on_line : ℕ → Token → Placed
on_line column t = record { token = t; place = record { line = 1; column = column } }

-- the start of a thread, and the same with a comma in the place of the number
abbrev pub started : List Placed
started = on_line 1 (token.Word word.Start) ∷ on_line 7 (token.Name 0) ∷ on_line 8 (token.Mark mark.OpenParenthesis) ∷ on_line 9 (token.Number 7) ∷ on_line 10 (token.Mark mark.CloseParenthesis) ∷ on_line 11 (token.Mark mark.Semicolon) ∷ []

abbrev pub started_at_none : List Placed
started_at_none = on_line 1 (token.Word word.Start) ∷ on_line 7 (token.Name 0) ∷ on_line 8 (token.Mark mark.OpenParenthesis) ∷ on_line 9 (token.Mark mark.Comma) ∷ []

-- the tree of that start
abbrev pub start_tree : List Decl
start_tree = decl.Start (record { line = 1; column = 1 }) (record { name = 0; place = record { line = 1; column = 7 } }) (record { value = 7; place = record { line = 1; column = 9 } } ∷ []) ∷ []

-- a thread up to what it sends
abbrev pub sending : List Token → List Token
sending rest = token.Word word.Thread ∷ token.Name 0 ∷ token.Mark mark.OpenParenthesis ∷ token.Mark mark.CloseParenthesis ∷ token.Word word.Priority ∷ token.Number 3 ∷ token.Mark mark.OpenBrace ∷ token.Word word.Send ∷ token.Name 1 ∷ token.Mark mark.Comma ∷ token.Number 1 ∷ rest

-- the limit behind it, to the end
abbrev pub limited : List Token
limited = token.Name 2 ∷ token.Operator op.Minus ∷ token.Number 1 ∷ token.Mark mark.Semicolon ∷ token.Mark mark.CloseBrace ∷ []
