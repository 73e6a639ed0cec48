-- What may stand behind a list or an expression begins with nothing that goes on with one.
use Rattle.std.proofs.Common.{◌≡◌, true, None, refl}
use Rattle.thread_tree.specs.declared.expr.Op.{Op}
use Rattle.thread_tree.specs.declared.token.Mark.TheVariants as mark
use Rattle.thread_tree.specs.declared.token.Token.TheVariants as token
use Rattle.thread_tree.specs.Grammar.{turn, call_end, is_mark, mark_number}
use Rattle.thread_tree.specs.Parts.{Part, TheMark, ABlock, ATBlock, To, MoreItems, MoreExpressions}
use Rattle.grammar_laws.specs.Shortest.{closes, follows}

pub no_comma : (next : Part) → closes next ≡ true → turn next (token.Mark mark.Comma) ≡ None
unfolding turn is_mark mark_number
no_comma (TheMark mark.Semicolon) h = refl
no_comma (TheMark mark.CloseParenthesis) h = refl
no_comma (TheMark mark.CloseBrace) h = refl
no_comma ATBlock h = refl
no_comma _ h = absurd (cc)

-- no operator and no dot
pub record EndsHere (next : Part) : Type 0 where
  pub no_dot : turn next (token.Mark mark.Dot) ≡ None
  pub no_operator : (op : Op) → turn next (token.Operator op) ≡ None

closed : (next : Part) → closes next ≡ true → EndsHere next
unfolding turn is_mark mark_number
closed (TheMark mark.Semicolon) h = record { no_dot = refl; no_operator = λ op. refl }
closed (TheMark mark.CloseParenthesis) h = record { no_dot = refl; no_operator = λ op. refl }
closed (TheMark mark.CloseBrace) h = record { no_dot = refl; no_operator = λ op. refl }
closed ATBlock h = record { no_dot = refl; no_operator = λ op. refl }
closed _ h = absurd (cc)

pub ends : (next : Part) → follows next ≡ true → EndsHere next
unfolding turn is_mark mark_number call_end
ends (TheMark mark.Semicolon) h = record { no_dot = refl; no_operator = λ op. refl }
ends (TheMark mark.CloseParenthesis) h = record { no_dot = refl; no_operator = λ op. refl }
ends (TheMark mark.Comma) h = record { no_dot = refl; no_operator = λ op. refl }
ends ABlock h = record { no_dot = refl; no_operator = λ op. refl }
ends ATBlock h = record { no_dot = refl; no_operator = λ op. refl }
ends To h = record { no_dot = refl; no_operator = λ op. refl }
ends MoreItems h = record { no_dot = refl; no_operator = λ op. refl }
ends (MoreExpressions fields next) h = let e = closed next h in record { no_dot = e.no_dot; no_operator = e.no_operator }
ends _ h = absurd (cc)
