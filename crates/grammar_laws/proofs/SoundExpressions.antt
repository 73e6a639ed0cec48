-- What the table takes where it owes an expression, or what may follow one, spells it.
use Rattle.std.proofs.Common.{◌≡◌, ◌+◌, Bool, true, false, List, [], ◌∷◌, refl, arith}
use Rattle.thread_tree.specs.Expressions.{unary}
use Rattle.thread_tree.specs.declared.expr.Expr.TheVariants as expr
use Rattle.thread_tree.specs.declared.expr.FieldOf.TheVariants as field
use Rattle.thread_tree.specs.declared.token.Mark.TheVariants as mark
use Rattle.thread_tree.specs.declared.token.Placed.{Placed}
use Rattle.thread_tree.specs.declared.token.Token.TheVariants as token
use Rattle.thread_tree.specs.Grammar.{turn, operand, behind_name, is_mark, is_name, is_number, is_prefix, is_between}
use Rattle.thread_tree.specs.Levels.{level_of}
use Rattle.thread_tree.specs.Parts.{Part, TheMark, MoreExpressions, Arguments, Values, Expression, Inner, After, Dots, MoreDots}
use Rattle.thread_tree.specs.Spelling.{TakesMark, SpellsName, SpellsExpr, Separated, one, more, static, through, number, local, member, parenthesised, prefixed}
use Rattle.thread_tree.specs.SpellingOfCalls.{no_arguments, arguments}
use Rattle.thread_tree.specs.SpellingOfTransactions.{no_values, values}
use Rattle.grammar_laws.proofs.Tags.{is_the_mark, is_the_number, is_the_prefix, is_the_operator}
use Rattle.grammar_laws.proofs.Joined.{Joined, joined, loose, between_levels}
use Rattle.grammar_laws.proofs.Meaning.{Then, Joins, Means, Whole, Turned, Row, choose, took, took_mark, took_name, Thing}

-- a name as an operand
behind : (fields : Bool) (next : Part) (parts : List Part) (p : Placed) (rest : List Placed) → Thing SpellsName (p ∷ rest) rest → Whole (behind_name fields next ∷ parts) rest → Whole (Inner fields next ∷ parts) (p ∷ rest)
unfolding behind_name
behind true next parts p rest n (m, dots, w) = (m, dots (p ∷ rest) n.0 n.1, w)
behind false next parts p rest n (m, joins, w) = (m, (rest, expr.Local n.0, local n.1, joins), w)

-- an expression in parentheses
in_parentheses : (fields : Bool) (next : Part) (parts : List Part) (p : Placed) (rest : List Placed) → p.token ≡ token.Mark mark.OpenParenthesis → Whole (Inner fields (TheMark mark.CloseParenthesis) ∷ After fields next ∷ parts) rest → Whole (Inner fields next ∷ parts) (p ∷ rest)
in_parentheses fields next parts p rest is (m, (k, e, s, j), (n, joins, w)) =
    let inside : Then (SpellsExpr fields) (TakesMark mark.CloseParenthesis) rest m = j rest e (loose 1 (omega arith) s) in
    (n, (m, inside.1, parenthesised (took p rest _ is) inside.2 inside.3, joins), w)

-- an operand
pub operand_row : (fields : Bool) (next : Part) (parts : List Part) (p : Placed) (rest : List Placed) → Turned (operand fields next p.token) parts rest → Whole (Inner fields next ∷ parts) (p ∷ rest)
unfolding operand
operand_row fields next parts p rest h = choose (is_number p.token) _ _ parts rest h
    (λ e w. let n = is_the_number p.token e in (w.0, (rest, expr.Num n.0, number (took p rest _ n.1), w.1), w.2))
    (λ h. choose (is_name p.token) _ _ parts rest h
    (λ e w. behind fields next parts p rest (took_name p rest e) w)
    (λ h. choose (is_mark mark.OpenParenthesis p.token) _ _ parts rest h
    (λ e w. in_parentheses fields next parts p rest (is_the_mark _ p.token e) w)
    (λ h. choose (is_prefix p.token) _ _ parts rest h
    (λ e w. let o = is_the_prefix p.token e in (w.0, (w.1.0, unary o.0 w.1.1, prefixed o.2 (took p rest _ o.1) w.1.2, w.1.3), w.2))
    (λ h. absurd h))))

-- an operand with what may follow it is an expression
pub as_expression : (fields : Bool) (next : Part) (parts : List Part) (before : List Placed) → Whole (Inner fields next ∷ parts) before → Whole (Expression fields next ∷ parts) before
as_expression fields next parts before (m, (k, e, s, j), w) = (m, j before e (loose 1 (omega arith) s), w)

pub expression_row : (fields : Bool) (next : Part) (parts : List Part) (p : Placed) (rest : List Placed) → Turned (operand fields next p.token) parts rest → Whole (Expression fields next ∷ parts) (p ∷ rest)
expression_row fields next parts p rest h = as_expression fields next parts (p ∷ rest) (operand_row fields next parts p rest h)

-- an operator behind an expression, and what stands on its right
pub operator_row : (fields : Bool) (next : Part) (parts : List Part) (p : Placed) (rest : List Placed) → is_between p.token ≡ true → Whole (Inner fields next ∷ parts) rest → Whole (After fields next ∷ parts) (p ∷ rest)
operator_row fields next parts p rest e (m, (k, y, s, j), w) = (m, on, w) where
  on : Joins fields (Means next) (p ∷ rest) m
  on start x left =
      let o = is_the_operator p.token e in
      let l = between_levels o.0 o.2 in
      let both : Joined fields 1 start k = joined left (took p rest _ o.1) (loose (level_of o.0 + 1) (omega (arith, l.1)) s) l.0 l.1 in
      j start both.0 both.1

pub after_row : (fields : Bool) (next : Part) (parts : List Part) (p : Placed) (rest : List Placed) → Row next parts p rest → Row (After fields next) parts p rest
unfolding turn
after_row fields next parts p rest inner h = choose (is_between p.token) _ _ parts rest h
    (λ e w. operator_row fields next parts p rest e w)
    (λ h. let w = inner h in (w.0, (λ start e s. (p ∷ rest, e, s, w.1)), w.2))

-- what may follow a name, and a field of a static object
pub dots_row : (next : Part) (parts : List Part) (p : Placed) (rest : List Placed) → Row next parts p rest → Row (Dots next) parts p rest
unfolding turn
dots_row next parts p rest inner h = choose (is_mark mark.Dot p.token) _ _ parts rest h
    (λ e w. (w.2.0, (λ start x s. w.2.1 start (p ∷ rest) rest x w.1.0 s (took_mark _ p rest e) w.1.1), w.2.2))
    (λ h. let w = after_row true next parts p rest inner h in (w.0, (λ start x s. (p ∷ rest, expr.Local x, local s, w.1)), w.2))

pub more_dots_row : (next : Part) (parts : List Part) (p : Placed) (rest : List Placed) → Row next parts p rest → Row (MoreDots next) parts p rest
unfolding turn
more_dots_row next parts p rest inner h = choose (is_mark mark.Dot p.token) _ _ parts rest h
    (λ e w. (w.2.0, (λ start a b x f s d g. (w.0, expr.Field (field.Through x f w.1.0), member refl (through s d g (took_mark _ p rest e) w.1.1), w.2.1)), w.2.2))
    (λ h. let w = after_row true next parts p rest inner h in (w.0, (λ start a b x f s d g. (p ∷ rest, expr.Field (field.Static x f), member refl (static s d g), w.1)), w.2))

-- expressions with commas between them
pub more_expressions_row : (fields : Bool) (next : Part) (parts : List Part) (p : Placed) (rest : List Placed) → Row next parts p rest → Row (MoreExpressions fields next) parts p rest
unfolding turn
more_expressions_row fields next parts p rest inner h = choose (is_mark mark.Comma p.token) _ _ parts rest h
    (λ e w. (w.0, (λ start x s. let r = w.1.3 rest w.1.1 w.1.2 in (r.0, x ∷ r.1, more s (took_mark _ p rest e) r.2, r.3)), w.2))
    (λ h. let w = inner h in (w.0, (λ start x s. (p ∷ rest, x ∷ [], one s, w.1)), w.2))

expressions_row : (fields : Bool) (next : Part) (parts : List Part) (p : Placed) (rest : List Placed) → Turned (operand fields (MoreExpressions fields next) p.token) parts rest → (m : List Placed) × Then (Separated (SpellsExpr fields)) (Means next) (p ∷ rest) m × Whole parts m
expressions_row fields next parts p rest h = let w = expression_row fields (MoreExpressions fields next) parts p rest h in (w.0, w.1.3 (p ∷ rest) w.1.1 w.1.2, w.2)

-- arguments with the closing parenthesis, the values of a `give` with the semicolon
pub arguments_row : (parts : List Part) (p : Placed) (rest : List Placed) → Row Arguments parts p rest
unfolding turn
arguments_row parts p rest h = choose (is_mark mark.CloseParenthesis p.token) _ _ parts rest h
    (λ e w. (rest, ([], no_arguments (took_mark _ p rest e)), w))
    (λ h. let w = expressions_row false (TheMark mark.CloseParenthesis) parts p rest h in (w.0, (w.1.1, arguments w.1.2 w.1.3), w.2))

pub values_row : (parts : List Part) (p : Placed) (rest : List Placed) → Row Values parts p rest
unfolding turn
values_row parts p rest h = choose (is_mark mark.Semicolon p.token) _ _ parts rest h
    (λ e w. (rest, ([], no_values (took_mark _ p rest e)), w))
    (λ h. let w = expressions_row true (TheMark mark.Semicolon) parts p rest h in (w.0, (w.1.1, values w.1.2 w.1.3), w.2))
