-- The canonical tokens of fields and expressions spell them again.
use Rattle.std.proofs.Common.{◌≡◌, ℕ, zero, suc, ◌+◌, ◌-◌, ◌≤◌, Bool, List, [], ◌∷◌, ◌++◌, append_assoc, refl, sym, ap, subst, ◌∙◌, arith}
use Rattle.thread_tree.specs.declared.expr.Expr.{Expr, more_of-Expr, end_of-Expr}
use Rattle.thread_tree.specs.declared.expr.Expr.TheVariants as expr
use Rattle.thread_tree.specs.declared.expr.FieldOf.{FieldOf}
use Rattle.thread_tree.specs.declared.expr.FieldOf.TheVariants as field
use Rattle.thread_tree.specs.declared.token.Mark.TheVariants as mark
use Rattle.thread_tree.specs.declared.token.Placed.{Placed}
use Rattle.thread_tree.specs.declared.token.Token.{Token}
use Rattle.thread_tree.specs.declared.token.Token.TheVariants as token
use Rattle.thread_tree.specs.Levels.{level_of}
use Rattle.thread_tree.specs.Spelling as spelling
use Rattle.thread_tree.specs.Spelling.{Anywhere, SpellsExpr, SpellsExprBy, SpellsField, SpellsFieldBy, SpellsLevel, SpellsLevelBy, TakesMark}
use Rattle.thread_print.specs.Canonical.{expression, field_tokens, mark_if, operand}
use Rattle.thread_print.proofs.Contents.{bare, contents}
use Rattle.thread_print.proofs.Again.{Again, any, at, both, take_one, turned}

-- a field
pub field_again : {start end : List Placed} {f : FieldOf} → SpellsField start end f → Again (field_tokens f) (λ b a. SpellsFieldBy Anywhere b a f) start end
field_again (spelling.static d0 d1 d2) = turned (both (at d0) (both (any d1) (at d2))) (λ b a o. spelling.static o.first o.second.first o.second.second)
field_again (spelling.through d0 d1 d2 d3 d4) =
    turned (both (at d0) (both (any d1) (both (at d2) (both (any d3) (at d4))))) (λ b a o. spelling.through o.first o.second.first o.second.second.first o.second.second.second.first o.second.second.second.second)

-- the tightest level that an expression has without parentheses round it
unfoldable top : Expr → ℕ
top (expr.Num n) = 8
top (expr.Local at) = 8
top (expr.Field f) = 8
top (expr.Prefix' o p (more_of-Expr e end_of-Expr)) = 8
top (expr.Binary' o p (more_of-Expr l end_of-Expr) q (more_of-Expr r end_of-Expr)) = level_of o

-- an expression of a tighter level may stand where a looser one may
loosen : (fields : Bool) (n level : ℕ) (before after : List Placed) (e : Expr) → SpellsLevelBy Anywhere fields (level + n) before after e → SpellsLevelBy Anywhere fields level before after e
loosen fields zero level before after e spells =
    let P : ℕ → Type 0 = λ k. SpellsLevelBy Anywhere fields k before after e in
    let same : level + 0 ≡ level = omega arith in
    subst P same spells
loosen fields (suc n) level before after e spells =
    let P : ℕ → Type 0 = λ k. SpellsLevelBy Anywhere fields k before after e in
    let same : level + suc n ≡ (level + 1) + n = omega arith in
    spelling.tighter (loosen fields n (level + 1) before after e (subst P same spells))

loosened : (fields : Bool) (high low : ℕ) (before after : List Placed) (e : Expr) → low ≤ high → SpellsLevelBy Anywhere fields high before after e → SpellsLevelBy Anywhere fields low before after e
loosened fields high low before after e under spells =
    let P : ℕ → Type 0 = λ k. SpellsLevelBy Anywhere fields k before after e in
    let same : high ≡ low + (high - low) = omega arith in
    loosen fields (high - low) low before after e (subst P same spells)

-- an expression in parentheses
in_parentheses : (fields : Bool) (level : ℕ) (ts : List Token) (e : Expr) (start end : List Placed) → 1 ≤ level → Again ts (λ b a. SpellsLevelBy Anywhere fields level b a e) start end → Again (token.Mark mark.OpenParenthesis ∷ (ts ++ token.Mark mark.CloseParenthesis ∷ [])) (λ b a. SpellsLevelBy Anywhere fields 8 b a e) start end
in_parentheses fields level ts e start end some x = record {
  says = λ rest same. x.says (token.Mark mark.CloseParenthesis ∷ rest) same ∙ ap contents (sym (append_assoc ts (token.Mark mark.CloseParenthesis ∷ []) rest));
  again = λ before rest is.
      let a = take_one (token.Mark mark.OpenParenthesis) before ((ts ++ token.Mark mark.CloseParenthesis ∷ []) ++ rest) is in
      let b = x.again a.after (token.Mark mark.CloseParenthesis ∷ rest) (a.left ∙ append_assoc ts (token.Mark mark.CloseParenthesis ∷ []) rest) in
      let c = take_one (token.Mark mark.CloseParenthesis) b.after rest b.left in
      record { after = c.after; spells = spelling.parenthesised a.spells (loosened fields level 1 a.after b.after e some b.spells) c.spells; left = c.left };
}

-- an expression as an operand
operand_again : (fields : Bool) (e : Expr) (start end : List Placed) → 1 ≤ top e → Again (expression e) (λ b a. SpellsLevelBy Anywhere fields (top e) b a e) start end → Again (operand e (expression e)) (λ b a. SpellsLevelBy Anywhere fields 8 b a e) start end
unfolding mark_if top
operand_again fields (expr.Num n) start end some x = x
operand_again fields (expr.Local at) start end some x = x
operand_again fields (expr.Field (field.Static object name)) start end some x = x
operand_again fields (expr.Field (field.Through held kind name)) start end some x = x
operand_again fields (expr.Prefix' o p (more_of-Expr e end_of-Expr)) start end some x = in_parentheses fields 8 (expression (expr.Prefix' o p (more_of-Expr e end_of-Expr))) (expr.Prefix' o p (more_of-Expr e end_of-Expr)) start end some x
operand_again fields (expr.Binary' o p (more_of-Expr l end_of-Expr) q (more_of-Expr r end_of-Expr)) start end some x = in_parentheses fields (level_of o) (expression (expr.Binary' o p (more_of-Expr l end_of-Expr) q (more_of-Expr r end_of-Expr))) (expr.Binary' o p (more_of-Expr l end_of-Expr) q (more_of-Expr r end_of-Expr)) start end some x

-- an expression that was read at a level is spelled again at its own
record AtTop (fields : Bool) (level : ℕ) (e : Expr) (start end : List Placed) : Type 0 where
  low : 1 ≤ top e
  high : level ≤ 8
  again : Again (expression e) (λ b a. SpellsLevelBy Anywhere fields (top e) b a e) start end

level_again : (fields : Bool) (level : ℕ) (start end : List Placed) (e : Expr) → 1 ≤ level → SpellsLevel fields level start end e → AtTop fields level e start end
unfolding top
level_again fields level start end e some (spelling.number takes) = record { low = omega arith; high = omega arith; again = turned (any takes) (λ b a o. spelling.number o) }
level_again fields level start end e some (spelling.local {name = name} takes) = record { low = omega arith; high = omega arith; again = turned (at takes) (λ b a o. spelling.local {name = name} o) }
level_again fields level start end e some (spelling.member reads spells) = record { low = omega arith; high = omega arith; again = turned (field_again spells) (λ b a o. spelling.member reads o) }
level_again fields level start end e some (spelling.parenthesised {a = m} {b = n} opens inside closes) =
    let x = level_again fields 1 m n e (omega arith) inside in
    record {
      low = x.low;
      high = omega arith;
      again = record {
        says = λ rest same. (any opens).says (bare m) refl ∙ x.again.says rest ((any closes).says rest same);
        again = x.again.again;
      };
    }
level_again fields level start end e some (spelling.prefixed {a = m} {e = x} may takes inside) =
    let y = level_again fields 8 m end x (omega arith) inside in
    record { low = omega arith; high = omega arith; again = turned (both (any takes) (operand_again fields x m end y.low y.again)) (λ b a o. spelling.prefixed may o.first o.second) }
level_again fields level start end e some (spelling.binary {a = m} {b = n} {op = op} {left = l} {right = r} is left takes right) =
    let x = level_again fields level start m l some left in
    let y = level_again fields (level + 1) n end r (omega arith) right in
    let high = y.high in
    let low : 1 ≤ level_of op = omega (arith, is, some) in
    let under : level_of op ≤ 8 = omega (arith, is, high) in
    let over : level_of op + 1 ≤ 8 = omega (arith, is, high) in
    record {
      low = low;
      high = omega (arith, high);
      again = turned (both (operand_again fields l start m x.low x.again) (both (any takes) (operand_again fields r n end y.low y.again)))
          (λ b a o. spelling.binary refl (loosened fields 8 (level_of op) _ _ l under o.first) o.second.first (loosened fields 8 (level_of op + 1) _ _ r over o.second.second));
    }
level_again fields level start end e some (spelling.tighter inside) =
    let x = level_again fields (level + 1) start end e (omega arith) inside in
    let high = x.high in
    record { low = x.low; high = omega (arith, high); again = x.again }

-- an expression
pub expr_again : {fields : Bool} {start end : List Placed} {e : Expr} → SpellsExpr fields start end e → Again (expression e) (λ b a. SpellsExprBy Anywhere fields b a e) start end
expr_again {fields} {start} {end} {e} spells =
    let x = level_again fields 1 start end e (omega arith) spells in
    turned x.again (λ b a o. loosened fields (top e) 1 b a e x.low o)
