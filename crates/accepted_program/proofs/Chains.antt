-- An expression of a level as its first operand and what follows on that level, one after another.
use Rattle.std.proofs.Common.{◌≡◌, ◌+◌, ◌≤◌, ◌<◌, ℕ, zero, suc, Bool, List, refl, arith}
use Rattle.thread_tree.specs.declared.expr.Expr.{Expr}
use Rattle.thread_tree.specs.declared.expr.Expr.TheVariants as expr
use Rattle.thread_tree.specs.declared.expr.FieldOf.{FieldOf}
use Rattle.thread_tree.specs.declared.expr.Op.{Op}
use Rattle.thread_tree.specs.declared.expr.Op.TheVariants as op
use Rattle.thread_tree.specs.declared.place.At.{At}
use Rattle.thread_tree.specs.declared.token.Mark.TheVariants as mark
use Rattle.thread_tree.specs.declared.token.Placed.{Placed}
use Rattle.thread_tree.specs.declared.token.Token.TheVariants as token
use Rattle.thread_tree.specs.Expressions as made
use Rattle.thread_tree.specs.Levels.{level_of}
use Rattle.thread_tree.specs.Spelling.{TakesAny, TakesMark, SpellsName, SpellsField, SpellsLevel, number, local, member, parenthesised, prefixed, binary, tighter}

-- the number is how many levels lie above: 0 for an operand, 7 for an expression
mutual
  pub data Operand (fields : Bool) : List Placed → List Placed → Expr → Type 0 where
    a_number : {p a : List Placed} {n : ℕ} → TakesAny (token.Number n) p a → Operand fields p a (expr.Num n)
    a_local : {p a : List Placed} {name : At} → SpellsName p a name → Operand fields p a (expr.Local name)
    a_field : {p a : List Placed} {f : FieldOf} → SpellsField p a f → Operand fields p a (expr.Field f)
    inner : {p a b c : List Placed} {e : Expr} → TakesMark mark.OpenParenthesis p a → Chain fields 7 a b e → TakesMark mark.CloseParenthesis b c → Operand fields p c e
    behind : {p a b : List Placed} {o : Op} {e : Expr} → TakesAny (token.Operator o) p a → Chain fields 0 a b e → Operand fields p b (made.unary o e)

  pub data Chain (fields : Bool) : ℕ → List Placed → List Placed → Expr → Type 0 where
    bare : {p a : List Placed} {e : Expr} → Operand fields p a e → Chain fields zero p a e
    level : {n : ℕ} {p a b : List Placed} {e f : Expr} → Chain fields n p a e → Tail fields n a b e f → Chain fields (suc n) p b f

  -- operators of the level with their right sides, from the tree so far to the whole
  pub data Tail (fields : Bool) : ℕ → List Placed → List Placed → Expr → Expr → Type 0 where
    done : {n : ℕ} {p : List Placed} {e : Expr} → Tail fields n p p e e
    next : {n : ℕ} {p a b c : List Placed} {o : Op} {left right e : Expr} → level_of o + suc n ≡ 8 → TakesAny (token.Operator o) p a → Chain fields n a b right → Tail fields n b c (made.binary o left right) e → Tail fields n p c left e

pub level_low : (o : Op) → level_of o ≤ 7
unfolding level_of
level_low op.Or = omega arith
level_low op.Xor = omega arith
level_low op.And = omega arith
level_low op.Same = omega arith
level_low op.Other = omega arith
level_low op.Less = omega arith
level_low op.AtMost = omega arith
level_low op.More = omega arith
level_low op.AtLeast = omega arith
level_low op.Left = omega arith
level_low op.Right = omega arith
level_low op.Plus = omega arith
level_low op.Minus = omega arith
level_low op.Times = omega arith
level_low op.Over = omega arith
level_low op.Rest = omega arith
level_low op.Not = omega arith
level_low op.Flip = omega arith

-- nothing is tighter than an operand
above : {fields : Bool} {n : ℕ} {p a : List Placed} {e : Expr} → SpellsLevel fields n p a e → 8 < n → ⊥
above (number h) g = omega arith
above (local h) g = omega arith
above (member h k) g = omega arith
above (parenthesised o h c) g = omega arith
above (prefixed i h k) g = omega arith
above (binary {op = o} h l t r) g = let low = level_low o in omega arith
above (tighter h) g = above h (omega arith)

longer : {fields : Bool} {n : ℕ} {p a b c : List Placed} {o : Op} {x left right : Expr} → Tail fields n p a x left → level_of o + suc n ≡ 8 → TakesAny (token.Operator o) a b → Chain fields n b c right → Tail fields n p c x (made.binary o left right)
longer done h t d = next h t d done
longer (next g s e more) h t d = next g s e (longer more h t d)

grown : {fields : Bool} {n : ℕ} {p a b c : List Placed} {o : Op} {left right : Expr} → Chain fields (suc n) p a left → level_of o + suc n ≡ 8 → TakesAny (token.Operator o) a b → Chain fields n b c right → Chain fields (suc n) p c (made.binary o left right)
grown (level d more) h t e = level d (longer more h t e)

alone : {fields : Bool} {p a : List Placed} {e : Expr} (n : ℕ) → 8 + n ≡ 8 → Operand fields p a e → Chain fields n p a e
alone zero h d = bare d
alone (suc n) h d = absurd (omega arith)

-- each derivation is a chain
pub chain : {fields : Bool} {k : ℕ} {p a : List Placed} {e : Expr} → SpellsLevel fields k p a e → (n : ℕ) → k + n ≡ 8 → Chain fields n p a e
chain (number h) n g = alone n g (a_number h)
chain (local h) n g = alone n g (a_local h)
chain (member h k) n g = alone n g (a_field k)
chain (parenthesised o d c) n g = alone n g (inner o (chain d 7 refl) c)
chain (prefixed i t d) n g = alone n g (behind t (chain d 0 refl))
chain (binary {op = o} h l t r) zero g = absurd (let low = level_low o in omega arith)
chain (binary {op = o} h l t r) (suc n) g = grown (chain l (suc n) g) (omega arith) t (chain r n (omega arith))
chain (tighter d) zero g = absurd (above d (omega arith))
chain (tighter d) (suc n) g = level (chain d n (omega arith)) done
