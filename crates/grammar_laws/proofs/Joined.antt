-- An expression, an operator behind it and an operand are an expression.
use Rattle.std.proofs.Common.{◌≡◌, ℕ, zero, suc, ◌+◌, ◌-◌, ◌≤◌, Bool, false, List, arith, inl, inr}
use Rattle.std.proofs.lemmas.Bool.{cases_lt}
use Rattle.thread_tree.specs.declared.expr.Expr.{Expr}
use Rattle.thread_tree.specs.declared.expr.Op.{Op}
use Rattle.thread_tree.specs.declared.expr.Op.TheVariants.{Not, Flip}
use Rattle.thread_tree.specs.declared.token.Placed.{Placed}
use Rattle.thread_tree.specs.declared.token.Token.TheVariants as token
use Rattle.thread_tree.specs.Grammar.{prefixes}
use Rattle.thread_tree.specs.Levels.{level_of}
use Rattle.thread_tree.specs.Spelling.{TakesAny, SpellsLevel, number, local, member, parenthesised, prefixed, binary, tighter}

-- an operator between two operands has a level from 1 to 7
pub between_levels : (op : Op) → prefixes op ≡ false → (1 ≤ level_of op) × (level_of op ≤ 7)
unfolding prefixes level_of
between_levels Not h = absurd (cc)
between_levels Flip h = absurd (cc)
between_levels _ h = (omega arith, omega arith)

-- an expression of a tighter level is one of each looser level
at_level : {fields : Bool} {before after : List Placed} {e : Expr} (a b : ℕ) → a ≡ b → SpellsLevel fields a before after e → SpellsLevel fields b before after e
at_level a b h s = rw (h) at s

looser : {fields : Bool} {before after : List Placed} {e : Expr} (n level : ℕ) → SpellsLevel fields (level + n) before after e → SpellsLevel fields level before after e
looser zero level s = at_level (level + 0) level (omega arith) s
looser (suc n) level s = tighter (looser n (level + 1) (at_level (level + suc n) (level + 1 + n) (omega arith) s))

-- an operand is an expression of each level
pub loose : {fields : Bool} {before after : List Placed} {e : Expr} (level : ℕ) → level ≤ 8 → SpellsLevel fields 8 before after e → SpellsLevel fields level before after e
loose level h s = looser (8 - level) level (at_level 8 (level + (8 - level)) (omega arith) s)

-- some expression of a level
abbrev pub Joined : Bool → ℕ → List Placed → List Placed → Type 0
Joined fields level before after = (e : Expr) × SpellsLevel fields level before after e

-- the operator is of this level, or of a tighter one
by_level : {P : Type 0} (a b : ℕ) → a ≤ b → (b ≡ a → P) → (a + 1 ≤ b → P) → P
by_level a b h same above = elim (cases_lt a b) [ inl l ↦ above (omega arith) | inr l ↦ same (omega arith) ]

pub joined : {fields : Bool} {level : ℕ} {before a b after : List Placed} {op : Op} {x y : Expr} → SpellsLevel fields level before a x → TakesAny (token.Operator op) a b → SpellsLevel fields (level_of op + 1) b after y → level ≤ level_of op → level_of op ≤ 7 → Joined fields level before after
joined {op = op} (number t) o r h k = absurd (omega arith)
joined {op = op} (local t) o r h k = absurd (omega arith)
joined {op = op} (member f t) o r h k = absurd (omega arith)
joined {op = op} (parenthesised p e c) o r h k = absurd (omega arith)
joined {op = op} (prefixed p t e) o r h k = absurd (omega arith)
joined {op = op} (binary {level = level} is x t y) o r h k = by_level level (level_of op) h
    (λ same. (_, binary same (binary is x t y) o (at_level (level_of op + 1) (level + 1) (omega arith) r)))
    (λ above. let j = joined y o r above k in (_, binary is x t j.1))
joined {op = op} (tighter {level = level} x) o r h k = by_level level (level_of op) h
    (λ same. (_, binary same (tighter x) o (at_level (level_of op + 1) (level + 1) (omega arith) r)))
    (λ above. let j = joined x o r above k in (_, tighter j.1))
