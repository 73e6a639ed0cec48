-- The value of an expression over the locals in scope.
use Rattle.std.specs.Prelude.{ℕ, ◌+◌, ◌-◌, ◌*◌, ◌/◌, ◌%◌, ◌^◌, ◌==◌, nat_lt, nat_le, not, Bool, if◌then◌else◌, List, [], ◌∷◌, map, bit_and, bit_or, bit_xor}
use Rattle.thread_tree.specs.declared.local.Local.{Local}
use Rattle.thread_tree.specs.declared.expr.Op.{Op}
use Rattle.thread_tree.specs.declared.expr.Op.TheVariants as op
use Rattle.thread_tree.specs.declared.expr.Expr.{Expr, more_of-Expr, end_of-Expr}
use Rattle.thread_tree.specs.declared.expr.Expr.TheVariants as expr

-- the number of values: 2^32
abbrev pub values : ℕ
values = 2 ^ 32

-- a comparison's value
abbrev pub truth : Bool → ℕ
truth b = if b then 1 else 0

-- the value of a quotient; by 0 it is the greatest value
abbrev pub over : ℕ → ℕ → ℕ
over x y = if y == 0 then values - 1 else x / y

-- the value of a remainder; by 0 it is the dividend
abbrev pub rest : ℕ → ℕ → ℕ
rest x y = if y == 0 then x else x % y

-- an operator between two values; a prefix takes the second alone
abbrev pub applied : Op → ℕ → ℕ → ℕ
applied op.Or x y = bit_or x y
applied op.Xor x y = bit_xor x y
applied op.And x y = bit_and x y
applied op.Same x y = truth (x == y)
applied op.Other x y = truth (not (x == y))
applied op.Less x y = truth (nat_lt x y)
applied op.AtMost x y = truth (nat_le x y)
applied op.More x y = truth (nat_lt y x)
applied op.AtLeast x y = truth (nat_le y x)
applied op.Left x y = x * 2 ^ (y % 32) % values
applied op.Right x y = x / 2 ^ (y % 32)
applied op.Plus x y = (x + y) % values
applied op.Minus x y = (x + values - y) % values
applied op.Times x y = x * y % values
applied op.Over x y = over x y
applied op.Rest x y = rest x y
applied op.Not x y = truth (y == 0)
applied op.Flip x y = values - 1 - y

-- the value of a local, found by its name; 0 where none has the name
abbrev pub value_in : List Local → ℕ → ℕ
value_in [] name = 0
value_in (local ∷ locals) name = if local.name == name then local.value else value_in locals name

-- the value of an expression; a field, which can stand in a transaction alone, counts as 0 here
abbrev pub value_of : List Local → Expr → ℕ
value_of locals (expr.Num value) = value
value_of locals (expr.Local at) = value_in locals at.name
value_of locals (expr.Field field) = 0
value_of locals (expr.Prefix' op p (more_of-Expr e end_of-Expr)) = applied op 0 (value_of locals e)
value_of locals (expr.Binary' op p (more_of-Expr x end_of-Expr) q (more_of-Expr y end_of-Expr)) = applied op (value_of locals x) (value_of locals y)

-- the values of expressions
abbrev pub values_in : List Local → List Expr → List ℕ
values_in locals expressions = map (value_of locals) expressions
