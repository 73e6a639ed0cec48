-- How tightly the operators bind.
use Rattle.std.specs.Prelude.{ℕ}
use Rattle.thread_tree.specs.declared.expr.Op.{Op}
use Rattle.thread_tree.specs.declared.expr.Op.TheVariants.{Or, Xor, And, Same, Other, Less, AtMost, More, AtLeast, Left, Right, Plus, Minus, Times, Over, Rest, Not, Flip}
use Rattle.thread_tree.specs.declared.token.Token.{Token}
use Rattle.thread_tree.specs.declared.token.Token.TheVariants as token

-- the level of an operator between two operands, from the loosest, 1, to the tightest, 7; a prefix has 0
unfoldable pub level_of : Op → ℕ
level_of Or = 1
level_of Xor = 2
level_of And = 3
level_of Same = 4
level_of Other = 4
level_of Less = 4
level_of AtMost = 4
level_of More = 4
level_of AtLeast = 4
level_of Left = 5
level_of Right = 5
level_of Plus = 6
level_of Minus = 6
level_of Times = 7
level_of Over = 7
level_of Rest = 7
level_of Not = 0
level_of Flip = 0

-- the level of a token, 0 where it is no operator between two operands
unfoldable pub binding : Token → ℕ
binding (token.Operator op) = level_of op
binding _ = 0
