-- Which tokens spell a name, a list, an expression. Each relation speaks of the tokens from one list on,
-- `before`, up to another, `after`, which stands behind them.
use Rattle.std.specs.Prelude.{◌≡◌, ℕ, ◌+◌, Bool, true, List, [], ◌∷◌}
use Rattle.thread_tree.specs.declared.expr.Expr.{Expr}
use Rattle.thread_tree.specs.declared.expr.Expr.TheVariants as expr
use Rattle.thread_tree.specs.declared.expr.FieldOf.{FieldOf}
use Rattle.thread_tree.specs.declared.expr.FieldOf.TheVariants as field
use Rattle.thread_tree.specs.declared.expr.Op.{Op}
use Rattle.thread_tree.specs.declared.place.At.{At}
use Rattle.thread_tree.specs.declared.place.Num.{Num}
use Rattle.thread_tree.specs.declared.place.Place.{Place}
use Rattle.thread_tree.specs.declared.token.Mark.{Mark}
use Rattle.thread_tree.specs.declared.token.Mark.TheVariants as mark
use Rattle.thread_tree.specs.declared.token.Placed.{Placed}
use Rattle.thread_tree.specs.declared.token.Token.{Token}
use Rattle.thread_tree.specs.declared.token.Token.TheVariants as token
use Rattle.thread_tree.specs.Grammar.{prefixes}
use Rattle.thread_tree.specs.Levels.{level_of}
use Rattle.thread_tree.specs.Expressions as made

-- one token, at this place
pub record Takes (t : Token) (place : Place) (before after : List Placed) : Type 0 where
  pub first : before ≡ record { token = t; place = place } ∷ after

-- one token, wherever it stands
pub record TakesAny (t : Token) (before after : List Placed) : Type 0 where
  pub place : Place
  pub first : before ≡ record { token = t; place = place } ∷ after

-- how a token stands for one that a tree has at a place
abbrev pub Placing : Type 1
Placing = Token → Place → List Placed → List Placed → Type 0

-- one token, wherever it stands, whatever place the tree has for it
abbrev pub Anywhere : Placing
Anywhere t place before after = TakesAny t before after

-- one mark
abbrev pub TakesMark : Mark → List Placed → List Placed → Type 0
TakesMark m before after = TakesAny (token.Mark m) before after

-- a name, a number
abbrev pub SpellsNameBy : Placing → List Placed → List Placed → At → Type 0
SpellsNameBy T before after name = T (token.Name name.name) name.place before after

abbrev pub SpellsNumberBy : Placing → List Placed → List Placed → Num → Type 0
SpellsNumberBy T before after number = T (token.Number number.value) number.place before after

-- things with commas between them, at least one
pub data Separated {X : Type 0} (SpellsOne : List Placed → List Placed → X → Type 0) : List Placed → List Placed → List X → Type 0 where
  one : {before after : List Placed} {x : X} → SpellsOne before after x → Separated SpellsOne before after (x ∷ [])
  more : {before a b after : List Placed} {x : X} {xs : List X} → SpellsOne before a x → TakesMark mark.Comma a b → Separated SpellsOne b after xs → Separated SpellsOne before after (x ∷ xs)

-- names with commas between them
abbrev pub SpellsNamesBy : Placing → List Placed → List Placed → List At → Type 0
SpellsNamesBy T before after names = Separated (SpellsNameBy T) before after names

-- a field of a static object, or through a local and a type
pub data SpellsFieldBy (T : Placing) : List Placed → List Placed → FieldOf → Type 0 where
  static : {before a b after : List Placed} {object member : At} → SpellsNameBy T before a object → TakesMark mark.Dot a b → SpellsNameBy T b after member → SpellsFieldBy T before after (field.Static object member)
  through : {before a b c d after : List Placed} {local kind member : At} → SpellsNameBy T before a local → TakesMark mark.Dot a b → SpellsNameBy T b c kind → TakesMark mark.Dot c d → SpellsNameBy T d after member → SpellsFieldBy T before after (field.Through local kind member)

-- An expression of a level: 1 to 7 are those of the operators between two operands, from the loosest to the
-- tightest, and 8 is that of prefixes and operands. Each level goes from left to right: what stands on the
-- right of an operator is of a tighter level. Fields are read where `fields` is true.
pub data SpellsLevelBy (T : Placing) (fields : Bool) : ℕ → List Placed → List Placed → Expr → Type 0 where
  number : {before after : List Placed} {n : ℕ} → TakesAny (token.Number n) before after → SpellsLevelBy T fields 8 before after (expr.Num n)
  local : {before after : List Placed} {name : At} → SpellsNameBy T before after name → SpellsLevelBy T fields 8 before after (expr.Local name)
  member : {before after : List Placed} {f : FieldOf} → fields ≡ true → SpellsFieldBy T before after f → SpellsLevelBy T fields 8 before after (expr.Field f)
  parenthesised : {before a b after : List Placed} {e : Expr} → TakesMark mark.OpenParenthesis before a → SpellsLevelBy T fields 1 a b e → TakesMark mark.CloseParenthesis b after → SpellsLevelBy T fields 8 before after e
  prefixed : {before a after : List Placed} {op : Op} {e : Expr} → prefixes op ≡ true → TakesAny (token.Operator op) before a → SpellsLevelBy T fields 8 a after e → SpellsLevelBy T fields 8 before after (made.unary op e)
  binary : {level : ℕ} {before a b after : List Placed} {op : Op} {left right : Expr} → level_of op ≡ level → SpellsLevelBy T fields level before a left → TakesAny (token.Operator op) a b → SpellsLevelBy T fields (level + 1) b after right → SpellsLevelBy T fields level before after (made.binary op left right)
  tighter : {level : ℕ} {before after : List Placed} {e : Expr} → SpellsLevelBy T fields (level + 1) before after e → SpellsLevelBy T fields level before after e

-- an expression
abbrev pub SpellsExprBy : Placing → Bool → List Placed → List Placed → Expr → Type 0
SpellsExprBy T fields before after e = SpellsLevelBy T fields 1 before after e

-- the same with each token at the place that the tree has for it
abbrev pub SpellsName : List Placed → List Placed → At → Type 0
SpellsName = SpellsNameBy Takes

abbrev pub SpellsNumber : List Placed → List Placed → Num → Type 0
SpellsNumber = SpellsNumberBy Takes

abbrev pub SpellsNames : List Placed → List Placed → List At → Type 0
SpellsNames = SpellsNamesBy Takes

abbrev pub SpellsField : List Placed → List Placed → FieldOf → Type 0
SpellsField = SpellsFieldBy Takes

abbrev pub SpellsLevel : Bool → ℕ → List Placed → List Placed → Expr → Type 0
SpellsLevel = SpellsLevelBy Takes

abbrev pub SpellsExpr : Bool → List Placed → List Placed → Expr → Type 0
SpellsExpr = SpellsExprBy Takes
