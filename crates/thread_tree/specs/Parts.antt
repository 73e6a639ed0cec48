-- What a text may still owe: the parts of a program that its grammar speaks of.
use Rattle.std.specs.Prelude.{Bool}
use Rattle.thread_tree.specs.declared.token.Mark.{Mark}
use Rattle.thread_tree.specs.declared.token.Word.{Word}

-- A part of a program. One that may be empty, or that ends in several ways, has what stands behind it as
-- `next`, or ends with it. `fields` says whether an expression may read fields, as in a transaction.
pub data Part : Type 0 where
  -- this mark, this word, a name, a number
  TheMark : (mark : Mark) → Part
  TheWord : (word : Word) → Part
  AName : Part
  ANumber : Part
  -- further names with a comma before each, then `next`
  MoreNames : (next : Part) → Part
  -- the end of a queue's declaration
  Channel : Part
  -- parameters, or numbers, with the closing parenthesis
  Parameters : Part
  Numbers : Part
  MoreNumbers : Part
  -- a block; its further statements and closing brace; these behind the block of an `if`
  ABlock : Part
  Statements : Part
  Otherwise : Part
  -- what follows a name at a statement's beginning, the `=` there, and a name behind that
  AfterName : Part
  Assigned : Part
  AfterAssigned : Part
  -- what follows `return`, and `atomic`
  Returned : Part
  AtomicTo : Part
  -- the end of a call
  To : Part
  -- items of a `print`, and arguments with the closing parenthesis
  AnItem : Part
  MoreItems : Part
  Arguments : Part
  -- further expressions with a comma before each, then `next`
  MoreExpressions : (fields : Bool) (next : Part) → Part
  -- `self` or an expression, then `next`
  AWho : (next : Part) → Part
  -- a transaction's block; its further statements and closing brace; these behind the block of an `if`
  ATBlock : Part
  TStatements : Part
  TOtherwise : Part
  -- what follows a name at such a statement's beginning, and its `=`; a further field and the `=`
  AfterTName : Part
  TAssigned : Part
  MoreField : Part
  -- values of a `give` with the semicolon
  Values : Part
  -- an expression of its own, one in parentheses or behind an operator, what may follow an operand,
  -- a name, and a field: each time, then `next`
  Expression : (fields : Bool) (next : Part) → Part
  Inner : (fields : Bool) (next : Part) → Part
  After : (fields : Bool) (next : Part) → Part
  Dots : (next : Part) → Part
  MoreDots : (next : Part) → Part
