-- The bounds that a text has to keep: operators and parentheses of an expression, and open blocks.
use Rattle.std.specs.Prelude.{ℕ, ◌+◌, ◌-◌, nat_lt, if◌then◌else◌, Option, Some, None}
use Rattle.thread_tree.specs.declared.token.Mark.TheVariants.{OpenBrace, CloseBrace, OpenParenthesis, Comma, Dot}
use Rattle.thread_tree.specs.declared.token.Token.{Token}
use Rattle.thread_tree.specs.declared.token.Token.TheVariants as token
use Rattle.thread_tree.specs.Grammar.{is_between, is_mark}
use Rattle.thread_tree.specs.Parts.{Part, MoreNames, MoreExpressions, ABlock, Statements, Otherwise, Assigned, AfterAssigned, Returned, AtomicTo, AnItem, Arguments, AWho, ATBlock, TStatements, TOtherwise, TAssigned, Values, Expression, Inner, After, Dots, MoreDots}

-- how many operators and opening parentheses the expression at hand has so far, and how many blocks are open
pub record Counts : Type 0 where
  pub operators : ℕ
  pub parentheses : ℕ
  pub blocks : ℕ

-- one operator more, of at most 32
unfoldable pub one_operator : Counts → Option Counts
one_operator c = if nat_lt c.operators 32 then Some (record c { operators = c.operators + 1 }) else None

-- one parenthesis more, of at most 64
unfoldable pub one_parenthesis : Counts → Option Counts
one_parenthesis c = if nat_lt c.parentheses 64 then Some (record c { parentheses = c.parentheses + 1 }) else None

-- one open block more, of at most 24
unfoldable pub one_block : Counts → Option Counts
one_block c = if nat_lt c.blocks 24 then Some (record c { blocks = c.blocks + 1 }) else None

-- one open block less
unfoldable pub block_less : Counts → Counts
block_less c = record c { blocks = c.blocks - 1 }

-- where an expression of its own begins
unfoldable pub afresh : Counts → Counts
afresh c = record c { operators = 0; parentheses = 0 }

-- after the first token of an operand
unfoldable pub operand_counts : Token → Counts → Option Counts
operand_counts (token.Operator _) c = one_operator c
operand_counts (token.Mark OpenParenthesis) c = one_parenthesis c
operand_counts _ c = Some c

-- after a token that may begin an expression of its own
unfoldable pub own_counts : Token → Counts → Option Counts
own_counts (token.Operator _) c = one_operator (afresh c)
own_counts (token.Mark OpenParenthesis) c = one_parenthesis (afresh c)
own_counts (token.Number _) c = Some (afresh c)
own_counts (token.Name _) c = Some (afresh c)
own_counts _ c = Some c

-- after the opening brace of a block
unfoldable pub open_counts : Token → Counts → Option Counts
open_counts (token.Mark OpenBrace) c = one_block c
open_counts _ c = Some c

-- after the closing brace of a block
unfoldable pub close_counts : Token → Counts → Option Counts
close_counts (token.Mark CloseBrace) c = Some (block_less c)
close_counts _ c = Some c

-- the counts after a token that this part takes, or `None` where it passes a bound
unfoldable pub counted : Part → Token → Counts → Option Counts
counted (MoreNames next) t c = if is_mark Comma t then Some c else counted next t c
counted (MoreExpressions fields next) t c = if is_mark Comma t then Some c else counted next t c
counted ABlock t c = open_counts t c
counted Statements t c = close_counts t c
counted Otherwise t c = close_counts t c
counted Assigned t c = own_counts t c
counted AfterAssigned t c = if is_between t then one_operator c else Some c
counted Returned t c = own_counts t c
counted AtomicTo t c = open_counts t c
counted AnItem t c = own_counts t c
counted Arguments t c = own_counts t c
counted (AWho next) t c = own_counts t c
counted ATBlock t c = open_counts t c
counted TStatements t c = close_counts t c
counted TOtherwise t c = close_counts t c
counted TAssigned t c = own_counts t c
counted Values t c = own_counts t c
counted (Expression fields next) t c = own_counts t c
counted (Inner fields next) t c = operand_counts t c
counted (After fields next) t c = if is_between t then one_operator c else counted next t c
counted (Dots next) t c = if is_mark Dot t then Some c else (if is_between t then one_operator c else counted next t c)
counted (MoreDots next) t c = if is_mark Dot t then Some c else (if is_between t then one_operator c else counted next t c)
counted _ t c = Some c
