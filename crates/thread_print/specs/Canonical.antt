-- The canonical tokens of a tree.
use Rattle.std.specs.Prelude.{Bool, true, false, if◌then◌else◌, List, [], ◌∷◌, ◌++◌, Option, Some, None}
use Rattle.std.specs.List.{flat_map}
use Rattle.thread_tree.specs.declared.place.At.{At}
use Rattle.thread_tree.specs.declared.place.Num.{Num}
use Rattle.thread_tree.specs.declared.token.Token.{Token}
use Rattle.thread_tree.specs.declared.token.Token.TheVariants as token
use Rattle.thread_tree.specs.declared.token.Word.{Word}
use Rattle.thread_tree.specs.declared.token.Word.TheVariants as word
use Rattle.thread_tree.specs.declared.token.Mark.{Mark}
use Rattle.thread_tree.specs.declared.token.Mark.TheVariants.{OpenBrace, CloseBrace, OpenParenthesis, CloseParenthesis, OpenBracket, CloseBracket, Semicolon, Comma, Colon, Dot, Equals, Arrow}
use Rattle.thread_tree.specs.declared.expr.FieldOf.{FieldOf}
use Rattle.thread_tree.specs.declared.expr.FieldOf.TheVariants as field
use Rattle.thread_tree.specs.declared.expr.Expr.{Expr, more_of-Expr, end_of-Expr}
use Rattle.thread_tree.specs.declared.expr.Expr.TheVariants as expr
use Rattle.thread_tree.specs.declared.action.Who.{Who}
use Rattle.thread_tree.specs.declared.action.Who.TheVariants as who
use Rattle.thread_tree.specs.declared.action.Item.{Item}
use Rattle.thread_tree.specs.declared.action.Item.TheVariants as item
use Rattle.thread_tree.specs.declared.action.Call.{Call}
use Rattle.thread_tree.specs.declared.block.Block.{Block, fold-Block}
use Rattle.thread_tree.specs.declared.block.Stmt.{Stmt, fold-Stmt}
use Rattle.thread_tree.specs.declared.block.Stmt.TheOpen.{Stmt-F, Block-F}
use Rattle.thread_tree.specs.declared.block.Stmt.TheOpen as stmt
use Rattle.thread_tree.specs.declared.transaction.TBlock.{TBlock, fold-TBlock}
use Rattle.thread_tree.specs.declared.transaction.TStmt.{TStmt, fold-TStmt}
use Rattle.thread_tree.specs.declared.transaction.TStmt.TheOpen.{TStmt-F, TBlock-F}
use Rattle.thread_tree.specs.declared.transaction.TStmt.TheOpen as tstmt
use Rattle.thread_tree.specs.declared.tree.Decl.{Decl}
use Rattle.thread_tree.specs.declared.tree.Decl.TheVariants as decl
use Rattle.thread_tree.specs.declared.tree.Tree.{Tree}
use Rattle.thread_tree.specs.Pieces.{Piece, applied, itemized, named, pieces, valued, whom, word_of}

-- one token
abbrev pub name_of : At → List Token
name_of at = token.Name at.name ∷ []

abbrev pub numbered : Num → List Token
numbered num = token.Number num.value ∷ []

abbrev pub keyword : Word → List Token
keyword w = token.Word w ∷ []

abbrev pub mark : Mark → List Token
mark sign = token.Mark sign ∷ []

-- a mark where this holds, and else nothing
unfoldable pub mark_if : Bool → Mark → List Token
mark_if holds sign = if holds then token.Mark sign ∷ [] else []

-- the tokens of several with a comma between each two
abbrev pub separated : {A : Type 0} → (A → List Token) → List A → List Token
separated tokens [] = []
separated tokens (x ∷ []) = tokens x
separated tokens (x ∷ y ∷ ys) = tokens x ++ (mark Comma ++ separated tokens (y ∷ ys))

-- a prefix or binary expression
abbrev pub is_compound : Expr → Bool
is_compound (expr.Num value) = false
is_compound (expr.Local at) = false
is_compound (expr.Field f) = false
is_compound (expr.Prefix' op p (more_of-Expr e end_of-Expr)) = true
is_compound (expr.Binary' op p (more_of-Expr l end_of-Expr) q (more_of-Expr r end_of-Expr)) = true

-- an operand with these tokens: parentheses stand round a prefix or binary expression alone
abbrev pub operand : Expr → List Token → List Token
operand e tokens = mark_if (is_compound e) OpenParenthesis ++ (tokens ++ mark_if (is_compound e) CloseParenthesis)

-- a field
abbrev pub field_tokens : FieldOf → List Token
field_tokens (field.Static object name) = name_of object ++ (mark Dot ++ name_of name)
field_tokens (field.Through local kind name) = name_of local ++ (mark Dot ++ (name_of kind ++ (mark Dot ++ name_of name)))

-- an expression
abbrev pub expression : Expr → List Token
expression (expr.Num value) = token.Number value ∷ []
expression (expr.Local at) = name_of at
expression (expr.Field f) = field_tokens f
expression (expr.Prefix' op p (more_of-Expr e end_of-Expr)) = token.Operator op ∷ operand e (expression e)
expression (expr.Binary' op p (more_of-Expr l end_of-Expr) q (more_of-Expr r end_of-Expr)) = operand l (expression l) ++ token.Operator op ∷ operand r (expression r)

-- names, numbers and expressions with commas between
abbrev pub names : List At → List Token
names ats = separated name_of ats

abbrev pub numbers : List Num → List Token
numbers nums = separated numbered nums

abbrev pub expressions : List Expr → List Token
expressions es = separated expression es

-- the same with what closes them
abbrev pub arguments : List Expr → List Token
arguments es = expressions es ++ mark CloseParenthesis

abbrev pub parameters : List At → List Token
parameters ats = names ats ++ mark CloseParenthesis

abbrev pub start_values : List Num → List Token
start_values nums = numbers nums ++ mark CloseParenthesis

abbrev pub values : List Expr → List Token
values es = expressions es ++ mark Semicolon

-- names behind an arrow, where there are some
abbrev pub to : List At → List Token
to [] = []
to (at ∷ ats) = mark Arrow ++ names (at ∷ ats)

-- the end of a call, with the names that get its results
abbrev pub results : List At → List Token
results ats = to ats ++ mark Semicolon

-- an item of a `print`
abbrev pub item_tokens : Item → List Token
item_tokens (item.Text place text) = token.Text text ∷ []
item_tokens (item.Value place e) = expression e

-- the thread that a call speaks of
abbrev pub who_tokens : Who → List Token
who_tokens who.Own = keyword word.Own
who_tokens (who.Of e) = expression e

-- a piece of a kernel call
abbrev pub piece_tokens : Piece → List Token
piece_tokens (named needed at) = name_of at
piece_tokens (valued e) = expression e
piece_tokens (whom w) = who_tokens w
piece_tokens (itemized items) = separated item_tokens items
piece_tokens (applied template es) = name_of template ++ (mark OpenParenthesis ++ arguments es)

-- a kernel call: its word, and its pieces with commas between
abbrev pub call_tokens : Call → List Token
call_tokens c = keyword (word_of c) ++ separated piece_tokens (pieces c)

-- statements in braces
abbrev pub braced : {S : Type 0} → (S → List Token) → List S → List Token
braced tokens stmts = mark OpenBrace ++ (flat_map tokens stmts ++ mark CloseBrace)

-- a name that gets the value of an expression, and one that gets a new object
abbrev pub assigned : At → Expr → List Token
assigned at e = name_of at ++ (mark Equals ++ (expression e ++ mark Semicolon))

abbrev pub assigned_new : At → At → List Token
assigned_new at kind = name_of at ++ (mark Equals ++ (keyword word.New ++ (name_of kind ++ mark Semicolon)))

-- a word that is a statement of its own
abbrev pub alone : Word → List Token
alone w = keyword w ++ mark Semicolon

-- a field that gets the value of an expression, and an object that is freed
abbrev pub stored : FieldOf → Expr → List Token
stored f e = field_tokens f ++ (mark Equals ++ (expression e ++ mark Semicolon))

abbrev pub freed : Expr → List Token
freed e = keyword word.Free ++ (expression e ++ mark Semicolon)

-- a statement of an `atomic` block, by its layer, where `block` gives the tokens of the blocks in it
abbrev pub tstatement_layer : {S B : Type 0} → (B → List Token) → TStmt-F S B → List Token
tstatement_layer block (tstmt.Let at e) = keyword word.Let ++ assigned at e
tstatement_layer block (tstmt.LetNew at kind) = keyword word.Let ++ assigned_new at kind
tstatement_layer block (tstmt.Set at e) = assigned at e
tstatement_layer block (tstmt.SetNew at kind) = assigned_new at kind
tstatement_layer block (tstmt.Store f e) = stored f e
tstatement_layer block (tstmt.Free e) = freed e
tstatement_layer block (tstmt.If e then_block None) = keyword word.If ++ (expression e ++ block then_block)
tstatement_layer block (tstmt.If e then_block (Some else_block)) = keyword word.If ++ (expression e ++ (block then_block ++ (keyword word.Else ++ block else_block)))
tstatement_layer block (tstmt.While e body) = keyword word.While ++ (expression e ++ block body)
tstatement_layer block (tstmt.Break place) = alone word.Break
tstatement_layer block (tstmt.Abort place) = alone word.Abort
tstatement_layer block (tstmt.Give place es) = keyword word.Give ++ values es

-- a block of these, by its layer
abbrev pub tblock_layer : {B : Type 0} → TBlock-F (List Token) B → List Token
tblock_layer block = braced (λ tokens. tokens) block.stmts

unfoldable pub tstatement : TStmt → List Token
tstatement = fold-TStmt (List Token) (List Token) (tstatement_layer (λ tokens. tokens)) tblock_layer

unfoldable pub tblock : TBlock → List Token
tblock = fold-TBlock (List Token) (List Token) (tstatement_layer (λ tokens. tokens)) tblock_layer

-- such a statement by what it is made of
abbrev pub tstatement_parts : TStmt-F TStmt TBlock → List Token
tstatement_parts stmt = tstatement_layer tblock stmt

abbrev pub tblock_parts : TBlock-F TStmt TBlock → List Token
tblock_parts block = braced tstatement block.stmts

-- what a call's result is given to
abbrev pub result_to : Option At → List Token
result_to None = []
result_to (Some at) = name_of at ++ mark Equals

-- an expression that may be left out
abbrev pub value_of : Option Expr → List Token
value_of None = []
value_of (Some e) = expression e

-- a function that is applied, a `return` and an `atomic`
abbrev pub application : Option At → At → List Expr → List Token
application at function es = result_to at ++ (name_of function ++ (mark OpenParenthesis ++ (arguments es ++ mark Semicolon)))

abbrev pub returned : Option Expr → List Token
returned value = keyword word.Return ++ (value_of value ++ mark Semicolon)

abbrev pub atomically : List At → TBlock → List Token
atomically ats body = keyword word.Atomic ++ (to ats ++ tblock body)

-- a statement, by its layer
abbrev pub statement_layer : {S B : Type 0} → (B → List Token) → Stmt-F S B → List Token
statement_layer block (stmt.Let at e) = keyword word.Let ++ assigned at e
statement_layer block (stmt.Set at e) = assigned at e
statement_layer block (stmt.Apply at function es) = application at function es
statement_layer block (stmt.If e then_block None) = keyword word.If ++ (expression e ++ block then_block)
statement_layer block (stmt.If e then_block (Some else_block)) = keyword word.If ++ (expression e ++ (block then_block ++ (keyword word.Else ++ block else_block)))
statement_layer block (stmt.While e body) = keyword word.While ++ (expression e ++ block body)
statement_layer block (stmt.Ploop place body) = keyword word.Ploop ++ block body
statement_layer block (stmt.Break place) = alone word.Break
statement_layer block (stmt.Return place value) = returned value
statement_layer block (stmt.Atomic place ats body) = atomically ats body
statement_layer block (stmt.Call place action ats) = call_tokens action ++ results ats

-- a block, by its layer
abbrev pub block_layer : {B : Type 0} → Block-F (List Token) B → List Token
block_layer block = braced (λ tokens. tokens) block.stmts

unfoldable pub statement : Stmt → List Token
statement = fold-Stmt (List Token) (List Token) (statement_layer (λ tokens. tokens)) block_layer

unfoldable pub block : Block → List Token
block = fold-Block (List Token) (List Token) (statement_layer (λ tokens. tokens)) block_layer

-- a statement and a block by what they are made of
abbrev pub statement_parts : Stmt-F Stmt Block → List Token
statement_parts stmt = statement_layer block stmt

abbrev pub block_parts : Block-F Stmt Block → List Token
block_parts block = braced statement block.stmts

-- the channel of a queue that has one
abbrev pub input : Option Num → List Token
input None = []
input (Some channel) = keyword word.Input ++ numbered channel

-- the end of a queue's declaration
abbrev pub channel_end : Option Num → List Token
channel_end channel = input channel ++ mark Semicolon

-- what stands behind `type`, `queue` and `semaphore`
abbrev pub type_tokens : At → List At → List Token
type_tokens name fields = name_of name ++ (mark OpenBrace ++ (names fields ++ mark CloseBrace))

abbrev pub queue_tokens : At → Num → Option Num → List Token
queue_tokens name capacity channel = name_of name ++ (mark OpenBracket ++ (numbered capacity ++ (mark CloseBracket ++ channel_end channel)))

abbrev pub semaphore_tokens : At → Num → Num → List Token
semaphore_tokens name count most = name_of name ++ (mark Equals ++ (numbered count ++ (keyword word.Max ++ (numbered most ++ mark Semicolon))))

-- the word that a declaration begins with, and what stands behind it
abbrev pub first_word : Decl → Word
first_word (decl.Kind name fields) = word.«Type»
first_word (decl.Object name kind) = word.Object
first_word (decl.Queue name capacity channel) = word.Queue
first_word (decl.Semaphore name count most) = word.Semaphore
first_word (decl.Function name parameters body) = word.Fn
first_word (decl.Thread name parameters priority body) = word.Thread
first_word (decl.Start place template arguments) = word.Start

abbrev pub behind_word : Decl → List Token
behind_word (decl.Kind name fields) = type_tokens name fields
behind_word (decl.Object name kind) = name_of name ++ (mark Colon ++ (name_of kind ++ mark Semicolon))
behind_word (decl.Queue name capacity channel) = queue_tokens name capacity channel
behind_word (decl.Semaphore name count most) = semaphore_tokens name count most
behind_word (decl.Function name ats body) = name_of name ++ (mark OpenParenthesis ++ (parameters ats ++ block body))
behind_word (decl.Thread name ats priority body) = name_of name ++ (mark OpenParenthesis ++ (parameters ats ++ (keyword word.Priority ++ (numbered priority ++ block body))))
behind_word (decl.Start place template nums) = name_of template ++ (mark OpenParenthesis ++ (start_values nums ++ mark Semicolon))

-- a declaration
abbrev pub declaration : Decl → List Token
declaration d = token.Word (first_word d) ∷ behind_word d

-- the canonical tokens of a tree
abbrev pub canonical : Tree → List Token
canonical tree = flat_map declaration tree.decls
