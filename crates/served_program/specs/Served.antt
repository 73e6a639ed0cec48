-- Which accepted programs `run` serves so far. What else the language has counts also where it never runs.
use Rattle.std.specs.Prelude.{ℕ, ◌==◌, nat_le, ◌&&◌, Bool, true, false, length, Option, Some, None}
use Rattle.std.specs.List.{list_all}
use Rattle.thread_tree.specs.declared.expr.Expr.{Expr, more_of-Expr, end_of-Expr}
use Rattle.thread_tree.specs.declared.expr.Expr.TheVariants as expr
use Rattle.thread_tree.specs.declared.expr.FieldOf.{FieldOf}
use Rattle.thread_tree.specs.declared.expr.FieldOf.TheVariants as field
use Rattle.thread_tree.specs.declared.action.Call.{Call}
use Rattle.thread_tree.specs.declared.action.Call.TheVariants as call
use Rattle.thread_tree.specs.declared.block.Block.{Block, fold-Block}
use Rattle.thread_tree.specs.declared.block.Stmt.{Stmt, fold-Stmt}
use Rattle.thread_tree.specs.declared.block.Stmt.TheOpen.{Stmt-F, Block-F}
use Rattle.thread_tree.specs.declared.block.Stmt.TheOpen as stmt
use Rattle.thread_tree.specs.declared.transaction.TBlock.{TBlock, fold-TBlock}
use Rattle.thread_tree.specs.declared.transaction.TStmt.{TStmt, fold-TStmt}
use Rattle.thread_tree.specs.declared.transaction.TStmt.TheOpen.{TStmt-F, TBlock-F}
use Rattle.thread_tree.specs.declared.transaction.TStmt.TheOpen as tstmt
use Rattle.thread_tree.specs.declared.tree.Decl.{Decl}
use Rattle.thread_tree.specs.declared.tree.Decl.TheVariants as decl
use Rattle.thread_tree.specs.declared.tree.Tree.{Tree}
use Rattle.thread_tree.specs.Program.{no_program, declared, program_of}

-- a field: of a static object, and none through a type
abbrev pub is_served_field : FieldOf → Bool
is_served_field (field.Static object name) = true
is_served_field (field.Through local kind name) = false

-- an expression of an `atomic` block
abbrev pub is_served_expr : Expr → Bool
is_served_expr (expr.Num value) = true
is_served_expr (expr.Local at) = true
is_served_expr (expr.Field f) = is_served_field f
is_served_expr (expr.Prefix' op p (more_of-Expr e end_of-Expr)) = is_served_expr e
is_served_expr (expr.Binary' op p (more_of-Expr x end_of-Expr) q (more_of-Expr y end_of-Expr)) = is_served_expr x && is_served_expr y

-- a block that may be left out, and passes the test where it isn't
abbrev pub if_some : {B : Type 0} → (B → Bool) → Option B → Bool
if_some block None = true
if_some block (Some b) = block b

-- a statement of an `atomic` block, by its layer, where `block` is the test of the blocks in it: no `new` and no `free`
abbrev pub is_served_tlayer : {S B : Type 0} → (B → Bool) → TStmt-F S B → Bool
is_served_tlayer block (tstmt.Let at e) = is_served_expr e
is_served_tlayer block (tstmt.LetNew at kind) = false
is_served_tlayer block (tstmt.Set at e) = is_served_expr e
is_served_tlayer block (tstmt.SetNew at kind) = false
is_served_tlayer block (tstmt.Store f e) = is_served_field f && is_served_expr e
is_served_tlayer block (tstmt.Free e) = false
is_served_tlayer block (tstmt.If e then_block else_block) = is_served_expr e && block then_block && if_some block else_block
is_served_tlayer block (tstmt.While e body) = is_served_expr e && block body
is_served_tlayer block (tstmt.Break place) = true
is_served_tlayer block (tstmt.Abort place) = true
is_served_tlayer block (tstmt.Give place es) = list_all is_served_expr es

-- a block of statements that were tested
abbrev pub is_served_tblock_layer : {B : Type 0} → TBlock-F Bool B → Bool
is_served_tblock_layer block = list_all (λ served. served) block.stmts

-- a statement of an `atomic` block
unfoldable pub is_served_tstmt : TStmt → Bool
is_served_tstmt = fold-TStmt Bool Bool (is_served_tlayer (λ served. served)) is_served_tblock_layer

-- a block of an `atomic` block, and the whole of one
unfoldable pub is_served_tblock : TBlock → Bool
is_served_tblock = fold-TBlock Bool Bool (is_served_tlayer (λ served. served)) is_served_tblock_layer

-- a call: a print, and no other
abbrev pub is_served_call : Call → Bool
is_served_call (call.Print items) = true
is_served_call _ = false

-- a statement, by its layer, where `block` is the test of the blocks in it: no persistent loop
abbrev pub is_served_layer : {S B : Type 0} → (B → Bool) → Stmt-F S B → Bool
is_served_layer block (stmt.Let at e) = true
is_served_layer block (stmt.Set at e) = true
is_served_layer block (stmt.Apply to callee arguments) = true
is_served_layer block (stmt.If e then_block else_block) = block then_block && if_some block else_block
is_served_layer block (stmt.While e body) = block body
is_served_layer block (stmt.Ploop place body) = false
is_served_layer block (stmt.Break place) = true
is_served_layer block (stmt.Return place value) = true
is_served_layer block (stmt.Atomic place to body) = is_served_tblock body
is_served_layer block (stmt.Call place c to) = is_served_call c

-- a block of statements that were tested
abbrev pub is_served_block_layer : {B : Type 0} → Block-F Bool B → Bool
is_served_block_layer block = list_all (λ served. served) block.stmts

-- a statement of a body
unfoldable pub is_served_stmt : Stmt → Bool
is_served_stmt = fold-Stmt Bool Bool (is_served_layer (λ served. served)) is_served_block_layer

-- a block of a body, and the whole of one
unfoldable pub is_served_block : Block → Bool
is_served_block = fold-Block Bool Bool (is_served_layer (λ served. served)) is_served_block_layer

-- a statement that is an action: a print or an `atomic` block, and no other
abbrev pub is_served_action : {S B : Type 0} → Stmt-F S B → Bool
is_served_action (stmt.Let at e) = false
is_served_action (stmt.Set at e) = false
is_served_action (stmt.Apply to callee arguments) = false
is_served_action (stmt.If e then_block else_block) = false
is_served_action (stmt.While e body) = false
is_served_action (stmt.Ploop place body) = false
is_served_action (stmt.Break place) = false
is_served_action (stmt.Return place value) = false
is_served_action (stmt.Atomic place to body) = is_served_tblock body
is_served_action (stmt.Call place c to) = is_served_call c

-- a declaration: a type of one field, an object, a function, a thread without parameters, a start
abbrev pub is_served_decl : Decl → Bool
is_served_decl (decl.Kind name fields) = nat_le (length fields) 1
is_served_decl (decl.Object name kind) = true
is_served_decl (decl.Queue name capacity channel) = false
is_served_decl (decl.Semaphore name count maximum) = false
is_served_decl (decl.Function name parameters body) = is_served_block body
is_served_decl (decl.Thread name parameters priority body) = length parameters == 0 && is_served_block body
is_served_decl (decl.Start place name arguments) = true

-- how many threads a declaration starts
abbrev pub starts_in : Decl → ℕ
starts_in d = length (declared d no_program).starts

-- a program: at most one thread is started
unfoldable pub is_served : Tree → Bool
is_served tree = list_all is_served_decl tree.decls && nat_le (length (program_of tree).starts) 1
