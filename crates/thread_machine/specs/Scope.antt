-- The names in scope along the cursors of a context, and when a context keeps them.
use Rattle.std.specs.Prelude.{◌≡◌, ℕ, ◌+◌, List, [], ◌∷◌, ◌++◌, length, take, fold, Option, Some, None, option_map, slice_get}
use Rattle.thread_tree.specs.declared.local.Local.{Local}
use Rattle.thread_tree.specs.declared.block.Block.{Block}
use Rattle.thread_tree.specs.declared.block.Stmt.{Stmt, out-Stmt}
use Rattle.thread_tree.specs.declared.block.Stmt.TheOpen.{Stmt-F}
use Rattle.thread_tree.specs.declared.block.Stmt.TheOpen as stmt
use Rattle.thread_tree.specs.Program.{Program, function_of}
use Rattle.thread_tree.specs.Actions.{declared_by, names_in}
use Rattle.thread_machine.specs.declared.context.Ctx.{Ctx}
use Rattle.thread_machine.specs.declared.context.Cursor.{Cursor}
use Rattle.thread_machine.specs.declared.context.Way.{Way}
use Rattle.thread_machine.specs.declared.context.Way.TheVariants as way
use Rattle.thread_machine.specs.Context.{Level, body_of, level_in, outermost, parameters_of}

-- the names that statements declare, one after another
abbrev pub declared_in : List Stmt → List ℕ
declared_in [] = []
declared_in (s ∷ ss) = declared_by (out-Stmt s) ++ declared_in ss

-- an open block, the names of the locals of the frames that wait, and those in scope where the block begins
pub record Opened : Type 0 where
  pub level : Level
  pub outer : List ℕ
  pub scope : List ℕ

-- the names in scope at a statement of the block
abbrev pub scope_at : Opened → ℕ → List ℕ
scope_at opened at = opened.scope ++ declared_in (take at opened.level.stmts)

-- the names that a call of a function declares, by the statement's layer
abbrev pub called_names : Program → Stmt-F Stmt Block → List ℕ
called_names p (stmt.Let at e) = []
called_names p (stmt.Set at e) = []
called_names p (stmt.Apply to callee arguments) = take (length arguments) (parameters_of (option_map body_of (function_of p callee.name)))
called_names p (stmt.If e block other) = []
called_names p (stmt.While e block) = []
called_names p (stmt.Ploop place block) = []
called_names p (stmt.Break place) = []
called_names p (stmt.Return place value) = []
called_names p (stmt.Atomic place to block) = []
called_names p (stmt.Call place call to) = []

-- the names that the call at a place of a block declares, if a call stands there
abbrev pub names_called : Program → Option Stmt → List ℕ
names_called p None = []
names_called p (Some s) = called_names p (out-Stmt s)

-- the names of the frames that wait, and the names in scope, where a cursor's block begins
abbrev pub outer_by : Opened → ℕ → Way → List ℕ
outer_by opened at way.First = opened.outer
outer_by opened at way.Else = opened.outer
outer_by opened at way.Call = opened.outer ++ scope_at opened at

abbrev pub scope_by : Program → Opened → ℕ → Way → List ℕ
scope_by p opened at way.First = scope_at opened at
scope_by p opened at way.Else = scope_at opened at
scope_by p opened at way.Call = names_called p (slice_get opened.level.stmts at)

abbrev pub opened_in : Program → Opened → Cursor → Opened
opened_in p opened cursor = record {
  level = level_in p opened.level cursor;
  outer = outer_by opened cursor.at cursor.way;
  scope = scope_by p opened cursor.at cursor.way;
}

-- the body of a number, with its parameters
abbrev pub begin_of : Program → ℕ → Opened
begin_of p body = record { level = outermost p body; outer = []; scope = parameters_of (slice_get p.bodies body) }

-- the innermost open block along cursors
unfoldable pub opened_along : Program → ℕ → List Cursor → Opened
opened_along p body cursors = fold (opened_in p) (begin_of p body) cursors

-- a cursor keeps as many locals as are in scope where it stands, and its statement declares none
pub record IsKept (opened : Opened) (cursor : Cursor) : Type 0 where
  pub keep : cursor.keep ≡ length (scope_at opened cursor.at)
  pub plain : scope_at opened (cursor.at + 1) ≡ scope_at opened cursor.at

-- each cursor does, from an open block inwards
abbrev pub AreKept : Program → Opened → List Cursor → Type 0
AreKept p opened [] = Unit {0}
AreKept p opened (c ∷ cs) = IsKept opened c × AreKept p (opened_in p opened c) cs

-- the slots have the names in scope along these cursors: at the begin of the innermost block, and where a statement is
-- left in it, there too; behind a `break` or `return` that ends a body none is left
pub record IsScopedBy (p : Program) (body : ℕ) (cursors : List Cursor) (slots : List Local) (base at : ℕ) : Type 0 where
  pub kept : AreKept p (begin_of p body) cursors
  pub outer : base ≡ length (opened_along p body cursors).outer
  pub begin : take (base + length (opened_along p body cursors).scope) (names_in slots)
      ≡ (opened_along p body cursors).outer ++ (opened_along p body cursors).scope
  pub here : (s : Stmt) → slice_get (opened_along p body cursors).level.stmts at ≡ Some s
      → names_in slots ≡ (opened_along p body cursors).outer ++ scope_at (opened_along p body cursors) at

-- the locals of a context are those in scope where it stands
abbrev pub IsScoped : Program → Ctx → Type 0
IsScoped p ctx = IsScopedBy p ctx.body ctx.cursors.items ctx.slots.items ctx.base ctx.at

-- the slots begin with the names in scope where the innermost block along these cursors begins, whatever stands behind
pub record IsOpenBy (p : Program) (body : ℕ) (cursors : List Cursor) (slots : List Local) (base : ℕ) : Type 0 where
  pub kept : AreKept p (begin_of p body) cursors
  pub outer : base ≡ length (opened_along p body cursors).outer
  pub begin : take (base + length (opened_along p body cursors).scope) (names_in slots)
      ≡ (opened_along p body cursors).outer ++ (opened_along p body cursors).scope

-- those of a context do
abbrev pub IsOpen : Program → Ctx → Type 0
IsOpen p ctx = IsOpenBy p ctx.body ctx.cursors.items ctx.slots.items ctx.base
