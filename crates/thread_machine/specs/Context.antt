-- What a context stands for: a local state of the program.
use Rattle.std.specs.Prelude.{◌≡◌, ℕ, ◌+◌, ◌-◌, ◌≤◌, Bool, true, false, if◌then◌else◌, List, [], ◌∷◌, ◌++◌, length, map, take, drop, fold, Option, Some, None, option_map, option_and_then, slice_get}
use Rattle.thread_tree.specs.declared.local.Local.{Local}
use Rattle.thread_tree.specs.declared.place.At.{At}
use Rattle.thread_tree.specs.declared.block.Block.{Block, out-Block}
use Rattle.thread_tree.specs.declared.block.Stmt.{Stmt, out-Stmt}
use Rattle.thread_tree.specs.declared.block.Stmt.TheOpen.{Stmt-F}
use Rattle.thread_tree.specs.declared.block.Stmt.TheOpen as stmt
use Rattle.thread_tree.specs.Program.{Program, Body, Function, Template, function_of}
use Rattle.thread_tree.specs.LocalState.{Thing, Frame, LocalState, with_value}
use Rattle.thread_tree.specs.LocalState.Thing.{Do, End, Test, Turn}
use Rattle.thread_machine.specs.declared.context.Ctx.{Ctx}
use Rattle.thread_machine.specs.declared.context.Cursor.{Cursor}
use Rattle.thread_machine.specs.declared.context.Way.{Way}
use Rattle.thread_machine.specs.declared.context.Way.TheVariants as way

-- a frame that waits for a call's result: how many locals it has, what is still to do in it, and
-- the name that takes its own result
pub record Waiting : Type 0 where
  pub kept : ℕ
  pub todo : List Thing
  pub result : Option ℕ

-- how many locals frames that wait have
abbrev pub kept_in : List Waiting → ℕ
kept_in [] = 0
kept_in (w ∷ ws) = w.kept + kept_in ws

-- the innermost open block: its statements, what is to be done behind them in the same body, the
-- name that takes the body's result, and the frames that wait, from the innermost outwards
pub record Level : Type 0 where
  pub stmts : List Stmt
  pub behind : List Thing
  pub result : Option ℕ
  pub waiting : List Waiting

-- the statements of a block, if there is one
abbrev pub statements : Option Block → List Stmt
statements None = []
statements (Some block) = (out-Block block).stmts

-- the body of a function
abbrev pub body_of : Function → Body
body_of function = record { parameters = function.parameters; block = function.body }

-- the body of a thread template
abbrev pub thread_body : Template → Body
thread_body template = record { parameters = template.parameters; block = template.body }

-- the block of a body, if there is one
abbrev pub block_in : Option Body → Option Block
block_in None = None
block_in (Some body) = Some body.block

-- the parameters of a body, if there is one
abbrev pub parameters_of : Option Body → List ℕ
parameters_of None = []
parameters_of (Some body) = body.parameters

-- the thing to do where a statement's block has ended, by its layer: a loop comes again
abbrev pub again_of : Stmt-F Stmt Block → Stmt → Thing
again_of (stmt.Let at e) s = Do s
again_of (stmt.Set at e) s = Do s
again_of (stmt.Apply to callee arguments) s = Do s
again_of (stmt.If e block other) s = Do s
again_of (stmt.While e block) s = Test e block
again_of (stmt.Ploop place block) s = Turn s
again_of (stmt.Break place) s = Do s
again_of (stmt.Return place value) s = Do s
again_of (stmt.Atomic place to block) s = Do s
again_of (stmt.Call place call to) s = Do s

-- whether a statement is a loop, by its layer
abbrev pub comes_again : Stmt-F Stmt Block → Bool
comes_again (stmt.Let at e) = false
comes_again (stmt.Set at e) = false
comes_again (stmt.Apply to callee arguments) = false
comes_again (stmt.If e block other) = false
comes_again (stmt.While e block) = true
comes_again (stmt.Ploop place block) = true
comes_again (stmt.Break place) = false
comes_again (stmt.Return place value) = false
comes_again (stmt.Atomic place to block) = false
comes_again (stmt.Call place call to) = false

-- whether a statement is a move, by its layer; the others are actions
abbrev pub is_move : Stmt-F Stmt Block → Bool
is_move (stmt.Let at e) = true
is_move (stmt.Set at e) = true
is_move (stmt.Apply to callee arguments) = true
is_move (stmt.If e block other) = true
is_move (stmt.While e block) = true
is_move (stmt.Ploop place block) = false
is_move (stmt.Break place) = true
is_move (stmt.Return place value) = true
is_move (stmt.Atomic place to block) = false
is_move (stmt.Call place call to) = false

-- the statements to be done, where the first one may be a loop that comes again
abbrev pub to_do : Bool → List Stmt → List Thing
to_do false stmts = map Do stmts
to_do true [] = []
to_do true (s ∷ stmts) = again_of (out-Stmt s) s ∷ map Do stmts

-- whether there is a statement and it is a loop
abbrev pub is_loop : Option Stmt → Bool
is_loop None = false
is_loop (Some s) = comes_again (out-Stmt s)

-- what is to be done at a level from a place on
abbrev pub todo_at : Level → Bool → ℕ → List Thing
todo_at l again at = to_do again (drop at l.stmts) ++ l.behind

-- the place behind a statement, where there is one
abbrev pub place_behind : Option Stmt → ℕ → ℕ
place_behind None at = at
place_behind (Some s) at = at + 1

-- the place where a level goes on when a statement's block has ended: a loop comes again
abbrev pub place_after : Option Stmt → ℕ → ℕ
place_after None at = at
place_after (Some s) at = if comes_again (out-Stmt s) then at else at + 1

-- what is to be done at a level behind the statement at a place
abbrev pub todo_behind : Level → ℕ → List Thing
todo_behind l at = todo_at l false (place_behind (slice_get l.stmts at) at)

-- what is to be done at a level when the block of the statement at a place has ended
abbrev pub todo_after : Level → ℕ → List Thing
todo_after l at = todo_at l (is_loop (slice_get l.stmts at)) (place_after (slice_get l.stmts at) at)

-- the first block of a statement, by its layer
abbrev pub first_block : Stmt-F Stmt Block → Option Block
first_block (stmt.Let at e) = None
first_block (stmt.Set at e) = None
first_block (stmt.Apply to callee arguments) = None
first_block (stmt.If e block other) = Some block
first_block (stmt.While e block) = Some block
first_block (stmt.Ploop place block) = Some block
first_block (stmt.Break place) = None
first_block (stmt.Return place value) = None
first_block (stmt.Atomic place to block) = None
first_block (stmt.Call place call to) = None

-- the block behind a statement's `else`, by its layer
abbrev pub other_block : Stmt-F Stmt Block → Option Block
other_block (stmt.Let at e) = None
other_block (stmt.Set at e) = None
other_block (stmt.Apply to callee arguments) = None
other_block (stmt.If e block other) = other
other_block (stmt.While e block) = None
other_block (stmt.Ploop place block) = None
other_block (stmt.Break place) = None
other_block (stmt.Return place value) = None
other_block (stmt.Atomic place to block) = None
other_block (stmt.Call place call to) = None

-- the body of the function that a statement calls, by its layer
abbrev pub called_body : Program → Stmt-F Stmt Block → Option Body
called_body p (stmt.Let at e) = None
called_body p (stmt.Set at e) = None
called_body p (stmt.Apply to callee arguments) = option_map body_of (function_of p callee.name)
called_body p (stmt.If e block other) = None
called_body p (stmt.While e block) = None
called_body p (stmt.Ploop place block) = None
called_body p (stmt.Break place) = None
called_body p (stmt.Return place value) = None
called_body p (stmt.Atomic place to block) = None
called_body p (stmt.Call place call to) = None

-- the local that takes the result of the function that a statement calls, by its layer
abbrev pub called_result : Stmt-F Stmt Block → Option At
called_result (stmt.Let at e) = None
called_result (stmt.Set at e) = None
called_result (stmt.Apply to callee arguments) = to
called_result (stmt.If e block other) = None
called_result (stmt.While e block) = None
called_result (stmt.Ploop place block) = None
called_result (stmt.Break place) = None
called_result (stmt.Return place value) = None
called_result (stmt.Atomic place to block) = None
called_result (stmt.Call place call to) = None

-- the block that is entered from a statement
abbrev pub block_inside : Program → Way → Stmt → Option Block
block_inside p way.First s = first_block (out-Stmt s)
block_inside p way.Else s = other_block (out-Stmt s)
block_inside p way.Call s = block_in (called_body p (out-Stmt s))

-- the name of the local that takes a call's result
abbrev pub result_name : Stmt → Option ℕ
result_name s = option_map (λ at. at.name) (called_result (out-Stmt s))

-- the level inside a block that was entered
abbrev pub level_inside : Program → Way → Level → ℕ → ℕ → Level
level_inside p way l at keep = record l {
  stmts = statements (option_and_then (block_inside p way) (slice_get l.stmts at));
  behind = End keep ∷ todo_after l at;
}

-- the level in a function that was called
abbrev pub level_called : Program → Level → ℕ → ℕ → Level
level_called p l at keep = record {
  stmts = statements (option_and_then (block_inside p way.Call) (slice_get l.stmts at));
  behind = [];
  result = option_and_then result_name (slice_get l.stmts at);
  waiting = record { kept = keep; todo = todo_behind l at; result = l.result } ∷ l.waiting;
}

-- the level that a cursor enters
abbrev pub level_by : Program → Level → ℕ → ℕ → Way → Level
level_by p l at keep way.First = level_inside p way.First l at keep
level_by p l at keep way.Else = level_inside p way.Else l at keep
level_by p l at keep way.Call = level_called p l at keep

abbrev pub level_in : Program → Level → Cursor → Level
level_in p l cursor = level_by p l cursor.at cursor.keep cursor.way

-- the body of a thread template by its number, if there is one
abbrev pub template_body : Program → ℕ → Option Body
template_body p number = option_map thread_body (slice_get p.templates number)

-- the level of the body of a number
abbrev pub outermost : Program → ℕ → Level
outermost p body = record {
  stmts = statements (block_in (slice_get p.bodies body));
  behind = [];
  result = None;
  waiting = [];
}

-- the innermost level along cursors
unfoldable pub level_along : Program → ℕ → List Cursor → Level
level_along p body cursors = fold (level_in p) (outermost p body) cursors

-- the frames that wait, over the slots of all of them
abbrev pub frames : List Local → List Waiting → List Frame
frames slots [] = []
frames slots (w ∷ ws) =
    let begin = length slots - w.kept in
    record { locals = drop begin slots; todo = w.todo; result = w.result } ∷ frames (take begin slots) ws

-- the local state at a level, with the slots before and from the base on, and what is to be done
abbrev pub state_at : Level → List Local → List Local → List Thing → LocalState
state_at l outer own todo = record {
  top = record { locals = own; todo = todo; result = l.result };
  below = frames outer l.waiting;
}

-- the level of a context
abbrev pub level_of : Program → Ctx → Level
level_of p ctx = level_along p ctx.body ctx.cursors.items

-- the local state that a context stands for
abbrev pub local_of : Program → Ctx → LocalState
local_of p ctx =
    let l = level_of p ctx in
    state_at l (take ctx.base ctx.slots.items) (drop ctx.base ctx.slots.items) (todo_at l ctx.again ctx.at)

-- the slots where a local of the innermost frame, if one is named, has a new value
abbrev pub given_slots : Option ℕ → ℕ → ℕ → List Local → List Local
given_slots None base value slots = slots
given_slots (Some name) base value slots = take base slots ++ with_value (drop base slots) name value

-- what is to be done behind the statement at which a context stands
abbrev pub rest_of : Program → Ctx → List Thing
rest_of p ctx = todo_at (level_of p ctx) false (ctx.at + 1)

-- what is to be done when the block of the statement at which a context stands has ended
abbrev pub after_of : Program → Ctx → List Thing
after_of p ctx = todo_after (level_of p ctx) ctx.at

-- the statement at which a context stands, if its innermost block has one left
abbrev pub statement_of : Program → Ctx → Option Stmt
statement_of p ctx = slice_get (level_of p ctx).stmts ctx.at

-- the slots before the base are those of the frames that wait
pub record IsCounted (p : Program) (ctx : Ctx) : Type 0 where
  pub within : ctx.base ≤ length ctx.slots.items
  pub waiting : kept_in (level_of p ctx).waiting ≡ ctx.base
