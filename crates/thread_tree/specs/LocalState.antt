-- The local state of a thread: what its locals hold, what is still to do, and its moves.
use Rattle.std.specs.Prelude.{ℕ, ◌==◌, if◌then◌else◌, List, [], ◌∷◌, ◌++◌, length, map, take, reverse, flat_map, Option, Some, None, option_map}
use Rattle.thread_tree.specs.declared.local.Local.{Local}
use Rattle.thread_tree.specs.declared.place.At.{At}
use Rattle.thread_tree.specs.declared.expr.Expr.{Expr}
use Rattle.thread_tree.specs.declared.block.Block.{Block, out-Block}
use Rattle.thread_tree.specs.declared.block.Stmt.{Stmt, out-Stmt}
use Rattle.thread_tree.specs.declared.block.Stmt.TheOpen.{Stmt-F}
use Rattle.thread_tree.specs.declared.block.Stmt.TheOpen as stmt
use Rattle.thread_tree.specs.Program.{Program, Function, Template, function_of}
use Rattle.thread_tree.specs.Value.{value_of, values_in}
use Rattle.thread_tree.specs.Kinds.{Action, action_of}

-- a thing still to do
pub data Thing : Type 0 where
  -- a statement
  Do : Stmt → Thing
  -- the end of a block, after which so many locals are kept
  End : ℕ → Thing
  -- the test of a `while`, and the block that it may enter
  Test : Expr → Block → Thing
  -- the turn of a persistent loop, which is the statement
  Turn : Stmt → Thing

-- a thread's body, or a called function's: the locals in scope in order of declaration, what is
-- still to do, and the caller's local that takes the result
pub record Frame : Type 0 where
  pub locals : List Local
  pub todo : List Thing
  pub result : Option ℕ

-- the frame that runs, and those of its callers from the innermost outwards
pub record LocalState : Type 0 where
  pub top : Frame
  pub below : List Frame

-- the statements of a block, to be done
abbrev pub things : Block → List Thing
things block = map Do (out-Block block).stmts

-- locals with these names and values
abbrev pub named : List ℕ → List ℕ → List Local
named [] values = []
named (name ∷ names) [] = []
named (name ∷ names) (value ∷ values) = record { name = name; value = value } ∷ named names values

-- the locals where the local of a name has a new value
abbrev pub with_value : List Local → ℕ → ℕ → List Local
with_value [] name value = []
with_value (local ∷ locals) name value =
    if local.name == name then record { name = name; value = value } ∷ locals else local ∷ with_value locals name value

-- the locals where names have new values, one after another
abbrev pub with_values : List Local → List ℕ → List ℕ → List Local
with_values locals [] values = locals
with_values locals (name ∷ names) [] = locals
with_values locals (name ∷ names) (value ∷ values) = with_values (with_value locals name value) names values

-- the frame where a result is given to a name, if there is one
abbrev pub given_to : Option ℕ → ℕ → Frame → Frame
given_to None value frame = frame
given_to (Some name) value frame = record frame { locals = with_value frame.locals name value }

-- the state that goes on with these things to do
abbrev pub going_on : LocalState → List Thing → LocalState
going_on s todo = record s { top = record s.top { todo = todo } }

-- the state in a block that was entered, with what comes after the block's end
abbrev pub entered : LocalState → Block → List Thing → LocalState
entered s block after = going_on s (things block ++ End (length s.top.locals) ∷ after)

-- the state after a value is returned to the caller; in a thread's own frame nothing is left to do
abbrev pub returned : LocalState → ℕ → LocalState
returned s value = elim s.below [
  | [] ↦ going_on s []
  | frame ∷ frames ↦ record { top = given_to s.top.result value frame; below = frames }
]

-- a choice by the value of an expression, where 0 is false
abbrev pub chosen_by : {X : Type 0} → ℕ → X → X → X
chosen_by value taken passed = if value == 0 then passed else taken

-- after a test of a `while`: its block, then the test again, or what follows
abbrev pub tested : LocalState → Expr → Block → List Thing → LocalState
tested s e block rest =
    chosen_by (value_of s.top.locals e) (entered s block (Test e block ∷ rest)) (going_on s rest)

-- after an `if`: the block that it chooses, or what follows
abbrev pub branched : LocalState → Expr → Block → Option Block → List Thing → LocalState
branched s e block other rest =
    chosen_by (value_of s.top.locals e) (entered s block rest)
    (elim other [ None ↦ going_on s rest | Some block ↦ entered s block rest ])

-- after a `break`: what follows the innermost loop, without the locals of the blocks that are left
abbrev pub broken : List Local → List Thing → List Local × List Thing
broken locals [] = (locals, [])
broken locals (Do s ∷ todo) = broken locals todo
broken locals (End keep ∷ todo) = broken (take keep locals) todo
broken locals (Test e block ∷ todo) = (locals, todo)
broken locals (Turn s ∷ todo) = (locals, todo)

-- the state after a `break`
abbrev pub broken_off : LocalState → List Thing → LocalState
broken_off s todo =
    record s { top = record s.top { locals = (broken s.top.locals todo).0; todo = (broken s.top.locals todo).1 } }

-- the locals and the caller's name for the result of a function that was called
abbrev pub frame_of : Function → List ℕ → Option ℕ → Frame
frame_of function arguments result = record {
  locals = named function.parameters arguments;
  todo = things function.body;
  result = result;
}

-- the state in a function that was called; one that isn't declared is passed by
abbrev pub called : Program → LocalState → Option At → At → List Expr → List Thing → LocalState
called p s to callee arguments rest = elim (function_of p callee.name) [
  | None ↦ going_on s rest
  | Some function ↦ record {
    top = frame_of function (values_in s.top.locals arguments) (option_map (λ at. at.name) to);
    below = (going_on s rest).top ∷ s.below;
  }
]

-- the state where a local was declared
abbrev pub declared_local : LocalState → ℕ → ℕ → List Thing → LocalState
declared_local s name value rest = record s {
  top = record s.top { locals = s.top.locals ++ record { name = name; value = value } ∷ []; todo = rest };
}

-- the state where a local was assigned
abbrev pub assigned : LocalState → ℕ → ℕ → List Thing → LocalState
assigned s name value rest = record s {
  top = record s.top { locals = with_value s.top.locals name value; todo = rest };
}

-- the move that a statement is, with what follows it; an action is none
abbrev pub moved_by : Program → LocalState → List Thing → Stmt-F Stmt Block → Option LocalState
moved_by p s rest (stmt.Let at e) = Some (declared_local s at.name (value_of s.top.locals e) rest)
moved_by p s rest (stmt.Set at e) = Some (assigned s at.name (value_of s.top.locals e) rest)
moved_by p s rest (stmt.Apply to callee arguments) = Some (called p s to callee arguments rest)
moved_by p s rest (stmt.If e block other) = Some (branched s e block other rest)
moved_by p s rest (stmt.While e block) = Some (tested s e block rest)
moved_by p s rest (stmt.Ploop place block) = None
moved_by p s rest (stmt.Break place) = Some (broken_off s rest)
moved_by p s rest (stmt.Return place value) =
    Some (returned s (elim value [ None ↦ 0 | Some e ↦ value_of s.top.locals e ]))
moved_by p s rest (stmt.Atomic place to block) = None
moved_by p s rest (stmt.Call place call to) = None

-- the state after the end of a block
abbrev pub ended : LocalState → ℕ → List Thing → LocalState
ended s keep rest = record s { top = record s.top { locals = take keep s.top.locals; todo = rest } }

-- the state after the end of a function's body, whose result is then 0; a thread's end is no move
abbrev pub finished : LocalState → Option LocalState
finished s = elim s.below [ [] ↦ None | frame ∷ frames ↦ Some (returned s 0) ]

-- one move; none at an action and at the end of a thread
abbrev pub moved : Program → LocalState → List Thing → Option LocalState
moved p s [] = finished s
moved p s (Do statement ∷ rest) = moved_by p s rest (out-Stmt statement)
moved p s (End keep ∷ rest) = Some (ended s keep rest)
moved p s (Test e block ∷ rest) = Some (tested s e block rest)
moved p s (Turn statement ∷ rest) = None

abbrev pub move : Program → LocalState → Option LocalState
move p s = moved p s s.top.todo

-- the statement whose action comes next, where no move does
abbrev pub next_statement : List Thing → Option Stmt
next_statement [] = None
next_statement (Do statement ∷ rest) = Some statement
next_statement (End keep ∷ rest) = None
next_statement (Test e block ∷ rest) = None
next_statement (Turn statement ∷ rest) = Some statement

-- the action that comes next
abbrev pub next_action : Program → LocalState → Option Action
next_action p s = elim (next_statement s.top.todo) [ None ↦ None | Some statement ↦ action_of p statement ]

-- what follows the first thing to do
abbrev pub after_first : List Thing → List Thing
after_first [] = []
after_first (thing ∷ rest) = rest

-- the names that take the results of the action that comes next
abbrev pub next_names : Program → LocalState → List ℕ
next_names p s = elim (next_action p s) [ None ↦ [] | Some action ↦ action.names ]

-- the state after the action that came next had these results
abbrev pub bind : Program → LocalState → List ℕ → LocalState
bind p s results = record s {
  top = record s.top {
    locals = with_values s.top.locals (next_names p s) results;
    todo = after_first s.top.todo;
  };
}

-- the block of a persistent loop
abbrev pub loop_block : Stmt-F Stmt Block → Option Block
loop_block (stmt.Let at e) = None
loop_block (stmt.Set at e) = None
loop_block (stmt.Apply to callee arguments) = None
loop_block (stmt.If e block other) = None
loop_block (stmt.While e block) = None
loop_block (stmt.Ploop place block) = Some block
loop_block (stmt.Break place) = None
loop_block (stmt.Return place value) = None
loop_block (stmt.Atomic place to block) = None
loop_block (stmt.Call place call to) = None

-- a turn of a persistent loop: its block, then its turn again
abbrev pub turned : LocalState → Stmt → List Thing → LocalState
turned s statement rest = elim (loop_block (out-Stmt statement)) [
  | None ↦ s
  | Some block ↦ entered s block (Turn statement ∷ rest)
]

-- the state after the turn that comes next
abbrev pub turn : LocalState → LocalState
turn s = elim (next_statement s.top.todo) [ None ↦ s | Some statement ↦ turned s statement (after_first s.top.todo) ]

-- the birth of a thread: its arguments, and the body to do
abbrev pub birth : Template → List ℕ → LocalState
birth template arguments = record {
  top = record { locals = named template.parameters arguments; todo = things template.body; result = None };
  below = [];
}

-- the locals in scope, from the outermost frame inwards
abbrev pub locals_of : LocalState → List Local
locals_of s = flat_map (λ frame. frame.locals) (reverse (s.top ∷ s.below))
