-- A list that stands in another from a place on, and how far the actions of a block stand behind its statement's.
use Rattle.std.specs.Prelude.{◌≡◌, ℕ, ◌+◌, ◌≤◌, List, [], length, take, Option, Some, None, slice_get}
use Rattle.thread_tree.specs.declared.block.Block.{Block}
use Rattle.thread_tree.specs.declared.block.Stmt.{Stmt, out-Stmt}
use Rattle.thread_tree.specs.declared.block.Stmt.TheOpen.{Stmt-F}
use Rattle.thread_tree.specs.declared.block.Stmt.TheOpen as stmt
use Rattle.thread_tree.specs.Actions.{Spot, spots_in}
use Rattle.thread_tree.specs.Program.{Body}
use Rattle.thread_machine.specs.declared.context.Way.{Way}
use Rattle.thread_machine.specs.declared.context.Way.TheVariants as way
use Rattle.thread_check.specs.ActionLists.{actions_in, actions_in_turn}

-- each item of the part stands in the whole, as many places behind the offset
pub record IsPart {A : Type 0} (part whole : List A) (offset : ℕ) : Type 0 where
  pub fits : offset + length part ≤ length whole
  pub items : (i : ℕ) (x : A) → slice_get part i ≡ Some x → slice_get whole (offset + i) ≡ Some x

-- the actions in a block, if there is one
abbrev pub actions_if_some : Option Block → List Stmt
actions_if_some None = []
actions_if_some (Some block) = actions_in block

-- the spots in a body, if there is one
abbrev pub spots_of_body : Option Body → List Spot
spots_of_body None = []
spots_of_body (Some body) = spots_in body.block body.parameters []

-- how many actions of a statement stand before those of its first block, by its layer
abbrev pub first_offset : Stmt-F Stmt Block → ℕ
first_offset (stmt.Let at e) = 0
first_offset (stmt.Set at e) = 0
first_offset (stmt.Apply to callee arguments) = 0
first_offset (stmt.If e block other) = 0
first_offset (stmt.While e block) = 0
first_offset (stmt.Ploop place block) = 1
first_offset (stmt.Break place) = 0
first_offset (stmt.Return place value) = 0
first_offset (stmt.Atomic place to block) = 0
first_offset (stmt.Call place call to) = 0

-- how many actions of a statement stand before those of the block behind its `else`, by its layer
abbrev pub other_offset : Stmt-F Stmt Block → ℕ
other_offset (stmt.Let at e) = 0
other_offset (stmt.Set at e) = 0
other_offset (stmt.Apply to callee arguments) = 0
other_offset (stmt.If e block other) = length (actions_in block)
other_offset (stmt.While e block) = 0
other_offset (stmt.Ploop place block) = 0
other_offset (stmt.Break place) = 0
other_offset (stmt.Return place value) = 0
other_offset (stmt.Atomic place to block) = 0
other_offset (stmt.Call place call to) = 0

-- where the actions of the block that is entered from the statement at a place of a block begin, if the block's own begin
-- at the offset; those of a function that is called stand elsewhere
abbrev pub IsEntered : Way → ℕ → List Stmt → ℕ → Stmt → ℕ → Type 0
IsEntered way.First offset stmts at s result = result ≡ offset + (length (actions_in_turn (take at stmts)) + first_offset (out-Stmt s))
IsEntered way.Else offset stmts at s result = result ≡ offset + (length (actions_in_turn (take at stmts)) + other_offset (out-Stmt s))
IsEntered way.Call offset stmts at s result = Unit {0}
