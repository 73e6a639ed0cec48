-- The spots in statements, one level opened.
use Rattle.std.specs.Prelude.{◌≢◌, ◌≤◌, if◌then◌else◌, ◌≡◌, ℕ, ◌^◌, ◌<◌, false, List, [], ◌∷◌, ◌++◌, length, map, flat_map, drop, filter, Option, Some, None, slice_get}
use Rattle.thread_tree.specs.declared.local.Local.{Local}
use Rattle.thread_tree.specs.Program.{Program, Body}
use Rattle.thread_tree.specs.declared.block.Block.{Block}
use Rattle.thread_tree.specs.declared.place.Place.{Place}
use Rattle.thread_tree.specs.declared.block.Stmt.{Stmt, out-Stmt}
use Rattle.thread_tree.specs.declared.block.Stmt.TheOpen.{Stmt-F}
use Rattle.thread_tree.specs.declared.block.Stmt.TheOpen as stmt
use Rattle.thread_tree.specs.LocalState.{Thing}
use Rattle.thread_tree.specs.LocalState.Thing.{Do, End, Test, Turn}
use Rattle.thread_tree.specs.Actions.{Spot, declared_by, is_loop, spots_in}
use Rattle.thread_machine.specs.declared.context.Ctx.{Ctx}
use Rattle.thread_machine.specs.declared.context.Way.{Way}
use Rattle.thread_machine.specs.declared.context.Way.TheVariants as ways
use Rattle.thread_machine.specs.Context.{again_of, block_inside, comes_again, level_of, local_of, rest_of, statement_of}
use Rattle.thread_tree.specs.Need.{callees, need_of, weight_of}
use Rattle.thread_machine.specs.Loops.{loops_from, loops_in, loops_of}
use Rattle.thread_machine.specs.Scope.{IsScoped}
use Rattle.thread_machine.specs.Within.{IsWithin}

-- the spots in a block that may be left out
abbrev pub spots_if_there : Option Block → List ℕ → List Thing → List Spot
spots_if_there None scope after = []
spots_if_there (Some block) scope after = spots_in block scope after

-- the spots in a statement, by its parts
abbrev pub spots_of : Stmt-F Stmt Block → Stmt → List ℕ → List Thing → List Spot
spots_of (stmt.Let at e) s scope rest = []
spots_of (stmt.Set at e) s scope rest = []
spots_of (stmt.Apply to callee arguments) s scope rest = []
spots_of (stmt.If e block other) s scope rest =
    spots_in block scope (End (length scope) ∷ rest) ++ spots_if_there other scope (End (length scope) ∷ rest)
spots_of (stmt.While e block) s scope rest = spots_in block scope (End (length scope) ∷ Test e block ∷ rest)
spots_of (stmt.Ploop place block) s scope rest =
    record { statement = s; scope = scope; rest = rest } ∷ spots_in block scope (End (length scope) ∷ Turn s ∷ rest)
spots_of (stmt.Break place) s scope rest = []
spots_of (stmt.Return place value) s scope rest = []
spots_of (stmt.Atomic place to block) s scope rest = record { statement = s; scope = scope; rest = rest } ∷ []
spots_of (stmt.Call place call to) s scope rest = record { statement = s; scope = scope; rest = rest } ∷ []

-- the spots in statements one after another
abbrev pub spots_from : List Stmt → List ℕ → List Thing → List Spot
spots_from [] scope after = []
spots_from (s ∷ ss) scope after =
    spots_of (out-Stmt s) s scope (map Do ss ++ after) ++ spots_from ss (scope ++ declared_by (out-Stmt s)) after

-- the names of locals
abbrev pub names_in : List Local → List ℕ
names_in locals = map (λ local. local.name) locals

-- the persistent loop of this number among those from a context's place on in its innermost block
unfoldable pub sought : Program → Ctx → ℕ → Option Spot
sought p ctx left =
    slice_get (filter is_loop (spots_from (drop ctx.at (level_of p ctx).stmts) (names_in ctx.slots.items) (level_of p ctx).behind)) left

-- a context on the way to a persistent loop: within the limits, in the body's own frame, and not behind a loop's block
pub record IsOnWay (p : Program) (ctx : Ctx) : Type 0 where
  pub few : loops_from (drop ctx.at (level_of p ctx).stmts) < 2 ^ 32
  pub again : ctx.again ≡ false
  pub base : ctx.base ≡ 0
  pub waiting : (level_of p ctx).waiting ≡ []
  pub result : (level_of p ctx).result ≡ None
  pub within : IsWithin p (local_of p ctx)
  pub scoped : IsScoped p ctx

-- what is to be done when a block of a statement has ended, by its layer
abbrev pub after_block : Stmt-F Stmt Block → Stmt → List Thing → List Thing
after_block layer s rest = if comes_again layer then again_of layer s ∷ rest else rest

-- the block of a statement that has the persistent loop of this number, and the loop's number in it
pub record IsInner (p : Program) (s : Stmt) (left : ℕ) (way : Way) (inner : ℕ) : Type 0 where
  pub block : Block
  pub enters : way ≢ ways.Call
  pub is : block_inside p way s ≡ Some block
  pub few : loops_in block ≤ loops_of (out-Stmt s)
  pub locals : (need_of (callees p) block).locals ≤ (weight_of (callees p) s).need.locals
  pub blocks : (need_of (callees p) block).blocks ≤ (weight_of (callees p) s).need.blocks
  pub spots : (scope : List ℕ) (rest : List Thing)
      → slice_get (filter is_loop (spots_of (out-Stmt s) s scope rest)) left
      ≡ slice_get (filter is_loop (spots_in block scope (End (length scope) ∷ after_block (out-Stmt s) s rest))) inner

-- a statement that is itself the persistent loop of this number among those in it
pub record IsOwn (s : Stmt) (left : ℕ) : Type 0 where
  pub place : Place
  pub block : Block
  pub is : out-Stmt s ≡ stmt.Ploop place block
  pub first : left ≡ 0

-- a context at a persistent loop
pub record IsAtLoop (p : Program) (spot : Spot) (ctx : Ctx) : Type 0 where
  pub way : IsOnWay p ctx
  pub here : statement_of p ctx ≡ Some spot.statement
  pub scope : names_in ctx.slots.items ≡ spot.scope
  pub rest : rest_of p ctx ≡ spot.rest
  pub place : Place
  pub block : Block
  pub loop : out-Stmt spot.statement ≡ stmt.Ploop place block

-- the persistent loops from the body of this number on
unfoldable pub loops_behind : Program → ℕ → List Spot
loops_behind p n = filter is_loop (flat_map (λ body. spots_in body.block body.parameters []) (drop n p.bodies))

-- the body of a number has the persistent loop, which is of this number in it
pub record IsInBody (p : Program) (spot : Spot) (number left : ℕ) : Type 0 where
  pub body : Body
  pub is : slice_get p.bodies number ≡ Some body
  pub loop : slice_get (filter is_loop (spots_in body.block body.parameters [])) left ≡ Some spot

-- a context at the begin of the body of a number
pub record IsBegun (p : Program) (ctx : Ctx) (body : Body) : Type 0 where
  pub way : IsOnWay p ctx
  pub loops : (left : ℕ) → sought p ctx left ≡ slice_get (filter is_loop (spots_in body.block body.parameters [])) left
