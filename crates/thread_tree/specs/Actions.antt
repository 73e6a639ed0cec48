-- The actions of a program, numbered from 0 in order of the text, and the state in a persistent loop.
use Rattle.std.specs.Prelude.{ℕ, Bool, List, [], ◌∷◌, ◌++◌, length, map, flat_map, filter, Option, Some, None, is_some}
use Rattle.thread_tree.specs.declared.local.Local.{Local}
use Rattle.thread_tree.specs.declared.block.Block.{Block, para-Block}
use Rattle.thread_tree.specs.declared.block.Stmt.{Stmt, out-Stmt}
use Rattle.thread_tree.specs.declared.block.Stmt.TheOpen.{Stmt-F, Block-F}
use Rattle.thread_tree.specs.declared.block.Stmt.TheOpen as stmt
use Rattle.thread_tree.specs.Program.{Program}
use Rattle.thread_tree.specs.LocalState.{Thing, LocalState, named, loop_block, turn}
use Rattle.thread_tree.specs.LocalState.Thing.{Do, End, Test, Turn}

-- an action where it stands in its body: the statement, the names of the locals in scope, and what
-- is to be done after it
pub record Spot : Type 0 where
  pub statement : Stmt
  pub scope : List ℕ
  pub rest : List Thing

-- a statement where it stands
abbrev pub spot_at : Stmt → List ℕ → List Thing → Spot
spot_at statement scope rest = record { statement = statement; scope = scope; rest = rest }

-- the names of locals, and their values
abbrev pub names_in : List Local → List ℕ
names_in locals = map (λ local. local.name) locals

abbrev pub values_of : List Local → List ℕ
values_of locals = map (λ local. local.value) locals

-- the spots in a statement, which is given with its scope and what comes after it
abbrev pub SpotsOf : Type 0
SpotsOf = Stmt → List ℕ → List Thing → List Spot

-- the spots in a block, which is given with its scope and what comes after its statements
abbrev pub SpotsIn : Type 0
SpotsIn = List ℕ → List Thing → List Spot

-- the name that a statement declares, by its layer
abbrev pub declared_by : {S B : Type 0} → Stmt-F S B → List ℕ
declared_by (stmt.Let at e) = at.name ∷ []
declared_by (stmt.Set at e) = []
declared_by (stmt.Apply to callee arguments) = []
declared_by (stmt.If e block other) = []
declared_by (stmt.While e block) = []
declared_by (stmt.Ploop place block) = []
declared_by (stmt.Break place) = []
declared_by (stmt.Return place value) = []
declared_by (stmt.Atomic place to block) = []
declared_by (stmt.Call place call to) = []

-- the spots in a block that may be left out
abbrev pub spots_if_some : Option (Block × SpotsIn) → SpotsIn
spots_if_some None scope after = []
spots_if_some (Some block) scope after = block.1 scope after

-- the spots in a statement, by its layer; a persistent loop is one itself, before those in it
abbrev pub spots_of_layer : Stmt-F (Stmt × SpotsOf) (Block × SpotsIn) → SpotsOf
spots_of_layer (stmt.Let at e) s scope rest = []
spots_of_layer (stmt.Set at e) s scope rest = []
spots_of_layer (stmt.Apply to callee arguments) s scope rest = []
spots_of_layer (stmt.If e block other) s scope rest =
    block.1 scope (End (length scope) ∷ rest) ++ spots_if_some other scope (End (length scope) ∷ rest)
spots_of_layer (stmt.While e block) s scope rest = block.1 scope (End (length scope) ∷ Test e block.0 ∷ rest)
spots_of_layer (stmt.Ploop place block) s scope rest =
    spot_at s scope rest ∷ block.1 scope (End (length scope) ∷ Turn s ∷ rest)
spots_of_layer (stmt.Break place) s scope rest = []
spots_of_layer (stmt.Return place value) s scope rest = []
spots_of_layer (stmt.Atomic place to block) s scope rest = spot_at s scope rest ∷ []
spots_of_layer (stmt.Call place call to) s scope rest = spot_at s scope rest ∷ []

-- the spots in statements one after another
abbrev pub spots_in_turn : List (Stmt × SpotsOf) → SpotsIn
spots_in_turn [] scope after = []
spots_in_turn (s ∷ ss) scope after =
    s.1 s.0 scope (map (λ t. Do t.0) ss ++ after) ++ spots_in_turn ss (scope ++ declared_by (out-Stmt s.0)) after

-- the spots in a block, by its layer
abbrev pub spots_in_layer : Block-F (Stmt × SpotsOf) (Block × SpotsIn) → SpotsIn
spots_in_layer block = spots_in_turn block.stmts

-- the spots in a block
unfoldable pub spots_in : Block → SpotsIn
spots_in = para-Block SpotsOf SpotsIn spots_of_layer spots_in_layer

-- the actions of a program where they stand
abbrev pub spots : Program → List Spot
spots p = flat_map (λ body. spots_in body.block body.parameters []) p.bodies

-- the actions of a program
abbrev pub actions : Program → List Stmt
actions p = map (λ spot. spot.statement) (spots p)

-- whether a spot is a persistent loop
abbrev pub is_loop : Spot → Bool
is_loop spot = is_some (loop_block (out-Stmt spot.statement))

-- the persistent loops of a program, numbered from 0 among themselves
abbrev pub loops : Program → List Spot
loops p = filter is_loop (spots p)

-- the state at a persistent loop whose turn comes next, with these values of the locals in scope
abbrev pub at_turn : Spot → List ℕ → LocalState
at_turn spot values = record {
  top = record { locals = named spot.scope values; todo = Turn spot.statement ∷ spot.rest; result = None };
  below = [];
}

-- the state at the first statement of a persistent loop
abbrev pub inside : Spot → List ℕ → LocalState
inside spot values = turn (at_turn spot values)
