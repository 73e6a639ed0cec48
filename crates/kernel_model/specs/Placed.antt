-- A local state whose things to do stand where the program has them, with the locals in scope that it says.
use Rattle.std.specs.Prelude.{◌≡◌, ℕ, Bool, true, false, ⊤, List, [], ◌∷◌, ◌++◌, length, take, Contains, Option, Some, None}
use Rattle.std.specs.List.{AllByRecursion}
use Rattle.thread_tree.specs.declared.block.Block.{Block}
use Rattle.thread_tree.specs.declared.block.Stmt.{Stmt, out-Stmt, para-Stmt}
use Rattle.thread_tree.specs.Program.{Program}
use Rattle.thread_tree.specs.LocalState.{Thing, Frame, LocalState, loop_block}
use Rattle.thread_tree.specs.LocalState.Thing.{Do, End, Test, Turn}
use Rattle.thread_tree.specs.Actions.{Spot, spot_at, names_in, SpotsOf, SpotsIn, spots_of_layer, spots_in_layer, spots_in, declared_by, spots}

-- the spots of a statement
unfoldable pub spots_of : Stmt → SpotsOf
spots_of = para-Stmt SpotsOf SpotsIn spots_of_layer spots_in_layer

-- these are spots of the program
abbrev pub AreSpots : Program → List Spot → Type 0
AreSpots p these = AllByRecursion (Contains (spots p)) these

-- the loop of a turn stands where the program has it, and so does what is in its block
abbrev pub IsLoopAt : Program → Stmt → List ℕ → List Thing → Option Block → Type 0
IsLoopAt p s scope rest None = ⊥
IsLoopAt p s scope rest (Some block) =
    Contains (spots p) (spot_at s scope rest) × AreSpots p (spots_in block scope (End (length scope) ∷ Turn s ∷ rest))

-- things to do with these names in scope stand where the program has them; or, after a `break`, those do that are
-- left of them
abbrev pub StandAt : Program → Bool → List ℕ → List Thing → Type 0
StandAt p broken scope [] = ⊤
StandAt p false scope (Do s ∷ rest) =
    AreSpots p (spots_of s s scope rest) × StandAt p false (scope ++ declared_by (out-Stmt s)) rest × StandAt p true scope rest
StandAt p true scope (Do s ∷ rest) = StandAt p true scope rest
StandAt p broken scope (End keep ∷ rest) = StandAt p broken (take keep scope) rest
StandAt p false scope (Test e block ∷ rest) =
    AreSpots p (spots_in block scope (End (length scope) ∷ Test e block ∷ rest)) × StandAt p false scope rest
StandAt p true scope (Test e block ∷ rest) = StandAt p false scope rest
StandAt p false scope (Turn s ∷ rest) = IsLoopAt p s scope rest (loop_block (out-Stmt s)) × StandAt p false scope rest
StandAt p true scope (Turn s ∷ rest) = StandAt p false scope rest

-- a thread's own frame, below all those of functions that it called
abbrev pub own_frame : Frame → List Frame → Frame
own_frame frame [] = frame
own_frame frame (next ∷ frames) = own_frame next frames

-- a thread's own frame stands where the program has it
pub record IsPlacedFrame (p : Program) (frame : Frame) : Type 0 where
  pub stands : StandAt p false (names_in frame.locals) frame.todo
  pub lone : frame.result ≡ None

-- a local state whose own frame stands where the program has it
abbrev pub IsPlaced : Program → LocalState → Type 0
IsPlaced p s = IsPlacedFrame p (own_frame s.top s.below)
