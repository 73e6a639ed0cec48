-- The limits of a local state: 48 locals and 24 open blocks, at once and in all that is still to do.
use Rattle.std.specs.Prelude.{ℕ, suc, ◌+◌, ◌≤◌, List, [], ◌∷◌, length}
use Rattle.thread_tree.specs.Program.{Program}
use Rattle.thread_tree.specs.Need.{Need, Weight, needs, nothing, weight_of, need_of, callees}
use Rattle.thread_tree.specs.LocalState.{Thing, Frame, LocalState}
use Rattle.thread_tree.specs.LocalState.Thing.{Do, End, Test, Turn}
use Rattle.thread_tree.specs.declared.limits.TheConstants.{LOCALS, BLOCKS}

-- what a thing to do needs, and how many locals it leaves
abbrev pub weight_of_thing : (ℕ → Need) → Thing → Weight
weight_of_thing callee (Do s) = weight_of callee s
weight_of_thing callee (End keep) = needs nothing
weight_of_thing callee (Test e block) = needs (need_of callee block)
weight_of_thing callee (Turn s) = weight_of callee s

-- how many locals a frame has after a thing was done
abbrev pub locals_after : (ℕ → Need) → Thing → ℕ → ℕ
locals_after callee (Do s) count = count + (weight_of callee s).declares
locals_after callee (End keep) count = keep
locals_after callee (Test e block) count = count
locals_after callee (Turn s) count = count

-- one block more where a thing is the end of one
abbrev pub ends_with : Thing → ℕ → ℕ
ends_with (Do s) count = count
ends_with (End keep) count = suc count
ends_with (Test e block) count = count
ends_with (Turn s) count = count

-- how many blocks end in things to do
abbrev pub ends : List Thing → ℕ
ends [] = 0
ends (thing ∷ things) = ends_with thing (ends things)

-- how many locals frames have
abbrev pub locals_in : List Frame → ℕ
locals_in [] = 0
locals_in (frame ∷ frames) = length frame.locals + locals_in frames

-- how many blocks are open in frames: the body of each, and those that end in what is still to do
abbrev pub blocks_in : List Frame → ℕ
blocks_in [] = 0
blocks_in (frame ∷ frames) = suc (ends frame.todo) + blocks_in frames

-- with so many locals and blocks of the frames that wait, and so many locals of its own, a frame
-- stays within the limits in all that it has to do
abbrev pub AreWithin : (ℕ → Need) → ℕ → ℕ → ℕ → List Thing → Type 0
AreWithin callee before blocks count [] = Unit {0}
AreWithin callee before blocks count (thing ∷ things) =
    (before + count + (weight_of_thing callee thing).need.locals ≤ LOCALS)
    × (blocks + suc (ends things) + (weight_of_thing callee thing).need.blocks ≤ BLOCKS)
    × AreWithin callee before blocks (locals_after callee thing count) things

-- each frame stays within the limits
abbrev pub FramesAreWithin : (ℕ → Need) → List Frame → Type 0
FramesAreWithin callee [] = Unit {0}
FramesAreWithin callee (frame ∷ frames) =
    AreWithin callee (locals_in frames) (blocks_in frames) (length frame.locals) frame.todo
    × FramesAreWithin callee frames

-- a local state that stays within the limits
pub record IsWithin (p : Program) (s : LocalState) : Type 0 where
  pub each : FramesAreWithin (callees p) (s.top ∷ s.below)
