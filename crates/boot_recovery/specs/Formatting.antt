-- A device in the midst of its formatting.
use Rattle.std.specs.Prelude.{◌≡◌, ℕ, ◌<◌, ◌≤◌, List, Option, IfSome, slice_index}
use Rattle.thread_tree.specs.Program.{Program}
use Rattle.kernel_image.specs.Initial.{initial_word}

-- formatting was cut after so many writes: as many words from word 1 on are the initial ones, and all others are as before
pub record IsBegun (p : Program) (writes : ℕ) (old new : List ℕ) : Type 0 where
  pub initial : (at : ℕ) → 1 ≤ at → at ≤ writes → slice_index new at ≡ initial_word p at
  pub first : slice_index new 0 ≡ slice_index old 0
  pub behind : (at : ℕ) → writes < at → slice_index new at ≡ slice_index old at

-- the same with as many writes as were left
abbrev pub IsBegunWith : Program → Option ℕ → List ℕ → List ℕ → Type 0
IsBegunWith p left old new = IfSome left (λ writes. IsBegun p writes old new)
