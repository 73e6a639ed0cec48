-- The state of a reading between two pieces.
use Rattle.std.proofs.Common.{◌≡◌, ℕ, ◌+◌, ◌≤◌, List, length, Option}
use Rattle.std.specs.Io.KnownBytes.{Consumes}
use Rattle.outer_world.specs.Causes.{count_after}

-- what was taken so far is held and counted, and is no more than one byte past the limit
pub record ReadSoFar (told rest : Option (List ℕ)) (limit : ℕ) (held : List ℕ) (before now : ℕ) : Type 0 where
  pub bytes : Consumes told rest held
  pub counted : now ≡ count_after (length held) before
  pub later : before ≤ now
  pub within : length held ≤ limit + 1
