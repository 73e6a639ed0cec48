-- What standard output counts as.
use Rattle.std.specs.Prelude.{ℕ}

-- the faults so far, and the pieces that it was given
pub record OutCounts : Type 0 where
  pub faults : ℕ
  pub pieces : ℕ
