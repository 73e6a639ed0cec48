-- What files of the system count as.
use Rattle.std.specs.Prelude.{ℕ}

-- the bytes that were taken so far, and the faults so far
pub record DiskCounts : Type 0 where
  pub taken : ℕ
  pub faults : ℕ
