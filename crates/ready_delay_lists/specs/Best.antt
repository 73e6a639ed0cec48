-- The best of the ready rows of an image.
use Rattle.std.specs.Prelude.{◌≡◌, ◌≢◌, ℕ, ◌<◌, Bool, false, List, length, Option, Some, None, AllPairs}
use Rattle.kernel_model.specs.Kernel.{Row}
use Rattle.kernel_model.specs.Run.{row_count}
use Rattle.kernel_model.specs.Sound.{IsApart}
use Rattle.kernel_image.specs.Decoded.{Decoded, row_at}
use Rattle.kernel_image.specs.Shown.{is_more_urgent}

-- well-formed rows of a kernel, sound or not: sixteen, whose stamps differ in each list
pub record AreFormed (rows : List Row) : Type 0 where
  pub sixteen : length rows ≡ row_count
  pub apart : AllPairs IsApart rows

-- whether the row of a thread is ready
abbrev pub IsReady : Decoded → ℕ → Type 0
IsReady d t = (row_at d t).state ≡ 1

-- whether the row of a thread is more urgent than that of another
unfoldable pub comes_before : Decoded → ℕ → ℕ → Bool
comes_before d t u = is_more_urgent (t, row_at d t) (u, row_at d u)

-- of the first rows this one is ready, and no ready one is more urgent
pub record IsFirst (d : Decoded) (rows t : ℕ) : Type 0 where
  pub within : t < rows
  pub ready : IsReady d t
  pub none_before : (u : ℕ) → u < rows → IsReady d u → comes_before d u t ≡ false

-- the best of the first rows, or none where none of them is ready
unfoldable pub IsBest : Decoded → ℕ → Option ℕ → Type 0
IsBest d rows None = (u : ℕ) → u < rows → (row_at d u).state ≢ 1
IsBest d rows (Some t) = IsFirst d rows t
