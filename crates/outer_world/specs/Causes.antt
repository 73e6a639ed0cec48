-- Counts of faults, and of bytes: they rise, and stop at the last value of 64 bits.
use Rattle.std.specs.Prelude.{◌≡◌, ℕ, ◌+◌, ◌-◌, ◌^◌, ◌≤◌, min, Result, OnErr, OnOk}

-- the count after k more, or the last value of its type
abbrev pub count_after : ℕ → ℕ → ℕ
count_after k before = min (before + k) (2 ^ 64 - 1)

-- the count has risen, or stands at the last value of its type
abbrev pub Rose : ℕ → ℕ → Type 0
Rose before now = count_after 1 before ≤ now

-- the count has risen by at least k, or stands at the last value of its type
abbrev pub RoseBy : ℕ → ℕ → ℕ → Type 0
RoseBy k before now = count_after k before ≤ now

-- a fault only where the count of faults rose; without one it stands as it was; it never falls
pub record HasCause {T E : Type 0} (before now : ℕ) (result : Result T E) : Type 0 where
  pub later : before ≤ now
  pub failed : OnErr result (Rose before now)
  pub kept : OnOk result (now ≡ before)
