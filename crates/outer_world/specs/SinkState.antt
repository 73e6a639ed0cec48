-- What a sink in memory counts as.
use Rattle.std.specs.Prelude.{ℕ, ◌+◌, List, length, Bool, ◌||◌, nat_lt}
use Rattle.outer_world.specs.Causes.{count_after}
use Rattle.outer_world.specs.Failing.{is_listed}

-- the bytes held, the most that may be held, the calls that are to fail, the calls so far, the faults so far
pub record SinkState : Type 0 where
  pub bytes : List ℕ
  pub room : ℕ
  pub failing : List ℕ
  pub calls : ℕ
  pub faults : ℕ

-- whether the next call is refused this piece: it is to fail, or the bytes would pass the room
abbrev pub is_refused : SinkState → List ℕ → Bool
is_refused sink piece =
    is_listed sink.failing (count_after 1 sink.calls) || nat_lt sink.room (length sink.bytes + length piece)
