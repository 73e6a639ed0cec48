-- What is still to be relived of a thread whose records are read one after another.
use Rattle.std.specs.Prelude.{◌≡◌, ℕ, ◌+◌, Bool, if◌then◌else◌, List, ◌++◌, length, drop, Option, Some, option_and_then}
use Rattle.thread_tree.specs.Program.{Program}
use Rattle.thread_tree.specs.LocalState.{LocalState}
use Rattle.thread_tree.specs.Relive.{Record, Life, relived, opened}
use Rattle.kernel_model.specs.Kernel as kernel
use Rattle.kernel_model.specs.Kernel.{Thread}
use Rattle.kernel_model.specs.Kernel.Row.{Free, Ended, Live}
use Rattle.kernel_model.specs.Relived.{is_open, life_of}
use Rattle.kernel_image.specs.Decoded.{RowWords}
use Rattle.replay_list.specs.Records.{encoded}

-- a life with all these records, up to the action that is still open if there is one
abbrev pub lived : Program → List Record → Bool → Option Life → Option Life
lived p rs is_open life = if is_open then option_and_then (opened p) (relived p rs life) else relived p rs life

-- the records from this word on are still to be relived, from this local state on: they give the thread back. Its moves
-- so far were counted, one step each, since so many steps
pub record Remains (p : Program) (row : RowWords) (from : ℕ) (local : LocalState) (before now : ℕ) (thread : Thread) : Type 0 where
  pub records : List Record
  pub behind : List ℕ
  pub moves : ℕ
  pub passed : ℕ
  pub words : drop from row.records ≡ encoded records ++ behind
  pub count : from + length (encoded records) ≡ row.used
  pub counted : now ≡ before + moves
  pub lives : lived p records (is_open thread.activity) (Some (record { local = local; moves = moves; passed = passed })) ≡ Some (life_of thread)

-- the moves of the thread of a row
abbrev pub age_in : kernel.Row → ℕ
age_in Free = 0
age_in (Ended template priority code) = 0
age_in (Live thread) = thread.age

-- a local state is that of a thread, whose moves were counted since so many steps
pub record IsGivenBack (given : LocalState) (before now : ℕ) (thread : Thread) : Type 0 where
  pub local : given ≡ thread.local
  pub counted : now ≡ before + thread.age
