-- A thread that its start and its records give back: its local state, its age, and what it passed and owes.
use Rattle.std.specs.Prelude.{◌≡◌, ℕ, ◌+◌, Bool, true, false, List, length, sum_by, Some}
use Rattle.kernel_model.specs.Kernel.{Activity, Thread}
use Rattle.kernel_model.specs.Kernel.Activity.{Ready, Delayed, Waiting}
use Rattle.thread_tree.specs.Program.{Program}
use Rattle.thread_tree.specs.Kinds.{Action, kind_word}
use Rattle.thread_tree.specs.Relive.{Start, Record, Life, relive}

-- whether a thread is at a call that is still open
abbrev pub is_open : Activity → Bool
is_open Ready = false
is_open (Delayed wake) = true
is_open (Waiting wait) = true

-- a thread's local state, with the moves made and the records passed by
abbrev pub life_of : Thread → Life
life_of thread = record { local = thread.local; moves = thread.age; passed = thread.passed }

-- the words of a record: its kind word and its results
abbrev pub words_in : Record → ℕ
words_in r = 1 + length r.results

-- the record of an action with these results
abbrev pub record_of : Action → List ℕ → Record
record_of action results = record { kind = kind_word action.kind action.given; results = results }

-- the start and the records of a thread give it back, up to the call that is open, and it owes their words
pub record IsRelived (p : Program) (start : Start) (records : List Record) (thread : Thread) : Type 0 where
  pub lives : relive p start records (is_open thread.activity) ≡ Some (life_of thread)
  pub owes : sum_by words_in records ≡ thread.debt
