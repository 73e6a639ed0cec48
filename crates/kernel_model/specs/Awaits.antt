-- What a delayed or waiting thread awaits: the call that comes next, which is open, and its results.
use Rattle.std.specs.Prelude.{◌≡◌, ℕ, ◌+◌, ◌≤◌, true, false, Some}
use Rattle.kernel_model.specs.declared.what.What.{What}
use Rattle.kernel_model.specs.declared.what.What.TheVariants.{Send, Receive, Take}
use Rattle.kernel_model.specs.Kernel.{Activity, Thread}
use Rattle.kernel_model.specs.Kernel.Activity.{Ready, Delayed, Waiting}
use Rattle.kernel_model.specs.Relived.{is_open}
use Rattle.kernel_model.specs.Run.{record_room}
use Rattle.thread_tree.specs.Kinds.{Action, is_unrecorded, result_count}
use Rattle.thread_tree.specs.LocalState.{next_action}
use Rattle.thread_tree.specs.Program.{Program}

-- the kind of the call in which a thread waits
abbrev pub kind_of_what : What → ℕ
kind_of_what Send = 7
kind_of_what Receive = 8
kind_of_what Take = 9

-- the kind of the call that is open
abbrev pub kind_awaited : Activity → ℕ
kind_awaited Ready = 0
kind_awaited (Delayed wake) = 4
kind_awaited (Waiting wait) = kind_of_what wait.what

-- the call that comes next is open, it is the one in which the thread is, it has so many results, and the records
-- have room for them
pub record IsAwaiting (p : Program) (thread : Thread) (count : ℕ) : Type 0 where
  pub unfinished : is_open thread.activity ≡ true
  pub awaited : Action
  pub next : next_action p thread.local ≡ Some awaited
  pub kind : awaited.kind ≡ kind_awaited thread.activity
  pub given_none : awaited.given ≡ 0
  pub recorded : is_unrecorded awaited.kind ≡ false
  pub many : result_count awaited.kind awaited.given ≡ count
  pub room : thread.debt + 1 + count ≤ record_room
