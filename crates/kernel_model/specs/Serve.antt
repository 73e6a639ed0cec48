-- How an action of a thread ends, and what becomes of the thread then.
use Rattle.std.specs.Prelude.{ℕ, ◌+◌, ◌-◌, ◌==◌, min, if◌then◌else◌, List, [], ◌∷◌, Option, Some, None}
use Rattle.kernel_model.specs.declared.wait.Wait.{Wait}
use Rattle.kernel_model.specs.declared.wait.TheConstants.{NEVER}
use Rattle.kernel_model.specs.declared.what.What.{What}
use Rattle.kernel_model.specs.declared.what.What.TheVariants.{Send, Receive, Take}
use Rattle.kernel_model.specs.Kernel.{Thread, Row, State, row_of, with_row, changed, behind}
use Rattle.kernel_model.specs.Kernel.Activity.{Ready, Delayed, Waiting}
use Rattle.kernel_model.specs.Kernel.Row.{Free, Ended, Live}
use Rattle.thread_tree.specs.Program.{Program}
use Rattle.thread_tree.specs.Kinds.{Action, record_words_of}
use Rattle.thread_tree.specs.LocalState.{LocalState, next_action, bind, turn}

-- the words of an action's record
abbrev pub words_of : Option Action → ℕ
words_of None = 0
words_of (Some action) = record_words_of action.kind action.given

-- the words of the record of the action that comes next
abbrev pub next_words : Program → LocalState → ℕ
next_words p local = words_of (next_action p local)

-- a thread whose action is finished with these results
abbrev pub served : Program → List ℕ → Thread → Thread
served p results thread = record thread {
  local = bind p thread.local results;
  passed = thread.passed + 1;
  debt = thread.debt + next_words p thread.local;
}

-- a thread that waited or was delayed, and whose call is finished with these results
abbrev pub awake : Program → List ℕ → Thread → Thread
awake p results thread = record (served p results thread) { activity = Ready }

-- the kernel where the call of a thread that waits or is delayed is finished
abbrev pub finish : Program → State → ℕ → List ℕ → State
finish p K t results = behind K t (awake p results)

-- the tick at which a wait of so many ticks ends; one limit stands for a wait without end
abbrev pub until_of : State → ℕ → ℕ
until_of K limit = if limit == NEVER then NEVER else min (K.ticks + limit) (NEVER - 1)

-- the tick at which a delay of so many ticks ends
abbrev pub wake_of : State → ℕ → ℕ
wake_of K ticks = min (K.ticks + ticks) (NEVER - 1)

-- the results of a wait for this queue or semaphore that its end ends
abbrev pub timed_out : Program → What → ℕ → List ℕ
timed_out p Send target = 0 ∷ []
timed_out p Receive target = 0 ∷ 0 ∷ []
timed_out p Take target = 0 ∷ []

-- what becomes of a thread by its action
pub data Fate : Type 0 where
  -- the action is finished with these results
  Serves : List ℕ → Fate
  -- the same, and the thread goes behind its equals
  ServesBack : List ℕ → Fate
  -- the thread is delayed until this tick
  Sleeps : ℕ → Fate
  -- the thread waits
  Blocks : Wait → Fate
  -- the thread enters the persistent loop
  Enters : Fate
  -- the thread ends with this code
  Stops : ℕ → Fate
  -- the thread's row becomes free
  Goes : Fate

-- what an action does: what becomes of its thread, and the kernel with all that changes besides
pub record Effect : Type 0 where
  pub fate : Fate
  pub kernel : State

-- an action that is finished at once
abbrev pub answers : List ℕ → State → Effect
answers results K = record { fate = Serves results; kernel = K }

-- an action that changes its thread alone
abbrev pub becomes : Fate → State → Effect
becomes fate K = record { fate = fate; kernel = K }

-- what can't be done at once: with limit 0 it is given up, else the thread waits
abbrev pub held : Program → State → What → ℕ → ℕ → ℕ → Effect
held p K what target value limit =
    if limit == 0
    then answers (timed_out p what target) K
    else becomes (Blocks (record { what = what; target = target; value = value; until = until_of K limit })) K

-- a thread that waits
abbrev pub waiting : Wait → Thread → Thread
waiting wait thread = record thread { activity = Waiting wait }

-- a thread that is delayed
abbrev pub asleep : ℕ → Thread → Thread
asleep wake thread = record thread { activity = Delayed wake }

-- a thread that enters a persistent loop: from here on it counts anew
abbrev pub turned : Thread → Thread
turned thread = record thread { local = turn thread.local; age = 0; passed = 0; debt = 0 }

-- a row whose thread ends
abbrev pub stopped : ℕ → Row → Row
stopped code Free = Free
stopped code (Ended template priority before) = Ended template priority before
stopped code (Live thread) = Ended thread.template thread.priority code

-- the kernel after the fate of a thread
abbrev pub settle : Program → ℕ → Fate → State → State
settle p t (Serves results) K = changed K t (served p results)
settle p t (ServesBack results) K = behind K t (served p results)
settle p t (Sleeps wake) K = changed K t (asleep wake)
settle p t (Blocks wait) K = behind K t (waiting wait)
settle p t Enters K = changed K t turned
settle p t (Stops code) K = with_row K t (stopped code (row_of K t))
settle p t Goes K = with_row K t Free

-- the kernel after an action of a thread
abbrev pub settled : Program → ℕ → Effect → State
settled p t effect = settle p t effect.fate effect.kernel
