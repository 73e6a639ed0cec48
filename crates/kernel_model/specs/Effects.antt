-- What holds of the effect of an action: who performs it, what can become of the thread, and how many results it has.
use Rattle.std.specs.Prelude.{◌≡◌, ℕ, ◌+◌, ◌≤◌, ⊤, length, Some}
use Rattle.kernel_model.specs.Kernel.{Thread, State, thread_of, changed}
use Rattle.kernel_model.specs.Kernel.Activity.{Ready}
use Rattle.kernel_model.specs.Serve.{Fate, Effect, next_words}
use Rattle.kernel_model.specs.Serve.Fate.{Serves, ServesBack, Sleeps, Blocks, Enters, Stops, Goes}
use Rattle.kernel_model.specs.Act.{need}
use Rattle.kernel_model.specs.Run.{record_room, arrived, counted}
use Rattle.kernel_model.specs.Sound.{IsDelayed, IsWaiting, IsSound}
use Rattle.thread_tree.specs.declared.block.Stmt.{Stmt}
use Rattle.thread_tree.specs.Ahead.{ahead}
use Rattle.thread_tree.specs.LocalState.{LocalState}
use Rattle.thread_tree.specs.Program.{Program}

-- the kernel of a step where the thread has run ahead
abbrev pub ran_ahead : Program → State → ℕ → Thread → State
ran_ahead p K t thread = changed (counted K) t (arrived (ahead p thread.local))

-- the words that the records of a thread would have behind the action where it arrives
abbrev pub words_wanted : Program → ℕ → Thread → Stmt → ℕ
words_wanted p t thread statement = thread.debt + need p t (ahead p thread.local).local.top.locals statement

-- the thread that performs an action: it is ready, and has this local state and these words in its records
pub record IsCaller (K : State) (t : ℕ) (local : LocalState) (debt : ℕ) : Type 0 where
  pub thread : Thread
  pub lives : thread_of K t ≡ Some thread
  pub ready : thread.activity ≡ Ready
  pub at : thread.local ≡ local
  pub owes : thread.debt ≡ debt

-- a fate that a thread can have
abbrev pub IsFit : Program → State → LocalState → ℕ → Fate → Type 0
IsFit p K local debt (Serves results) = debt + next_words p local ≤ record_room
IsFit p K local debt (ServesBack results) = debt + next_words p local ≤ record_room
IsFit p K local debt (Sleeps wake) = IsDelayed p K.ticks wake local debt
IsFit p K local debt (Blocks wait) = IsWaiting p K.ticks K.queues K.counts wait local debt
IsFit p K local debt Enters = ⊤
IsFit p K local debt (Stops code) = ⊤
IsFit p K local debt Goes = ⊤

-- an effect of an action on a sound kernel
pub record IsSoundEffect (p : Program) (t : ℕ) (local : LocalState) (debt : ℕ) (effect : Effect) : Type 0 where
  pub sound : IsSound p effect.kernel
  pub caller : IsCaller effect.kernel t local debt
  pub fit : IsFit p effect.kernel local debt effect.fate

-- a fate that gives so many results, if it gives any
abbrev pub GivesMany : ℕ → Fate → Type 0
GivesMany count (Serves results) = length results ≡ count
GivesMany count (ServesBack results) = length results ≡ count
GivesMany count (Sleeps wake) = ⊤
GivesMany count (Blocks wait) = ⊤
GivesMany count Enters = ⊤
GivesMany count (Stops code) = ⊤
GivesMany count Goes = ⊤

-- an effect that gives so many results, if it gives any
abbrev pub HasMany : ℕ → Effect → Type 0
HasMany count effect = GivesMany count effect.fate
