-- Who calls, and what a call leaves behind.
use Rattle.std.specs.Prelude.{◌≡◌, ◌≢◌, ◌⊎◌, ℕ, ◌+◌, ◌<◌, ◌≤◌, ◌==◌, ◌||◌, Bool, true, false, List, ◌∷◌, length, Option, Some, None, IfSome}
use Rattle.thread_tree.specs.Kinds.{Action, is_unrecorded, result_count}
use Rattle.thread_tree.specs.LocalState.{LocalState, next_action}
use Rattle.thread_tree.specs.Program.{Program}
use Rattle.thread_machine.specs.declared.context.Ctx.{Ctx}
use Rattle.kernel_model.specs.Awaits.{IsAwaiting}
use Rattle.kernel_model.specs.Effects.{IsSoundEffect, HasMany}
use Rattle.kernel_model.specs.Kernel.{State, Thread, thread_of, behind, items_of, with_items}
use Rattle.kernel_model.specs.Kernel.Activity.{Ready}
use Rattle.kernel_model.specs.Relived.{is_open}
use Rattle.kernel_model.specs.Run.{record_room}
use Rattle.kernel_model.specs.Serve.{Fate, Effect, settle}
use Rattle.kernel_model.specs.Serve.Fate.{Serves, ServesBack, Sleeps, Blocks, Enters, Stops, Goes}
use Rattle.kernel_model.specs.Sound.{IsSound}
use Rattle.kernel_image.specs.Decoded.{Decoded}
use Rattle.replay_list.specs.declared.outcome.Outcome.{Outcome}
use Rattle.replay_list.specs.declared.outcome.Outcome.TheVariants.{Results, Blocked, Gone}
use Rattle.ready_delay_lists.specs.Lists.{HasStamp}
use Rattle.kernel_calls.specs.Matches.{Matches, nobody}

-- one more than the most stamps that an event gives can still be given
abbrev pub HasStamps : State → Type 0
HasStamps K = K.stamp + 17 < 4294967296

-- the contexts of the threads that are delayed or wait, and of no other one: the least that a call asks for
abbrev pub of_open : State → ℕ → Bool
of_open K u = elim (thread_of K u) [ None ↦ false | Some thread ↦ is_open thread.activity ]

-- the contexts of all threads that are delayed or wait are held
abbrev pub HoldsOpen : (ℕ → Bool) → State → Type 0
HoldsOpen whose K = (u : ℕ) → IfSome (thread_of K u) (λ thread. is_open thread.activity ≡ true → whose u ≡ true)

-- a thread, which is ready, calls: the image and the contexts have the kernel of which it is the caller
pub record IsCalling (p : Program) (whose : ℕ → Bool) (t : ℕ) (d : Decoded) (contexts : List (Option Ctx)) (K : State) (thread : Thread) : Type 0 where
  pub matches : Matches p t whose d contexts K
  pub sound : IsSound p K
  pub lives : thread_of K t ≡ Some thread
  pub ready : thread.activity ≡ Ready
  pub held : HoldsOpen whose K
  pub few : K.events ≤ 1000000
  pub fits : HasStamps K

-- the results with which an action is finished at once
abbrev pub results_of : Fate → Option (List ℕ)
results_of (Serves results) = Some results
results_of (ServesBack results) = Some results
results_of (Sleeps wake) = None
results_of (Blocks wait) = None
results_of Enters = None
results_of (Stops code) = None
results_of Goes = None

-- whether the thread lives on with no results
abbrev pub lasts : Fate → Bool
lasts (Serves results) = false
lasts (ServesBack results) = false
lasts (Sleeps wake) = true
lasts (Blocks wait) = true
lasts Enters = true
lasts (Stops code) = false
lasts Goes = false

-- whether the thread is no more
abbrev pub ends : Fate → Bool
ends (Serves results) = false
ends (ServesBack results) = false
ends (Sleeps wake) = false
ends (Blocks wait) = false
ends Enters = false
ends (Stops code) = true
ends Goes = true

-- the kernel after the fate of a thread, but for the results that are still to be given to it
abbrev pub but_served : Program → ℕ → Fate → State → State
but_served p t (Serves results) K = K
but_served p t (ServesBack results) K = behind K t (λ same. same)
but_served p t (Sleeps wake) K = settle p t (Sleeps wake) K
but_served p t (Blocks wait) K = settle p t (Blocks wait) K
but_served p t Enters K = settle p t Enters K
but_served p t (Stops code) K = settle p t (Stops code) K
but_served p t Goes K = settle p t Goes K

-- one thread more whose context is held, or that has none
abbrev pub also : ℕ → (ℕ → Bool) → ℕ → Bool
also t whose u = u == t || whose u

-- what a call of thread t with this effect leaves behind, by its outcome
abbrev pub Acted : Program → (ℕ → Bool) → ℕ → Decoded → List (Option Ctx) → Effect → Outcome → Type 0
Acted p whose t d contexts effect (Results results) =
    (results_of effect.fate ≡ Some results.items) × Matches p t whose d contexts (but_served p t effect.fate effect.kernel)
Acted p whose t d contexts effect Blocked =
    (lasts effect.fate ≡ true) × Matches p nobody whose d contexts (settle p t effect.fate effect.kernel)
Acted p whose t d contexts effect Gone =
    (ends effect.fate ≡ true) × Matches p nobody (also t whose) d contexts (settle p t effect.fate effect.kernel)

-- an action of a thread is done, but for the results that are still to be given to it: as many as the action has, and
-- the records have room for them
pub record IsActed (p : Program) (whose : ℕ → Bool) (t : ℕ) (d : Decoded) (contexts : List (Option Ctx)) (effect : Effect) (outcome : Outcome) : Type 0 where
  pub acted : Acted p whose t d contexts effect outcome
  pub local : LocalState
  pub debt : ℕ
  pub sound : IsSoundEffect p t local debt effect
  pub action : Action
  pub next : next_action p local ≡ Some action
  pub recorded : IfSome (results_of effect.fate) (λ results. is_unrecorded action.kind ≡ false)
  pub many : HasMany (result_count action.kind action.given) effect
  pub held : whose t ≡ true

-- a thread other than the caller is delayed or waits, and its call has so many results
pub record IsAwaited (p : Program) (caller : ℕ) (whose : ℕ → Bool) (d : Decoded) (contexts : List (Option Ctx)) (K : State) (t : ℕ) (thread : Thread) (results : List ℕ) : Type 0 where
  pub matches : Matches p caller whose d contexts K
  pub another : t ≢ caller
  pub lives : thread_of K t ≡ Some thread
  pub awaiting : IsAwaiting p thread (length results)
  pub few : length results ≤ 4
  pub held : whose t ≡ true
  pub fits : HasStamp K

-- the caller, which is ready, gets the results of its action: so many, and the records have room for them
pub record IsServing (p : Program) (whose : ℕ → Bool) (d : Decoded) (contexts : List (Option Ctx)) (K : State) (t : ℕ) (thread : Thread) (results : List ℕ) : Type 0 where
  pub matches : Matches p t whose d contexts K
  pub lives : thread_of K t ≡ Some thread
  pub ready : thread.activity ≡ Ready
  pub action : Action
  pub next : next_action p thread.local ≡ Some action
  pub recorded : is_unrecorded action.kind ≡ false
  pub many : length results ≡ result_count action.kind action.given
  pub few : length results ≤ 4
  pub room : thread.debt + 1 + length results ≤ record_room
  pub held : whose t ≡ true

-- a thread ends, be it the caller or one that runs; its own context needn't be held
pub record IsLeaving (p : Program) (caller : ℕ) (whose : ℕ → Bool) (t : ℕ) (d : Decoded) (contexts : List (Option Ctx)) (K : State) (thread : Thread) : Type 0 where
  pub own : (caller ≡ t) ⊎ (caller ≡ nobody)
  pub matches : Matches p caller whose d contexts K
  pub lives : thread_of K t ≡ Some thread

-- a value can be delivered: by a caller, which is ready, or by an input
pub record IsDelivering (p : Program) (caller : ℕ) (whose : ℕ → Bool) (d : Decoded) (contexts : List (Option Ctx)) (K : State) : Type 0 where
  pub matches : Matches p caller whose d contexts K
  pub sound : IsSound p K
  pub ready : IfSome (thread_of K caller) (λ thread. thread.activity ≡ Ready)
  pub held : HoldsOpen whose K
  pub fits : HasStamps K

-- whether a value was delivered: then the image and the contexts have the kernel behind it, and else the one before
abbrev pub IsDelivered : Program → ℕ → (ℕ → Bool) → Decoded → List (Option Ctx) → State → Option State → Bool → Type 0
IsDelivered p caller whose d contexts K delivered true =
    (later : State) × (delivered ≡ Some later) × Matches p caller whose d contexts later
IsDelivered p caller whose d contexts K delivered false = (delivered ≡ None) × Matches p caller whose d contexts K

-- the front item of a queue was taken
pub record IsTaken (p : Program) (caller : ℕ) (whose : ℕ → Bool) (d : Decoded) (contexts : List (Option Ctx)) (K : State) (queue item : ℕ) : Type 0 where
  pub items : List ℕ
  pub front : items_of K queue ≡ item ∷ items
  pub matches : Matches p caller whose d contexts (with_items K queue items)

-- a kernel between two events, whose next one can be a tick
pub record IsBefore (p : Program) (whose : ℕ → Bool) (d : Decoded) (contexts : List (Option Ctx)) (K : State) : Type 0 where
  pub matches : Matches p nobody whose d contexts K
  pub sound : IsSound p K
  pub held : HoldsOpen whose K
  pub fits : HasStamps K
  pub later : K.ticks + 1 < 4294967296
