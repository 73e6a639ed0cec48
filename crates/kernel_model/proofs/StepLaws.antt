-- A step of the uncut run, by how its thread arrives.
use Rattle.std.proofs.Common.{◌≡◌, ℕ, ◌+◌, ◌<◌, ◌≤◌, Option, Some, None, refl, ap, sym, subst, ◌∙◌, cond}
use Rattle.std.proofs.lemmas.Bool.{lt-ltb, le-ltb}
use Rattle.std.specs.Prelude.{if◌then◌else◌, nat_lt}
use Rattle.kernel_model.specs.declared.event.Event.TheVariants.{Step}
use Rattle.kernel_model.specs.Kernel.{Thread, State, thread_of, is_ready}
use Rattle.kernel_model.specs.Kernel.Activity.{Ready}
use Rattle.kernel_model.specs.Order.{chosen}
use Rattle.kernel_model.specs.Act.{effect_of, need}
use Rattle.kernel_model.specs.Serve.{settle, settled}
use Rattle.kernel_model.specs.Serve.Fate.{Stops}
use Rattle.kernel_model.specs.Run.{record_room, ordinary_end, watchdog, no_record_room, step_of, counted, one}
use Rattle.kernel_model.specs.Sound.{IsSound}
use Rattle.kernel_model.specs.Effects.{ran_ahead, words_wanted, IsCaller}
use Rattle.kernel_model.proofs.OrderLemmas.{head_of_line}
use Rattle.kernel_model.proofs.ActLemmas.{ready-activity, arrived-sound, arrived-caller, counted-sound}
use Rattle.thread_tree.specs.declared.block.Stmt.{Stmt}
use Rattle.thread_tree.specs.Program.{Program}
use Rattle.thread_tree.specs.Ahead.{Arrival, ahead}
use Rattle.thread_tree.specs.Ahead.Arrival.{AtAction, Finished, Watchdog}

-- where nobody is ready the event is counted
pub step-nobody : (p : Program) (K : State) → chosen K ≡ None → one p K Step ≡ counted K
step-nobody p K none =
    subst (λ (o : Option ℕ). elim o as (λ _. State) [ None ↦ counted K | Some t ↦ elim (thread_of (counted K) t) [ None ↦ counted K | Some thread ↦ step_of p (counted K) t thread ] ] ≡ counted K) (sym none) refl

-- the chosen thread runs ahead, and performs its action
pub step-chosen : (p : Program) (K : State) (t : ℕ) (thread : Thread) → chosen K ≡ Some t → thread_of K t ≡ Some thread → one p K Step ≡ step_of p (counted K) t thread
step-chosen p K t thread some lives =
    subst (λ (o : Option ℕ). elim o as (λ _. State) [ None ↦ counted K | Some t ↦ elim (thread_of (counted K) t) [ None ↦ counted K | Some thread ↦ step_of p (counted K) t thread ] ] ≡ step_of p (counted K) t thread) (sym some)
    (subst (λ (o : Option Thread). elim o as (λ _. State) [ None ↦ counted K | Some thread ↦ step_of p (counted K) t thread ] ≡ step_of p (counted K) t thread) (sym lives) refl)

-- what is performed where it arrives
abbrev pub performed_by : Program → State → ℕ → Thread → Arrival → State
performed_by p K t thread arrival = let a = ahead p thread.local in elim arrival [
  | Finished ↦ settle p t (Stops ordinary_end) (ran_ahead p K t thread)
  | Watchdog ↦ settle p t (Stops watchdog) (ran_ahead p K t thread)
  | AtAction statement ↦
      if nat_lt record_room (thread.debt + need p t a.local.top.locals statement)
      then settle p t (Stops no_record_room) (ran_ahead p K t thread)
      else settled p t (effect_of p (ran_ahead p K t thread) t a.local.top.locals statement)
]

-- the chosen thread performs what is performed where it arrives
step-performed : (p : Program) (K : State) (t : ℕ) (thread : Thread) (arrival : Arrival) → chosen K ≡ Some t → thread_of K t ≡ Some thread → (ahead p thread.local).arrival ≡ arrival → one p K Step ≡ performed_by p K t thread arrival
step-performed p K t thread arrival some lives is = step-chosen p K t thread some lives ∙ ap (performed_by p K t thread) is

-- a thread that has finished ends
pub step-finished : (p : Program) (K : State) (t : ℕ) (thread : Thread) → chosen K ≡ Some t → thread_of K t ≡ Some thread → (ahead p thread.local).arrival ≡ Finished → one p K Step ≡ settle p t (Stops ordinary_end) (ran_ahead p K t thread)
step-finished p K t thread some lives is = step-performed p K t thread Finished some lives is

-- a thread that makes too many moves ends
pub step-watchdog : (p : Program) (K : State) (t : ℕ) (thread : Thread) → chosen K ≡ Some t → thread_of K t ≡ Some thread → (ahead p thread.local).arrival ≡ Watchdog → one p K Step ≡ settle p t (Stops watchdog) (ran_ahead p K t thread)
step-watchdog p K t thread some lives is = step-performed p K t thread Watchdog some lives is

-- a thread whose record would have no room ends
pub step-no_room : (p : Program) (K : State) (t : ℕ) (thread : Thread) (s : Stmt) → chosen K ≡ Some t → thread_of K t ≡ Some thread → (ahead p thread.local).arrival ≡ AtAction s → record_room < words_wanted p t thread s → one p K Step ≡ settle p t (Stops no_record_room) (ran_ahead p K t thread)
step-no_room p K t thread s some lives is full =
    step-performed p K t thread (AtAction s) some lives is
    ∙ ap (λ b. cond b (settle p t (Stops no_record_room) (ran_ahead p K t thread)) (settled p t (effect_of p (ran_ahead p K t thread) t (ahead p thread.local).local.top.locals s)))
    (lt-ltb record_room (words_wanted p t thread s) full)

-- else the thread performs its action
pub step-acted : (p : Program) (K : State) (t : ℕ) (thread : Thread) (s : Stmt) → chosen K ≡ Some t → thread_of K t ≡ Some thread → (ahead p thread.local).arrival ≡ AtAction s → words_wanted p t thread s ≤ record_room → one p K Step ≡ settled p t (effect_of p (ran_ahead p K t thread) t (ahead p thread.local).local.top.locals s)
step-acted p K t thread s some lives is room =
    step-performed p K t thread (AtAction s) some lives is
    ∙ ap (λ b. cond b (settle p t (Stops no_record_room) (ran_ahead p K t thread)) (settled p t (effect_of p (ran_ahead p K t thread) t (ahead p thread.local).local.top.locals s)))
    (le-ltb record_room (words_wanted p t thread s) room)

-- the kernel where a ready thread has run ahead is sound
pub ran_ahead-sound : (p : Program) (K : State) (t : ℕ) (thread : Thread) → IsSound p K → thread_of K t ≡ Some thread → thread.activity ≡ Ready → IsSound p (ran_ahead p K t thread)
ran_ahead-sound p K t thread h lives ready = arrived-sound p (counted K) (counted-sound p K h) t thread (ahead p thread.local) lives ready

-- the thread that ran ahead is there, and ready to act
pub ran_ahead-caller : (p : Program) (K : State) (t : ℕ) (thread : Thread) → thread_of K t ≡ Some thread → thread.activity ≡ Ready →
    IsCaller (ran_ahead p K t thread) t (ahead p thread.local).local thread.debt
ran_ahead-caller p K t thread lives ready = arrived-caller (counted K) t thread (ahead p thread.local) lives ready

-- who is chosen lives and is ready
pub step-ready : (K : State) (t : ℕ) → chosen K ≡ Some t → (thread : Thread) × (thread_of K t ≡ Some thread) × (thread.activity ≡ Ready)
step-ready K t some = let head = head_of_line is_ready K t some in (head.0, head.1, ready-activity (head.0).activity head.2)
