-- What stands where the chosen thread arrives, and what it leaves.
use Rattle.std.proofs.Common.{◌≡◌, ℕ, zero, suc, ◌+◌, ◌<◌, ◌≤◌, List, length, Option, Some, None, Bool, true, refl, ap, sym, subst, ◌∙◌, arith}
use Rattle.std.specs.Prelude.{slice_set, slice_get, option_and_then}
use Rattle.thread_tree.specs.declared.action.Call.TheVariants as call
use Rattle.thread_tree.specs.declared.action.Item.{Item}
use Rattle.thread_tree.specs.declared.block.Stmt.{Stmt, out-Stmt}
use Rattle.thread_tree.specs.declared.block.Stmt.TheOpen as stmt
use Rattle.thread_tree.specs.declared.place.At.{At}
use Rattle.thread_tree.specs.declared.place.Place.{Place}
use Rattle.thread_tree.specs.Actions.{actions}
use Rattle.thread_tree.specs.Ahead.{Ahead, Arrival, ahead, ahead_by, stops, goes_on}
use Rattle.thread_tree.specs.Ahead.Arrival.{AtAction, Finished, Watchdog}
use Rattle.thread_tree.specs.Kinds.{Action, action_of}
use Rattle.thread_tree.specs.LocalState.{LocalState, move, next_action, next_statement}
use Rattle.thread_tree.specs.Limits.{IsWithinLimits}
use Rattle.thread_tree.specs.Program.{Program}
use Rattle.thread_machine.specs.declared.context.Ctx.{Ctx}
use Rattle.thread_machine.specs.declared.next.Next.{Next}
use Rattle.thread_machine.specs.declared.next.Next.TheVariants as next
use Rattle.thread_machine.specs.Context.{local_of}
use Rattle.thread_machine.specs.Next.{IsNext}
use Rattle.thread_machine.specs.Reached.{IsContext}
use Rattle.kernel_model.specs.declared.event.Event.{Event}
use Rattle.kernel_model.specs.declared.event.Event.TheVariants.{Step}
use Rattle.kernel_model.specs.Act.{printed_line}
use Rattle.kernel_model.specs.Kernel.{State, Thread, thread_of, is_ready}
use Rattle.kernel_model.specs.Kernel.Activity.{Ready}
use Rattle.kernel_model.specs.Order.{chosen, line_of}
use Rattle.kernel_image.specs.Agree.{Both}
use Rattle.kernel_model.specs.Run.{one}
use Rattle.kernel_model.specs.Sound.{IsSound, IsSoundThread, IsSoundRow}
use Rattle.kernel_image.specs.Decoded.{Decoded, row_at, with_row}
use Rattle.replay_list.proofs.Callers.{row_live}
use Rattle.replay_list.specs.Stands.{HasContext, IsContextOf, KernelStands}
use Rattle.kernel_events.specs.Actions.{IsPrinted}
use Rattle.kernel_events.specs.Follows.{Arrives}
use Rattle.std.proofs.lemmas.List.Elements.{All-get_or}
use Rattle.kernel_model.specs.Kernel.Row.{Free}
use Rattle.kernel_events.proofs.FollowLaws.{thread-row}
use Rattle.kernel_events.proofs.SetLaws.{set-again}
use Rattle.kernel_model.specs.Effects.{words_wanted}
use Rattle.kernel_model.proofs.Callers.{ahead-before, ready-activity, step-no_room, step-finished, step-watchdog}
use Rattle.kernel_events.proofs.ActLaws.{ServedLaw, needed_by, console-length, stands-printed, stands-stopped}

-- the law that each event keeps a kernel sound
abbrev pub KeptLaw : Type 0
KeptLaw = (p : Program) (K : State) (event : Event) → IsWithinLimits p → IsSound p K → K.events < 1000000 → IsSound p (one p K event)

-- the action that is told by its number
told : (p : Program) (arrival : Arrival) (number : ℕ) (s : Stmt) → IsNext p arrival (next.Action number) → slice_get (actions p) number ≡ Some s → arrival ≡ AtAction s
told p (AtAction statement) number s is here = let same : statement ≡ s = cc in ap AtAction same
told p Finished number s is here = absurd is
told p Watchdog number s is here = absurd is

module _ (p : Program) (d : Decoded) (contexts : List (Option Ctx)) (K : State) (t : ℕ) (thread : Thread) (ctx : Ctx) where
  -- the words of the records that are used
  pub used-is : (n : Next) → Arrives p d contexts K t thread ctx n → (row_at d t).used ≡ thread.debt
  used-is n a = (row_live p d.rows K.rows t thread a.stands.image.rows a.lives).1.used

  live-sound : (n : Next) → Arrives p d contexts K t thread ctx n → IsSoundThread p K.ticks K.queues K.counts thread.template thread.priority thread.local thread.debt thread.activity
  live-sound n a =
      let row = thread-row K t thread a.lives in
      subst (IsSoundRow p K.ticks K.queues K.counts) row.0 (All-get_or (IsSoundRow p K.ticks K.queues K.counts) K.rows t Free row.1 a.stands.image.sound.rows.each)

  pub few-used : (n : Next) → Arrives p d contexts K t thread ctx n → (row_at d t).used ≤ 256
  few-used n a = omega (arith, used-is n a, (live-sound n a).paid)

  -- the console is within its room
  pub few-console : (n : Next) → Arrives p d contexts K t thread ctx n → d.console_length ≤ 8192
  few-console n a =
      let size : d.console_length ≡ length K.console = sym (console-length d) ∙ ap length a.stands.image.console in
      omega (arith, size, a.stands.image.sound.console)

  -- few events were before
  pub few-events : (n : Next) → Arrives p d contexts K t thread ctx n → d.events < 1000000
  few-events n a = omega (arith, a.stands.image.events, a.early)

  -- the statement at which the context stands
  pub action-here : (number : ℕ) (s : Stmt) → Arrives p d contexts K t thread ctx (next.Action number) → slice_get (actions p) number ≡ Some s → (ahead p thread.local).arrival ≡ AtAction s
  action-here number s a here = told p (ahead p thread.local).arrival number s a.arrival here

  pub statement-here : (number : ℕ) (s : Stmt) → Arrives p d contexts K t thread ctx (next.Action number) → slice_get (actions p) number ≡ Some s → next_statement (local_of p ctx).top.todo ≡ Some s
  statement-here number s a here = ap (λ (local : LocalState). next_statement local.top.todo) a.arrived ∙ ahead-before p thread.local s (action-here number s a here)

  pub action-is : (number : ℕ) (s : Stmt) → Arrives p d contexts K t thread ctx (next.Action number) → slice_get (actions p) number ≡ Some s → next_action p (local_of p ctx) ≡ action_of p s
  action-is number s a here = ap (λ (found : Option Stmt). elim found as (λ _. Option Action) [ None ↦ None | Some statement ↦ action_of p statement ]) (statement-here number s a here)

  -- the records have no room
  pub stands-full : (number : ℕ) (s : Stmt) (new : Decoded) → KeptLaw → IsWithinLimits p → Arrives p d contexts K t thread ctx (next.Action number) → slice_get (actions p) number ≡ Some s → 256 < words_wanted p t thread s → new ≡ with_row (record d { events = d.events + 1 }) t (record (row_at d t) { state = 4; code = 4 }) → KernelStands p new contexts (one p K Step)
  stands-full number s new kept limits a here full same =
      let sound = kept p K Step limits a.stands.image.sound a.early in
      let after = step-no_room p K t thread s a.chosen a.lives (action-here number s a here) full in
      subst (λ contexts. KernelStands p new contexts (one p K Step)) (sym a.taken) (stands-stopped p d new a.before K t thread ctx ctx 4 sound a.stands a.lives after same)

  -- a print with room for its record
  pub stands-print : (number : ℕ) (s : Stmt) (place : Place) (items : List Item) (to : List At) (new : Decoded) (now : Ctx) → ServedLaw p → KeptLaw → IsWithinLimits p → Arrives p d contexts K t thread ctx (next.Action number) → slice_get (actions p) number ≡ Some s → out-Stmt s ≡ stmt.Call place (call.Print items) to → (row_at d t).used + 2 ≤ 256 → IsPrinted p t (printed_line (local_of p ctx).top.locals items) d new (local_of p ctx) (local_of p now) → IsContext p now → KernelStands p new (slice_set contexts t (Some now)) (one p K Step)
  stands-print number s place items to new now law kept limits a here layer room printed context =
      let sound = kept p K Step limits a.stands.image.sound a.early in
      let fits : thread.debt + 2 ≤ 256 = omega (arith, room, used-is (next.Action number) a) in
      let put : slice_set contexts t (Some now) ≡ slice_set a.before t (Some now) = ap (λ contexts. slice_set contexts t (Some now)) a.taken ∙ set-again a.before t None (Some now) in
      subst (λ contexts. KernelStands p new contexts (one p K Step)) (sym put) (stands-printed p d new a.before K t thread ctx now s place items to law sound a.stands a.chosen a.lives a.ready (action-here number s a here) layer fits a.arrived printed context)

-- the words that a print needs
pub print-needs : (p : Program) (t : ℕ) (thread : Thread) (s : Stmt) (place : Place) (items : List Item) (to : List At) → out-Stmt s ≡ stmt.Call place (call.Print items) to → words_wanted p t thread s ≡ thread.debt + 2
print-needs p t thread s place items to layer = ap (λ n. thread.debt + n) (ap (needed_by p t (ahead p thread.local).local.top.locals) layer)

-- a thread makes no more moves than the bound
stopped-moves : (s : LocalState) (o : Option LocalState) → (stops s o).moves ≤ 0
stopped-moves s None = omega arith
stopped-moves s (Some next) = omega arith

went-moves : (n : ℕ) (s : LocalState) (go : LocalState → Ahead) → ((t : LocalState) → (go t).moves ≤ n) → (o : Option LocalState) → (goes_on go s o).moves ≤ suc n
went-moves n s go later None = omega arith
went-moves n s go later (Some next) = omega (arith, later next)

pub ahead-moves : (p : Program) (n : ℕ) (s : LocalState) → (ahead_by p n s).moves ≤ n
unfolding ahead_by
ahead-moves p zero s = stopped-moves s (move p s)
ahead-moves p (suc n) s = went-moves n s (λ t. ahead_by p n t) (λ t. ahead-moves p n t) (move p s)

some-same : (x y : Ctx) → Some x ≡ Some y → x ≡ y
some-same x y is = cc

-- who is first of those that pass a test
abbrev pub PassesLaw : Type 0
PassesLaw = (test : Thread → Bool) (K : State) (t : ℕ) → slice_get (line_of test K.rows) 0 ≡ Some t → (thread : Thread) × (thread_of K t ≡ Some thread) × (test thread ≡ true)

abbrev pub ContextLaw : Program → Type 0
ContextLaw p = (contexts : List (Option Ctx)) (K : State) (t : ℕ) (thread : Thread) → Both (HasContext p) contexts K.rows → thread_of K t ≡ Some thread → (ctx : Ctx) × (option_and_then (λ found. found) (slice_get contexts t) ≡ Some ctx) × IsContextOf p ctx thread

-- the context of the chosen thread
pub chosen-context : (p : Program) (d : Decoded) (contexts : List (Option Ctx)) (K : State) (t : ℕ) (ctx : Ctx) → PassesLaw → ContextLaw p → KernelStands p d contexts K → chosen K ≡ Some t → option_and_then (λ found. found) (slice_get contexts t) ≡ Some ctx → (thread : Thread) × (thread_of K t ≡ Some thread) × (thread.activity ≡ Ready) × IsContextOf p ctx thread
chosen-context p d contexts K t ctx passes context stands some found =
    let first = passes is_ready K t some in
    let has = context contexts K t first.0 stands.restored first.1 in
    let same : has.0 ≡ ctx = some-same has.0 ctx (sym has.1 ∙ found) in
    (first.0, first.1, ready-activity first.0.activity first.2, subst (λ ctx. IsContextOf p ctx first.0) same has.2)

-- there is one
pub chosen-has : (p : Program) (d : Decoded) (contexts : List (Option Ctx)) (K : State) (t : ℕ) → PassesLaw → ContextLaw p → KernelStands p d contexts K → chosen K ≡ Some t → option_and_then (λ found. found) (slice_get contexts t) ≡ None → ⊥
chosen-has p d contexts K t passes context stands some none =
    let first = passes is_ready K t some in
    let has = context contexts K t first.0 stands.restored first.1 in
    let no : ◌≡◌ {A = Option Ctx} None (Some has.0) = sym none ∙ has.1 in cc

-- where it arrives
pub arrives-at : (p : Program) (d : Decoded) (contexts : List (Option Ctx)) (K : State) (t : ℕ) (ctx now : Ctx) (n : Next) → PassesLaw → ContextLaw p → KernelStands p d contexts K → K.events < 1000000 → chosen K ≡ Some t → option_and_then (λ found. found) (slice_get contexts t) ≡ Some ctx → local_of p now ≡ (ahead p (local_of p ctx)).local → IsNext p (ahead p (local_of p ctx)).arrival n → IsContext p now → (thread : Thread) × Arrives p d (slice_set contexts t None) K t thread now n
arrives-at p d contexts K t ctx now n passes context stands early some found moved arrived is_context =
    let has = chosen-context p d contexts K t ctx passes context stands some found in (
      has.0,
      record {
        before = contexts;
        stands = stands;
        taken = refl;
        early = early;
        chosen = some;
        lives = has.1;
        ready = has.2;
        arrived = moved ∙ ap (λ (s : LocalState). (ahead p s).local) has.3.local;
        arrival = subst (λ (s : LocalState). IsNext p (ahead p s).arrival n) has.3.local arrived;
        context = is_context;
      },
    )

finished-at : (p : Program) (arrival : Arrival) → IsNext p arrival next.Finished → arrival ≡ Finished
finished-at p (AtAction statement) is = absurd is
finished-at p Finished is = refl
finished-at p Watchdog is = absurd is

watchdog-at : (p : Program) (arrival : Arrival) → IsNext p arrival next.Watchdog → arrival ≡ Watchdog
watchdog-at p (AtAction statement) is = absurd is
watchdog-at p Finished is = absurd is
watchdog-at p Watchdog is = refl

module _ (p : Program) (d : Decoded) (contexts : List (Option Ctx)) (K : State) (t : ℕ) (thread : Thread) (ctx : Ctx) (new : Decoded) where
  -- at its end
  pub stands-finished : KeptLaw → IsWithinLimits p → Arrives p d contexts K t thread ctx next.Finished → new ≡ with_row (record d { events = d.events + 1 }) t (record (row_at d t) { state = 4; code = 0 }) → KernelStands p new contexts (one p K Step)
  stands-finished kept limits a same =
      let sound = kept p K Step limits a.stands.image.sound a.early in
      subst (λ contexts. KernelStands p new contexts (one p K Step)) (sym a.taken) (stands-stopped p d new a.before K t thread ctx ctx 0 sound a.stands a.lives (step-finished p K t thread a.chosen a.lives (finished-at p (ahead p thread.local).arrival a.arrival)) same)

  -- at the bound of its moves
  pub stands-watchdog : KeptLaw → IsWithinLimits p → Arrives p d contexts K t thread ctx next.Watchdog → new ≡ with_row (record d { events = d.events + 1 }) t (record (row_at d t) { state = 4; code = 1 }) → KernelStands p new contexts (one p K Step)
  stands-watchdog kept limits a same =
      let sound = kept p K Step limits a.stands.image.sound a.early in
      subst (λ contexts. KernelStands p new contexts (one p K Step)) (sym a.taken) (stands-stopped p d new a.before K t thread ctx ctx 1 sound a.stands a.lives (step-watchdog p K t thread a.chosen a.lives (watchdog-at p (ahead p thread.local).arrival a.arrival)) same)
