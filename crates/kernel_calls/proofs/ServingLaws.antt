-- Who gets results: the caller of an action that is done, and the first that waits for something.
use Rattle.std.proofs.Common.{◌≡◌, ℕ, ◌+◌, ◌<◌, ◌≤◌, Bool, true, false, List, Option, Some, None, length, refl, sym, ap, subst, ◌∙◌, arith, if◌then◌else◌}
use Rattle.std.proofs.lemmas.List.{get_or-set_same}
use Rattle.std.specs.Prelude.{IfSome, slice_index_or}
use Rattle.arrayvec.specs.ArrayVec.{ArrayVec}
use Rattle.thread_tree.specs.Kinds.{Action, is_unrecorded, result_count}
use Rattle.thread_tree.specs.LocalState.{LocalState, next_action}
use Rattle.thread_tree.specs.Program.{Program}
use Rattle.thread_machine.specs.declared.context.Ctx.{Ctx}
use Rattle.kernel_model.specs.declared.what.What.{What}
use Rattle.kernel_model.specs.Awaits.{IsAwaiting}
use Rattle.kernel_model.specs.Effects.{IsCaller, IsFit, GivesMany}
use Rattle.kernel_model.specs.Kernel as kernel
use Rattle.kernel_model.specs.Kernel.{Activity, State, Thread, live_in, row_of, row_with, thread_of, behind, stamped}
use Rattle.kernel_model.specs.Kernel.Activity.{Ready, Delayed, Waiting}
use Rattle.kernel_model.specs.Kernel.Row.{Free, Live}
use Rattle.kernel_model.specs.Order.{first, waits_for}
use Rattle.kernel_model.specs.Relived.{is_open}
use Rattle.kernel_model.specs.Run.{record_room}
use Rattle.kernel_model.specs.Serve.{Fate, Effect, words_of, next_words, timed_out}
use Rattle.kernel_model.specs.Serve.Fate.{Serves, ServesBack, Sleeps, Blocks, Enters, Stops, Goes}
use Rattle.kernel_model.specs.Sound.{IsSound}
use Rattle.kernel_image.specs.Decoded.{Decoded}
use Rattle.replay_list.specs.declared.outcome.Outcome.TheVariants.{Results}
use Rattle.ready_delay_lists.specs.Lists.{HasStamp}
use Rattle.kernel_calls.specs.Matches.{Matches}
use Rattle.kernel_calls.specs.Calling.{HoldsOpen, IsActed, IsAwaited, IsServing, results_of, but_served}
use Rattle.kernel_calls.proofs.KernelLaws.{live_row}

-- the caller of an action, where it goes behind its equals too
lives_behind : (K : State) (t : ℕ) (thread : Thread) → t < length K.rows → thread_of K t ≡ Some thread → thread_of (behind K t (λ same. same)) t ≡ Some (stamped K.stamp thread)
lives_behind K t thread low lives =
    ap live_in (get_or-set_same K.rows t (row_with (stamped K.stamp) (row_of K t)) Free low)
    ∙ ap (λ (r : kernel.Row). live_in (row_with (stamped K.stamp) r)) (live_row (row_of K t) thread lives)

-- the words of an action that has a record
words_recorded : (p : Program) (local : LocalState) (action : Action) → next_action p local ≡ Some action → is_unrecorded action.kind ≡ false → next_words p local ≡ 1 + result_count action.kind action.given
words_recorded p local action next recorded = ap words_of next ∙ ap (λ (b : Bool). if b then 0 else 1 + result_count action.kind action.given) recorded

-- what its caller is given, by the fate of an action
pub serving_of : (p : Program) (whose : ℕ → Bool) (t : ℕ) (d : Decoded) (contexts : List (Option Ctx)) (K : State) (thread : Thread) (local : LocalState) (debt : ℕ) (action : Action) (results : List ℕ)
    → Matches p t whose d contexts K → thread_of K t ≡ Some thread → thread.activity ≡ Ready → thread.local ≡ local → thread.debt ≡ debt
    → next_action p local ≡ Some action → is_unrecorded action.kind ≡ false → length results ≡ result_count action.kind action.given → length results ≤ 4
    → debt + next_words p local ≤ record_room → whose t ≡ true → IsServing p whose d contexts K t thread results
serving_of p whose t d contexts K thread local debt action results matches lives ready at owes next recorded many few room held = record {
  matches = matches;
  lives = lives;
  ready = ready;
  action = action;
  next = ap (next_action p) at ∙ next;
  recorded = recorded;
  many = many;
  few = few;
  room = let words = words_recorded p local action next recorded in omega (arith, room, words, many, owes);
  held = held;
}

-- an action that is finished at once gives its caller the results
pub acted_serving : (p : Program) (whose : ℕ → Bool) (t : ℕ) (d : Decoded) (contexts : List (Option Ctx)) (effect : Effect) (results : ArrayVec ℕ) → t < 16 → length results.items ≤ 4 → IsActed p whose t d contexts effect (Results results) → (thread : Thread) × IsServing p whose d contexts (but_served p t effect.fate effect.kernel) t thread results.items
acted_serving p whose t d contexts effect results low few is = go effect.fate refl
  where
    caller : IsCaller effect.kernel t is.local is.debt
    caller = is.sound.caller

    go : (fate : Fate) → effect.fate ≡ fate → (thread : Thread) × IsServing p whose d contexts (but_served p t effect.fate effect.kernel) t thread results.items
    go (Serves own) e =
        let told : ◌≡◌ {A = Option (List ℕ)} (Some own) (Some results.items) = ap results_of (sym e) ∙ is.acted.0 in
        let same : own ≡ results.items = cc in
        let many : length own ≡ result_count is.action.kind is.action.given = subst (GivesMany (result_count is.action.kind is.action.given)) e is.many in
        let room : is.debt + next_words p is.local ≤ record_room = subst (IsFit p effect.kernel is.local is.debt) e is.sound.fit in
        let recorded : is_unrecorded is.action.kind ≡ false = subst (λ (f : Fate). IfSome (results_of f) (λ rs. is_unrecorded is.action.kind ≡ false)) e is.recorded in
        let kernel_is : but_served p t effect.fate effect.kernel ≡ effect.kernel = ap (λ (f : Fate). but_served p t f effect.kernel) e in (
          caller.thread,
          subst (λ (K : State). IsServing p whose d contexts K t caller.thread results.items) (sym kernel_is)
              (serving_of p whose t d contexts effect.kernel caller.thread is.local is.debt is.action results.items
              (subst (Matches p t whose d contexts) kernel_is is.acted.1) caller.lives caller.ready caller.at caller.owes is.next recorded (ap length (sym same) ∙ many) few room is.held),
        )
    go (ServesBack own) e =
        let told : ◌≡◌ {A = Option (List ℕ)} (Some own) (Some results.items) = ap results_of (sym e) ∙ is.acted.0 in
        let same : own ≡ results.items = cc in
        let many : length own ≡ result_count is.action.kind is.action.given = subst (GivesMany (result_count is.action.kind is.action.given)) e is.many in
        let room : is.debt + next_words p is.local ≤ record_room = subst (IsFit p effect.kernel is.local is.debt) e is.sound.fit in
        let recorded : is_unrecorded is.action.kind ≡ false = subst (λ (f : Fate). IfSome (results_of f) (λ rs. is_unrecorded is.action.kind ≡ false)) e is.recorded in
        let kernel_is : but_served p t effect.fate effect.kernel ≡ behind effect.kernel t (λ same. same) = ap (λ (f : Fate). but_served p t f effect.kernel) e in
        let lives = lives_behind effect.kernel t caller.thread (omega (arith, low, is.sound.sound.rows.sixteen)) caller.lives in (
          stamped effect.kernel.stamp caller.thread,
          subst (λ (K : State). IsServing p whose d contexts K t (stamped effect.kernel.stamp caller.thread) results.items) (sym kernel_is)
              (serving_of p whose t d contexts (behind effect.kernel t (λ same. same)) (stamped effect.kernel.stamp caller.thread) is.local is.debt is.action results.items
              (subst (Matches p t whose d contexts) kernel_is is.acted.1) lives caller.ready caller.at caller.owes is.next recorded (ap length (sym same) ∙ many) few room is.held),
        )
    go (Sleeps wake) e = absurd (let f : ◌≡◌ {A = Option (List ℕ)} None (Some results.items) = ap results_of (sym e) ∙ is.acted.0 in cc)
    go (Blocks wait) e = absurd (let f : ◌≡◌ {A = Option (List ℕ)} None (Some results.items) = ap results_of (sym e) ∙ is.acted.0 in cc)
    go Enters e = absurd (let f : ◌≡◌ {A = Option (List ℕ)} None (Some results.items) = ap results_of (sym e) ∙ is.acted.0 in cc)
    go (Stops code) e = absurd (let f : ◌≡◌ {A = Option (List ℕ)} None (Some results.items) = ap results_of (sym e) ∙ is.acted.0 in cc)
    go Goes e = absurd (let f : ◌≡◌ {A = Option (List ℕ)} None (Some results.items) = ap results_of (sym e) ∙ is.acted.0 in cc)

-- the first that waits for something lives, waits for it, and its call is open: the law of `waking`
abbrev pub FirstAwaited : Type 0
FirstAwaited = (p : Program) (K : State) (what : What) (target t : ℕ) → IsSound p K → first K what target ≡ Some t → (thread : Thread) × (thread_of K t ≡ Some thread) × (waits_for what target thread ≡ true) × IsAwaiting p thread (length (timed_out p what target))

-- it isn't the caller, which is ready, and its context is held; nothing but the rows needs to be those of the kernel of
-- which it is the first
pub first_awaited : FirstAwaited → (p : Program) (caller : ℕ) (whose : ℕ → Bool) (d : Decoded) (contexts : List (Option Ctx)) (K L : State) (what : What) (target u : ℕ) (results : List ℕ)
    → IsSound p K → IfSome (thread_of K caller) (λ thread. thread.activity ≡ Ready) → HoldsOpen whose K
    → Matches p caller whose d contexts L → L.rows ≡ K.rows → HasStamp L
    → first K what target ≡ Some u → length results ≡ length (timed_out p what target) → length results ≤ 4
    → (thread : Thread) × IsAwaited p caller whose d contexts L u thread results
first_awaited law p caller whose d contexts K L what target u results sound ready held matches rows fits is many few =
    let found = law p K what target u sound is in
    let thread = found.0 in (
      thread,
      record {
        matches = matches;
        another = λ (same : u ≡ caller). waits_or_ready thread (subst (λ (o : Option Thread). IfSome o (λ other. other.activity ≡ Ready)) (ap (thread_of K) (sym same) ∙ found.1) ready) found.2;
        lives = ap (λ (rs : List kernel.Row). live_in (slice_index_or rs u Free)) rows ∙ found.1;
        awaiting = subst (IsAwaiting p thread) (sym many) found.3;
        few = few;
        held = subst (λ (o : Option Thread). IfSome o (λ other. is_open other.activity ≡ true → whose u ≡ true)) found.1 (held u) found.3.unfinished;
        fits = fits;
      },
    )
  where
    waits_or_ready : (thread : Thread) → thread.activity ≡ Ready → waits_for what target thread ≡ true → ⊥
    waits_or_ready thread ready waits =
        let none : waits_for what target thread ≡ false = rw ready refl in
        (let f : ◌≡◌ {A = Bool} true false = sym waits ∙ none in cc)
