-- The kernel stays sound over a step, an input and a tick.
use Rattle.std.proofs.Common.{ltb, ◌≡◌, ℕ, zero, suc, ◌+◌, ◌-◌, ◌<◌, ◌≤◌, Bool, true, false, cond, length, position, Option, Some, None, MatchOption, unwrap_or, option_map, option_and_then, refl, sym, ap, subst, ◌∙◌, arith, ltb-false, true≢false}
use Rattle.std.proofs.lemmas.Bool.{cond_both}
use Rattle.kernel_model.specs.declared.event.Event.{Event}
use Rattle.kernel_model.specs.declared.event.Event.TheVariants.{Step, Tick, Input}
use Rattle.kernel_model.specs.declared.what.What.TheVariants.{Send}
use Rattle.kernel_model.specs.Kernel.{Activity, Thread, State, thread_of, changed, is_ready}
use Rattle.kernel_model.specs.Kernel.Activity.{Ready, Delayed, Waiting}
use Rattle.kernel_model.specs.Kernel.Row.{Live}
use Rattle.kernel_model.specs.Order.{chosen}
use Rattle.thread_tree.specs.Numbers.{template_number, queue_number, semaphore_number}
use Rattle.kernel_model.specs.Serve.{becomes, next_words, words_of, settle, settled}
use Rattle.kernel_model.specs.Serve.Fate.{Stops}
use Rattle.kernel_model.specs.Calls.{has_channel, delivered, input}
use Rattle.kernel_model.specs.Transactions.{BlockEnd, block}
use Rattle.kernel_model.specs.Transactions.BlockEnd.{Gave, Aborted, Fault}
use Rattle.kernel_model.specs.Act.{whom, printed_line, effect_of_call, effect_of_end, effect_of_layer, effect_of, is_own_delete, call_of, deletes_itself, need}
use Rattle.kernel_model.specs.Run.{record_room, ordinary_end, watchdog, no_record_room, arrived, step_of, step, counted, one}
use Rattle.kernel_model.specs.Sound.{IsHeld, IsDoing, IsSound, next_call, is_delay, awaited_by}
use Rattle.kernel_model.specs.Effects.{IsCaller, IsSoundEffect}
use Rattle.kernel_model.proofs.RowLemmas.{live_within, changed-is, set_thread}
use Rattle.kernel_model.proofs.OrderLemmas.{head_of_line}
use Rattle.kernel_model.proofs.ServeLemmas.{sound_thread, sound-changed, settle-sound, settled-sound}
use Rattle.kernel_model.proofs.QueueLemmas.{Follows, delivered-sound}
use Rattle.kernel_model.proofs.CallLemmas.{print-sound, spawn-sound, delete-sound, getprio-sound, now-sound, waiting-sound, yield-sound, setprio-sound, delay-sound, send-sound, receive-sound, take-sound, give-sound}
use Rattle.kernel_model.proofs.BlockLemmas.{IsGoodEnd, block-good}
use Rattle.kernel_model.proofs.TickLemmas.{tick-sound}
use Rattle.thread_tree.specs.declared.action.Call.{Call}
use Rattle.thread_tree.specs.declared.action.Call.TheVariants as call
use Rattle.thread_tree.specs.declared.block.Block.{Block}
use Rattle.thread_tree.specs.declared.block.Stmt.{Stmt, out-Stmt}
use Rattle.thread_tree.specs.declared.block.Stmt.TheOpen.{Stmt-F}
use Rattle.thread_tree.specs.declared.block.Stmt.TheOpen as stmt
use Rattle.thread_tree.specs.Kinds.{action_layer, action_of}
use Rattle.thread_tree.specs.LocalState.{LocalState, move, next_statement}
use Rattle.thread_tree.specs.Ahead.{Ahead, Arrival, arrival_of, stops, goes_on, ahead_by, most_moves, ahead}
use Rattle.thread_tree.specs.Ahead.Arrival.{AtAction, Finished, Watchdog}
use Rattle.thread_tree.specs.Program.{Program}
use Rattle.thread_tree.specs.Value.{value_of, values_in}
use Rattle.thread_tree.specs.Limits.{IsWithinLimits}

-- the most events of a run
abbrev pub most_events : ℕ
most_events = 1000000

module _ (p : Program) (limits : IsWithinLimits p) (K : State) (t : ℕ) (local : LocalState) (debt : ℕ) (h : IsSound p K)
    (caller : IsCaller K t local debt) (few : K.events ≤ most_events) where
  -- a call that comes next
  call-sound : (c : Call) → next_call local ≡ Some c → debt + cond (is_own_delete t local.top.locals c) 0 (next_words p local) ≤ record_room →
      IsSoundEffect p t local debt (effect_of_call p K t local.top.locals c)
  call-sound (call.Print items) e room = print-sound p K t local debt h caller room (printed_line local.top.locals items)
  call-sound (call.Spawn template arguments) e room =
      spawn-sound p K t local debt h caller limits room (template_number p template.name) (values_in local.top.locals arguments)
  call-sound (call.Delete target) e room = delete-sound p K t local debt h caller (whom t local.top.locals target)
      (λ other. subst (λ (b : Bool). debt + cond b 0 (next_words p local) ≤ record_room) other room)
  call-sound (call.Delay ticks) e room =
      delay-sound p K t local debt h caller few room (ap (option_map is_delay) e) (value_of local.top.locals ticks)
  call-sound (call.Setprio target priority) e room =
      setprio-sound p K t local debt h caller room (whom t local.top.locals target) (value_of local.top.locals priority)
  call-sound (call.Getprio target) e room = getprio-sound p K t local debt h caller room (whom t local.top.locals target)
  call-sound (call.Send queue value limit) e room = send-sound p K t local debt h caller few room (queue_number p queue.name)
      (value_of local.top.locals value) (value_of local.top.locals limit) (ap (option_and_then (awaited_by p)) e)
  call-sound (call.Receive queue limit) e room = receive-sound p K t local debt h caller few room (queue_number p queue.name)
      (value_of local.top.locals limit) (ap (option_and_then (awaited_by p)) e)
  call-sound (call.Take semaphore limit) e room = take-sound p K t local debt h caller few room (semaphore_number p semaphore.name)
      (value_of local.top.locals limit) (ap (option_and_then (awaited_by p)) e)
  call-sound (call.Give semaphore) e room = give-sound p K t local debt h caller room (semaphore_number p semaphore.name)
  call-sound call.Now e room = now-sound p K t local debt h caller room
  call-sound call.Yield e room = yield-sound p K t local debt h caller room
  call-sound (call.Waiting queue) e room = waiting-sound p K t local debt h caller room (queue_number p queue.name)

  -- an end of the thread
  stops-sound : (code : ℕ) → IsSoundEffect p t local debt (becomes (Stops code) K)
  stops-sound code = record { sound = h; caller = caller; fit = tt }

  -- the end of a block
  end-sound : debt + next_words p local ≤ record_room → (given : ℕ) (end : BlockEnd) → IsGoodEnd p end →
      IsSoundEffect p t local debt (effect_of_end K given end)
  end-sound room given (Gave objects values) good = record {
    sound = record { rows = h.rows; ticks = h.ticks; queues = h.queues; console = h.console; objects = good };
    caller = record { thread = caller.thread; lives = caller.lives; ready = caller.ready; at = caller.at; owes = caller.owes };
    fit = room;
  }
  end-sound room given Aborted good = record { sound = h; caller = caller; fit = room }
  end-sound room given (Fault code) good = stops-sound code

  -- an action that comes next, by the layer of its statement
  layer-sound : (s : Stmt-F Stmt Block) → next_call local ≡ call_of s → next_words p local ≡ words_of (action_layer p s) →
      debt + cond (deletes_itself t local.top.locals (call_of s)) 0 (words_of (action_layer p s)) ≤ record_room →
      IsSoundEffect p t local debt (effect_of_layer p K t local.top.locals s)
  layer-sound (stmt.Let at e) next words room = stops-sound 0
  layer-sound (stmt.Set at e) next words room = stops-sound 0
  layer-sound (stmt.Apply to callee arguments) next words room = stops-sound 0
  layer-sound (stmt.If e then_block else_block) next words room = stops-sound 0
  layer-sound (stmt.While e body) next words room = stops-sound 0
  layer-sound (stmt.Ploop place body) next words room = record { sound = h; caller = caller; fit = tt }
  layer-sound (stmt.Break place) next words room = stops-sound 0
  layer-sound (stmt.Return place value) next words room = stops-sound 0
  layer-sound (stmt.Atomic place to body) next words room = end-sound
      (subst (λ (n : ℕ). debt + n ≤ record_room) (sym words) room) (length to - 1)
      (block p K.objects local.top.locals (length to - 1) body) (block-good p K.objects local.top.locals (length to - 1) body h.objects)
  layer-sound (stmt.Call place c to) next words room = call-sound c next
      (subst (λ (n : ℕ). debt + cond (is_own_delete t local.top.locals c) 0 n ≤ record_room) (sym words) room)

  -- an action that comes next and whose record has room
  pub effect-sound : (s : Stmt) → next_statement local.top.todo ≡ Some s → debt + need p t local.top.locals s ≤ record_room →
      IsSoundEffect p t local debt (effect_of p K t local.top.locals s)
  effect-sound s next room = layer-sound (out-Stmt s)
      (ap (option_and_then (λ s. call_of (out-Stmt s))) next)
      (ap (λ (o : Option Stmt). words_of (elim o [ None ↦ None | Some statement ↦ action_of p statement ])) next)
      room

-- a thread that arrived at an action stands before it, and has no move
module _ (p : Program) where
  arrival-next : (s : LocalState) (statement : Stmt) → arrival_of s ≡ AtAction statement → next_statement s.top.todo ≡ Some statement
  arrival-next s statement e = go (next_statement s.top.todo) e
    where
      go : (o : Option Stmt) → elim o [ None ↦ Finished | Some statement ↦ AtAction statement ] ≡ AtAction statement → o ≡ Some statement
      go None e = absurd (let f : Finished ≡ AtAction statement = e in cc)
      go (Some x) e = let f : AtAction x ≡ AtAction statement = e in cc

  -- an arrival at an action
  abbrev IsBefore : Ahead → Type 0
  IsBefore a = (statement : Stmt) → a.arrival ≡ AtAction statement → (next_statement a.local.top.todo ≡ Some statement) × (move p a.local ≡ None)

  stops-before : (s : LocalState) (o : Option LocalState) → move p s ≡ o → IsBefore (stops s o)
  stops-before s None none = λ statement e. (arrival-next s statement e, none)
  stops-before s (Some next) is = λ statement e. absurd (let f : Watchdog ≡ AtAction statement = e in cc)

  goes_on-before : (go : LocalState → Ahead) (s : LocalState) (o : Option LocalState) → move p s ≡ o → ((next : LocalState) → IsBefore (go next)) → IsBefore (goes_on go s o)
  goes_on-before go s None none all = λ statement e. (arrival-next s statement e, none)
  goes_on-before go s (Some next) is all = all next

  ahead_by-before : (n : ℕ) (s : LocalState) → IsBefore (ahead_by p n s)
  unfolding ahead_by
  ahead_by-before zero s = stops-before s (move p s) refl
  ahead_by-before (suc n) s = goes_on-before (λ next. ahead_by p n next) s (move p s) refl (λ next. ahead_by-before n next)

  pub ahead-before : (s : LocalState) (statement : Stmt) → (ahead p s).arrival ≡ AtAction statement → next_statement (ahead p s).local.top.todo ≡ Some statement
  ahead-before s statement at = (ahead_by-before most_moves s statement at).0

  pub ahead-rests : (s : LocalState) (statement : Stmt) → (ahead p s).arrival ≡ AtAction statement → move p (ahead p s).local ≡ None
  ahead-rests s statement at = (ahead_by-before most_moves s statement at).1

-- who can be chosen is ready
pub ready-activity : (a : Activity) → elim a [ Ready ↦ true | Delayed wake ↦ false | Waiting wait ↦ false ] ≡ true → a ≡ Ready
ready-activity Ready e = refl
ready-activity (Delayed wake) e = absurd (true≢false (sym e))
ready-activity (Waiting wait) e = absurd (true≢false (sym e))

module _ (p : Program) (K : State) (h : IsSound p K) where
  -- a ready thread after its moves
  pub arrived-sound : (t : ℕ) (thread : Thread) (a : Ahead) → thread_of K t ≡ Some thread → thread.activity ≡ Ready → IsSound p (changed K t (arrived a))
  arrived-sound t thread a lives ready = sound-changed p K h t (arrived a) thread lives
      (record {
        known = (sound_thread p K h t thread lives).known;
        paid = (sound_thread p K h t thread lives).paid;
        doing = subst (IsDoing p K.ticks K.queues K.counts a.local thread.debt) (sym ready) tt;
      })
      refl refl

-- a thread that ran ahead is there, and ready to act
pub arrived-caller : (K : State) (t : ℕ) (thread : Thread) (a : Ahead) → thread_of K t ≡ Some thread → thread.activity ≡ Ready →
    IsCaller (changed K t (arrived a)) t a.local thread.debt
arrived-caller K t thread a lives ready = record {
  thread = arrived a thread;
  lives = ap (λ (K' : State). thread_of K' t) (changed-is K t (arrived a) thread lives)
      ∙ set_thread K t (Live (arrived a thread)) (live_within K t thread lives);
  ready = ready;
  at = refl;
  owes = refl;
}

module _ (p : Program) (limits : IsWithinLimits p) (K : State) (h : IsSound p K) (few : K.events ≤ most_events) where
  -- a step of a ready thread
  step_of-sound : (t : ℕ) (thread : Thread) → thread_of K t ≡ Some thread → thread.activity ≡ Ready → IsSound p (step_of p K t thread)
  step_of-sound t thread lives ready = go (ahead p thread.local).arrival refl
    where
      a : Ahead
      a = ahead p thread.local

      K1 : State
      K1 = changed K t (arrived a)

      ended : (code : ℕ) → IsSound p (settle p t (Stops code) K1)
      ended code = settle-sound p K1 t a.local thread.debt (arrived-sound p K h t thread a lives ready) (arrived-caller K t thread a lives ready) (Stops code) tt

      acts : (statement : Stmt) → a.arrival ≡ AtAction statement → IsSound p
          (cond (ltb record_room (thread.debt + need p t a.local.top.locals statement)) (settle p t (Stops no_record_room) K1)
          (settled p t (effect_of p K1 t a.local.top.locals statement)))
      acts statement e = cond_both (ltb record_room (thread.debt + need p t a.local.top.locals statement)) (settle p t (Stops no_record_room) K1)
          (settled p t (effect_of p K1 t a.local.top.locals statement)) (IsSound p)
          (λ no. ended no_record_room)
          (λ room. settled-sound p t a.local thread.debt (effect_of p K1 t a.local.top.locals statement)
          (effect-sound p limits K1 t a.local thread.debt (arrived-sound p K h t thread a lives ready) (arrived-caller K t thread a lives ready) few statement
          (ahead-before p thread.local statement e) (ltb-false _ _ room)))

      go : (arrival : Arrival) → a.arrival ≡ arrival → IsSound p (elim arrival [
        | Finished ↦ settle p t (Stops ordinary_end) K1
        | Watchdog ↦ settle p t (Stops watchdog) K1
        | AtAction statement ↦ cond (ltb record_room (thread.debt + need p t a.local.top.locals statement)) (settle p t (Stops no_record_room) K1)
            (settled p t (effect_of p K1 t a.local.top.locals statement))
      ])
      go Finished e = ended ordinary_end
      go Watchdog e = ended watchdog
      go (AtAction statement) e = acts statement e

  pub step-sound : IsSound p (step p K)
  step-sound = go (chosen K) refl
    where
      by : (t : ℕ) → (thread : Thread) → thread_of K t ≡ Some thread → is_ready thread ≡ true → IsSound p
          (elim (thread_of K t) [ None ↦ K | Some thread ↦ step_of p K t thread ])
      by t thread lives ready = subst (λ (o : Option Thread). IsSound p (elim o [ None ↦ K | Some thread ↦ step_of p K t thread ])) (sym lives)
          (step_of-sound t thread lives (ready-activity thread.activity ready))

      go : (o : Option ℕ) → chosen K ≡ o → IsSound p
          (elim o [ None ↦ K | Some t ↦ elim (thread_of K t) [ None ↦ K | Some thread ↦ step_of p K t thread ] ])
      go None e = h
      go (Some t) e = let head = head_of_line is_ready K t e in by t head.0 head.1 head.2

  pub input-sound : (channel value : ℕ) → IsSound p (input p K channel value)
  input-sound channel value = go (position (has_channel channel) p.queues)
    where
      by : (o : Option State) (queue : ℕ) → MatchOption o (IsHeld p K.queues K.counts Send queue) (Follows p K) → IsSound p (unwrap_or o K)
      by None queue m = h
      by (Some K') queue m = m.sound

      go : (o : Option ℕ) → IsSound p (elim o [ None ↦ K | Some queue ↦ unwrap_or (delivered p K queue value) K ])
      go None = h
      go (Some queue) = by (delivered p K queue value) queue (delivered-sound p K h queue value)

-- one event more is counted
pub counted-sound : (p : Program) (K : State) → IsSound p K → IsSound p (counted K)
counted-sound p K h = record {
  rows = h.rows;
  ticks = let le = h.ticks in omega arith;
  queues = h.queues;
  console = h.console;
  objects = h.objects;
}

-- one event
pub one-sound : (p : Program) (K : State) (event : Event) → IsWithinLimits p → IsSound p K → K.events < most_events → IsSound p (one p K event)
one-sound p K Step limits h l = step-sound p limits (counted K) (counted-sound p K h) (omega arith)
one-sound p K Tick limits h l = tick-sound p (counted K) (counted-sound p K h) (let le = h.ticks in omega arith)
one-sound p K (Input channel value) limits h l = input-sound p limits (counted K) (counted-sound p K h) (omega arith) channel value
