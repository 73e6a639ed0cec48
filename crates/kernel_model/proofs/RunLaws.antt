-- Each event raises the counter by one, and a run of so many events is sound.
use Rattle.std.proofs.Common.{ltb, leb, ◌≡◌, ℕ, zero, suc, ◌+◌, ◌-◌, ◌<◌, ◌≤◌, Bool, cond, ◌&&◌, ◌==◌, List, [], ◌∷◌, ◌++◌, length, fold, get_or, position, unwrap_or, Option, Some, None, refl, sym, ap, subst, ◌∙◌, arith}
use Rattle.std.specs.List.{range_with_len}
use Rattle.std.proofs.lemmas.Bool.{cond_both}
use Rattle.std.proofs.lemmas.List.Sums.{fold_more}
use Rattle.kernel_model.specs.declared.event.Event.{Event}
use Rattle.kernel_model.specs.declared.event.Event.TheVariants.{Step, Tick, Input}
use Rattle.kernel_model.specs.declared.what.What.{What}
use Rattle.kernel_model.specs.declared.what.What.TheVariants.{Send, Receive, Take}
use Rattle.kernel_model.specs.Kernel.{Thread, State, thread_of, is_live, with_row, changed, behind, items_of, with_items, count_of, with_count}
use Rattle.kernel_model.specs.Kernel.Row.{Free}
use Rattle.kernel_model.specs.Order.{first, chosen}
use Rattle.kernel_model.specs.Serve.{Effect, Fate, answers, becomes, held, finish, until_of, wake_of, timed_out, settle, settled}
use Rattle.kernel_model.specs.Serve.Fate.{Serves, ServesBack, Sleeps, Blocks, Enters, Stops, Goes}
use Rattle.kernel_model.specs.Calls.{spawn, send, receive, take as take_one, give, console_room, no_thread, birth_row, vacant, with_priority, priority_of, capacity_of, maximum_of, with_item, delivered, value_sent, refilled, has_channel, input}
use Rattle.kernel_model.specs.Transactions.{BlockEnd, block}
use Rattle.kernel_model.specs.Transactions.BlockEnd.{Gave, Aborted, Fault}
use Rattle.kernel_model.specs.Act.{effect_of_call, effect_of_end, effect_of_layer, effect_of, need, whom, printed_line}
use Rattle.thread_tree.specs.Numbers.{template_number, queue_number, semaphore_number}
use Rattle.kernel_model.specs.Run.{record_room, row_count, ordinary_end, watchdog, no_record_room, arrived, performed, step_of, step, woken_by, woken, all_woken, has_equals, rotated, tick, counted, one, initial, on, after}
use Rattle.kernel_model.specs.Sound.{IsSound}
use Rattle.kernel_model.proofs.ActLemmas.{most_events, one-sound}
use Rattle.kernel_model.proofs.StartLemmas.{initial-sound}
use Rattle.thread_tree.specs.declared.local.Local.{Local}
use Rattle.thread_tree.specs.declared.action.Call.{Call}
use Rattle.thread_tree.specs.declared.action.Call.TheVariants as call
use Rattle.thread_tree.specs.declared.block.Block.{Block}
use Rattle.thread_tree.specs.declared.block.Stmt.{Stmt, out-Stmt}
use Rattle.thread_tree.specs.declared.block.Stmt.TheOpen.{Stmt-F}
use Rattle.thread_tree.specs.declared.block.Stmt.TheOpen as stmt
use Rattle.thread_tree.specs.Ahead.{Ahead, Arrival, ahead}
use Rattle.thread_tree.specs.Ahead.Arrival.{AtAction, Finished, Watchdog}
use Rattle.thread_tree.specs.Program.{Program}
use Rattle.thread_tree.specs.Value.{value_of, values_in}
use Rattle.thread_tree.specs.Limits.{IsWithinLimits}

-- the counter of a kernel, and that of an effect's kernel
abbrev counted_in : State → ℕ
counted_in K = K.events

abbrev counted_by : Effect → ℕ
counted_by effect = effect.kernel.events

-- one of two kernels with a counter has it
either-counts : (n : ℕ) (b : Bool) (K L : State) → K.events ≡ n → L.events ≡ n → (cond b K L).events ≡ n
either-counts n b K L e f = cond_both b K L (λ K. K.events ≡ n) (λ t. e) (λ t. f)

-- one of two effects
either-effect : (n : ℕ) (b : Bool) (x y : Effect) → x.kernel.events ≡ n → y.kernel.events ≡ n → (cond b x y).kernel.events ≡ n
either-effect n b x y e f = cond_both b x y (λ x. x.kernel.events ≡ n) (λ t. e) (λ t. f)

-- a fate counts no event
settle-counts : (p : Program) (t : ℕ) (fate : Fate) (K : State) → (settle p t fate K).events ≡ K.events
settle-counts p t (Serves results) K = refl
settle-counts p t (ServesBack results) K = refl
settle-counts p t (Sleeps wake) K = refl
settle-counts p t (Blocks wait) K = refl
settle-counts p t Enters K = refl
settle-counts p t (Stops code) K = refl
settle-counts p t Goes K = refl

module _ (p : Program) (K : State) where
  held-counts : (what : What) (target value limit : ℕ) → (held p K what target value limit).kernel.events ≡ K.events
  held-counts what target value limit = either-effect K.events (limit == 0) (answers (timed_out p what target) K)
      (becomes (Blocks (record { what = what; target = target; value = value; until = until_of K limit })) K) refl refl

  delivered-counts : (queue value : ℕ) (L : State) → L.events ≡ K.events → (unwrap_or (delivered p K queue value) L).events ≡ K.events
  delivered-counts queue value L e = go (first K Receive queue)
    where
      go : (o : Option ℕ) → (unwrap_or (elim o [
        | Some u ↦ Some (finish p K u (1 ∷ value ∷ []))
        | None ↦ cond (ltb (length (items_of K queue)) (capacity_of p queue)) (Some (with_item K queue value)) None
      ]) L).events ≡ K.events
      go (Some u) = refl
      go None = cond_both (ltb (length (items_of K queue)) (capacity_of p queue)) (Some (with_item K queue value)) None
          (λ o. (unwrap_or o L).events ≡ K.events) (λ t. refl) (λ t. e)

  send-counts : (queue value limit : ℕ) → (send p K queue value limit).kernel.events ≡ K.events
  send-counts queue value limit = go (delivered p K queue value) (delivered-counts queue value K refl)
    where
      go : (o : Option State) → (unwrap_or o K).events ≡ K.events →
          counted_by (elim o [ Some K' ↦ answers (1 ∷ []) K' | None ↦ held p K Send queue value limit ]) ≡ K.events
      go (Some K') e = e
      go None e = held-counts Send queue value limit

  receive-counts : (queue limit : ℕ) → (receive p K queue limit).kernel.events ≡ K.events
  receive-counts queue limit = go (items_of K queue)
    where
      filled : (items : List ℕ) → (refilled p (with_items K queue items) queue).events ≡ K.events
      filled items = by (first K Send queue)
        where
          by : (o : Option ℕ) → counted_in (elim o [
            | None ↦ with_items K queue items
            | Some u ↦ finish p (with_item (with_items K queue items) queue (value_sent (with_items K queue items) u)) u (1 ∷ [])
          ]) ≡ K.events
          by None = refl
          by (Some u) = refl

      go : (xs : List ℕ) → counted_by (elim xs [
        | [] ↦ held p K Receive queue 0 limit
        | item ∷ items ↦ answers (1 ∷ item ∷ []) (refilled p (with_items K queue items) queue)
      ]) ≡ K.events
      go [] = held-counts Receive queue 0 limit
      go (item ∷ items) = filled items

  take-counts : (semaphore limit : ℕ) → (take_one p K semaphore limit).kernel.events ≡ K.events
  take-counts semaphore limit = go (count_of K semaphore)
    where
      go : (n : ℕ) → counted_by (elim n [ zero ↦ held p K Take semaphore 0 limit | suc count ↦ answers (1 ∷ []) (with_count K semaphore count) ]) ≡ K.events
      go zero = held-counts Take semaphore 0 limit
      go (suc count) = refl

  give-counts : (semaphore : ℕ) → (give p K semaphore).kernel.events ≡ K.events
  give-counts semaphore = go (first K Take semaphore)
    where
      go : (o : Option ℕ) → counted_by (elim o [
        | Some u ↦ answers (1 ∷ []) (finish p K u (1 ∷ []))
        | None ↦ cond (ltb (count_of K semaphore) (maximum_of p semaphore))
            (answers (1 ∷ []) (with_count K semaphore (count_of K semaphore + 1))) (answers (0 ∷ []) K)
      ]) ≡ K.events
      go (Some u) = refl
      go None = either-effect K.events (ltb (count_of K semaphore) (maximum_of p semaphore))
          (answers (1 ∷ []) (with_count K semaphore (count_of K semaphore + 1))) (answers (0 ∷ []) K) refl refl

  spawn-counts : (number : ℕ) (arguments : List ℕ) → (spawn p K number arguments).kernel.events ≡ K.events
  spawn-counts number arguments = go (vacant K.rows)
    where
      go : (o : Option ℕ) → counted_by (elim o [
        | None ↦ answers (no_thread ∷ []) K
        | Some u ↦ answers (u ∷ []) (record (with_row K u (birth_row p number arguments K.stamp)) { stamp = K.stamp + 1 })
      ]) ≡ K.events
      go None = refl
      go (Some u) = refl

  -- a call counts no event
  call-counts : (t : ℕ) (locals : List Local) (c : Call) → (effect_of_call p K t locals c).kernel.events ≡ K.events
  call-counts t locals (call.Print items) = either-effect K.events (leb (length K.console + length (printed_line locals items)) console_room)
      (answers (1 ∷ []) (record K { console = K.console ++ printed_line locals items })) (answers (0 ∷ []) K) refl refl
  call-counts t locals (call.Spawn template arguments) = spawn-counts (template_number p template.name) (values_in locals arguments)
  call-counts t locals (call.Delete target) = let w = whom t locals target in either-effect K.events (is_live K w)
      (cond (w == t) (becomes Goes K) (answers (1 ∷ []) (with_row K w Free))) (answers (0 ∷ []) K)
      (either-effect K.events (w == t) (becomes Goes K) (answers (1 ∷ []) (with_row K w Free)) refl refl) refl
  call-counts t locals (call.Delay ticks) = either-effect K.events (value_of locals ticks == 0) (becomes (ServesBack []) K)
      (becomes (Sleeps (wake_of K (value_of locals ticks))) K) refl refl
  call-counts t locals (call.Setprio target priority) = let w = whom t locals target in let q = value_of locals priority in
      either-effect K.events (is_live K w && leb q 7)
      (answers (1 ∷ []) (cond (priority_of K w == q) K (behind K w (with_priority q)))) (answers (0 ∷ []) K)
      (either-counts K.events (priority_of K w == q) K (behind K w (with_priority q)) refl refl) refl
  call-counts t locals (call.Send queue value limit) = send-counts (queue_number p queue.name) (value_of locals value) (value_of locals limit)
  call-counts t locals (call.Receive queue limit) = receive-counts (queue_number p queue.name) (value_of locals limit)
  call-counts t locals (call.Take semaphore limit) = take-counts (semaphore_number p semaphore.name) (value_of locals limit)
  call-counts t locals (call.Give semaphore) = give-counts (semaphore_number p semaphore.name)
  call-counts t locals c = refl

  end-counts : (given : ℕ) (end : BlockEnd) → (effect_of_end K given end).kernel.events ≡ K.events
  end-counts given (Gave objects values) = refl
  end-counts given Aborted = refl
  end-counts given (Fault code) = refl

  layer-counts : (t : ℕ) (locals : List Local) (s : Stmt-F Stmt Block) → (effect_of_layer p K t locals s).kernel.events ≡ K.events
  layer-counts t locals (stmt.Let at e) = refl
  layer-counts t locals (stmt.Set at e) = refl
  layer-counts t locals (stmt.Apply to callee arguments) = refl
  layer-counts t locals (stmt.If e then_block else_block) = refl
  layer-counts t locals (stmt.While e body) = refl
  layer-counts t locals (stmt.Ploop place body) = refl
  layer-counts t locals (stmt.Break place) = refl
  layer-counts t locals (stmt.Return place value) = refl
  layer-counts t locals (stmt.Atomic place to body) = end-counts (length to - 1) (block p K.objects locals (length to - 1) body)
  layer-counts t locals (stmt.Call place c to) = call-counts t locals c

  -- an action counts no event
  pub acts-counts : (t : ℕ) (locals : List Local) (s : Stmt) → (settled p t (effect_of p K t locals s)).events ≡ K.events
  acts-counts t locals s = settle-counts p t (effect_of p K t locals s).fate (effect_of p K t locals s).kernel ∙ layer-counts t locals (out-Stmt s)

  performed-counts : (t : ℕ) (a : Ahead) (thread : Thread) → (performed p K t a thread).events ≡ K.events
  performed-counts t a thread = go a.arrival
    where
      go : (arrival : Arrival) → counted_in (elim arrival [
        | Finished ↦ settle p t (Stops ordinary_end) K
        | Watchdog ↦ settle p t (Stops watchdog) K
        | AtAction statement ↦ cond (ltb record_room (thread.debt + need p t a.local.top.locals statement)) (settle p t (Stops no_record_room) K)
            (settled p t (effect_of p K t a.local.top.locals statement))
      ]) ≡ K.events
      go Finished = refl
      go Watchdog = refl
      go (AtAction statement) = either-counts K.events (ltb record_room (thread.debt + need p t a.local.top.locals statement))
          (settle p t (Stops no_record_room) K) (settled p t (effect_of p K t a.local.top.locals statement)) refl
          (acts-counts t a.local.top.locals statement)

-- a step counts no event itself
step-counts : (p : Program) (K : State) → (step p K).events ≡ K.events
step-counts p K = go (chosen K)
  where
    by : (t : ℕ) (o : Option Thread) → counted_in (elim o [ None ↦ K | Some thread ↦ step_of p K t thread ]) ≡ K.events
    by t None = refl
    by t (Some thread) = performed-counts p (changed K t (arrived (ahead p thread.local))) t (ahead p thread.local) thread

    go : (o : Option ℕ) → counted_in (elim o [ None ↦ K | Some t ↦ elim (thread_of K t) [ None ↦ K | Some thread ↦ step_of p K t thread ] ]) ≡ K.events
    go None = refl
    go (Some t) = by t (thread_of K t)

woken-counts : (p : Program) (K : State) (t : ℕ) → (woken p K t).events ≡ K.events
woken-counts p K t = go (thread_of K t)
  where
    by : (o : Option (List ℕ)) → counted_in (elim o [ None ↦ K | Some results ↦ finish p K t results ]) ≡ K.events
    by None = refl
    by (Some results) = refl

    go : (o : Option Thread) → counted_in (elim o [ None ↦ K | Some thread ↦ elim (woken_by p K.ticks thread.activity) [ None ↦ K | Some results ↦ finish p K t results ] ]) ≡ K.events
    go None = refl
    go (Some thread) = by (woken_by p K.ticks thread.activity)

each_woken-counts : (p : Program) (ts : List ℕ) (K : State) → (fold (woken p) K ts).events ≡ K.events
each_woken-counts p [] K = refl
each_woken-counts p (t ∷ ts) K = each_woken-counts p ts (woken p K t) ∙ woken-counts p K t

rotated-counts : (K : State) (o : Option ℕ) → (rotated K o).events ≡ K.events
rotated-counts K None = refl
rotated-counts K (Some t) = go (thread_of K t)
  where
    go : (o : Option Thread) → counted_in (elim o [ None ↦ K | Some thread ↦ cond (has_equals K t thread) (behind K t (λ same. same)) K ]) ≡ K.events
    go None = refl
    go (Some thread) = either-counts K.events (has_equals K t thread) (behind K t (λ same. same)) K refl refl

tick-counts : (p : Program) (K : State) → (tick p K).events ≡ K.events
unfolding all_woken
tick-counts p K = rotated-counts (all_woken p (record K { ticks = K.ticks + 1 })) (chosen K)
    ∙ each_woken-counts p (range_with_len 0 row_count) (record K { ticks = K.ticks + 1 })

input-counts : (p : Program) (K : State) (channel value : ℕ) → (input p K channel value).events ≡ K.events
input-counts p K channel value = go (position (has_channel channel) p.queues)
  where
    go : (o : Option ℕ) → counted_in (elim o [ None ↦ K | Some queue ↦ unwrap_or (delivered p K queue value) K ]) ≡ K.events
    go None = refl
    go (Some queue) = delivered-counts p K queue value K refl

-- each event raises the counter by one
pub one-counts : (p : Program) (K : State) (event : Event) → (one p K event).events ≡ K.events + 1
one-counts p K Step = step-counts p (counted K)
one-counts p K Tick = tick-counts p (counted K)
one-counts p K (Input channel value) = input-counts p (counted K) channel value

-- so many events raise it by their number
pub on-counts : (p : Program) (events : List Event) (K : State) → (on p K events).events ≡ K.events + length events
unfolding on
on-counts p [] K = omega arith
on-counts p (event ∷ events) K = on-counts p events (one p K event) ∙ ap (λ n. n + length events) (one-counts p K event) ∙ omega arith

-- a run keeps the kernel sound
pub on-sound : (p : Program) (events : List Event) (K : State) → IsWithinLimits p → IsSound p K → K.events + length events ≤ most_events →
    IsSound p (on p K events)
unfolding on
on-sound p [] K limits h le = h
on-sound p (event ∷ events) K limits h le = on-sound p events (one p K event) limits
    (one-sound p K event limits h (omega arith)) (let n = one-counts p K event in omega arith)

-- no event is counted at the start
initial-counts : (p : Program) → (initial p).events ≡ 0
unfolding initial
initial-counts p = refl

-- the uncut run begins at the start, and each event leads on
pub after-zero : (p : Program) (events : List Event) → after p events 0 ≡ initial p
unfolding on
after-zero p events = refl

pub after-next : (p : Program) (events : List Event) (n : ℕ) (d : Event) → n < length events →
    after p events (n + 1) ≡ one p (after p events n) (get_or events n d)
unfolding on
after-next p events n d l = fold_more (one p) (initial p) events n d l

-- a run from the start is sound
pub run-sound : (p : Program) (events : List Event) → IsWithinLimits p → length events ≤ most_events → IsSound p (on p (initial p) events)
run-sound p events limits le = on-sound p events (initial p) limits (initial-sound p limits)
    (subst (λ (n : ℕ). n + length events ≤ most_events) (sym (initial-counts p)) (omega arith))
