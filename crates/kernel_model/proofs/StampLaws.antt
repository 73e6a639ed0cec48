-- How many stamps an event gives at most.
use Rattle.std.proofs.Common.{ltb, leb, ◌≡◌, ◌≢◌, ℕ, zero, suc, ◌+◌, ◌-◌, ◌<◌, ◌≤◌, Bool, cond, ◌&&◌, ◌==◌, List, [], ◌∷◌, ◌++◌, length, fold, position, unwrap_or, Option, Some, None, IfSome, ⊎_elim, subst, arith}
use Rattle.std.specs.List.{range_with_len}
use Rattle.std.proofs.lemmas.Bool.{cases_eq, cond_both}
use Rattle.kernel_model.specs.declared.event.Event.{Event}
use Rattle.kernel_model.specs.declared.event.Event.TheVariants.{Step, Tick, Input}
use Rattle.kernel_model.specs.declared.what.What.{What}
use Rattle.kernel_model.specs.declared.what.What.TheVariants.{Send, Receive, Take}
use Rattle.kernel_model.specs.Kernel.{Thread, Row, State, row_of, thread_of, is_live, with_row, changed, behind, items_of, with_items, count_of, with_count}
use Rattle.kernel_model.specs.Order.{first, chosen}
use Rattle.kernel_model.specs.Serve.{Effect, Fate, answers, becomes, held, finish, until_of, wake_of, timed_out, settle, settled}
use Rattle.kernel_model.specs.Serve.Fate.{Serves, ServesBack, Sleeps, Blocks, Enters, Stops, Goes}
use Rattle.kernel_model.specs.Calls.{spawn, send, receive, take as take_one, give, console_room, no_thread, birth_row, vacant, with_priority, priority_of, capacity_of, maximum_of, with_item, delivered, value_sent, refilled, has_channel, input}
use Rattle.kernel_model.specs.Transactions.{BlockEnd, block}
use Rattle.kernel_model.specs.Transactions.BlockEnd.{Gave, Aborted, Fault}
use Rattle.kernel_model.specs.Act.{effect_of_call, effect_of_end, effect_of_layer, effect_of, need, whom, printed_line}
use Rattle.thread_tree.specs.Numbers.{template_number, queue_number, semaphore_number}
use Rattle.kernel_model.specs.Run.{record_room, row_count, ordinary_end, watchdog, no_record_room, arrived, performed, step_of, step, woken_by, woken, all_woken, has_equals, rotated, tick, counted, one, initial}
use Rattle.kernel_model.specs.Kernel.Row.{Free, Live}
use Rattle.kernel_model.specs.Sound.{listed, IsApart, IsSound}
use Rattle.kernel_model.proofs.RowLemmas.{live_in-Some, live_within, live_past, apart_at}
use Rattle.thread_tree.specs.declared.local.Local.{Local}
use Rattle.thread_tree.specs.declared.action.Call.{Call}
use Rattle.thread_tree.specs.declared.action.Call.TheVariants as call
use Rattle.thread_tree.specs.declared.block.Block.{Block}
use Rattle.thread_tree.specs.declared.block.Stmt.{Stmt, out-Stmt}
use Rattle.thread_tree.specs.declared.block.Stmt.TheOpen.{Stmt-F}
use Rattle.thread_tree.specs.declared.block.Stmt.TheOpen as stmt
use Rattle.thread_tree.specs.Ahead.{Ahead, Arrival, ahead}
use Rattle.thread_tree.specs.Ahead.Arrival.{AtAction, Finished, Watchdog}
use Rattle.thread_tree.specs.Program.{Program}
use Rattle.thread_tree.specs.Value.{value_of, values_in}
use Rattle.thread_tree.specs.Limits.{IsWithinLimits}

-- the next stamp of a kernel, and that of an effect's kernel
abbrev next_in : State → ℕ
next_in K = K.stamp

abbrev next_by : Effect → ℕ
next_by effect = effect.kernel.stamp

-- one of two kernels with a bound of the next stamp has it
either-stamps : (n : ℕ) (b : Bool) (K L : State) → K.stamp ≤ n → L.stamp ≤ n → (cond b K L).stamp ≤ n
either-stamps n b K L e f = cond_both b K L (λ K. K.stamp ≤ n) (λ t. e) (λ t. f)

-- one of two effects
either-effect : (n : ℕ) (b : Bool) (x y : Effect) → x.kernel.stamp ≤ n → y.kernel.stamp ≤ n → (cond b x y).kernel.stamp ≤ n
either-effect n b x y e f = cond_both b x y (λ x. x.kernel.stamp ≤ n) (λ t. e) (λ t. f)

-- a fate gives one stamp at most
settle-stamps : (p : Program) (t : ℕ) (fate : Fate) (K : State) → (settle p t fate K).stamp ≤ K.stamp + 1
settle-stamps p t (Serves results) K = omega arith
settle-stamps p t (ServesBack results) K = omega arith
settle-stamps p t (Sleeps wake) K = omega arith
settle-stamps p t (Blocks wait) K = omega arith
settle-stamps p t Enters K = omega arith
settle-stamps p t (Stops code) K = omega arith
settle-stamps p t Goes K = omega arith

module _ (p : Program) (K : State) where
  held-stamps : (what : What) (target value limit : ℕ) → (held p K what target value limit).kernel.stamp ≤ K.stamp + 1
  held-stamps what target value limit = either-effect (K.stamp + 1) (limit == 0) (answers (timed_out p what target) K)
      (becomes (Blocks (record { what = what; target = target; value = value; until = until_of K limit })) K) (omega arith) (omega arith)

  delivered-stamps : (queue value : ℕ) (L : State) → L.stamp ≤ K.stamp + 1 → (unwrap_or (delivered p K queue value) L).stamp ≤ K.stamp + 1
  delivered-stamps queue value L e = go (first K Receive queue)
    where
      go : (o : Option ℕ) → (unwrap_or (elim o [
        | Some u ↦ Some (finish p K u (1 ∷ value ∷ []))
        | None ↦ cond (ltb (length (items_of K queue)) (capacity_of p queue)) (Some (with_item K queue value)) None
      ]) L).stamp ≤ K.stamp + 1
      go (Some u) = omega arith
      go None = cond_both (ltb (length (items_of K queue)) (capacity_of p queue)) (Some (with_item K queue value)) None
          (λ o. (unwrap_or o L).stamp ≤ K.stamp + 1) (λ t. omega arith) (λ t. e)

  send-stamps : (queue value limit : ℕ) → (send p K queue value limit).kernel.stamp ≤ K.stamp + 1
  send-stamps queue value limit = go (delivered p K queue value) (delivered-stamps queue value K (omega arith))
    where
      go : (o : Option State) → (unwrap_or o K).stamp ≤ K.stamp + 1 →
          next_by (elim o [ Some K' ↦ answers (1 ∷ []) K' | None ↦ held p K Send queue value limit ]) ≤ K.stamp + 1
      go (Some K') e = e
      go None e = held-stamps Send queue value limit

  receive-stamps : (queue limit : ℕ) → (receive p K queue limit).kernel.stamp ≤ K.stamp + 1
  receive-stamps queue limit = go (items_of K queue)
    where
      filled : (items : List ℕ) → (refilled p (with_items K queue items) queue).stamp ≤ K.stamp + 1
      filled items = by (first K Send queue)
        where
          by : (o : Option ℕ) → next_in (elim o [
            | None ↦ with_items K queue items
            | Some u ↦ finish p (with_item (with_items K queue items) queue (value_sent (with_items K queue items) u)) u (1 ∷ [])
          ]) ≤ K.stamp + 1
          by None = omega arith
          by (Some u) = omega arith

      go : (xs : List ℕ) → next_by (elim xs [
        | [] ↦ held p K Receive queue 0 limit
        | item ∷ items ↦ answers (1 ∷ item ∷ []) (refilled p (with_items K queue items) queue)
      ]) ≤ K.stamp + 1
      go [] = held-stamps Receive queue 0 limit
      go (item ∷ items) = filled items

  take-stamps : (semaphore limit : ℕ) → (take_one p K semaphore limit).kernel.stamp ≤ K.stamp + 1
  take-stamps semaphore limit = go (count_of K semaphore)
    where
      go : (n : ℕ) → next_by (elim n [ zero ↦ held p K Take semaphore 0 limit | suc count ↦ answers (1 ∷ []) (with_count K semaphore count) ]) ≤ K.stamp + 1
      go zero = held-stamps Take semaphore 0 limit
      go (suc count) = omega arith

  give-stamps : (semaphore : ℕ) → (give p K semaphore).kernel.stamp ≤ K.stamp + 1
  give-stamps semaphore = go (first K Take semaphore)
    where
      go : (o : Option ℕ) → next_by (elim o [
        | Some u ↦ answers (1 ∷ []) (finish p K u (1 ∷ []))
        | None ↦ cond (ltb (count_of K semaphore) (maximum_of p semaphore))
            (answers (1 ∷ []) (with_count K semaphore (count_of K semaphore + 1))) (answers (0 ∷ []) K)
      ]) ≤ K.stamp + 1
      go (Some u) = omega arith
      go None = either-effect (K.stamp + 1) (ltb (count_of K semaphore) (maximum_of p semaphore))
          (answers (1 ∷ []) (with_count K semaphore (count_of K semaphore + 1))) (answers (0 ∷ []) K) (omega arith) (omega arith)

  spawn-stamps : (number : ℕ) (arguments : List ℕ) → (spawn p K number arguments).kernel.stamp ≤ K.stamp + 1
  spawn-stamps number arguments = go (vacant K.rows)
    where
      go : (o : Option ℕ) → next_by (elim o [
        | None ↦ answers (no_thread ∷ []) K
        | Some u ↦ answers (u ∷ []) (record (with_row K u (birth_row p number arguments K.stamp)) { stamp = K.stamp + 1 })
      ]) ≤ K.stamp + 1
      go None = omega arith
      go (Some u) = omega arith

  -- a call gives one stamp at most
  call-stamps : (t : ℕ) (locals : List Local) (c : Call) → (effect_of_call p K t locals c).kernel.stamp ≤ K.stamp + 1
  call-stamps t locals (call.Print items) = either-effect (K.stamp + 1) (leb (length K.console + length (printed_line locals items)) console_room)
      (answers (1 ∷ []) (record K { console = K.console ++ printed_line locals items })) (answers (0 ∷ []) K) (omega arith) (omega arith)
  call-stamps t locals (call.Spawn template arguments) = spawn-stamps (template_number p template.name) (values_in locals arguments)
  call-stamps t locals (call.Delete target) = let w = whom t locals target in either-effect (K.stamp + 1) (is_live K w)
      (cond (w == t) (becomes Goes K) (answers (1 ∷ []) (with_row K w Free))) (answers (0 ∷ []) K)
      (either-effect (K.stamp + 1) (w == t) (becomes Goes K) (answers (1 ∷ []) (with_row K w Free)) (omega arith) (omega arith)) (omega arith)
  call-stamps t locals (call.Delay ticks) = either-effect (K.stamp + 1) (value_of locals ticks == 0) (becomes (ServesBack []) K)
      (becomes (Sleeps (wake_of K (value_of locals ticks))) K) (omega arith) (omega arith)
  call-stamps t locals (call.Setprio target priority) = let w = whom t locals target in let q = value_of locals priority in
      either-effect (K.stamp + 1) (is_live K w && leb q 7)
      (answers (1 ∷ []) (cond (priority_of K w == q) K (behind K w (with_priority q)))) (answers (0 ∷ []) K)
      (either-stamps (K.stamp + 1) (priority_of K w == q) K (behind K w (with_priority q)) (omega arith) (omega arith)) (omega arith)
  call-stamps t locals (call.Send queue value limit) = send-stamps (queue_number p queue.name) (value_of locals value) (value_of locals limit)
  call-stamps t locals (call.Receive queue limit) = receive-stamps (queue_number p queue.name) (value_of locals limit)
  call-stamps t locals (call.Take semaphore limit) = take-stamps (semaphore_number p semaphore.name) (value_of locals limit)
  call-stamps t locals (call.Give semaphore) = give-stamps (semaphore_number p semaphore.name)
  call-stamps t locals c = omega arith

  end-stamps : (given : ℕ) (end : BlockEnd) → (effect_of_end K given end).kernel.stamp ≤ K.stamp + 1
  end-stamps given (Gave objects values) = omega arith
  end-stamps given Aborted = omega arith
  end-stamps given (Fault code) = omega arith

  layer-stamps : (t : ℕ) (locals : List Local) (s : Stmt-F Stmt Block) → (effect_of_layer p K t locals s).kernel.stamp ≤ K.stamp + 1
  layer-stamps t locals (stmt.Let at e) = omega arith
  layer-stamps t locals (stmt.Set at e) = omega arith
  layer-stamps t locals (stmt.Apply to callee arguments) = omega arith
  layer-stamps t locals (stmt.If e then_block else_block) = omega arith
  layer-stamps t locals (stmt.While e body) = omega arith
  layer-stamps t locals (stmt.Ploop place body) = omega arith
  layer-stamps t locals (stmt.Break place) = omega arith
  layer-stamps t locals (stmt.Return place value) = omega arith
  layer-stamps t locals (stmt.Atomic place to body) = end-stamps (length to - 1) (block p K.objects locals (length to - 1) body)
  layer-stamps t locals (stmt.Call place c to) = call-stamps t locals c

  -- the effect of an action gives one stamp at most
  pub effect-stamps : (t : ℕ) (locals : List Local) (s : Stmt) → (effect_of p K t locals s).kernel.stamp ≤ K.stamp + 1
  effect-stamps t locals s = layer-stamps t locals (out-Stmt s)

  -- an action and its fate give two stamps at most
  pub acts-stamps : (t : ℕ) (locals : List Local) (s : Stmt) → (settled p t (effect_of p K t locals s)).stamp ≤ K.stamp + 2
  acts-stamps t locals s = let settles = settle-stamps p t (effect_of p K t locals s).fate (effect_of p K t locals s).kernel in
      let acts = effect-stamps t locals s in omega arith

  performed-stamps : (t : ℕ) (a : Ahead) (thread : Thread) → (performed p K t a thread).stamp ≤ K.stamp + 2
  performed-stamps t a thread = go a.arrival
    where
      go : (arrival : Arrival) → next_in (elim arrival [
        | Finished ↦ settle p t (Stops ordinary_end) K
        | Watchdog ↦ settle p t (Stops watchdog) K
        | AtAction statement ↦ cond (ltb record_room (thread.debt + need p t a.local.top.locals statement)) (settle p t (Stops no_record_room) K)
            (settled p t (effect_of p K t a.local.top.locals statement))
      ]) ≤ K.stamp + 2
      go Finished = omega arith
      go Watchdog = omega arith
      go (AtAction statement) = either-stamps (K.stamp + 2) (ltb record_room (thread.debt + need p t a.local.top.locals statement))
          (settle p t (Stops no_record_room) K) (settled p t (effect_of p K t a.local.top.locals statement)) (omega arith)
          (acts-stamps t a.local.top.locals statement)

-- a step gives two stamps at most
step-stamps : (p : Program) (K : State) → (step p K).stamp ≤ K.stamp + 2
step-stamps p K = go (chosen K)
  where
    by : (t : ℕ) (o : Option Thread) → next_in (elim o [ None ↦ K | Some thread ↦ step_of p K t thread ]) ≤ K.stamp + 2
    by t None = omega arith
    by t (Some thread) = performed-stamps p (changed K t (arrived (ahead p thread.local))) t (ahead p thread.local) thread

    go : (o : Option ℕ) → next_in (elim o [ None ↦ K | Some t ↦ elim (thread_of K t) [ None ↦ K | Some thread ↦ step_of p K t thread ] ]) ≤ K.stamp + 2
    go None = omega arith
    go (Some t) = by t (thread_of K t)

woken-stamps : (p : Program) (K : State) (t : ℕ) → (woken p K t).stamp ≤ K.stamp + 1
woken-stamps p K t = go (thread_of K t)
  where
    by : (o : Option (List ℕ)) → next_in (elim o [ None ↦ K | Some results ↦ finish p K t results ]) ≤ K.stamp + 1
    by None = omega arith
    by (Some results) = omega arith

    go : (o : Option Thread) → next_in (elim o [ None ↦ K | Some thread ↦ elim (woken_by p K.ticks thread.activity) [ None ↦ K | Some results ↦ finish p K t results ] ]) ≤ K.stamp + 1
    go None = omega arith
    go (Some thread) = by (woken_by p K.ticks thread.activity)

pub each_woken-stamps : (p : Program) (ts : List ℕ) (K : State) → (fold (woken p) K ts).stamp ≤ K.stamp + length ts
each_woken-stamps p [] K = omega arith
each_woken-stamps p (t ∷ ts) K = let rest = each_woken-stamps p ts (woken p K t) in let one = woken-stamps p K t in omega arith

rotated-stamps : (K : State) (o : Option ℕ) → (rotated K o).stamp ≤ K.stamp + 1
rotated-stamps K None = omega arith
rotated-stamps K (Some t) = go (thread_of K t)
  where
    go : (o : Option Thread) → next_in (elim o [ None ↦ K | Some thread ↦ cond (has_equals K t thread) (behind K t (λ same. same)) K ]) ≤ K.stamp + 1
    go None = omega arith
    go (Some thread) = either-stamps (K.stamp + 1) (has_equals K t thread) (behind K t (λ same. same)) K (omega arith) (omega arith)

tick-stamps : (p : Program) (K : State) → (tick p K).stamp ≤ K.stamp + 17
unfolding all_woken
tick-stamps p K = let turns = rotated-stamps (all_woken p (record K { ticks = K.ticks + 1 })) (chosen K) in
    let wakes = each_woken-stamps p (range_with_len 0 row_count) (record K { ticks = K.ticks + 1 }) in omega arith

input-stamps : (p : Program) (K : State) (channel value : ℕ) → (input p K channel value).stamp ≤ K.stamp + 1
input-stamps p K channel value = go (position (has_channel channel) p.queues)
  where
    go : (o : Option ℕ) → next_in (elim o [ None ↦ K | Some queue ↦ unwrap_or (delivered p K queue value) K ]) ≤ K.stamp + 1
    go None = omega arith
    go (Some queue) = delivered-stamps p K queue value K (omega arith)

-- an event gives seventeen stamps at most, one for each row and one for who goes behind its equals
pub one-stamps : (p : Program) (K : State) (event : Event) → (one p K event).stamp ≤ K.stamp + 17
one-stamps p K Step = let le = step-stamps p (counted K) in omega arith
one-stamps p K Tick = tick-stamps p (counted K)
one-stamps p K (Input channel value) = let le = input-stamps p (counted K) channel value in omega arith

-- at the start a stamp is given for each thread that runs from the start
pub initial-stamps : (p : Program) → IsWithinLimits p → (initial p).stamp ≤ 16
unfolding initial
initial-stamps p limits = limits.starts

-- the stamps of live threads are past ones
pub stamp-past : (p : Program) (K : State) (t : ℕ) (thread : Thread) → IsSound p K → thread_of K t ≡ Some thread → thread.stamp < K.stamp
stamp-past p K t thread h lives = live_past K.stamp K t thread h.rows.past lives

-- two threads that stand in lists by the same stamp are one
pub stamps-apart : (p : Program) (K : State) (t u s : ℕ) (a b : Thread) → IsSound p K → thread_of K t ≡ Some a → thread_of K u ≡ Some b →
    listed a.stamp a.activity ≡ Some s → listed b.stamp b.activity ≡ Some s → t ≡ u
stamps-apart p K t u s a b h lives lives' first second = ⊎_elim (λ e. e)
    (λ ne. absurd (two (listed a.stamp a.activity) (listed b.stamp b.activity) first second
    (subst (λ (r : Row). IsApart (Live a) r) (live_in-Some (row_of K u) b lives')
    (subst (λ (r : Row). IsApart r (row_of K u)) (live_in-Some (row_of K t) a lives)
    (apart_at K.rows t u Free h.rows.apart (live_within K t a lives) (live_within K u b lives') ne)))))
    (cases_eq t u)
  where
    two : (x y : Option ℕ) → x ≡ Some s → y ≡ Some s → IfSome x (λ m. IfSome y (λ n. m ≢ n)) → ⊥
    two None y e g differ = absurd (let c : ◌≡◌ {A = Option ℕ} None (Some s) = e in cc)
    two (Some m) None e g differ = absurd (let c : ◌≡◌ {A = Option ℕ} None (Some s) = g in cc)
    two (Some m) (Some n) e g differ = differ (let c : Some m ≡ Some s = e in let d : Some n ≡ Some s = g in let same : m ≡ n = cc in same)
