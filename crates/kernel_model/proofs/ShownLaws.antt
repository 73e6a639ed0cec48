-- The lists that can be seen of a kernel, and who is chosen and served first.
use Rattle.std.proofs.Common.{length, subst, ◌≡◌, ◌≢◌, ℕ, ◌<◌, Bool, true, false, ◌&&◌, ◌==◌, [], get_or, Option, Some, None, IfSome, slice_get, refl, sym, ap, ◌∙◌, ⊎_elim, inr, arith, eqb-true, eq-eqb, true≢false}
use Rattle.std.specs.List.{enumerate_from}
use Rattle.std.proofs.lemmas.List.{get_or-map}
use Rattle.std.proofs.lemmas.List.FromFn.{get_or-map-range_with_len, get_or-enumerate_from, length-enumerate_from}
use Rattle.kernel_model.specs.declared.what.What.TheVariants.{Send, Receive, Take}
use Rattle.kernel_model.specs.Visible.{Queue, Semaphore}
use Rattle.std.proofs.lemmas.Bool.{cases_lt, and_parts, and_from}
use Rattle.kernel_model.specs.Kernel.{Activity, Thread, State, row_of, thread_of, is_ready, items_of, count_of}
use Rattle.kernel_model.specs.Kernel.Activity.{Ready, Delayed, Waiting}
use Rattle.kernel_model.specs.Kernel.Row.{Free, Live}
use Rattle.kernel_model.specs.Order.{line_of, chosen, first}
use Rattle.kernel_model.specs.Run.{is_ready_at}
use Rattle.kernel_model.specs.Show.{visible, shown_queue, shown_semaphore}
use Rattle.kernel_model.specs.Sound.{listed, stamp_in, IsSound}
use Rattle.kernel_model.proofs.RowLemmas.{live_in-Some, live_within, apart_at}
use Rattle.kernel_model.proofs.OrderLemmas.{head_of_line, empty_line}
use Rattle.kernel_model.proofs.OrderLaws.{more_urgent-from, less_urgent, none_before, is_first, no_line}
use Rattle.thread_tree.specs.Program.{Program}

-- the ready list of a priority, as it can be seen
pub ready_list : (p : Program) (K : State) (priority : ℕ) → priority < 8 →
    get_or (visible p K).ready priority [] ≡ line_of (is_ready_at priority) K.rows
unfolding visible
ready_list p K priority l = get_or-map-range_with_len (λ q. line_of (is_ready_at q) K.rows) 0 8 priority priority [] l (omega arith)

-- a ready thread stands in a list by its stamp
ready_stamp : (thread : Thread) → is_ready thread ≡ true → stamp_in (Live thread) ≡ Some thread.stamp
ready_stamp thread e = go thread.activity e
  where
    go : (a : Activity) → elim a [ Ready ↦ true | Delayed wake ↦ false | Waiting wait ↦ false ] ≡ true → listed thread.stamp a ≡ Some thread.stamp
    go Ready e = refl
    go (Delayed wake) e = absurd (true≢false (sym e))
    go (Waiting wait) e = absurd (true≢false (sym e))

-- two ready threads have other stamps
pub other_stamps : (p : Program) (K : State) → IsSound p K → (t u : ℕ) (thread other : Thread) → thread_of K t ≡ Some thread → thread_of K u ≡ Some other →
    is_ready thread ≡ true → is_ready other ≡ true → t ≢ u → thread.stamp ≢ other.stamp
other_stamps p K h t u thread other lives lives' ready ready' ne = go (stamp_in (row_of K t)) (stamp_in (row_of K u))
    (ap stamp_in (live_in-Some (row_of K t) thread lives) ∙ ready_stamp thread ready)
    (ap stamp_in (live_in-Some (row_of K u) other lives') ∙ ready_stamp other ready')
    (apart_at K.rows t u Free h.rows.apart (live_within K t thread lives) (live_within K u other lives') ne)
  where
    go : (a b : Option ℕ) → a ≡ Some thread.stamp → b ≡ Some other.stamp → IfSome a (λ s. IfSome b (λ t. s ≢ t)) → thread.stamp ≢ other.stamp
    go None b e f apart = absurd (let g : ◌≡◌ {A = Option ℕ} None (Some thread.stamp) = e in cc)
    go (Some s) None e f apart = absurd (let g : ◌≡◌ {A = Option ℕ} None (Some other.stamp) = f in cc)
    go (Some s) (Some t) e f apart = λ same. let a : s ≡ thread.stamp = cc in let b : t ≡ other.stamp = cc in apart (a ∙ same ∙ sym b)

module _ (p : Program) (K : State) (h : IsSound p K) (t : ℕ) (thread : Thread) (e : chosen K ≡ Some t) (lives : thread_of K t ≡ Some thread) where
  chosen_ready : is_ready thread ≡ true
  chosen_ready = let head = head_of_line is_ready K t e in
      let same : Some head.0 ≡ Some thread = sym head.1 ∙ lives in
      let equal : head.0 ≡ thread = cc in ap is_ready (sym equal) ∙ head.2

  -- who is chosen stands first in the ready list of its priority
  pub chosen_first : thread.priority < 8 → slice_get (get_or (visible p K).ready thread.priority []) 0 ≡ Some t
  chosen_first l = ap (λ xs. slice_get xs 0) (ready_list p K thread.priority l)
      ∙ is_first (is_ready_at thread.priority) K t thread lives
      (and_from (is_ready thread) (thread.priority == thread.priority) chosen_ready (eq-eqb thread.priority thread.priority refl))
      (λ u other lives' passes ne.
      let parts = and_parts (is_ready other) (other.priority == thread.priority) passes in
      let same = eqb-true other.priority thread.priority parts.1 in
      let le = (less_urgent (u, other) (t, thread) (none_before is_ready K t thread e lives u other lives' parts.0)).1 same in
      let apart = other_stamps p K h t u thread other lives lives' chosen_ready parts.0 ne in
      more_urgent-from (t, thread) (u, other) (inr (sym same, ⊎_elim (λ l. l) (λ ge. absurd (apart (omega arith))) (cases_lt thread.stamp other.stamp))))

  -- the ready lists of greater priorities are empty
  pub none_above : (priority : ℕ) → thread.priority < priority → priority < 8 → get_or (visible p K).ready priority [] ≡ []
  none_above priority above l = ready_list p K priority l ∙ no_line (is_ready_at priority) K (λ u other lives'.
      go u other lives' (is_ready_at priority other) refl)
    where
      go : (u : ℕ) (other : Thread) → thread_of K u ≡ Some other → (b : Bool) → is_ready_at priority other ≡ b → b ≡ false
      go u other lives' false passes = refl
      go u other lives' true passes =
          let parts = and_parts (is_ready other) (other.priority == priority) passes in
          let same = eqb-true other.priority priority parts.1 in
          let le = (less_urgent (u, other) (t, thread) (none_before is_ready K t thread e lives u other lives' parts.0)).0 in
          absurd (omega arith)

-- where nobody is chosen all ready lists are empty
pub none_ready : (p : Program) (K : State) → chosen K ≡ None → (priority : ℕ) → priority < 8 → get_or (visible p K).ready priority [] ≡ []
none_ready p K e priority l = ready_list p K priority l ∙ no_line (is_ready_at priority) K (λ u other lives.
    let idle = empty_line is_ready K e u other lives in ap (λ b. b && other.priority == priority) idle)

-- a queue as it can be seen
pub shown-queue : (p : Program) (K : State) (queue : ℕ) (d : Queue) → queue < length K.queues →
    get_or (visible p K).queues queue d ≡ shown_queue K (queue, items_of K queue)
unfolding visible
shown-queue p K queue d l =
    get_or-map (shown_queue K) (enumerate_from 0 K.queues) queue (0, []) d (subst (λ (n : ℕ). queue < n) (sym (length-enumerate_from 0 K.queues)) l)
    ∙ ap (shown_queue K) (get_or-enumerate_from 0 K.queues queue (0, []) l)
    ∙ ap (λ n. shown_queue K (n, items_of K queue)) (omega arith)

-- a semaphore as it can be seen
pub shown-semaphore : (p : Program) (K : State) (semaphore : ℕ) (d : Semaphore) → semaphore < length K.counts →
    get_or (visible p K).semaphores semaphore d ≡ shown_semaphore K (semaphore, count_of K semaphore)
unfolding visible
shown-semaphore p K semaphore d l =
    get_or-map (shown_semaphore K) (enumerate_from 0 K.counts) semaphore (0, 0) d (subst (λ (n : ℕ). semaphore < n) (sym (length-enumerate_from 0 K.counts)) l)
    ∙ ap (shown_semaphore K) (get_or-enumerate_from 0 K.counts semaphore (0, 0) l)
    ∙ ap (λ n. shown_semaphore K (n, count_of K semaphore)) (omega arith)

-- who is served first of those that wait at a queue or a semaphore is the front of the list that can be seen
pub first_sender : (p : Program) (K : State) (queue : ℕ) (d : Queue) → queue < length K.queues →
    first K Send queue ≡ slice_get (get_or (visible p K).queues queue d).senders 0
first_sender p K queue d l = ap (λ q. slice_get q.senders 0) (sym (shown-queue p K queue d l))

pub first_receiver : (p : Program) (K : State) (queue : ℕ) (d : Queue) → queue < length K.queues →
    first K Receive queue ≡ slice_get (get_or (visible p K).queues queue d).receivers 0
first_receiver p K queue d l = ap (λ q. slice_get q.receivers 0) (sym (shown-queue p K queue d l))

pub first_taker : (p : Program) (K : State) (semaphore : ℕ) (d : Semaphore) → semaphore < length K.counts →
    first K Take semaphore ≡ slice_get (get_or (visible p K).semaphores semaphore d).takers 0
first_taker p K semaphore d l = ap (λ s. slice_get s.takers 0) (sym (shown-semaphore p K semaphore d l))
