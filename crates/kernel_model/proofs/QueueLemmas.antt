-- The kernel stays sound where items are put into a queue or taken from it, and where a count changes.
use Rattle.std.proofs.Common.{ltb, ◌≡◌, ◌≢◌, ℕ, ◌+◌, ◌<◌, ◌≤◌, true, false, cond, ◌&&◌, ◌==◌, List, [], ◌∷◌, ◌++◌, length, get_or, set, Option, Some, None, MatchOption, refl, sym, ap, subst, ◌∙◌, ⊎_elim, arith, eqb-true, ltb-true, ltb-false, length-set, length-append, true≢false}
use Rattle.std.proofs.lemmas.List.{get_or-set_same, get_or-set_other, get_or_past}
use Rattle.std.proofs.lemmas.Bool.{cases_eq, cases_lt, cond_both}
use Rattle.kernel_model.specs.declared.wait.Wait.{Wait}
use Rattle.kernel_model.specs.declared.what.What.{What}
use Rattle.kernel_model.specs.declared.what.What.TheVariants.{Send, Receive, Take}
use Rattle.kernel_model.specs.Kernel.{Activity, Thread, State, live_in, thread_of, items_of, with_items, with_count}
use Rattle.kernel_model.specs.Kernel.Activity.{Ready, Delayed, Waiting}
use Rattle.kernel_model.specs.Order.{is_same_what, waits_for, first}
use Rattle.kernel_model.specs.Serve.{next_words, finish, awake}
use Rattle.kernel_model.specs.Run.{record_room}
use Rattle.kernel_model.specs.Calls.{capacity_of, maximum_of, with_item, delivered}
use Rattle.kernel_model.specs.Sound.{IsHeld, IsDoing, AreSoundQueues, IsSound}
use Rattle.kernel_model.proofs.OrderLemmas.{head_of_line, empty_line}
use Rattle.kernel_model.proofs.ServeLemmas.{sound_thread, finish-sound, behind-other}
use Rattle.kernel_model.proofs.HeldLemmas.{held-items, held-count, rows-held}
use Rattle.thread_tree.specs.LocalState.{LocalState}
use Rattle.thread_tree.specs.Program.{Program}

-- who waits is at a call whose record has room
pub room_of_waiting : (p : Program) (ticks : ℕ) (queues : List (List ℕ)) (counts : List ℕ) (what : What) (target : ℕ) (local : LocalState) (debt : ℕ)
    (a : Activity) →
    elim a [ Ready ↦ false | Delayed wake ↦ false | Waiting wait ↦ is_same_what wait.what what && wait.target == target ] ≡ true →
    IsDoing p ticks queues counts local debt a → debt + next_words p local ≤ record_room
room_of_waiting p ticks queues counts what target local debt Ready e d = absurd (cc)
room_of_waiting p ticks queues counts what target local debt (Delayed wake) e d = absurd (cc)
room_of_waiting p ticks queues counts what target local debt (Waiting wait) e d = d.room

-- who waits isn't ready
pub waits-other : (K : State) (t u : ℕ) (what : What) (target : ℕ) (own thread : Thread) → thread_of K t ≡ Some own → own.activity ≡ Ready →
    thread_of K u ≡ Some thread → waits_for what target thread ≡ true → t ≢ u
waits-other K t u what target own thread lives ready lives' waits = λ e.
    let same : Some own ≡ Some thread = sym lives ∙ ap (thread_of K) e ∙ lives' in
    let equal : own ≡ thread = cc in
    let no : waits_for what target own ≡ false = ap (λ (a : Activity). elim a [ Ready ↦ false | Delayed wake ↦ false | Waiting wait ↦ is_same_what wait.what what && wait.target == target ]) ready in
    let yes : waits_for what target own ≡ true = ap (waits_for what target) equal ∙ waits in
    true≢false (sym yes ∙ no)

-- a thread that waits so waits for this exactly where the test says it
pub waits_by : (what : What) (target : ℕ) (thread : Thread) (wait : Wait) → thread.activity ≡ Waiting wait →
    waits_for what target thread ≡ (is_same_what wait.what what && wait.target == target)
waits_by what target thread wait e =
    ap (λ (a : Activity). elim a [ Ready ↦ false | Delayed wake ↦ false | Waiting wait ↦ is_same_what wait.what what && wait.target == target ]) e

-- the queue of a sender is full
pub full_since : (p : Program) (queues : List (List ℕ)) (counts : List ℕ) (queue : ℕ) (what : What) (target : ℕ) →
    IsHeld p queues counts what target → (is_same_what what Send && target == queue) ≡ true →
    length (get_or queues queue []) ≡ capacity_of p queue
full_since p queues counts queue Send target held e = subst (λ (k : ℕ). length (get_or queues k []) ≡ capacity_of p k) (eqb-true target queue e) held
full_since p queues counts queue Receive target held e = absurd (cc)
full_since p queues counts queue Take target held e = absurd (cc)

-- the queue of a receiver is empty
pub empty_since : (p : Program) (queues : List (List ℕ)) (counts : List ℕ) (queue : ℕ) (what : What) (target : ℕ) →
    IsHeld p queues counts what target → (is_same_what what Receive && target == queue) ≡ true → get_or queues queue [] ≡ []
empty_since p queues counts queue Send target held e = absurd (cc)
empty_since p queues counts queue Receive target held e = subst (λ (k : ℕ). get_or queues k [] ≡ []) (eqb-true target queue e) held
empty_since p queues counts queue Take target held e = absurd (cc)

-- the count of a taker's semaphore is 0
pub none_since : (p : Program) (queues : List (List ℕ)) (counts : List ℕ) (semaphore : ℕ) (what : What) (target : ℕ) →
    IsHeld p queues counts what target → (is_same_what what Take && target == semaphore) ≡ true → get_or counts semaphore 0 ≡ 0
none_since p queues counts semaphore Send target held e = absurd (cc)
none_since p queues counts semaphore Receive target held e = absurd (cc)
none_since p queues counts semaphore Take target held e = subst (λ (k : ℕ). get_or counts k 0 ≡ 0) (eqb-true target semaphore e) held

-- a queue with an item is declared
pub queue_within : (queues : List (List ℕ)) (queue item : ℕ) (items : List ℕ) → get_or queues queue [] ≡ item ∷ items → queue < length queues
queue_within queues queue item items e = ⊎_elim (λ l. l)
    (λ l. absurd (let f : [] ≡ item ∷ items = sym (get_or_past queues queue [] l) ∙ e in cc))
    (cases_lt queue (length queues))

-- a queue with space is declared
pub space_within : (p : Program) (queue n : ℕ) → n < capacity_of p queue → queue < length p.queues
space_within p queue n l = ⊎_elim (λ l. l)
    (λ past. absurd (let f : capacity_of p queue ≡ 0 = ap (λ q. q.capacity) (get_or_past p.queues queue (record { name = 0; capacity = 0; channel = None }) past) in omega arith))
    (cases_lt queue (length p.queues))

-- a semaphore whose count can rise is declared
pub count_within : (p : Program) (semaphore n : ℕ) → n < maximum_of p semaphore → semaphore < length p.semaphores
count_within p semaphore n l = ⊎_elim (λ l. l)
    (λ past. absurd (let f : maximum_of p semaphore ≡ 0 = ap (λ s. s.maximum) (get_or_past p.semaphores semaphore (record { name = 0; count = 0; maximum = 0 }) past) in omega arith))
    (cases_lt semaphore (length p.semaphores))

-- queues stay within their bounds where one has other items
pub queues-items : (p : Program) (queues : List (List ℕ)) (counts : List ℕ) (queue : ℕ) (items : List ℕ) → AreSoundQueues p queues counts →
    queue < length queues → length items ≤ capacity_of p queue → AreSoundQueues p (set queues queue items) counts
queues-items p queues counts queue items h l le = record {
  queue_count = length-set queues queue items ∙ h.queue_count;
  items = λ k. ⊎_elim
      (λ e. subst (λ (j : ℕ). length (get_or (set queues queue items) j []) ≤ capacity_of p j) (sym e)
      (subst (λ (xs : List ℕ). length xs ≤ capacity_of p queue) (sym (get_or-set_same queues queue items [] l)) le))
      (λ ne. subst (λ (xs : List ℕ). length xs ≤ capacity_of p k) (sym (get_or-set_other queues queue k items [] ne)) (h.items k))
      (cases_eq k queue);
  semaphore_count = h.semaphore_count;
  count = h.count;
}

-- semaphores stay within their bounds where one has another count
pub queues-count : (p : Program) (queues : List (List ℕ)) (counts : List ℕ) (semaphore count : ℕ) → AreSoundQueues p queues counts →
    semaphore < length counts → count ≤ maximum_of p semaphore → AreSoundQueues p queues (set counts semaphore count)
queues-count p queues counts semaphore count h l le = record {
  queue_count = h.queue_count;
  items = h.items;
  semaphore_count = length-set counts semaphore count ∙ h.semaphore_count;
  count = λ k. ⊎_elim
      (λ e. subst (λ (j : ℕ). get_or (set counts semaphore count) j 0 ≤ maximum_of p j) (sym e)
      (subst (λ (n : ℕ). n ≤ maximum_of p semaphore) (sym (get_or-set_same counts semaphore count 0 l)) le))
      (λ ne. subst (λ (n : ℕ). n ≤ maximum_of p k) (sym (get_or-set_other counts semaphore k count 0 ne)) (h.count k))
      (cases_eq k semaphore);
}

module _ (p : Program) (K : State) where
  -- a queue has other items, with which each wait lasts
  pub sound-items : IsSound p K → (queue : ℕ) (items : List ℕ) → queue < length K.queues → length items ≤ capacity_of p queue →
      ((u : ℕ) (thread : Thread) (wait : Wait) → thread_of K u ≡ Some thread → thread.activity ≡ Waiting wait → IsHeld p K.queues K.counts wait.what wait.target →
      (is_same_what wait.what Send && wait.target == queue) ≡ true → length items ≡ capacity_of p queue) →
      ((u : ℕ) (thread : Thread) (wait : Wait) → thread_of K u ≡ Some thread → thread.activity ≡ Waiting wait → IsHeld p K.queues K.counts wait.what wait.target →
      (is_same_what wait.what Receive && wait.target == queue) ≡ true → items ≡ []) →
      IsSound p (with_items K queue items)
  sound-items h queue items l le full empty = record {
    rows = rows-held p K.ticks K.queues (set K.queues queue items) K.counts K.counts K.stamp K.rows h.rows
        (λ k thread wait e is held. held-items p K.queues K.counts queue items l wait.what wait.target held
        (full k thread wait (ap live_in e) is held) (empty k thread wait (ap live_in e) is held));
    ticks = h.ticks;
    queues = queues-items p K.queues K.counts queue items h.queues l le;
    console = h.console;
    objects = h.objects;
  }

  -- a semaphore has another count, and nobody waits for it
  pub sound-count : IsSound p K → (semaphore count : ℕ) → semaphore < length K.counts → count ≤ maximum_of p semaphore →
      ((u : ℕ) (thread : Thread) (wait : Wait) → thread_of K u ≡ Some thread → thread.activity ≡ Waiting wait → IsHeld p K.queues K.counts wait.what wait.target →
      (is_same_what wait.what Take && wait.target == semaphore) ≡ false) →
      IsSound p (with_count K semaphore count)
  sound-count h semaphore count l le none = record {
    rows = rows-held p K.ticks K.queues K.queues K.counts (set K.counts semaphore count) K.stamp K.rows h.rows
        (λ k thread wait e is held. held-count p K.queues K.counts semaphore count wait.what wait.target held (none k thread wait (ap live_in e) is held));
    ticks = h.ticks;
    queues = queues-count p K.queues K.counts semaphore count h.queues l le;
    console = h.console;
    objects = h.objects;
  }

  -- the call of the first that waits for this is finished, and a ready thread stays
  pub finish-first : IsSound p K → (what : What) (target u : ℕ) (results : List ℕ) → first K what target ≡ Some u →
      IsSound p (finish p K u results)
      × ((t : ℕ) (own : Thread) → thread_of K t ≡ Some own → own.activity ≡ Ready → thread_of (finish p K u results) t ≡ thread_of K t)
  finish-first h what target u results e =
      let head = head_of_line (waits_for what target) K u e in (
        finish-sound p K u head.0 results h head.1
            (room_of_waiting p K.ticks K.queues K.counts what target head.0.local head.0.debt head.0.activity head.2 (sound_thread p K h u head.0 head.1).doing),
        λ t own lives ready. behind-other K t u (awake p results) (waits-other K t u what target own head.0 lives ready head.1 head.2),
      )

-- a kernel is sound, and the ready threads are those of another one
pub record Follows (p : Program) (K K' : State) : Type 0 where
  pub sound : IsSound p K'
  pub stays : (t : ℕ) (own : Thread) → thread_of K t ≡ Some own → own.activity ≡ Ready → thread_of K' t ≡ thread_of K t
  pub ticks : K'.ticks ≡ K.ticks
  pub events : K'.events ≡ K.events

module _ (p : Program) (K : State) (h : IsSound p K) where
  -- a value that is delivered; one that isn't finds no receiver and a full queue
  pub delivered-sound : (queue value : ℕ) →
      MatchOption (delivered p K queue value) (IsHeld p K.queues K.counts Send queue) (Follows p K)
  delivered-sound queue value = go (first K Receive queue) refl
    where
      space : first K Receive queue ≡ None → length (items_of K queue) < capacity_of p queue → IsSound p (with_item K queue value)
      space none l = sound-items p K h queue (items_of K queue ++ value ∷ [])
          (subst (λ (n : ℕ). queue < n) (sym h.queues.queue_count) (space_within p queue (length (items_of K queue)) l))
          (subst (λ (n : ℕ). n ≤ capacity_of p queue) (sym (length-append (items_of K queue) (value ∷ []))) (omega arith))
          (λ u thread wait lives is held e. absurd (let f = full_since p K.queues K.counts queue wait.what wait.target held e in omega arith))
          (λ u thread wait lives is held e. absurd (true≢false (sym e ∙ sym (waits_by Receive queue thread wait is)
          ∙ empty_line (waits_for Receive queue) K none u thread lives)))

      go : (o : Option ℕ) → first K Receive queue ≡ o →
          MatchOption (elim o [
            | Some u ↦ Some (finish p K u (1 ∷ value ∷ []))
            | None ↦ cond (ltb (length (items_of K queue)) (capacity_of p queue)) (Some (with_item K queue value)) None
          ])
          (IsHeld p K.queues K.counts Send queue) (Follows p K)
      go (Some u) e = let f = finish-first p K h Receive queue u (1 ∷ value ∷ []) e in
          record { sound = f.0; stays = f.1; ticks = refl; events = refl }
      go None e = cond_both (ltb (length (items_of K queue)) (capacity_of p queue)) (Some (with_item K queue value)) None
          (λ o. MatchOption o (IsHeld p K.queues K.counts Send queue) (Follows p K))
          (λ l. record { sound = space e (ltb-true _ _ l); stays = λ t own lives ready. refl; ticks = refl; events = refl })
          (λ l. let ge = ltb-false _ _ l in let le = h.queues.items queue in omega arith)
