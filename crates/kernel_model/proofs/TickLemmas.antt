-- The kernel stays sound over a tick.
use Rattle.std.proofs.Common.{◌≡◌, ℕ, zero, suc, ◌+◌, ◌<◌, ◌≤◌, cond, List, [], fold, get_or, Option, Some, None, refl, sym, ap, subst, ◌∙◌, ⊎_elim, inl, inr, arith, eq-eqb}
use Rattle.std.specs.List.{range_with_len}
use Rattle.std.proofs.lemmas.Bool.{cases_eq, cond_both, cases_lt}
use Rattle.kernel_model.specs.Kernel.{Activity, Thread, Row, State, live_in, row_of, thread_of, stamped, behind}
use Rattle.kernel_model.specs.Kernel.Activity.{Ready, Delayed, Waiting}
use Rattle.kernel_model.specs.Kernel.Row.{Free, Ended, Live}
use Rattle.kernel_model.specs.Serve.{next_words, timed_out, awake, finish}
use Rattle.kernel_model.specs.Run.{record_room, row_count, woken_by, woken, all_woken, has_equals, rotated, tick}
use Rattle.kernel_model.specs.Sound.{IsDoing, IsSoundRow, IsSound}
use Rattle.kernel_model.proofs.RowLemmas.{live_within, changed-is, set_thread, same_default}
use Rattle.kernel_model.proofs.ServeLemmas.{sound_thread, sound-behind, finish-sound, behind-other}
use Rattle.thread_tree.specs.LocalState.{LocalState}
use Rattle.thread_tree.specs.Program.{Program}

-- the kernel at the tick before
abbrev pub at_tick : ℕ → State → State
at_tick ticks K = record K { ticks = ticks }

-- whom a tick wakes has room for the record of its call
room_of_woken : (p : Program) (ticks tick : ℕ) (queues : List (List ℕ)) (counts : List ℕ) (local : LocalState) (debt : ℕ) (a : Activity) (results : List ℕ) →
    woken_by p tick a ≡ Some results → IsDoing p ticks queues counts local debt a → debt + next_words p local ≤ record_room
room_of_woken p ticks tick queues counts local debt Ready results e d = absurd (let f : ◌≡◌ {A = Option (List ℕ)} None (Some results) = e in cc)
room_of_woken p ticks tick queues counts local debt (Delayed wake) results e d = d.room
room_of_woken p ticks tick queues counts local debt (Waiting wait) results e d = d.room

-- none of the first threads is to be woken any more
abbrev pub AreAwake : Program → ℕ → State → Type 0
AreAwake p n K = (k : ℕ) (thread : Thread) → k < n → thread_of K k ≡ Some thread → woken_by p K.ticks thread.activity ≡ None

-- a kernel in the middle of a tick: sound at the tick before, with so many threads looked at
pub record IsWaking (p : Program) (ticks events n : ℕ) (K : State) : Type 0 where
  pub sound : IsSound p (at_tick ticks K)
  pub now : K.ticks ≡ ticks + 1
  pub counted : K.events ≡ events
  pub awake : AreAwake p n K

module _ (p : Program) (ticks events : ℕ) where
  -- one thread more is looked at
  pub woken-one : (n : ℕ) (K : State) → IsWaking p ticks events n K → IsWaking p ticks events (n + 1) (woken p K n)
  woken-one n K h = go (thread_of K n) refl
    where
      -- the thread isn't woken
      stays : ((thread : Thread) → thread_of K n ≡ Some thread → woken_by p K.ticks thread.activity ≡ None) → IsWaking p ticks events (n + 1) K
      stays own = record {
        sound = h.sound;
        now = h.now;
        counted = h.counted;
        awake = λ k thread l lives. ⊎_elim
            (λ e. own thread (ap (thread_of K) (sym e) ∙ lives))
            (λ ne. h.awake k thread (⊎_elim (λ l. l) (λ ge. absurd (ne (omega arith))) (cases_lt k n)) lives)
            (cases_eq k n);
      }

      -- the thread that was woken is ready
      own_thread : (thread : Thread) (results : List ℕ) → thread_of K n ≡ Some thread →
          thread_of (finish p K n results) n ≡ Some (stamped K.stamp (awake p results thread))
      own_thread thread results lives = ap (λ (K' : State). thread_of K' n) (changed-is K n (λ thread. stamped K.stamp (awake p results thread)) thread lives)
          ∙ set_thread K n (Live (stamped K.stamp (awake p results thread))) (live_within K n thread lives)

      wakes : (thread : Thread) (results : List ℕ) → thread_of K n ≡ Some thread → woken_by p K.ticks thread.activity ≡ Some results →
          IsWaking p ticks events (n + 1) (finish p K n results)
      wakes thread results lives e = record {
        sound = finish-sound p (at_tick ticks K) n thread results h.sound lives
            (room_of_woken p ticks K.ticks K.queues K.counts thread.local thread.debt thread.activity results e (sound_thread p (at_tick ticks K) h.sound n thread lives).doing);
        now = h.now;
        counted = h.counted;
        awake = λ k other l lives'. ⊎_elim
            (λ is. let same : Some (stamped K.stamp (awake p results thread)) ≡ Some other = sym (own_thread thread results lives) ∙ ap (thread_of (finish p K n results)) (sym is) ∙ lives' in
            let equal : stamped K.stamp (awake p results thread) ≡ other = cc in
            ap (λ (x : Thread). woken_by p K.ticks x.activity) (sym equal))
            (λ ne. h.awake k other (⊎_elim (λ l. l) (λ ge. absurd (ne (omega arith))) (cases_lt k n))
            (sym (behind-other K k n (awake p results) ne) ∙ lives'))
            (cases_eq k n);
      }

      by : (thread : Thread) → thread_of K n ≡ Some thread → (r : Option (List ℕ)) → woken_by p K.ticks thread.activity ≡ r →
          IsWaking p ticks events (n + 1) (elim r [ None ↦ K | Some results ↦ finish p K n results ])
      by thread lives None e = stays (λ own is. let same : Some thread ≡ Some own = sym lives ∙ is in let equal : thread ≡ own = cc in
          ap (λ (x : Thread). woken_by p K.ticks x.activity) (sym equal) ∙ e)
      by thread lives (Some results) e = wakes thread results lives e

      go : (o : Option Thread) → thread_of K n ≡ o →
          IsWaking p ticks events (n + 1) (elim o [ None ↦ K | Some thread ↦ elim (woken_by p K.ticks thread.activity) [ None ↦ K | Some results ↦ finish p K n results ] ])
      go None e = stays (λ own is. absurd (let f : ◌≡◌ {A = Option Thread} None (Some own) = sym e ∙ is in cc))
      go (Some thread) e = by thread e (woken_by p K.ticks thread.activity) refl

  -- all are looked at in order of number
  pub woken-all : (count n : ℕ) (K : State) → IsWaking p ticks events n K → IsWaking p ticks events (n + count) (fold (woken p) K (range_with_len n count))
  woken-all zero n K h = subst (λ (m : ℕ). IsWaking p ticks events m K) (omega arith) h
  woken-all (suc count) n K h = subst (λ (m : ℕ). IsWaking p ticks events m (fold (woken p) (woken p K n) (range_with_len (n + 1) count))) (omega arith)
      (woken-all count (n + 1) (woken p K n) (woken-one n K h))

  -- what a thread does that isn't woken fits the next tick too
  doing-later : (queues : List (List ℕ)) (counts : List ℕ) (local : LocalState) (debt : ℕ) (a : Activity) → woken_by p (ticks + 1) a ≡ None →
      IsDoing p ticks queues counts local debt a → IsDoing p (ticks + 1) queues counts local debt a
  doing-later queues counts local debt Ready e d = tt
  doing-later queues counts local debt (Delayed wake) e d = record {
    call = d.call;
    later = ⊎_elim (λ same. absurd (let f : ◌≡◌ {A = Option (List ℕ)} (Some []) None = sym (ap (λ b. cond b (Some []) None) (eq-eqb wake (ticks + 1) same)) ∙ e in cc))
        (λ ne. let l = d.later in ⊎_elim (λ l. l) (λ ge. absurd (ne (omega arith))) (cases_lt (ticks + 1) wake))
        (cases_eq wake (ticks + 1));
    comes = d.comes;
    room = d.room;
  }
  doing-later queues counts local debt (Waiting wait) e d = record {
    call = d.call;
    later = ⊎_elim (λ never. inl never)
        (λ ends. ⊎_elim (λ same. absurd (let f : ◌≡◌ {A = Option (List ℕ)} (Some (timed_out p wait.what wait.target)) None = sym (ap (λ b. cond b (Some (timed_out p wait.what wait.target)) None) (eq-eqb wait.until (ticks + 1) same)) ∙ e in cc))
        (λ ne. inr (⊎_elim (λ l. l) (λ ge. absurd (ne (omega (arith, ends.0)))) (cases_lt (ticks + 1) wait.until), ends.1))
        (cases_eq wait.until (ticks + 1)))
        d.later;
    held = d.held;
    room = d.room;
  }

  -- where all are looked at the kernel is sound at the next tick
  pub woken-sound : (K : State) → IsWaking p ticks events row_count K → ticks + 1 ≤ events → IsSound p K
  woken-sound K h le = record {
    rows = record {
      sixteen = h.sound.rows.sixteen;
      each = λ k d l. subst (λ (n : ℕ). IsSoundRow p n K.queues K.counts (get_or K.rows k d)) (sym h.now)
          (row k (subst (λ (n : ℕ). k < n) h.sound.rows.sixteen l) (get_or K.rows k d) (same_default K.rows k Free d l) (h.sound.rows.each k d l));
      past = h.sound.rows.past;
      apart = h.sound.rows.apart;
    };
    ticks = let a = h.now in let b = h.counted in omega arith;
    queues = h.sound.queues;
    console = h.sound.console;
    objects = h.sound.objects;
  }
    where
      row : (k : ℕ) → k < row_count → (r : Row) → row_of K k ≡ r → IsSoundRow p ticks K.queues K.counts r → IsSoundRow p (ticks + 1) K.queues K.counts r
      row k l Free e s = tt
      row k l (Ended template priority code) e s = s
      row k l (Live thread) e s = record {
        known = s.known;
        paid = s.paid;
        doing = doing-later K.queues K.counts thread.local thread.debt thread.activity
            (subst (λ (n : ℕ). woken_by p n thread.activity ≡ None) h.now (h.awake k thread l (ap live_in e))) s.doing;
      }

-- who was chosen goes behind its equals
pub rotated-sound : (p : Program) (K : State) (o : Option ℕ) → IsSound p K → IsSound p (rotated K o)
rotated-sound p K None h = h
rotated-sound p K (Some t) h = go (thread_of K t) refl
  where
    go : (o : Option Thread) → thread_of K t ≡ o →
        IsSound p (elim o [ None ↦ K | Some thread ↦ cond (has_equals K t thread) (behind K t (λ same. same)) K ])
    go None e = h
    go (Some thread) e = cond_both (has_equals K t thread) (behind K t (λ same. same)) K (IsSound p)
        (λ some. sound-behind p K h t (λ same. same) thread e (sound_thread p K h t thread e))
        (λ none. h)

-- a tick of a kernel that has counted its event
pub tick-sound : (p : Program) (K : State) → IsSound p K → K.ticks < K.events → IsSound p (tick p K)
unfolding all_woken
tick-sound p K h l = rotated-sound p (all_woken p (record K { ticks = K.ticks + 1 })) _
    (woken-sound p K.ticks K.events (all_woken p (record K { ticks = K.ticks + 1 }))
    (woken-all p K.ticks K.events row_count 0 (record K { ticks = K.ticks + 1 }) (record {
      sound = h;
      now = refl;
      counted = refl;
      awake = λ k thread l lives. absurd (omega arith);
    }))
    (omega arith))
