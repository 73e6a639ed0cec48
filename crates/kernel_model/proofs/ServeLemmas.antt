-- The kernel stays sound where one thread changes, and after the fate of a thread.
use Rattle.std.proofs.Common.{◌≡◌, ◌≢◌, ℕ, ◌+◌, ◌≤◌, List, Some, None, refl, sym, subst, ◌∙◌, arith}
use Rattle.kernel_model.specs.Kernel.{Thread, Row, State, row_of, thread_of, row_with, with_row, changed, stamped, behind}
use Rattle.kernel_model.specs.Kernel.Row.{Free, Ended, Live}
use Rattle.kernel_model.specs.Serve.{Fate, Effect, served, awake, finish, next_words, asleep, waiting, turned, stopped, settle, settled}
use Rattle.kernel_model.specs.Serve.Fate.{Serves, ServesBack, Sleeps, Blocks, Enters, Stops, Goes}
use Rattle.kernel_model.specs.Run.{record_room}
use Rattle.kernel_model.specs.Sound.{IsKnown, IsDelayed, IsWaiting, IsDoing, IsSoundThread, IsSoundRow, stamp_in, IsPast, IsSound}
use Rattle.kernel_model.specs.Effects.{IsCaller, IsFit, IsSoundEffect}
use Rattle.kernel_model.proofs.RowLemmas.{live_in-Some, live_sound, rows-changed, rows-changed_none, rows-behind, set-none, other_thread}
use Rattle.thread_tree.specs.LocalState.{LocalState}
use Rattle.thread_tree.specs.Program.{Program}

module _ (p : Program) (K : State) where
  -- a live thread is sound
  pub sound_thread : IsSound p K → (t : ℕ) (thread : Thread) → thread_of K t ≡ Some thread →
      IsSoundThread p K.ticks K.queues K.counts thread.template thread.priority thread.local thread.debt thread.activity
  sound_thread h t thread e = live_sound p K t thread h.rows e

  -- a thread changes and keeps its stamp
  pub sound-changed : IsSound p K → (t : ℕ) (change : Thread → Thread) (thread : Thread) → thread_of K t ≡ Some thread →
      IsSoundRow p K.ticks K.queues K.counts (Live (change thread)) → (change thread).stamp ≡ thread.stamp →
      stamp_in (Live (change thread)) ≡ stamp_in (Live thread) → IsSound p (changed K t change)
  sound-changed h t change thread e new keeps same = record {
    rows = rows-changed p K t change thread h.rows e new keeps same;
    ticks = h.ticks;
    queues = h.queues;
    console = h.console;
    objects = h.objects;
  }

  -- a thread changes and has no stamp any more
  pub sound-changed_none : IsSound p K → (t : ℕ) (change : Thread → Thread) (thread : Thread) → thread_of K t ≡ Some thread →
      IsSoundRow p K.ticks K.queues K.counts (Live (change thread)) → (change thread).stamp ≡ thread.stamp →
      stamp_in (Live (change thread)) ≡ None → IsSound p (changed K t change)
  sound-changed_none h t change thread e new keeps none = record {
    rows = rows-changed_none p K t change thread h.rows e new keeps none;
    ticks = h.ticks;
    queues = h.queues;
    console = h.console;
    objects = h.objects;
  }

  -- a thread changes and goes behind its equals
  pub sound-behind : IsSound p K → (t : ℕ) (change : Thread → Thread) (thread : Thread) → thread_of K t ≡ Some thread →
      IsSoundRow p K.ticks K.queues K.counts (Live (change thread)) → IsSound p (behind K t change)
  sound-behind h t change thread e new = record {
    rows = rows-behind p K t change thread h.rows e new;
    ticks = h.ticks;
    queues = h.queues;
    console = h.console;
    objects = h.objects;
  }

  -- a row where no thread lives any more
  pub sound-left : IsSound p K → (t : ℕ) (row : Row) → IsSoundRow p K.ticks K.queues K.counts row → IsPast K.stamp row → stamp_in row ≡ None →
      IsSound p (with_row K t row)
  sound-left h t row new below none = record {
    rows = set-none p K.ticks K.queues K.counts K.stamp K.rows h.rows t row new below none;
    ticks = h.ticks;
    queues = h.queues;
    console = h.console;
    objects = h.objects;
  }

module _ (p : Program) (K : State) (t : ℕ) (local : LocalState) (debt : ℕ) (h : IsSound p K) (caller : IsCaller K t local debt) where
  known : IsKnown p caller.thread.template caller.thread.priority
  known = (sound_thread p K h t caller.thread caller.lives).known

  -- a ready thread with other words in its records
  ready_with : (words : ℕ) → words ≤ record_room → (local' : LocalState) →
      IsSoundThread p K.ticks K.queues K.counts caller.thread.template caller.thread.priority local' words caller.thread.activity
  ready_with words le local' = record {
    known = known;
    paid = le;
    doing = subst (IsDoing p K.ticks K.queues K.counts local' words) (sym caller.ready) tt;
  }

  served_words : debt + next_words p local ≤ record_room → caller.thread.debt + next_words p caller.thread.local ≤ record_room
  served_words le = subst (λ (d : ℕ). d + next_words p caller.thread.local ≤ record_room) (sym caller.owes)
      (subst (λ (l : LocalState). debt + next_words p l ≤ record_room) (sym caller.at) le)

  -- the kernel after a fate that the thread can have
  pub settle-sound : (fate : Fate) → IsFit p K local debt fate → IsSound p (settle p t fate K)
  settle-sound (Serves results) fit = sound-changed p K h t (served p results) caller.thread caller.lives
      (ready_with _ (served_words fit) _) refl refl
  settle-sound (ServesBack results) fit = sound-behind p K h t (served p results) caller.thread caller.lives
      (ready_with _ (served_words fit) _)
  settle-sound (Sleeps wake) fit = sound-changed_none p K h t (asleep wake) caller.thread caller.lives
      (record {
        known = known;
        paid = (sound_thread p K h t caller.thread caller.lives).paid;
        doing = subst (λ (d : ℕ). IsDelayed p K.ticks wake caller.thread.local d) (sym caller.owes)
            (subst (λ (l : LocalState). IsDelayed p K.ticks wake l debt) (sym caller.at) fit);
      })
      refl refl
  settle-sound (Blocks wait) fit = sound-behind p K h t (waiting wait) caller.thread caller.lives
      (record {
        known = known;
        paid = (sound_thread p K h t caller.thread caller.lives).paid;
        doing = subst (λ (d : ℕ). IsWaiting p K.ticks K.queues K.counts wait caller.thread.local d) (sym caller.owes)
            (subst (λ (l : LocalState). IsWaiting p K.ticks K.queues K.counts wait l debt) (sym caller.at) fit);
      })
  settle-sound Enters fit = sound-changed p K h t turned caller.thread caller.lives (ready_with 0 (omega arith) _) refl refl
  settle-sound (Stops code) fit = subst (λ (row : Row). IsSound p (with_row K t (stopped code row)))
      (sym (live_in-Some (row_of K t) caller.thread caller.lives))
      (sound-left p K h t (Ended caller.thread.template caller.thread.priority code) known tt refl)
  settle-sound Goes fit = sound-left p K h t Free tt tt refl

-- the kernel after an effect
pub settled-sound : (p : Program) (t : ℕ) (local : LocalState) (debt : ℕ) (effect : Effect) →
    IsSoundEffect p t local debt effect → IsSound p (settled p t effect)
settled-sound p t local debt effect h = settle-sound p effect.kernel t local debt h.sound h.caller effect.fate h.fit

-- a thread whose call can be finished: its records have room
pub finish-sound : (p : Program) (K : State) (u : ℕ) (thread : Thread) (results : List ℕ) → IsSound p K → thread_of K u ≡ Some thread →
    thread.debt + next_words p thread.local ≤ record_room → IsSound p (finish p K u results)
finish-sound p K u thread results h e room = sound-behind p K h u (awake p results) thread e
    (record { known = (sound_thread p K h u thread e).known; paid = room; doing = tt })

-- the caller stays where its row does
pub caller_stays : (K K' : State) (t : ℕ) (local : LocalState) (debt : ℕ) → thread_of K' t ≡ thread_of K t →
    IsCaller K t local debt → IsCaller K' t local debt
caller_stays K K' t local debt same caller = record {
  thread = caller.thread;
  lives = same ∙ caller.lives;
  ready = caller.ready;
  at = caller.at;
  owes = caller.owes;
}

-- a thread goes behind its equals, and another one stays
pub behind-other : (K : State) (t u : ℕ) (change : Thread → Thread) → t ≢ u → thread_of (behind K u change) t ≡ thread_of K t
behind-other K t u change ne =
    other_thread K t u (row_with (λ thread. stamped K.stamp (change thread)) (row_of K u)) ne
