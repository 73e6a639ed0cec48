-- Each kernel call of a ready thread has a sound effect on a sound kernel.
use Rattle.std.proofs.Common.{ltb, leb, option_map, option_and_then, ◌≡◌, ◌≢◌, ℕ, zero, suc, ◌+◌, ◌-◌, ◌<◌, ◌≤◌, min, Bool, true, false, cond, ◌&&◌, ◌==◌, List, [], ◌∷◌, ◌++◌, length, set, Option, Some, None, MatchOption, is_some, slice_get, refl, sym, ap, subst, ◌∙◌, ⊎_elim, inl, inr, arith, eqb-true, ltb-true, leb-true, length-append, true≢false}
use Rattle.std.specs.Prelude.{is_none}
use Rattle.std.proofs.lemmas.List.{get_or-set_same, set-set}
use Rattle.std.proofs.lemmas.List.Quantifiers.{position-Some}
use Rattle.std.proofs.lemmas.Option.{slice_get_within, get_or_from_slice_get}
use Rattle.std.proofs.lemmas.Bool.{cases_eq, cond_both, and_parts, eqb-false}
use Rattle.kernel_model.specs.declared.wait.Wait.{Wait}
use Rattle.kernel_model.specs.declared.wait.TheConstants.{NEVER}
use Rattle.kernel_model.specs.declared.what.What.{What}
use Rattle.kernel_model.specs.declared.what.What.TheVariants.{Send, Receive, Take}
use Rattle.kernel_model.specs.Kernel.{Thread, State, live_in, thread_of, is_live, with_row, stamped, behind, items_of, with_items, count_of, with_count}
use Rattle.kernel_model.specs.Kernel.Row.{Free, Live}
use Rattle.kernel_model.specs.Order.{is_same_what, waits_for, first}
use Rattle.kernel_model.specs.Serve.{answers, becomes, held, finish, next_words, until_of, wake_of, timed_out}
use Rattle.kernel_model.specs.Serve.Fate.{ServesBack, Sleeps, Blocks, Goes}
use Rattle.kernel_model.specs.Run.{record_room}
use Rattle.kernel_model.specs.Calls.{print, spawn, delete, delay, setprio, getprio, send, receive, take, give, now, yield, items_waiting, console_room, no_thread, born, birth_row, vacant, with_priority, priority_of, capacity_of, maximum_of, with_item, delivered, value_sent, refilled}
use Rattle.kernel_model.specs.Sound.{IsHeld, IsToCome, AreSoundRows, IsSound, next_call, is_delay, awaited_by}
use Rattle.kernel_model.specs.Effects.{IsCaller, IsSoundEffect}
use Rattle.kernel_model.proofs.RowLemmas.{live_within, changed-is, set-next, set-none, next_stamp, other_thread, set_thread}
use Rattle.kernel_model.proofs.OrderLemmas.{empty_line}
use Rattle.kernel_model.proofs.ServeLemmas.{sound_thread, sound-behind, sound-left, caller_stays, behind-other}
use Rattle.kernel_model.proofs.QueueLemmas.{waits_by, full_since, empty_since, none_since, queue_within, count_within, sound-items, sound-count, finish-first, Follows, delivered-sound}
use Rattle.thread_tree.specs.LocalState.{LocalState}
use Rattle.thread_tree.specs.Program.{Program, Template}
use Rattle.thread_tree.specs.Limits.{IsWithinLimits}

module _ (p : Program) (K : State) (t : ℕ) (local : LocalState) (debt : ℕ) (h : IsSound p K) (caller : IsCaller K t local debt) where
  -- the kernel follows itself
  same : Follows p K K
  same = record { sound = h; stays = λ u own lives ready. refl; ticks = refl; events = refl }

  -- an action that is finished at once, in a kernel that follows
  answered : (K' : State) (results : List ℕ) → debt + next_words p local ≤ record_room → Follows p K K' →
      IsSoundEffect p t local debt (answers results K')
  answered K' results room f = record {
    sound = f.sound;
    caller = caller_stays K K' t local debt (f.stays t caller.thread caller.lives caller.ready) caller;
    fit = room;
  }

  pub print-sound : debt + next_words p local ≤ record_room → (bytes : List ℕ) → IsSoundEffect p t local debt (print K bytes)
  print-sound room bytes = cond_both (leb (length K.console + length bytes) console_room)
      (answers (1 ∷ []) (record K { console = K.console ++ bytes })) (answers (0 ∷ []) K) (IsSoundEffect p t local debt)
      (λ le. answered (record K { console = K.console ++ bytes }) (1 ∷ []) room (record {
        sound = record {
          rows = h.rows;
          ticks = h.ticks;
          queues = h.queues;
          console = subst (λ (n : ℕ). n ≤ console_room) (sym (length-append K.console bytes)) (leb-true _ _ le);
          objects = h.objects;
        };
        stays = λ u own lives ready. refl;
        ticks = refl;
        events = refl;
      }))
      (λ no. answered K (0 ∷ []) room same)

  -- a row where no thread lives isn't the row of one
  other_row : (u v : ℕ) (own : Thread) → thread_of K v ≡ Some own → is_none (thread_of K u) ≡ true → v ≢ u
  other_row u v own lives none = λ e.
      let live : thread_of K u ≡ Some own = ap (thread_of K) (sym e) ∙ lives in
      let no : is_none (thread_of K u) ≡ false = ap is_none live in true≢false (sym none ∙ no)

  pub spawn-sound : IsWithinLimits p → debt + next_words p local ≤ record_room → (number : ℕ) (arguments : List ℕ) →
      IsSoundEffect p t local debt (spawn p K number arguments)
  spawn-sound limits room number arguments = go (vacant K.rows) refl
    where
      -- the kernel with the new row
      K' : ℕ → State
      K' u = record (with_row K u (birth_row p number arguments K.stamp)) { stamp = K.stamp + 1 }

      born-rows : (u : ℕ) (o : Option Template) → slice_get p.templates number ≡ o →
          AreSoundRows p K.ticks K.queues K.counts (K.stamp + 1)
          (set K.rows u (elim o [ None ↦ Free | Some template ↦ Live (born number template arguments K.stamp) ]))
      born-rows u None e = next_stamp p K.ticks K.queues K.counts K.stamp (set K.rows u Free)
          (set-none p K.ticks K.queues K.counts K.stamp K.rows h.rows u Free tt tt refl)
      born-rows u (Some template) e = set-next p K.ticks K.queues K.counts K.stamp K.rows h.rows u (Live (born number template arguments K.stamp))
          (record {
            known = record {
              of_program = slice_get_within p.templates number template e;
              in_range = subst (λ (x : Template). x.priority ≤ 7) (get_or_from_slice_get p.templates number template template e)
                  (limits.each_template number template (slice_get_within p.templates number template e)).priority;
            };
            paid = omega arith;
            doing = tt;
          })
          (omega arith)
          refl

      vacant_row : (u : ℕ) → vacant K.rows ≡ Some u → is_none (thread_of K u) ≡ true
      vacant_row u e = (position-Some (λ row. is_none (live_in row)) K.rows u Free e).1

      go : (o : Option ℕ) → vacant K.rows ≡ o →
          IsSoundEffect p t local debt (elim o [ None ↦ answers (no_thread ∷ []) K | Some u ↦ answers (u ∷ []) (K' u) ])
      go None e = answered K (no_thread ∷ []) room same
      go (Some u) e = answered (K' u) (u ∷ []) room (record {
        sound = record {
          rows = born-rows u (slice_get p.templates number) refl;
          ticks = h.ticks;
          queues = h.queues;
          console = h.console;
          objects = h.objects;
        };
        stays = λ v own lives ready. other_thread K v u (birth_row p number arguments K.stamp) (other_row u v own lives (vacant_row u e));
        ticks = refl;
        events = refl;
      })

  pub delete-sound : (whom : ℕ) → ((whom == t) ≡ false → debt + next_words p local ≤ record_room) → IsSoundEffect p t local debt (delete K t whom)
  delete-sound whom room = cond_both (is_live K whom)
      (cond (whom == t) (becomes Goes K) (answers (1 ∷ []) (with_row K whom Free))) (answers (0 ∷ []) K) (IsSoundEffect p t local debt)
      (λ live. cond_both (whom == t) (becomes Goes K) (answers (1 ∷ []) (with_row K whom Free)) (IsSoundEffect p t local debt)
      (λ own. record { sound = h; caller = caller; fit = tt })
      (λ other. record {
        sound = sound-left p K h whom Free tt tt refl;
        caller = caller_stays K (with_row K whom Free) t local debt
            (other_thread K t whom Free (λ e. eqb-false whom t other (sym e))) caller;
        fit = room other;
      }))
      (λ gone. answered K (0 ∷ []) (room (lone gone)) same)
    where
      -- the caller itself is live
      lone : is_live K whom ≡ false → (whom == t) ≡ false
      lone gone = by (whom == t) refl
        where
          by : (b : Bool) → (whom == t) ≡ b → b ≡ false
          by false e = refl
          by true e = absurd (true≢false (sym (ap is_some caller.lives) ∙ ap (is_live K) (sym (eqb-true whom t e)) ∙ gone))

  pub getprio-sound : debt + next_words p local ≤ record_room → (whom : ℕ) → IsSoundEffect p t local debt (getprio K whom)
  getprio-sound room whom = answered K (priority_of K whom ∷ []) room same

  pub now-sound : debt + next_words p local ≤ record_room → IsSoundEffect p t local debt (now K)
  now-sound room = answered K (K.ticks ∷ []) room same

  pub waiting-sound : debt + next_words p local ≤ record_room → (queue : ℕ) → IsSoundEffect p t local debt (items_waiting K queue)
  waiting-sound room queue = answered K (length (items_of K queue) ∷ []) room same

  pub yield-sound : debt + next_words p local ≤ record_room → IsSoundEffect p t local debt (yield K)
  yield-sound room = record { sound = h; caller = caller; fit = room }

  -- the priority of a thread changes, and the thread goes behind its equals
  pub raised-sound : (whom priority : ℕ) → is_live K whom ≡ true → priority ≤ 7 →
      IsSound p (behind K whom (with_priority priority)) × IsCaller (behind K whom (with_priority priority)) t local debt
  raised-sound whom priority live le = go (thread_of K whom) refl live
    where
      sound : (thread : Thread) → thread_of K whom ≡ Some thread → IsSound p (behind K whom (with_priority priority))
      sound thread e = sound-behind p K h whom (with_priority priority) thread e (record {
        known = record { of_program = (sound_thread p K h whom thread e).known.of_program; in_range = le };
        paid = (sound_thread p K h whom thread e).paid;
        doing = (sound_thread p K h whom thread e).doing;
      })

      own : (thread : Thread) → thread_of K whom ≡ Some thread → t ≡ whom → IsCaller (behind K whom (with_priority priority)) t local debt
      own thread e is = record {
        thread = stamped K.stamp (with_priority priority caller.thread);
        lives =
            let lives : thread_of K whom ≡ Some caller.thread = ap (thread_of K) (sym is) ∙ caller.lives in
            ap (thread_of (behind K whom (with_priority priority))) is
            ∙ ap (λ (K' : State). thread_of K' whom) (changed-is K whom (λ thread. stamped K.stamp (with_priority priority thread)) caller.thread lives)
            ∙ set_thread K whom (Live (stamped K.stamp (with_priority priority caller.thread))) (live_within K whom caller.thread lives);
        ready = caller.ready;
        at = caller.at;
        owes = caller.owes;
      }

      go : (o : Option Thread) → thread_of K whom ≡ o → is_some o ≡ true →
          IsSound p (behind K whom (with_priority priority)) × IsCaller (behind K whom (with_priority priority)) t local debt
      go None e none = absurd (true≢false (sym none))
      go (Some thread) e some = (
        sound thread e,
        ⊎_elim (own thread e)
            (λ ne. caller_stays K (behind K whom (with_priority priority)) t local debt (behind-other K t whom (with_priority priority) ne) caller)
            (cases_eq t whom),
      )

  pub setprio-sound : debt + next_words p local ≤ record_room → (whom priority : ℕ) → IsSoundEffect p t local debt (setprio K whom priority)
  setprio-sound room whom priority = cond_both (is_live K whom && leb priority 7)
      (answers (1 ∷ []) (cond (priority_of K whom == priority) K (behind K whom (with_priority priority)))) (answers (0 ∷ []) K)
      (IsSoundEffect p t local debt)
      (λ both. let parts = and_parts (is_live K whom) (leb priority 7) both in
      cond_both (priority_of K whom == priority) K (behind K whom (with_priority priority))
      (λ K'. IsSoundEffect p t local debt (answers (1 ∷ []) K'))
      (λ e. answered K (1 ∷ []) room same)
      (λ e. let r = raised-sound whom priority parts.0 (leb-true _ _ parts.1) in record { sound = r.0; caller = r.1; fit = room }))
      (λ no. answered K (0 ∷ []) room same)

  -- the ticks to come that a limit or a delay names
  pub wake-later : K.events ≤ 1000000 → (ticks : ℕ) → (ticks == 0) ≡ false → (K.ticks < wake_of K ticks) × (wake_of K ticks < NEVER)
  wake-later few ticks some = let ne = eqb-false ticks 0 some in let le = h.ticks in (omega arith, omega arith)

  pub delay-sound : K.events ≤ 1000000 → debt + next_words p local ≤ record_room → option_map is_delay (next_call local) ≡ Some true → (ticks : ℕ) →
      IsSoundEffect p t local debt (delay K ticks)
  delay-sound few room call ticks = cond_both (ticks == 0) (becomes (ServesBack []) K) (becomes (Sleeps (wake_of K ticks)) K)
      (IsSoundEffect p t local debt)
      (λ none. record { sound = h; caller = caller; fit = room })
      (λ some. let w = wake-later few ticks some in
      record { sound = h; caller = caller; fit = record { call = call; later = w.0; comes = w.1; room = room } })

  -- what can't be done at once
  pub held-sound : K.events ≤ 1000000 → debt + next_words p local ≤ record_room → (what : What) (target value limit : ℕ) →
      option_and_then (awaited_by p) (next_call local) ≡ Some (what, target) →
      IsHeld p K.queues K.counts what target → IsSoundEffect p t local debt (held p K what target value limit)
  held-sound few room what target value limit call lasts =
      cond_both (limit == 0) (answers (timed_out p what target) K) (becomes (Blocks wait) K) (IsSoundEffect p t local debt)
      (λ none. answered K (timed_out p what target) room same)
      (λ some. record {
        sound = h;
        caller = caller;
        fit = record { call = call; later = later some; held = lasts; room = room };
      })
    where
      wait : Wait
      wait = record { what = what; target = target; value = value; until = until_of K limit }

      later : (limit == 0) ≡ false → IsToCome K.ticks (until_of K limit)
      later some = cond_both (limit == NEVER) NEVER (min (K.ticks + limit) (NEVER - 1)) (IsToCome K.ticks)
          (λ never. inl refl)
          (λ ends. let ne = eqb-false limit 0 some in let le = h.ticks in inr (omega arith, omega arith))

  pub send-sound : K.events ≤ 1000000 → debt + next_words p local ≤ record_room → (queue value limit : ℕ) →
      option_and_then (awaited_by p) (next_call local) ≡ Some (Send, queue) →
      IsSoundEffect p t local debt (send p K queue value limit)
  send-sound few room queue value limit call = go (delivered p K queue value) (delivered-sound p K h queue value)
    where
      go : (o : Option State) → MatchOption o (IsHeld p K.queues K.counts Send queue) (Follows p K) →
          IsSoundEffect p t local debt (elim o [ Some K' ↦ answers (1 ∷ []) K' | None ↦ held p K Send queue value limit ])
      go None full = held-sound few room Send queue value limit call full
      go (Some K') f = answered K' (1 ∷ []) room f

  -- an item is taken from a queue, and the first sender's value, if there is one, is put into it
  pub refilled-sound : (queue item : ℕ) (items : List ℕ) → items_of K queue ≡ item ∷ items → Follows p K (refilled p (with_items K queue items) queue)
  refilled-sound queue item items is = go (first K Send queue) refl
    where
      K1 : State
      K1 = with_items K queue items

      declared : queue < length K.queues
      declared = queue_within K.queues queue item items is

      bound : length (item ∷ items) ≤ capacity_of p queue
      bound = subst (λ (xs : List ℕ). length xs ≤ capacity_of p queue) is (h.queues.items queue)

      -- nobody waits for an item
      nobody : (what : What) (target : ℕ) (new : List ℕ) → IsHeld p K.queues K.counts what target →
          (is_same_what what Receive && target == queue) ≡ true → new ≡ []
      nobody what target new lasts e = absurd (let f : [] ≡ item ∷ items = sym (empty_since p K.queues K.counts queue what target lasts e) ∙ is in cc)

      -- the queue with the sender's value
      twice : (value : ℕ) → with_item K1 queue value ≡ with_items K queue (items ++ value ∷ [])
      twice value = ap (λ qs. record K { queues = qs })
          (ap (λ xs. set (set K.queues queue items) queue (xs ++ value ∷ [])) (get_or-set_same K.queues queue items [] declared)
          ∙ set-set K.queues queue items (items ++ value ∷ []))

      refill : (value u : ℕ) → first K Send queue ≡ Some u → IsSound p (with_items K queue (items ++ value ∷ []))
      refill value u e = sound-items p K h queue (items ++ value ∷ []) declared
          (subst (λ (n : ℕ). n ≤ capacity_of p queue) (sym (length-append items (value ∷ []))) (let b = bound in omega arith))
          (λ v thread wait lives waits held same. length-append items (value ∷ []) ∙ omega arith
          ∙ ap length (sym is) ∙ full_since p K.queues K.counts queue wait.what wait.target held same)
          (λ v thread wait lives waits held same. nobody wait.what wait.target (items ++ value ∷ []) held same)

      go : (o : Option ℕ) → first K Send queue ≡ o →
          Follows p K (elim o [ None ↦ K1 | Some u ↦ finish p (with_item K1 queue (value_sent K1 u)) u (1 ∷ []) ])
      go None e = record {
        sound = sound-items p K h queue items declared (let b = bound in omega arith)
            (λ u thread wait lives is' held same. absurd (true≢false (sym same ∙ sym (waits_by Send queue thread wait is')
            ∙ empty_line (waits_for Send queue) K e u thread lives)))
            (λ u thread wait lives is' held same. nobody wait.what wait.target items held same);
        stays = λ u own lives ready. refl;
        ticks = refl;
        events = refl;
      }
      go (Some u) e =
          let K2 : State = with_items K queue (items ++ value_sent K1 u ∷ []) in
          let f = finish-first p K2 (refill (value_sent K1 u) u e) Send queue u (1 ∷ []) e in
          subst (λ (K' : State). Follows p K (finish p K' u (1 ∷ []))) (sym (twice (value_sent K1 u)))
          (record { sound = f.0; stays = f.1; ticks = refl; events = refl })

  pub receive-sound : K.events ≤ 1000000 → debt + next_words p local ≤ record_room → (queue limit : ℕ) →
      option_and_then (awaited_by p) (next_call local) ≡ Some (Receive, queue) →
      IsSoundEffect p t local debt (receive p K queue limit)
  receive-sound few room queue limit call = go (items_of K queue) refl
    where
      go : (xs : List ℕ) → items_of K queue ≡ xs → IsSoundEffect p t local debt
          (elim xs [ [] ↦ held p K Receive queue 0 limit | item ∷ items ↦ answers (1 ∷ item ∷ []) (refilled p (with_items K queue items) queue) ])
      go [] is = held-sound few room Receive queue 0 limit call is
      go (item ∷ items) is = answered (refilled p (with_items K queue items) queue) (1 ∷ item ∷ []) room (refilled-sound queue item items is)

  -- nobody takes from a semaphore whose count is above 0
  no_taker : (semaphore count : ℕ) → count_of K semaphore ≡ suc count → (what : What) (target : ℕ) → IsHeld p K.queues K.counts what target →
      (is_same_what what Take && target == semaphore) ≡ false
  no_taker semaphore count is what target held = by (is_same_what what Take && target == semaphore) refl
    where
      by : (b : Bool) → (is_same_what what Take && target == semaphore) ≡ b → b ≡ false
      by false e = refl
      by true e = absurd (let f : 0 ≡ suc count = sym (none_since p K.queues K.counts semaphore what target held e) ∙ is in omega arith)

  count_declared : (semaphore count : ℕ) → count_of K semaphore ≡ suc count → semaphore < length K.counts
  count_declared semaphore count is = subst (λ (n : ℕ). semaphore < n) (sym h.queues.semaphore_count)
      (count_within p semaphore count (let le = h.queues.count semaphore in omega arith))

  pub take-sound : K.events ≤ 1000000 → debt + next_words p local ≤ record_room → (semaphore limit : ℕ) →
      option_and_then (awaited_by p) (next_call local) ≡ Some (Take, semaphore) →
      IsSoundEffect p t local debt (take p K semaphore limit)
  take-sound few room semaphore limit call = go (count_of K semaphore) refl
    where
      go : (n : ℕ) → count_of K semaphore ≡ n → IsSoundEffect p t local debt
          (elim n [ zero ↦ held p K Take semaphore 0 limit | suc count ↦ answers (1 ∷ []) (with_count K semaphore count) ])
      go zero is = held-sound few room Take semaphore 0 limit call is
      go (suc count) is = answered (with_count K semaphore count) (1 ∷ []) room (record {
        sound = sound-count p K h semaphore count (count_declared semaphore count is)
            (let le = h.queues.count semaphore in omega arith)
            (λ u thread wait lives waits held. no_taker semaphore count is wait.what wait.target held);
        stays = λ u own lives ready. refl;
        ticks = refl;
        events = refl;
      })

  pub give-sound : debt + next_words p local ≤ record_room → (semaphore : ℕ) → IsSoundEffect p t local debt (give p K semaphore)
  give-sound room semaphore = go (first K Take semaphore) refl
    where
      risen : first K Take semaphore ≡ None → count_of K semaphore < maximum_of p semaphore → Follows p K (with_count K semaphore (count_of K semaphore + 1))
      risen none l = record {
        sound = sound-count p K h semaphore (count_of K semaphore + 1)
            (subst (λ (n : ℕ). semaphore < n) (sym h.queues.semaphore_count) (count_within p semaphore (count_of K semaphore) l))
            (omega arith)
            (λ u thread wait lives waits held. sym (waits_by Take semaphore thread wait waits) ∙ empty_line (waits_for Take semaphore) K none u thread lives);
        stays = λ u own lives ready. refl;
        ticks = refl;
        events = refl;
      }

      go : (o : Option ℕ) → first K Take semaphore ≡ o → IsSoundEffect p t local debt
          (elim o [
            | Some u ↦ answers (1 ∷ []) (finish p K u (1 ∷ []))
            | None ↦ cond (ltb (count_of K semaphore) (maximum_of p semaphore))
                (answers (1 ∷ []) (with_count K semaphore (count_of K semaphore + 1))) (answers (0 ∷ []) K)
          ])
      go (Some u) e = let f = finish-first p K h Take semaphore u (1 ∷ []) e in
          answered (finish p K u (1 ∷ [])) (1 ∷ []) room (record { sound = f.0; stays = f.1; ticks = refl; events = refl })
      go None e = cond_both (ltb (count_of K semaphore) (maximum_of p semaphore))
          (answers (1 ∷ []) (with_count K semaphore (count_of K semaphore + 1))) (answers (0 ∷ []) K) (IsSoundEffect p t local debt)
          (λ l. answered (with_count K semaphore (count_of K semaphore + 1)) (1 ∷ []) room (risen e (ltb-true _ _ l)))
          (λ l. answered K (0 ∷ []) room same)
