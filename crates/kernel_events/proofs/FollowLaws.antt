-- What an event leaves follows the step of the uncut run.
use Rattle.std.proofs.Common.{◌≡◌, ℕ, zero, suc, ◌+◌, ◌<◌, List, [], ◌∷◌, length, map, Option, Some, ap, sym, subst, ◌∙◌, arith}
use Rattle.std.specs.Prelude.{slice_set, slice_index_or}
use Rattle.std.specs.List.{enumerate_from}
use Rattle.thread_tree.specs.Program.{Program}
use Rattle.thread_tree.specs.Ahead.{ahead}
use Rattle.thread_machine.specs.declared.context.Ctx.{Ctx}
use Rattle.kernel_model.specs.Visible.{Object}
use Rattle.kernel_model.specs.Kernel as kernel
use Rattle.kernel_model.specs.Kernel.{Thread, State, thread_of, row_of, live_in, changed, with_row, row_with}
use Rattle.kernel_model.specs.Kernel.Row.{Free, Ended, Live}
use Rattle.kernel_model.specs.Objects.{first_place}
use Rattle.kernel_model.specs.Serve.{served, settle, stopped}
use Rattle.kernel_model.specs.Serve.Fate.{Serves, Stops}
use Rattle.kernel_model.specs.Run.{arrived, counted}
use Rattle.kernel_image.specs.Agree.{Both}
use Rattle.kernel_image.specs.Decoded.{Decoded, QueueWords, SemaphoreWords, row_at, with_row as with_row_words, blank_queue, blank_semaphore}
use Rattle.kernel_image.specs.Shown.{items_of, objects_in}
use Rattle.kernel_image.specs.Unread.{links_of, unread}
use Rattle.kernel_image.proofs.Callers.{unread-row}
use Rattle.persistent_objects.specs.Layout.{IsLaidOut}
use Rattle.replay_list.specs.Stands.{IsRow, HasContext, KernelStands, items_in, counts_in, console_in}
use Rattle.kernel_events.specs.Follows.{Follows}
use Rattle.replay_list.proofs.Callers.{both_set}
use Rattle.kernel_events.proofs.SetLaws.{set-again, set-at}
use Rattle.kernel_model.specs.Effects.{ran_ahead}

-- all but the row of a thread, the console and the heap is as before, and one event more is counted
abbrev pub IsCounted : ℕ → Decoded → Decoded → Type 0
IsCounted t d new = record new { console_length = d.console_length; console = d.console; heap = d.heap } ≡ record (with_row_words d t (row_at new t)) { events = d.events + 1 }

module _ (p : Program) (d new : Decoded) (contexts : List (Option Ctx)) (K : State) (t : ℕ) where
  -- the row of a thread but for its links, its context, the console and the objects may have changed
  pub follows-row : (row : kernel.Row) (ctx : Option Ctx) (console : List ℕ) (objects : List Object) → KernelStands p d contexts K → IsCounted t d new → IsRow p (row_at new t) row → links_of (row_at new t) ≡ links_of (row_at d t) → HasContext p ctx row → console_in new ≡ console → objects_in p new.heap new.live ≡ objects → IsLaidOut new.heap new.first_hole first_place objects → Follows p new (slice_set contexts t ctx) (record (counted K) { rows = slice_set K.rows t row; console = console; objects = objects })
  follows-row row ctx console objects stands rest is_row links has_context on objects_are layout = record {
    events = ap (λ (x : Decoded). x.events) rest ∙ ap (λ n. n + 1) stands.image.events;
    ticks = ap (λ (x : Decoded). x.ticks) rest ∙ stands.image.ticks;
    rows = subst (λ rows. Both (IsRow p) rows (slice_set K.rows t row)) (sym (ap (λ (x : Decoded). x.rows) rest)) (both_set (IsRow p) d.rows K.rows t (row_at new t) row stands.image.rows is_row);
    queues = ap (λ (queues : List QueueWords). map (λ queue. items_of queue.1.capacity (slice_index_or queues queue.0 blank_queue)) (enumerate_from 0 p.queues)) (ap (λ (x : Decoded). x.queues) rest) ∙ stands.image.queues;
    counts = ap (λ (semaphores : List SemaphoreWords). map (λ semaphore. (slice_index_or semaphores semaphore.0 blank_semaphore).count) (enumerate_from 0 p.semaphores)) (ap (λ (x : Decoded). x.semaphores) rest) ∙ stands.image.counts;
    console = on;
    objects = objects_are;
    layout = layout;
    unread = ap unread rest ∙ unread-row d t (row_at new t) links ∙ stands.image.unread;
    stamp = ap (λ (x : Decoded). x.stamp) rest ∙ stands.image.stamp;
    few_stamps = omega (arith, stands.image.few_stamps);
    restored = both_set (HasContext p) contexts K.rows t ctx row stands.restored has_context;
  }

  -- nobody was ready
  pub follows-nobody : KernelStands p d contexts K → new ≡ record d { events = d.events + 1 } → Follows p new contexts (counted K)
  follows-nobody stands same = record {
    events = ap (λ (x : Decoded). x.events) same ∙ ap (λ n. n + 1) stands.image.events;
    ticks = ap (λ (x : Decoded). x.ticks) same ∙ stands.image.ticks;
    rows = subst (λ rows. Both (IsRow p) rows K.rows) (sym (ap (λ (x : Decoded). x.rows) same)) stands.image.rows;
    queues = ap (items_in p) same ∙ stands.image.queues;
    counts = ap (counts_in p) same ∙ stands.image.counts;
    console = ap console_in same ∙ stands.image.console;
    objects = ap (λ (x : Decoded). objects_in p x.heap x.live) same ∙ stands.image.objects;
    layout = subst (λ (x : Decoded). IsLaidOut x.heap x.first_hole first_place K.objects) (sym same) stands.image.layout;
    unread = ap unread same ∙ stands.image.unread;
    stamp = ap (λ (x : Decoded). x.stamp) same ∙ stands.image.stamp;
    few_stamps = omega (arith, stands.image.few_stamps);
    restored = stands.restored;
  }

-- a thread that lives is in its row
live-row : (r : kernel.Row) (thread : Thread) → live_in r ≡ Some thread → r ≡ Live thread
live-row Free thread is = cc
live-row (Ended template priority code) thread is = cc
live-row (Live other) thread is = let same : other ≡ thread = cc in ap Live same

-- rows are no more than those that there are
past-rows : (rows : List kernel.Row) (t : ℕ) (thread : Thread) → live_in (slice_index_or rows t Free) ≡ Some thread → t < length rows
past-rows [] t thread is = cc
past-rows (r ∷ rows) zero thread is = omega arith
past-rows (r ∷ rows) (suc t) thread is = omega (arith, past-rows rows t thread is)

pub thread-row : (K : State) (t : ℕ) (thread : Thread) → thread_of K t ≡ Some thread → (row_of K t ≡ Live thread) × (t < length K.rows)
thread-row K t thread lives = (live-row (row_of K t) thread lives, past-rows K.rows t thread lives)

-- the kernel where a thread ran ahead
pub ran_ahead-is : (p : Program) (K : State) (t : ℕ) (thread : Thread) → thread_of K t ≡ Some thread → ran_ahead p K t thread ≡ record (counted K) { rows = slice_set K.rows t (Live (arrived (ahead p thread.local) thread)) }
ran_ahead-is p K t thread lives = ap (λ row. record (counted K) { rows = slice_set K.rows t (row_with (arrived (ahead p thread.local)) row) }) (thread-row K t thread lives).0

-- the kernel where a thread was served, with other bytes on the console and other objects
pub served-is : (p : Program) (K : State) (t : ℕ) (thread : Thread) (results : List ℕ) (console : List ℕ) (objects : List Object) → thread_of K t ≡ Some thread → settle p t (Serves results) (record (ran_ahead p K t thread) { console = console; objects = objects }) ≡ record (counted K) { rows = slice_set K.rows t (Live (served p results (arrived (ahead p thread.local) thread))); console = console; objects = objects }
served-is p K t thread results console objects lives =
    let now = arrived (ahead p thread.local) thread in
    let at = set-at K.rows t (Live now) Free (thread-row K t thread lives).1 in
    ap (λ (K0 : State). settle p t (Serves results) (record K0 { console = console; objects = objects })) (ran_ahead-is p K t thread lives)
    ∙ ap (λ rows. record (counted K) { rows = rows; console = console; objects = objects })
    (ap (λ row. slice_set (slice_set K.rows t (Live now)) t (row_with (served p results) row)) at ∙ set-again K.rows t (Live now) (Live (served p results now)))

-- the kernel where a thread ended
pub stopped-is : (p : Program) (K : State) (t : ℕ) (thread : Thread) (code : ℕ) → thread_of K t ≡ Some thread → settle p t (Stops code) (ran_ahead p K t thread) ≡ record (counted K) { rows = slice_set K.rows t (Ended thread.template thread.priority code) }
stopped-is p K t thread code lives =
    let now = arrived (ahead p thread.local) thread in
    let at = set-at K.rows t (Live now) Free (thread-row K t thread lives).1 in
    ap (λ (K0 : State). settle p t (Stops code) K0) (ran_ahead-is p K t thread lives)
    ∙ ap (λ rows. record (counted K) { rows = rows })
    (ap (λ row. slice_set (slice_set K.rows t (Live now)) t (stopped code row)) at ∙ set-again K.rows t (Live now) (Ended thread.template thread.priority code))
