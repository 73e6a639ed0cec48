-- One row of a kernel changes in the midst of an event, and its context: all else stays.
use Rattle.std.proofs.Common.{◌≡◌, ◌≢◌, ℕ, zero, suc, ◌<◌, ◌≤◌, ◌==◌, ⊎_elim, Bool, List, [], ◌∷◌, Option, Some, None, length, refl, sym, ap, subst, ◌∙◌, arith}
use Rattle.std.proofs.lemmas.Bool.{cases_eq}
use Rattle.std.proofs.lemmas.List.{get_or-set_same, get_or-set_other, length-set}
use Rattle.std.specs.Prelude.{map, slice_set}
use Rattle.std.specs.List.{enumerate_from}
use Rattle.thread_tree.specs.Program as program
use Rattle.thread_tree.specs.Program.{Program}
use Rattle.thread_tree.specs.Relive.{Start}
use Rattle.thread_machine.specs.declared.context.Ctx.{Ctx}
use Rattle.kernel_model.specs.Kernel as kernel
use Rattle.kernel_model.specs.Kernel.{State, Thread, row_of, with_row}
use Rattle.kernel_model.specs.Kernel.Row.{Free, Ended, Live}
use Rattle.kernel_model.specs.Objects.{first_place}
use Rattle.kernel_model.specs.Relived.{IsRelived}
use Rattle.kernel_model.specs.Visible.{Object}
use Rattle.kernel_image.specs.Agree.{Agrees}
use Rattle.kernel_image.specs.Decoded as image
use Rattle.kernel_image.specs.Decoded.{Decoded, RowWords, QueueWords, SemaphoreWords, row_at, queue_at, semaphore_at, blank_row}
use Rattle.kernel_image.specs.Shown.{items_of, byte_of, objects_in}
use Rattle.persistent_objects.specs.Layout.{IsLaidOut}
use Rattle.ready_delay_lists.specs.Lists.{AreListed, unlisted, unlisted_row}
use Rattle.ready_delay_lists.proofs.Callers.{row_kept, queue_kept, semaphore_kept, ticks_kept, console_length_kept, console_kept, first_hole_kept, heap_kept, live_kept, unread_kept_row}
use Rattle.replay_list.specs.Records.{recorded, start_in}
use Rattle.replay_list.specs.Stands.{HasLife, items_in, counts_in, console_in}
use Rattle.replay_list.proofs.Callers.{both_length}
use Rattle.kernel_calls.specs.Matches.{Matches, HoldsContext, context_at, seen_row}

-- what the life of a row goes by is nothing that list calls change
pub life_unlisted : (p : Program) (old new : RowWords) (r : kernel.Row) → unlisted_row new ≡ unlisted_row old → HasLife p old r → HasLife p new r
life_unlisted p old new Free is life = tt
life_unlisted p old new (Ended template priority code) is life = tt
life_unlisted p old new (Live thread) is life = record {
  records = life.records;
  words = ap recorded is ∙ life.words;
  relived = subst (λ (start : Start). IsRelived p start life.records thread) (sym (ap start_in is)) life.relived;
  used = ap (λ (row : RowWords). row.used) is ∙ life.used;
  few = subst (λ (n : ℕ). n ≤ 16) (sym (ap (λ (row : RowWords). row.start_count) is)) life.few;
}

-- the context in a place where one was put, and in another one
pub context_put : (contexts : List (Option Ctx)) (t : ℕ) (found : Option Ctx) → t < length contexts → context_at (slice_set contexts t found) t ≡ found
context_put [] t found low = absurd (omega (arith, low))
context_put (c ∷ contexts) zero None low = refl
context_put (c ∷ contexts) zero (Some ctx) low = refl
context_put (c ∷ contexts) (suc t) found low = context_put contexts t found (omega (arith, low))

pub context_other : (contexts : List (Option Ctx)) (t u : ℕ) (found : Option Ctx) → u ≢ t → context_at (slice_set contexts t found) u ≡ context_at contexts u
context_other [] t u found other = refl
context_other (c ∷ contexts) zero zero found other = absurd (other refl)
context_other (c ∷ contexts) zero (suc u) found other = refl
context_other (c ∷ contexts) (suc t) zero found other = refl
context_other (c ∷ contexts) (suc t) (suc u) found other = context_other contexts t u found (λ e. other (ap suc e))

-- the parts without rows are kept by all that changes no more than list calls and a row
same_items : (p : Program) (d e : Decoded) → unlisted e ≡ unlisted d → items_in p e ≡ items_in p d
same_items p d e is = go (enumerate_from 0 p.queues)
  where
    go : (queues : List (ℕ × program.Queue)) → map (λ queue. items_of queue.1.capacity (queue_at e queue.0)) queues ≡ map (λ queue. items_of queue.1.capacity (queue_at d queue.0)) queues
    go [] = refl
    go (queue ∷ queues) =
        let first = ap (items_of queue.1.capacity) (queue_kept d e queue.0 is) in
        let rest = go queues in
        λ i. first i ∷ rest i

same_counts : (p : Program) (d e : Decoded) → unlisted e ≡ unlisted d → counts_in p e ≡ counts_in p d
same_counts p d e is = go (enumerate_from 0 p.semaphores)
  where
    go : (semaphores : List (ℕ × program.Semaphore)) → map (λ semaphore. (semaphore_at e semaphore.0).count) semaphores ≡ map (λ semaphore. (semaphore_at d semaphore.0).count) semaphores
    go [] = refl
    go (semaphore ∷ semaphores) =
        let first = ap (λ (words : SemaphoreWords). words.count) (semaphore_kept d e semaphore.0 is) in
        let rest = go semaphores in
        λ i. first i ∷ rest i

same_console : (d e : Decoded) → unlisted e ≡ unlisted d → console_in e ≡ console_in d
same_console d e is =
    ap (λ (n : ℕ). image.listed n (byte_of e.console)) (console_length_kept d e is)
    ∙ ap (λ (words : List ℕ). image.listed d.console_length (byte_of words)) (console_kept d e is)

same_objects : (p : Program) (d e : Decoded) → unlisted e ≡ unlisted d → objects_in p e.heap e.live ≡ objects_in p d.heap d.live
same_objects p d e is =
    ap (λ (heap : List ℕ). objects_in p heap e.live) (heap_kept d e is)
    ∙ ap (λ (live : List ℕ). objects_in p d.heap live) (live_kept d e is)

same_layout : (d e : Decoded) (objects : List Object) → unlisted e ≡ unlisted d → IsLaidOut d.heap d.first_hole first_place objects → IsLaidOut e.heap e.first_hole first_place objects
same_layout d e objects is laid =
    subst (λ (heap : List ℕ). IsLaidOut heap e.first_hole first_place objects) (sym (heap_kept d e is))
    (subst (λ (hole : ℕ). IsLaidOut d.heap hole first_place objects) (sym (first_hole_kept d e is)) laid)

-- what one row is, and every other one
by_row : (R : ℕ → Type 0) (t : ℕ) → R t → ((u : ℕ) → u ≢ t → R u) → (u : ℕ) → R u
by_row R t here others u = ⊎_elim (λ (same : u ≡ t). subst R (sym same) here) (λ (other : u ≢ t). others u other) (cases_eq u t)

-- one row, one stamp and one context change: the frame of all calls
pub matches-put : (p : Program) (before after : ℕ) (whose held : ℕ → Bool) (d e : Decoded) (contexts later : List (Option Ctx)) (K : State) (t : ℕ) (row : RowWords) (r : kernel.Row) (stamp : ℕ)
    → t < 16
    → Matches p before whose d contexts K
    → length later ≡ 16
    → AreListed e (record (with_row K t r) { stamp = stamp })
    → unlisted e ≡ unlisted (image.with_row d t row)
    → HasLife p row (seen_row (t == after) r)
    → ((u : ℕ) → u ≢ t → HasLife p (row_at d u) (seen_row (u == after) (row_of K u)))
    → HoldsContext p (held t) (context_at later t) r
    → ((u : ℕ) → u ≢ t → HoldsContext p (held u) (context_at later u) (row_of K u))
    → Matches p after held e later (record (with_row K t r) { stamp = stamp })
matches-put p before after whose held d e contexts later K t row r stamp low matches places listed is life others context restored = record {
  sixteen = length-set K.rows t r ∙ matches.sixteen;
  places = places;
  listed = listed;
  lives = by_row (λ u. HasLife p (row_at e u) (seen_row (u == after) (row_of (record (with_row K t r) { stamp = stamp }) u))) t own other;
  restored = by_row (λ u. HoldsContext p (held u) (context_at later u) (row_of (record (with_row K t r) { stamp = stamp }) u)) t
      (subst (HoldsContext p (held t) (context_at later t)) (sym here) context)
      (λ u apart. subst (HoldsContext p (held u) (context_at later u)) (sym (get_or-set_other K.rows t u r Free apart)) (restored u apart));
  ticks = ticks_kept (image.with_row d t row) e is ∙ matches.ticks;
  queues = same_items p (image.with_row d t row) e is ∙ matches.queues;
  counts = same_counts p (image.with_row d t row) e is ∙ matches.counts;
  console = same_console (image.with_row d t row) e is ∙ matches.console;
  objects = same_objects p (image.with_row d t row) e is ∙ matches.objects;
  layout = same_layout (image.with_row d t row) e K.objects is matches.layout;
  unread = unread_kept_row d e t row matches.listed.links listed.links is ∙ matches.unread;
}
  where
    many : length d.rows ≡ 16
    many = both_length Agrees d.rows K.rows matches.listed.rows ∙ matches.sixteen

    here : row_of (record (with_row K t r) { stamp = stamp }) t ≡ r
    here = get_or-set_same K.rows t r Free (omega (arith, low, matches.sixteen))

    own : HasLife p (row_at e t) (seen_row (t == after) (row_of (record (with_row K t r) { stamp = stamp }) t))
    own =
        let there : row_at (image.with_row d t row) t ≡ row = get_or-set_same d.rows t row blank_row (omega (arith, low, many)) in
        let kept = row_kept (image.with_row d t row) e t is ∙ ap unlisted_row there in
        life_unlisted p row (row_at e t) (seen_row (t == after) (row_of (record (with_row K t r) { stamp = stamp }) t)) kept
        (subst (λ (x : kernel.Row). HasLife p row (seen_row (t == after) x)) (sym here) life)

    other : (u : ℕ) → u ≢ t → HasLife p (row_at e u) (seen_row (u == after) (row_of (record (with_row K t r) { stamp = stamp }) u))
    other u apart =
        let there : row_at (image.with_row d t row) u ≡ row_at d u = get_or-set_other d.rows t u row blank_row apart in
        let kept = row_kept (image.with_row d t row) e u is ∙ ap unlisted_row there in
        life_unlisted p (row_at d u) (row_at e u) (seen_row (u == after) (row_of (record (with_row K t r) { stamp = stamp }) u)) kept
        (subst (λ (x : kernel.Row). HasLife p (row_at d u) (seen_row (u == after) x)) (sym (get_or-set_other K.rows t u r Free apart)) (others u apart))
