-- What an image keeps where the calls of lists change no more than they may.
use Rattle.std.proofs.Common.{◌≡◌, ℕ, List, [], ◌∷◌, refl, sym, ap, ◌∙◌}
use Rattle.std.proofs.Math.ListN.{get_or-map}
use Rattle.std.specs.Prelude.{map, replicate, zero, suc}
use Rattle.kernel_image.specs.Decoded.{Decoded, RowWords, QueueWords, SemaphoreWords, row_at, with_row, queue_at, semaphore_at, blank_row, blank_queue, blank_semaphore}
use Rattle.kernel_image.specs.Unread.{links_of, heads_of, unread, unread_of_queue, unread_of_semaphore, Unread}
use Rattle.ready_delay_lists.specs.Lists.{Links, links_in, unlinked, heads_of_queue, heads_of_semaphore, unlisted, unlisted_row, unlisted_queue, unlisted_semaphore}

-- parts that no call of a list changes, read off the blanked image
rows-blanked : (d : Decoded) (u : ℕ) → row_at (unlisted d) u ≡ unlisted_row (row_at d u)
unfolding unlisted
rows-blanked d u = get_or-map unlisted_row d.rows u blank_row

queues-blanked : (d : Decoded) (q : ℕ) → queue_at (unlisted d) q ≡ unlisted_queue (queue_at d q)
unfolding unlisted
queues-blanked d q = get_or-map unlisted_queue d.queues q blank_queue

semaphores-blanked : (d : Decoded) (s : ℕ) → semaphore_at (unlisted d) s ≡ unlisted_semaphore (semaphore_at d s)
unfolding unlisted
semaphores-blanked d s = get_or-map unlisted_semaphore d.semaphores s blank_semaphore

-- a part of the image that the blanked image has as it is
kept : {X : Type 0} (part : Decoded → X) (d e : Decoded) → ((c : Decoded) → part (unlisted c) ≡ part c) → unlisted e ≡ unlisted d → part e ≡ part d
kept part d e same is = sym (same e) ∙ ap part is ∙ same d

pub row_kept : (d e : Decoded) (u : ℕ) → unlisted e ≡ unlisted d → unlisted_row (row_at e u) ≡ unlisted_row (row_at d u)
row_kept d e u is = sym (rows-blanked e u) ∙ ap (λ (c : Decoded). row_at c u) is ∙ rows-blanked d u

pub queue_kept : (d e : Decoded) (q : ℕ) → unlisted e ≡ unlisted d → unlisted_queue (queue_at e q) ≡ unlisted_queue (queue_at d q)
queue_kept d e q is = sym (queues-blanked e q) ∙ ap (λ (c : Decoded). queue_at c q) is ∙ queues-blanked d q

pub semaphore_kept : (d e : Decoded) (s : ℕ) → unlisted e ≡ unlisted d → unlisted_semaphore (semaphore_at e s) ≡ unlisted_semaphore (semaphore_at d s)
semaphore_kept d e s is = sym (semaphores-blanked e s) ∙ ap (λ (c : Decoded). semaphore_at c s) is ∙ semaphores-blanked d s

pub events_kept : (d e : Decoded) → unlisted e ≡ unlisted d → e.events ≡ d.events
unfolding unlisted
events_kept d e is = kept (λ c. c.events) d e (λ c. refl) is

pub ticks_kept : (d e : Decoded) → unlisted e ≡ unlisted d → e.ticks ≡ d.ticks
unfolding unlisted
ticks_kept d e is = kept (λ c. c.ticks) d e (λ c. refl) is

pub console_length_kept : (d e : Decoded) → unlisted e ≡ unlisted d → e.console_length ≡ d.console_length
unfolding unlisted
console_length_kept d e is = kept (λ c. c.console_length) d e (λ c. refl) is

pub console_kept : (d e : Decoded) → unlisted e ≡ unlisted d → e.console ≡ d.console
unfolding unlisted
console_kept d e is = kept (λ c. c.console) d e (λ c. refl) is

pub first_hole_kept : (d e : Decoded) → unlisted e ≡ unlisted d → e.first_hole ≡ d.first_hole
unfolding unlisted
first_hole_kept d e is = kept (λ c. c.first_hole) d e (λ c. refl) is

pub heap_kept : (d e : Decoded) → unlisted e ≡ unlisted d → e.heap ≡ d.heap
unfolding unlisted
heap_kept d e is = kept (λ c. c.heap) d e (λ c. refl) is

pub live_kept : (d e : Decoded) → unlisted e ≡ unlisted d → e.live ≡ d.live
unfolding unlisted
live_kept d e is = kept (λ c. c.live) d e (λ c. refl) is

-- a queue and a semaphore whose heads are 0 are as they are when these are blanked
queues-unlinked : (n : ℕ) (queues : List QueueWords) → map heads_of_queue queues ≡ replicate n (replicate 2 0) → map unread_of_queue queues ≡ map unread_of_queue (map unlisted_queue queues)
queues-unlinked n [] none = refl
queues-unlinked zero (queue ∷ queues) none = absurd (let f : ◌≡◌ {A = List (List ℕ)} (heads_of_queue queue ∷ map heads_of_queue queues) [] = none in cc)
queues-unlinked (suc n) (queue ∷ queues) none =
    let all : ◌≡◌ {A = List (List ℕ)} (heads_of_queue queue ∷ map heads_of_queue queues) (replicate 2 0 ∷ replicate n (replicate 2 0)) = none in
    let rest : map heads_of_queue queues ≡ replicate n (replicate 2 0) = cc in
    let first : ◌≡◌ {A = List ℕ} (queue.senders_head ∷ queue.receivers_head ∷ []) (0 ∷ 0 ∷ []) = cc in
    let senders : queue.senders_head ≡ 0 = cc in
    let receivers : queue.receivers_head ≡ 0 = cc in
    let more = queues-unlinked n queues rest in
    λ i. (senders i ∷ receivers i ∷ queue.padding) ∷ more i

semaphores-unlinked : (n : ℕ) (semaphores : List SemaphoreWords) → map heads_of_semaphore semaphores ≡ replicate n (replicate 1 0) → map unread_of_semaphore semaphores ≡ map unread_of_semaphore (map unlisted_semaphore semaphores)
semaphores-unlinked n [] none = refl
semaphores-unlinked zero (semaphore ∷ semaphores) none = absurd (let f : ◌≡◌ {A = List (List ℕ)} (heads_of_semaphore semaphore ∷ map heads_of_semaphore semaphores) [] = none in cc)
semaphores-unlinked (suc n) (semaphore ∷ semaphores) none =
    let all : ◌≡◌ {A = List (List ℕ)} (heads_of_semaphore semaphore ∷ map heads_of_semaphore semaphores) (replicate 1 0 ∷ replicate n (replicate 1 0)) = none in
    let rest : map heads_of_semaphore semaphores ≡ replicate n (replicate 1 0) = cc in
    let first : ◌≡◌ {A = List ℕ} (semaphore.takers_head ∷ []) (0 ∷ []) = cc in
    let takers : semaphore.takers_head ≡ 0 = cc in
    let more = semaphores-unlinked n semaphores rest in
    λ i. (takers i ∷ semaphore.third ∷ semaphore.fourth ∷ []) ∷ more i

-- the words that nothing reads, where nothing is linked, are those of the blanked image
with_heads : Links → Unread → Unread
with_heads links words = record words { heads = links.heads; links = links.of_rows }

unread-blanked : (d : Decoded) → links_in d ≡ unlinked → unread d ≡ with_heads unlinked (unread (unlisted d))
unfolding unlisted with_heads
unread-blanked d none =
    let heads : heads_of d ≡ replicate 9 0 = ap (λ (links : Links). links.heads) none in
    let rows : map links_of d.rows ≡ replicate 16 (replicate 4 0) = ap (λ (links : Links). links.of_rows) none in
    let queues = queues-unlinked 16 d.queues (ap (λ (links : Links). links.of_queues) none) in
    let semaphores = semaphores-unlinked 16 d.semaphores (ap (λ (links : Links). links.of_semaphores) none) in
    λ i. record {
      heads = heads i;
      links = rows i;
      of_queues = queues i;
      of_semaphores = semaphores i;
      header = d.spare_header;
      behind = d.spare;
    }

-- where nothing is linked before and after, all words stay that nothing reads
pub unread_kept : (d e : Decoded) → links_in d ≡ unlinked → links_in e ≡ unlinked → unlisted e ≡ unlisted d → unread e ≡ unread d
unread_kept d e before after is =
    unread-blanked e after ∙ ap (λ (c : Decoded). with_heads unlinked (unread c)) is ∙ sym (unread-blanked d before)

-- the same where a row is another one besides
pub unread_kept_row : (d e : Decoded) (t : ℕ) (row : RowWords) → links_in d ≡ unlinked → links_in e ≡ unlinked → unlisted e ≡ unlisted (with_row d t row) → unread e ≡ unread d
unfolding unlisted with_heads
unread_kept_row d e t row before after is =
    unread-blanked e after ∙ ap (λ (c : Decoded). with_heads unlinked (unread c)) is ∙ sym (unread-blanked d before)
