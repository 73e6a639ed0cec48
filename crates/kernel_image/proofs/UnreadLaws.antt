-- A change of what is read leaves the words that nothing reads.
use Rattle.std.proofs.Common.{◌≡◌, ℕ, zero, suc, List, [], ◌∷◌, refl, ap, slice_set}
use Rattle.std.specs.Prelude.{map, slice_index_or}
use Rattle.kernel_image.specs.Decoded.{Decoded, RowWords, QueueWords, SemaphoreWords, row_at, with_row, queue_at, with_queue, semaphore_at, with_semaphore, blank_row, blank_queue, blank_semaphore}
use Rattle.kernel_image.specs.Unread.{links_of, unread_of_queue, unread_of_semaphore, unread}

-- what is read off each element stays where it is the same of the one that is put
map-kept : {X Y : Type 0} (f : X → Y) (xs : List X) (i : ℕ) (x other : X) → f x ≡ f (slice_index_or xs i other) → map f (slice_set xs i x) ≡ map f xs
map-kept f [] i x other same = refl
map-kept f (y ∷ ys) zero x other same = λ j. same j ∷ map f ys
map-kept f (y ∷ ys) (suc i) x other same = let rest = map-kept f ys i x other same in λ j. f y ∷ rest j

-- another row with the same links
pub unread-row : (d : Decoded) (t : ℕ) (row : RowWords) → links_of row ≡ links_of (row_at d t) → unread (with_row d t row) ≡ unread d
unread-row d t row same = ap (λ (links : List (List ℕ)). record (unread d) { links = links }) (map-kept links_of d.rows t row blank_row same)

-- another queue with the same heads
pub unread-queue : (d : Decoded) (q : ℕ) (queue : QueueWords) → unread_of_queue queue ≡ unread_of_queue (queue_at d q) → unread (with_queue d q queue) ≡ unread d
unread-queue d q queue same = ap (λ (queues : List (List ℕ)). record (unread d) { of_queues = queues }) (map-kept unread_of_queue d.queues q queue blank_queue same)

-- another semaphore with the same head
pub unread-semaphore : (d : Decoded) (s : ℕ) (semaphore : SemaphoreWords) → unread_of_semaphore semaphore ≡ unread_of_semaphore (semaphore_at d s) → unread (with_semaphore d s semaphore) ≡ unread d
unread-semaphore d s semaphore same = ap (λ (semaphores : List (List ℕ)). record (unread d) { of_semaphores = semaphores }) (map-kept unread_of_semaphore d.semaphores s semaphore blank_semaphore same)
