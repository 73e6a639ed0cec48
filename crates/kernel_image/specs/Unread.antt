-- The words of the image that nothing reads: they keep what formatting gave.
use Rattle.std.specs.Prelude.{◌≡◌, ℕ, List, [], ◌∷◌, map}
use Rattle.thread_tree.specs.Program.{Program}
use Rattle.kernel_image.specs.Decoded.{Decoded, RowWords, QueueWords, SemaphoreWords, decoded_of}
use Rattle.kernel_image.specs.Initial.{initial_cell}

-- the links of a row
abbrev pub links_of : RowWords → List ℕ
links_of row = row.next ∷ row.previous ∷ row.timed_next ∷ row.timed_previous ∷ []

-- the heads of the timed list and of the ready lists
abbrev pub heads_of : Decoded → List ℕ
heads_of d = d.timed_head ∷ d.ready_heads

-- the heads of the waiting lists of a queue, and the words behind its slots
abbrev pub unread_of_queue : QueueWords → List ℕ
unread_of_queue queue = queue.senders_head ∷ queue.receivers_head ∷ queue.padding

-- the head of the waiting list of a semaphore, and its unused words
abbrev pub unread_of_semaphore : SemaphoreWords → List ℕ
unread_of_semaphore semaphore = semaphore.takers_head ∷ semaphore.third ∷ semaphore.fourth ∷ []

-- all the words that nothing reads
pub record Unread : Type 0 where
  pub heads : List ℕ
  pub links : List (List ℕ)
  pub of_queues : List (List ℕ)
  pub of_semaphores : List (List ℕ)
  pub header : List ℕ
  pub behind : List ℕ

-- those of an image
abbrev pub unread : Decoded → Unread
unread d = record {
  heads = heads_of d;
  links = map links_of d.rows;
  of_queues = map unread_of_queue d.queues;
  of_semaphores = map unread_of_semaphore d.semaphores;
  header = d.spare_header;
  behind = d.spare;
}

-- they are as formatting gave them
abbrev pub IsUnread : Program → Decoded → Type 0
IsUnread p d = unread d ≡ unread (decoded_of (initial_cell p))
