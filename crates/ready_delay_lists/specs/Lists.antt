-- Which kernel's lists an image has, and what the calls that change lists leave as it was. Contracts above say this
-- alone, so that another way to keep the lists changes these definitions and none of them.
use Rattle.std.specs.Prelude.{◌≡◌, ℕ, ◌+◌, ◌<◌, ◌==◌, ◌&&◌, nat_le, not, Bool, false, if◌then◌else◌, List, [], ◌∷◌, map, replicate, position, Option, Some, None}
use Rattle.kernel_model.specs.declared.wait.TheConstants.{NEVER}
use Rattle.kernel_model.specs.declared.what.What.{What}
use Rattle.kernel_model.specs.declared.what.What.TheVariants.{Send, Receive, Take}
use Rattle.kernel_model.specs.Calls.{with_priority}
use Rattle.kernel_model.specs.Kernel as kernel
use Rattle.kernel_model.specs.Kernel.{Activity, Thread, State, thread_of, live_in, with_row, behind}
use Rattle.kernel_model.specs.Kernel.Activity.{Ready, Delayed, Waiting}
use Rattle.kernel_model.specs.Kernel.Row.{Live}
use Rattle.kernel_image.specs.Agree.{Agrees, Both}
use Rattle.kernel_image.specs.Decoded.{Decoded, RowWords, QueueWords, SemaphoreWords, row_at}
use Rattle.kernel_image.specs.Shown.{line_of, is_ready_at, waits_for, timed_list}
use Rattle.kernel_image.specs.Unread.{links_of, heads_of}
use Rattle.thread_tree.specs.declared.limits.TheConstants.{ROWS, TARGETS}

-- the heads of the waiting lists of a queue and of a semaphore
abbrev pub heads_of_queue : QueueWords → List ℕ
heads_of_queue queue = queue.senders_head ∷ queue.receivers_head ∷ []

abbrev pub heads_of_semaphore : SemaphoreWords → List ℕ
heads_of_semaphore semaphore = semaphore.takers_head ∷ []

-- the words that link lists: the heads, and the links of the rows
pub record Links : Type 0 where
  pub heads : List ℕ
  pub of_rows : List (List ℕ)
  pub of_queues : List (List ℕ)
  pub of_semaphores : List (List ℕ)

-- those of an image
abbrev pub links_in : Decoded → Links
links_in d = record {
  heads = heads_of d;
  of_rows = map links_of d.rows;
  of_queues = map heads_of_queue d.queues;
  of_semaphores = map heads_of_semaphore d.semaphores;
}

-- nothing is linked: all orders come from the stamps
abbrev pub unlinked : Links
unlinked = record {
  heads = replicate 9 0;
  of_rows = replicate ROWS (replicate 4 0);
  of_queues = replicate TARGETS (replicate 2 0);
  of_semaphores = replicate TARGETS (replicate 1 0);
}

-- an image has the rows of a kernel, and its threads in the order of its lists
pub record AreListed (d : Decoded) (K : State) : Type 0 where
  pub rows : Both Agrees d.rows K.rows
  pub stamp : d.stamp ≡ K.stamp
  pub links : links_in d ≡ unlinked

-- a row has of a thread what the lists go by, whatever the thread does
pub record Bears (row : RowWords) (thread : Thread) : Type 0 where
  pub template : row.template ≡ thread.template
  pub priority : row.priority ≡ thread.priority
  pub stamp : row.stamp ≡ thread.stamp

-- a row, a queue and a semaphore without what the calls of lists may change
abbrev pub unlisted_row : RowWords → RowWords
unlisted_row row = record row {
  state = 0;
  priority = 0;
  wake = 0;
  target = 0;
  what = 0;
  value = 0;
  stamp = 0;
  next = 0;
  previous = 0;
  timed_next = 0;
  timed_previous = 0;
}

abbrev pub unlisted_queue : QueueWords → QueueWords
unlisted_queue queue = record queue { senders_head = 0; receivers_head = 0 }

abbrev pub unlisted_semaphore : SemaphoreWords → SemaphoreWords
unlisted_semaphore semaphore = record semaphore { takers_head = 0 }

-- an image without what the calls of lists may change
unfoldable pub unlisted : Decoded → Decoded
unlisted d = record d {
  stamp = 0;
  timed_head = 0;
  ready_heads = [];
  rows = map unlisted_row d.rows;
  queues = map unlisted_queue d.queues;
  semaphores = map unlisted_semaphore d.semaphores;
}

-- a kernel can give one stamp more
abbrev pub HasStamp : State → Type 0
HasStamp K = K.stamp + 1 < 4294967296

-- a thread lives in a kernel whose lists an image has
pub record IsListed (d : Decoded) (K : State) (t : ℕ) (thread : Thread) : Type 0 where
  pub listed : AreListed d K
  pub lives : thread_of K t ≡ Some thread

-- a thread stands in no list of a kernel whose lists an image has, and its row bears what the lists go by
pub record IsAside (d : Decoded) (K : State) (t : ℕ) (thread : Thread) : Type 0 where
  pub listed : AreListed d K
  pub nowhere : thread_of K t ≡ None
  pub bears : Bears (row_at d t) thread

-- the kernel where a thread stands behind its equals and does this
abbrev pub stands_behind : State → ℕ → Thread → Activity → State
stands_behind K t thread activity =
    record (with_row K t (Live (record thread { activity = activity; stamp = K.stamp }))) { stamp = K.stamp + 1 }

-- the kernel where a thread is delayed until a tick
abbrev pub stands_timed : State → ℕ → Thread → ℕ → State
stands_timed K t thread wake = with_row K t (Live (record thread { activity = Delayed wake }))

-- the kernel where a live thread has a priority: behind its equals, if it is another one
abbrev pub prioritized : State → ℕ → Thread → ℕ → State
prioritized K t thread priority =
    if thread.priority == priority then K else behind K t (with_priority priority)

-- the value that a wait may have: that of a sender, and else 0
abbrev pub value_for : What → ℕ → ℕ
value_for Send value = value
value_for Receive value = 0
value_for Take value = 0

-- whether what a thread does ends by this tick
abbrev pub is_due : ℕ → Activity → Bool
is_due tick Ready = false
is_due tick (Delayed wake) = nat_le wake tick
is_due tick (Waiting wait) = not (wait.until == NEVER) && nat_le wait.until tick

-- whether a thread lives in a row, and what it does ends by this tick
abbrev pub is_due_row : ℕ → kernel.Row → Bool
is_due_row tick row = elim (live_in row) [ None ↦ false | Some thread ↦ is_due tick thread.activity ]

-- the least thread whose delay or wait ends by this tick
abbrev pub due : ℕ → State → Option ℕ
due tick K = position (is_due_row tick) K.rows

-- the ready threads of a priority, the timed threads, and those that wait for something, in order
abbrev pub ready_in : Decoded → ℕ → List ℕ
ready_in d priority = line_of (is_ready_at priority) d.rows

abbrev pub timed_in : Decoded → List ℕ
timed_in d = map (λ a. a.0) (timed_list d)

abbrev pub waiting_in : Decoded → What → ℕ → List ℕ
waiting_in d what target = line_of (waits_for what target) d.rows
