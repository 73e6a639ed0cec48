-- The state of a kernel. Threads keep their locals for ever, and orders come from stamps that only grow.
use Rattle.std.specs.Prelude.{ℕ, ◌+◌, Bool, true, false, List, [], Option, Some, None, is_some, slice_index_or, slice_set}
use Rattle.kernel_model.specs.declared.wait.Wait.{Wait}
use Rattle.kernel_model.specs.Visible.{Object}
use Rattle.thread_tree.specs.LocalState.{LocalState}

-- what a live thread does
pub data Activity : Type 0 where
  -- it can be chosen
  Ready : Activity
  -- it is ready again at this tick
  Delayed : ℕ → Activity
  -- it waits in a call
  Waiting : Wait → Activity

-- a live thread
pub record Thread : Type 0 where
  -- the number of its template, and its priority
  pub template : ℕ
  pub priority : ℕ
  pub activity : Activity
  -- of two threads of one priority the one with the lesser stamp comes first
  pub stamp : ℕ
  pub local : LocalState
  -- since its birth or the last turn of a persistent loop: its moves, its actions that leave a record, and the
  -- words of these records
  pub age : ℕ
  pub passed : ℕ
  pub debt : ℕ

-- a row of the kernel
pub data Row : Type 0 where
  -- no thread is there
  Free : Row
  -- a thread of this template and this priority has ended with this code
  Ended : ℕ → ℕ → ℕ → Row
  Live : Thread → Row

-- a kernel
pub record State : Type 0 where
  -- how many events there were, and the tick count
  pub events : ℕ
  pub ticks : ℕ
  -- the next stamp
  pub stamp : ℕ
  -- the rows, by the numbers of their threads
  pub rows : List Row
  -- the items of each queue, the front one first, and the count of each semaphore
  pub queues : List (List ℕ)
  pub counts : List ℕ
  -- the bytes that were printed
  pub console : List ℕ
  -- the live objects in order of place
  pub objects : List Object

-- the live thread of a row
abbrev pub live_in : Row → Option Thread
live_in Free = None
live_in (Ended template priority code) = None
live_in (Live thread) = Some thread

-- the row of a number
abbrev pub row_of : State → ℕ → Row
row_of K t = slice_index_or K.rows t Free

-- the live thread of a number
abbrev pub thread_of : State → ℕ → Option Thread
thread_of K t = live_in (row_of K t)

-- whether a thread is live
abbrev pub is_live : State → ℕ → Bool
is_live K t = is_some (thread_of K t)

-- a row where the thread has changed, if one lives there
abbrev pub row_with : (Thread → Thread) → Row → Row
row_with change Free = Free
row_with change (Ended template priority code) = Ended template priority code
row_with change (Live thread) = Live (change thread)

-- the kernel with another row
abbrev pub with_row : State → ℕ → Row → State
with_row K t row = record K { rows = slice_set K.rows t row }

-- the kernel where a thread has changed
abbrev pub changed : State → ℕ → (Thread → Thread) → State
changed K t change = with_row K t (row_with change (row_of K t))

-- the thread with another stamp
abbrev pub stamped : ℕ → Thread → Thread
stamped stamp thread = record thread { stamp = stamp }

-- the kernel where a thread has changed and stands behind its equals
abbrev pub behind : State → ℕ → (Thread → Thread) → State
behind K t change = record (changed K t (λ thread. stamped K.stamp (change thread))) { stamp = K.stamp + 1 }

-- whether a thread is ready
abbrev pub is_ready : Thread → Bool
is_ready thread = elim thread.activity [ Ready ↦ true | Delayed wake ↦ false | Waiting wait ↦ false ]

-- the items of a queue, and the kernel with other ones
abbrev pub items_of : State → ℕ → List ℕ
items_of K queue = slice_index_or K.queues queue []

abbrev pub with_items : State → ℕ → List ℕ → State
with_items K queue items = record K { queues = slice_set K.queues queue items }

-- the count of a semaphore, and the kernel with another one
abbrev pub count_of : State → ℕ → ℕ
count_of K semaphore = slice_index_or K.counts semaphore 0

abbrev pub with_count : State → ℕ → ℕ → State
with_count K semaphore count = record K { counts = slice_set K.counts semaphore count }
