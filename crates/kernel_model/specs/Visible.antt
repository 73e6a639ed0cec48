-- What can be seen of a kernel: the record that its words show and that its dump prints.
use Rattle.std.specs.Prelude.{ℕ, Bool, List}
use Rattle.kernel_model.specs.declared.row_state.RowState.{RowState}
use Rattle.kernel_model.specs.declared.row_state.RowState.TheVariants.{Free}

-- a thread's row: the number of its template, its priority and its state
pub record Row : Type 0 where
  pub template : ℕ
  pub priority : ℕ
  pub state : RowState

-- a row where no thread is
abbrev pub free_row : Row
free_row = record { template = 0; priority = 0; state = Free }

-- a queue: its items, the front one first, and the threads that wait to send and to receive, the next one first
pub record Queue : Type 0 where
  pub items : List ℕ
  pub senders : List ℕ
  pub receivers : List ℕ

-- a semaphore: its count, and the threads that wait to take it, the next one first
pub record Semaphore : Type 0 where
  pub count : ℕ
  pub takers : List ℕ

-- a live object: its place, the number of its type, whether the program declares it, and the values of its fields
pub record Object : Type 0 where
  pub place : ℕ
  pub kind : ℕ
  pub is_static : Bool
  pub values : List ℕ

-- what can be seen of a kernel
pub record Visible : Type 0 where
  -- how many events were committed, and the tick count
  pub events : ℕ
  pub ticks : ℕ
  -- the sixteen rows, by the numbers of their threads
  pub rows : List Row
  -- the ready threads of each priority from 0 on, the next one first
  pub ready : List (List ℕ)
  -- the threads that a tick wakes, each with that tick, in order of tick and then number
  pub timed : List (ℕ × ℕ)
  -- the queues and the semaphores, by their numbers
  pub queues : List Queue
  pub semaphores : List Semaphore
  -- the live objects in order of place
  pub objects : List Object
  -- the bytes that were printed
  pub console : List ℕ
