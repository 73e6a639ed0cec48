-- The parts of the image as plain data, computed from the cells.
use Rattle.std.specs.Prelude.{ℕ, ◌==◌, Bool, true, false, List, [], ◌∷◌, map, slice_index_or, slice_set}
use Rattle.std.specs.List.{range_with_len}
use Rattle.kernel_image.specs.declared.cell.Cell.{Cell}
use Rattle.kernel_image.specs.declared.cell.Cell.TheVariants.{Header, SpareHeader, QueueWord, QueueItem, QueueSpare, SemaphoreWord, RowWord, StartValue, RecordWord, ConsoleWord, HeapWord, LiveWord, Spare}
use Rattle.kernel_image.specs.Cells.{present, saved}
use Rattle.kernel_image.specs.declared.layout.TheConstants.{STATE, TEMPLATE, PRIORITY, CODE, UNTIL, TARGET, WHAT, VALUE, STAMP, START, START_COUNT, USED, EVENTS, TICKS, NEXT_STAMP, CONSOLE_LENGTH, FIRST_HOLE, FRONT, CONSOLE_WORDS, HEAP_WORDS, LIVE_WORDS}
use Rattle.thread_tree.specs.declared.limits.TheConstants.{START_VALUES, RECORD_WORDS, ITEMS, ROWS, TARGETS}

-- a thread's row
pub record RowWords : Type 0 where
  -- 0 Free, 1 Ready, 2 Delayed, 3 Waiting, 4 Ended
  pub state : ℕ
  pub template : ℕ
  pub priority : ℕ
  -- of an end
  pub code : ℕ
  -- the tick that wakes it, or 4,294,967,295
  pub wake : ℕ
  -- the number of the queue or the semaphore that it waits for; 1 to send, 2 to receive, 3 to take; what it sends
  pub target : ℕ
  pub what : ℕ
  pub value : ℕ
  pub stamp : ℕ
  -- the links of the ready or waiting list, and of the timed list
  pub next : ℕ
  pub previous : ℕ
  pub timed_next : ℕ
  pub timed_previous : ℕ
  -- where it starts: 0 at its birth, else the number of a loop + 1, with so many values
  pub start : ℕ
  pub start_count : ℕ
  -- how many record words are used
  pub used : ℕ
  -- the sixteen start values, and the 256 record words
  pub start_values : List ℕ
  pub records : List ℕ

-- a queue: how many items it has, the slot of the front one, the heads of its waiting lists, its 48 slots, and the 12
-- words behind them
pub record QueueWords : Type 0 where
  pub count : ℕ
  pub front : ℕ
  pub senders_head : ℕ
  pub receivers_head : ℕ
  pub slots : List ℕ
  pub padding : List ℕ

-- a semaphore: its count, the head of its waiting list, and two unused words
pub record SemaphoreWords : Type 0 where
  pub count : ℕ
  pub takers_head : ℕ
  pub third : ℕ
  pub fourth : ℕ

-- the image
pub record Decoded : Type 0 where
  pub events : ℕ
  pub ticks : ℕ
  -- the next stamp
  pub stamp : ℕ
  -- of the console, in bytes
  pub console_length : ℕ
  -- the place of the first hole of the heap, or 0
  pub first_hole : ℕ
  pub timed_head : ℕ
  pub ready_heads : List ℕ
  -- sixteen of each
  pub rows : List RowWords
  pub queues : List QueueWords
  pub semaphores : List SemaphoreWords
  -- 2,048 words of four bytes, 4,096 places and 64 words of live bits
  pub console : List ℕ
  pub heap : List ℕ
  pub live : List ℕ
  -- the unused words: 48 of the header, and 1,856 behind the journal
  pub spare_header : List ℕ
  pub spare : List ℕ

-- the first n values of a function
unfoldable pub listed : {X : Type 0} → ℕ → (ℕ → X) → List X
listed n f = map f (range_with_len 0 n)

-- the row of a thread
abbrev pub row_of : (Cell → ℕ) → ℕ → RowWords
row_of word t = record {
  state = word (RowWord t STATE);
  template = word (RowWord t TEMPLATE);
  priority = word (RowWord t PRIORITY);
  code = word (RowWord t CODE);
  wake = word (RowWord t UNTIL);
  target = word (RowWord t TARGET);
  what = word (RowWord t WHAT);
  value = word (RowWord t VALUE);
  stamp = word (RowWord t STAMP);
  next = word (RowWord t 9);
  previous = word (RowWord t 10);
  timed_next = word (RowWord t 11);
  timed_previous = word (RowWord t 12);
  start = word (RowWord t START);
  start_count = word (RowWord t START_COUNT);
  used = word (RowWord t USED);
  start_values = listed START_VALUES (λ i. word (StartValue t i));
  records = listed RECORD_WORDS (λ i. word (RecordWord t i));
}

-- a queue by its number
abbrev pub queue_of : (Cell → ℕ) → ℕ → QueueWords
queue_of word q = record {
  count = word (QueueWord q 0);
  front = word (QueueWord q FRONT);
  senders_head = word (QueueWord q 2);
  receivers_head = word (QueueWord q 3);
  slots = listed ITEMS (λ i. word (QueueItem q i));
  padding = listed 12 (λ i. word (QueueSpare q i));
}

-- a semaphore by its number
abbrev pub semaphore_of : (Cell → ℕ) → ℕ → SemaphoreWords
semaphore_of word s = record {
  count = word (SemaphoreWord s 0);
  takers_head = word (SemaphoreWord s 1);
  third = word (SemaphoreWord s 2);
  fourth = word (SemaphoreWord s 3);
}

-- the heads of the ready lists by priority
abbrev pub ready_heads_of : (Cell → ℕ) → List ℕ
ready_heads_of word =
    word (Header 8) ∷ word (Header 9) ∷ word (Header 10) ∷ word (Header 11) ∷ word (Header 12) ∷ word (Header 13)
    ∷ word (Header 14) ∷ word (Header 15) ∷ []

-- the image that words by their cell are
unfoldable pub decoded_of : (Cell → ℕ) → Decoded
decoded_of word = record {
  events = word (Header EVENTS);
  ticks = word (Header TICKS);
  stamp = word (Header NEXT_STAMP);
  console_length = word (Header CONSOLE_LENGTH);
  first_hole = word (Header FIRST_HOLE);
  timed_head = word (Header 7);
  ready_heads = ready_heads_of word;
  rows = listed ROWS (row_of word);
  queues = listed TARGETS (queue_of word);
  semaphores = listed TARGETS (semaphore_of word);
  console = listed CONSOLE_WORDS (λ i. word (ConsoleWord i));
  heap = listed HEAP_WORDS (λ p. word (HeapWord p));
  live = listed LIVE_WORDS (λ i. word (LiveWord i));
  spare_header = listed 48 (λ i. word (SpareHeader i));
  spare = listed 1856 (λ i. word (Spare i));
}

-- the image in the words as they are, and as they are with the journal undone
abbrev pub image_in : List ℕ → Decoded
image_in words = decoded_of (present words)

abbrev pub saved_image_in : List ℕ → Decoded
saved_image_in words = decoded_of (saved words)

-- a row, a queue and a semaphore whose words are 0
abbrev pub blank_row : RowWords
blank_row = record {
  state = 0;
  template = 0;
  priority = 0;
  code = 0;
  wake = 0;
  target = 0;
  what = 0;
  value = 0;
  stamp = 0;
  next = 0;
  previous = 0;
  timed_next = 0;
  timed_previous = 0;
  start = 0;
  start_count = 0;
  used = 0;
  start_values = [];
  records = [];
}

abbrev pub blank_queue : QueueWords
blank_queue = record { count = 0; front = 0; senders_head = 0; receivers_head = 0; slots = []; padding = [] }

abbrev pub blank_semaphore : SemaphoreWords
blank_semaphore = record { count = 0; takers_head = 0; third = 0; fourth = 0 }

-- the row of a thread, and the image with another one
abbrev pub row_at : Decoded → ℕ → RowWords
row_at d t = slice_index_or d.rows t blank_row

abbrev pub with_row : Decoded → ℕ → RowWords → Decoded
with_row d t row = record d { rows = slice_set d.rows t row }

-- the queue of a number, and the image with another one
abbrev pub queue_at : Decoded → ℕ → QueueWords
queue_at d q = slice_index_or d.queues q blank_queue

abbrev pub with_queue : Decoded → ℕ → QueueWords → Decoded
with_queue d q queue = record d { queues = slice_set d.queues q queue }

-- the semaphore of a number, and the image with another one
abbrev pub semaphore_at : Decoded → ℕ → SemaphoreWords
semaphore_at d s = slice_index_or d.semaphores s blank_semaphore

abbrev pub with_semaphore : Decoded → ℕ → SemaphoreWords → Decoded
with_semaphore d s semaphore = record d { semaphores = slice_set d.semaphores s semaphore }

-- whether a cell is one of the heap: word 6, the places and the live bits
abbrev pub of_heap : Cell → Bool
of_heap (Header at) = at == 6
of_heap (SpareHeader i) = false
of_heap (QueueWord queue word) = false
of_heap (QueueItem queue slot) = false
of_heap (QueueSpare queue i) = false
of_heap (SemaphoreWord semaphore word) = false
of_heap (RowWord thread word) = false
of_heap (StartValue thread value) = false
of_heap (RecordWord thread word) = false
of_heap (ConsoleWord word) = false
of_heap (HeapWord place) = true
of_heap (LiveWord word) = true
of_heap (Spare i) = false

-- an image with the heap of another one
abbrev pub with_heap_of : Decoded → Decoded → Decoded
with_heap_of other d = record d { first_hole = other.first_hole; heap = other.heap; live = other.live }
