-- The words outside the journal as cells: where each lies, and what a store changes.
use Rattle.std.specs.Prelude.{ℕ, ◌+◌, ◌-◌, ◌*◌, ◌/◌, ◌%◌, ◌≤◌, ◌==◌, nat_lt, not, ◌&&◌, Bool, true, false, if◌then◌else◌, List, Option, Some, None}
use Rattle.undo_journal.specs.Undo.{outside, durable}
use Rattle.kernel_image.specs.declared.cell.Cell.{Cell}
use Rattle.kernel_image.specs.declared.cell.Cell.TheVariants.{Header, SpareHeader, QueueWord, QueueItem, QueueSpare, SemaphoreWord, RowWord, StartValue, RecordWord, ConsoleWord, HeapWord, LiveWord, Spare}
use Rattle.kernel_image.specs.declared.layout.TheConstants.{SPARE_HEADER_AT, QUEUES_AT, QUEUE_STRIDE, QUEUE_ITEMS_AT, QUEUE_SPARE_AT, SEMAPHORES_AT, SEMAPHORE_STRIDE, ROWS_AT, ROW_STRIDE, START_VALUES_AT, RECORDS_AT, CONSOLE_AT, HEAP_AT, LIVE_AT, SPARE_AT, ROW_WORDS, CONSOLE_WORDS, HEAP_WORDS, LIVE_WORDS}
use Rattle.thread_tree.specs.declared.limits.TheConstants.{TARGETS, ROWS, START_VALUES, RECORD_WORDS, ITEMS}
use Rattle.undo_journal.specs.declared.layout.TheConstants.{COUNT, ENTRIES}

-- the address of a cell
abbrev pub address : Cell → ℕ
address (Header at) = at
address (SpareHeader i) = SPARE_HEADER_AT + i
address (QueueWord queue word) = QUEUES_AT + QUEUE_STRIDE * queue + word
address (QueueItem queue slot) = QUEUE_ITEMS_AT + QUEUE_STRIDE * queue + slot
address (QueueSpare queue i) = QUEUE_SPARE_AT + QUEUE_STRIDE * queue + i
address (SemaphoreWord semaphore word) = SEMAPHORES_AT + SEMAPHORE_STRIDE * semaphore + word
address (RowWord thread word) = ROWS_AT + ROW_STRIDE * thread + word
address (StartValue thread value) = START_VALUES_AT + ROW_STRIDE * thread + value
address (RecordWord thread word) = RECORDS_AT + ROW_STRIDE * thread + word
address (ConsoleWord word) = CONSOLE_AT + word
address (HeapWord place) = HEAP_AT + place
address (LiveWord word) = LIVE_AT + word
address (Spare i) = SPARE_AT + i

-- whether the layout has this cell: the word 0 and the journal are none
abbrev pub is_cell : Cell → Bool
is_cell (Header at) = nat_lt 0 at && nat_lt at SPARE_HEADER_AT && not (at == COUNT)
is_cell (SpareHeader i) = nat_lt i 48
is_cell (QueueWord queue word) = nat_lt queue TARGETS && nat_lt word 4
is_cell (QueueItem queue slot) = nat_lt queue TARGETS && nat_lt slot ITEMS
is_cell (QueueSpare queue i) = nat_lt queue TARGETS && nat_lt i 12
is_cell (SemaphoreWord semaphore word) = nat_lt semaphore TARGETS && nat_lt word 4
is_cell (RowWord thread word) = nat_lt thread ROWS && nat_lt word ROW_WORDS
is_cell (StartValue thread value) = nat_lt thread ROWS && nat_lt value START_VALUES
is_cell (RecordWord thread word) = nat_lt thread ROWS && nat_lt word RECORD_WORDS
is_cell (ConsoleWord word) = nat_lt word CONSOLE_WORDS
is_cell (HeapWord place) = nat_lt place HEAP_WORDS
is_cell (LiveWord word) = nat_lt word LIVE_WORDS
is_cell (Spare i) = nat_lt i 1856

-- whether two cells are one
abbrev pub cell_eq : Cell → Cell → Bool
cell_eq (Header a) (Header b) = a == b
cell_eq (SpareHeader a) (SpareHeader b) = a == b
cell_eq (QueueWord q a) (QueueWord r b) = a == b && q == r
cell_eq (QueueItem q a) (QueueItem r b) = q == r && a == b
cell_eq (QueueSpare q a) (QueueSpare r b) = q == r && a == b
cell_eq (SemaphoreWord s a) (SemaphoreWord r b) = a == b && s == r
cell_eq (RowWord t a) (RowWord u b) = a == b && t == u
cell_eq (StartValue t a) (StartValue u b) = t == u && a == b
cell_eq (RecordWord t a) (RecordWord u b) = t == u && a == b
cell_eq (ConsoleWord a) (ConsoleWord b) = a == b
cell_eq (HeapWord a) (HeapWord b) = a == b
cell_eq (LiveWord a) (LiveWord b) = a == b
cell_eq (Spare a) (Spare b) = a == b
cell_eq c d = false

-- the cell of a word of a queue, and of a thread's row
abbrev pub queue_cell : ℕ → ℕ → Cell
queue_cell queue word =
    if nat_lt word 4 then QueueWord queue word else
    if nat_lt word 52 then QueueItem queue (word - 4) else QueueSpare queue (word - 52)

abbrev pub row_cell : ℕ → ℕ → Cell
row_cell thread word =
    if nat_lt word ROW_WORDS then RowWord thread word else
    if nat_lt word 32 then StartValue thread (word - ROW_WORDS) else RecordWord thread (word - 32)

-- the cell at an address behind the rows
abbrev pub cell_behind_rows : ℕ → Cell
cell_behind_rows at =
    if nat_lt at HEAP_AT then ConsoleWord (at - CONSOLE_AT) else
    if nat_lt at LIVE_AT then HeapWord (at - HEAP_AT) else
    if nat_lt at ENTRIES then LiveWord (at - LIVE_AT) else
    if nat_lt at SPARE_AT then Header at else Spare (at - SPARE_AT)

-- the cell at an address; a word of the device that is none counts as a header word there
unfoldable pub cell_of : ℕ → Cell
cell_of at =
    if nat_lt at SPARE_HEADER_AT then Header at else
    if nat_lt at QUEUES_AT then SpareHeader (at - SPARE_HEADER_AT) else
    if nat_lt at SEMAPHORES_AT then queue_cell ((at - QUEUES_AT) / QUEUE_STRIDE) ((at - QUEUES_AT) % QUEUE_STRIDE) else
    if nat_lt at ROWS_AT then SemaphoreWord ((at - SEMAPHORES_AT) / SEMAPHORE_STRIDE) ((at - SEMAPHORES_AT) % SEMAPHORE_STRIDE) else
    if nat_lt at CONSOLE_AT then row_cell ((at - ROWS_AT) / ROW_STRIDE) ((at - ROWS_AT) % ROW_STRIDE) else
    cell_behind_rows at

-- words by their address, as words by their cell; what is no cell is 0
unfoldable pub cells : (ℕ → ℕ) → Cell → ℕ
cells words c = if is_cell c then words (address c) else 0

-- words by their cell, with one of them changed
unfoldable pub with_cell : (Cell → ℕ) → Cell → ℕ → Cell → ℕ
with_cell values c value other = if cell_eq other c then value else values other

-- words by their cell, without those that pass a test
unfoldable pub blanked : (Cell → Bool) → (Cell → ℕ) → Cell → ℕ
blanked touched values c = if touched c then 0 else values c

-- the words as they are, and as they are with the journal undone
abbrev pub present : List ℕ → Cell → ℕ
present words = cells (outside words)

abbrev pub saved : List ℕ → Cell → ℕ
saved words = cells (durable words)

-- the writes that are left fell by at least n; mains stay mains
abbrev pub FellAtLeast : ℕ → Option ℕ → Option ℕ → Type 0
FellAtLeast n None None = Unit {0}
FellAtLeast n (Some old) (Some new) = new + n ≤ old
FellAtLeast n None (Some new) = ⊥
FellAtLeast n (Some old) None = ⊥

-- the live bits of a cell, if it has some, are of places of the heap
abbrev pub has_live_place : Cell → Bool
has_live_place (Header at) = true
has_live_place (SpareHeader i) = true
has_live_place (QueueWord queue word) = true
has_live_place (QueueItem queue slot) = true
has_live_place (QueueSpare queue i) = true
has_live_place (SemaphoreWord semaphore word) = true
has_live_place (RowWord thread word) = true
has_live_place (StartValue thread value) = true
has_live_place (RecordWord thread word) = true
has_live_place (ConsoleWord word) = true
has_live_place (HeapWord place) = true
has_live_place (LiveWord word) = nat_lt word LIVE_WORDS
has_live_place (Spare i) = true
