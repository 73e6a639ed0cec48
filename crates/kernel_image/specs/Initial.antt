-- The image that formatting writes for a program.
use Rattle.std.specs.Prelude.{ℕ, zero, suc, ◌+◌, ◌-◌, ◌*◌, ◌==◌, Bool, if◌then◌else◌, List, [], ◌∷◌, length, Some, None, is_some, slice_get, slice_index}
use Rattle.undo_journal.specs.Undo.{magic}
use Rattle.kernel_model.specs.declared.wait.TheConstants.{NEVER}
use Rattle.thread_tree.specs.Numbers.{template_number}
use Rattle.kernel_model.specs.Objects.{end_of, first_place, end_place, object_at, static_objects}
use Rattle.kernel_model.specs.Visible.{Object}
use Rattle.thread_tree.specs.Program.{Program, Start}
use Rattle.kernel_image.specs.declared.cell.Cell.{Cell}
use Rattle.kernel_image.specs.declared.cell.Cell.TheVariants.{Header, SpareHeader, QueueWord, QueueItem, QueueSpare, SemaphoreWord, RowWord, StartValue, RecordWord, ConsoleWord, HeapWord, LiveWord, Spare}
use Rattle.kernel_image.specs.Cells.{cell_of}
use Rattle.kernel_image.specs.Shown.{ready, static_mark}
use Rattle.kernel_image.specs.declared.layout.TheConstants.{NEXT_STAMP, FIRST_HOLE, STATE, TEMPLATE, PRIORITY, UNTIL, STAMP, START_COUNT, PLACES}

-- the place after objects that begin at a place, one after another
abbrev pub end_after : ℕ → List Object → ℕ
end_after place [] = place
end_after place (object ∷ objects) = end_after (end_of object) objects

-- the place after the static objects, where the one hole of the heap begins
abbrev pub first_hole : Program → ℕ
first_hole p = end_after first_place (static_objects p)

-- a word of the header: the magic word, the next stamp, which is the number of started threads, and the first hole
abbrev pub initial_header : Program → ℕ → ℕ
initial_header p at =
    if at == 0 then magic else
    if at == NEXT_STAMP then length p.starts else
    if at == FIRST_HOLE then first_hole p else 0

-- the priority of the template of a number
abbrev pub priority_of : Program → ℕ → ℕ
priority_of p number = elim (slice_get p.templates number) [ None ↦ 0 | Some template ↦ template.priority ]

-- a word of the row of a started thread: it is ready, and its stamp is its number
abbrev pub started_word : Program → ℕ → ℕ → Start → ℕ
started_word p thread word start =
    if word == STATE then ready else
    if word == TEMPLATE then template_number p start.template else
    if word == PRIORITY then priority_of p (template_number p start.template) else
    if word == UNTIL then NEVER else
    if word == STAMP then thread else
    if word == START_COUNT then length start.arguments else 0

-- how many arguments a started thread has
abbrev pub argument_count : Program → ℕ → ℕ
argument_count p thread = elim (slice_get p.starts thread) [ None ↦ 0 | Some start ↦ length start.arguments ]

-- a word of a row, and a start value; 0 where no thread is started
abbrev pub initial_row_word : Program → ℕ → ℕ → ℕ
initial_row_word p thread word =
    elim (slice_get p.starts thread) [ None ↦ 0 | Some start ↦ started_word p thread word start ]

abbrev pub initial_start_value : Program → ℕ → ℕ → ℕ
initial_start_value p thread i =
    elim (slice_get p.starts thread) [ None ↦ 0 | Some start ↦ slice_index start.arguments i ]

-- the count of a semaphore at the start
abbrev pub initial_count : Program → ℕ → ℕ
initial_count p number = elim (slice_get p.semaphores number) [ None ↦ 0 | Some semaphore ↦ semaphore.count ]

-- a word of a semaphore
abbrev pub initial_semaphore_word : Program → ℕ → ℕ → ℕ
initial_semaphore_word p number word = if word == 0 then initial_count p number else 0

-- the size of the one hole where it begins, and 0 elsewhere
abbrev pub hole_word : Program → ℕ → ℕ
hole_word p place = if place == first_hole p then end_place - first_hole p else 0

-- a word of the heap: the header of a static object, whose fields are 0, or the size of the one hole
abbrev pub initial_heap_word : Program → ℕ → ℕ
initial_heap_word p place = elim (object_at (static_objects p) place) [
  | Some object ↦ object.kind + 1 + static_mark
  | None ↦ hole_word p place
]

-- a number whose n lowest bits are these, the lowest one first
unfoldable pub of_bits : ℕ → (ℕ → Bool) → ℕ
of_bits zero bit = 0
of_bits (suc n) bit = (if bit 0 then 1 else 0) + 2 * of_bits n (λ k. bit (k + 1))

-- a word of live bits
abbrev pub initial_live_word : Program → ℕ → ℕ
initial_live_word p i = of_bits 32 (λ k. is_some (object_at (static_objects p) (PLACES * i + 2 * k)))

-- the word of a cell
unfoldable pub initial_cell : Program → Cell → ℕ
initial_cell p (Header at) = initial_header p at
initial_cell p (SpareHeader i) = 0
initial_cell p (QueueWord queue word) = 0
initial_cell p (QueueItem queue slot) = 0
initial_cell p (QueueSpare queue i) = 0
initial_cell p (SemaphoreWord semaphore word) = initial_semaphore_word p semaphore word
initial_cell p (RowWord thread word) = initial_row_word p thread word
initial_cell p (StartValue thread i) = initial_start_value p thread i
initial_cell p (RecordWord thread i) = 0
initial_cell p (ConsoleWord i) = 0
initial_cell p (HeapWord place) = initial_heap_word p place
initial_cell p (LiveWord i) = initial_live_word p i
initial_cell p (Spare i) = 0

-- the word at an address
abbrev pub initial_word : Program → ℕ → ℕ
initial_word p at = initial_cell p (cell_of at)
