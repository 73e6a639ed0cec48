-- The text of a dump: the lines that show a kernel, and the bytes of these lines.
use Rattle.std.specs.Prelude.{ℕ, ◌≢◌, ◌==◌, Bool, true, false, if◌then◌else◌, List, [], ◌∷◌, ◌++◌, length, drop, map, flat_map, zip, slice_index_or, All, codes}
use Rattle.std.specs.List.{enumerate_from}
use Rattle.std.specs.Fmt.{decimal}
use Rattle.kernel_model.specs.declared.row_state.RowState.{RowState}
use Rattle.kernel_model.specs.declared.row_state.RowState.TheVariants.{Free, Ready, Delayed, Waiting, Ended}
use Rattle.kernel_model.specs.declared.what.What.{What}
use Rattle.kernel_model.specs.declared.what.What.TheVariants.{Send, Receive, Take}
use Rattle.kernel_model.specs.declared.wait.TheConstants.{NEVER}
use Rattle.kernel_model.specs.Names.{Names, name_of, kind_of}
use Rattle.kernel_model.specs.Visible.{Row, Queue, Semaphore, Object, Visible}

-- ` N` for each number
abbrev pub spaced : List ℕ → List ℕ
spaced numbers = flat_map (λ number. codes " " ++ decimal number) numbers

-- `events N`
unfoldable pub events_line : ℕ → List ℕ
events_line events = codes "events " ++ decimal events

-- `ticks T`
unfoldable pub ticks_line : ℕ → List ℕ
ticks_line ticks = codes "ticks " ++ decimal ticks

-- how long a thread waits
abbrev pub until_text : ℕ → List ℕ
until_text until = if until == NEVER then codes " for ever" else codes " until " ++ decimal until

-- what a thread waits for
abbrev pub target_text : Names → What → ℕ → List ℕ
target_text names Send target = codes "send " ++ name_of names.queues target
target_text names Receive target = codes "receive " ++ name_of names.queues target
target_text names Take target = codes "take " ++ name_of names.semaphores target

-- the state of a thread; a free row has none
abbrev pub state_text : Names → RowState → List ℕ
state_text names Free = []
state_text names Ready = codes "ready"
state_text names (Delayed wake) = codes "delayed until " ++ decimal wake
state_text names (Waiting wait) =
    codes "waiting to " ++ target_text names wait.what wait.target ++ until_text wait.until
state_text names (Ended code) = codes "ended " ++ decimal code

-- `thread T NAME priority P STATE`
unfoldable pub row_line : Names → ℕ → Row → List ℕ
row_line names thread row =
    codes "thread " ++ decimal thread ++ codes " " ++ name_of names.templates row.template
    ++ codes " priority " ++ decimal row.priority ++ codes " " ++ state_text names row.state

-- `list ready P:` and the threads
unfoldable pub ready_line : ℕ → List ℕ → List ℕ
ready_line priority threads = codes "list ready " ++ decimal priority ++ codes ":" ++ spaced threads

-- `list timed:` and each thread with its tick
unfoldable pub timed_line : List (ℕ × ℕ) → List ℕ
timed_line timed =
    codes "list timed:" ++ flat_map (λ (thread, wake). codes " " ++ decimal thread ++ codes "@" ++ decimal wake) timed

-- `queue Q:` and the items
unfoldable pub queue_line : List ℕ → List ℕ → List ℕ
queue_line name items = codes "queue " ++ name ++ codes ":" ++ spaced items

-- `queue Q senders:` and the threads
unfoldable pub senders_line : List ℕ → List ℕ → List ℕ
senders_line name threads = codes "queue " ++ name ++ codes " senders:" ++ spaced threads

-- `queue Q receivers:` and the threads
unfoldable pub receivers_line : List ℕ → List ℕ → List ℕ
receivers_line name threads = codes "queue " ++ name ++ codes " receivers:" ++ spaced threads

-- `semaphore S: COUNT`
unfoldable pub semaphore_line : List ℕ → ℕ → List ℕ
semaphore_line name count = codes "semaphore " ++ name ++ codes ": " ++ decimal count

-- `semaphore S takers:` and the threads
unfoldable pub takers_line : List ℕ → List ℕ → List ℕ
takers_line name threads = codes "semaphore " ++ name ++ codes " takers:" ++ spaced threads

-- `object PLACE TYPE static` or `object PLACE TYPE made`, and each field with its value
unfoldable pub object_line : Names → Object → List ℕ
object_line names object =
    codes "object " ++ decimal object.place ++ codes " " ++ (kind_of names object.kind).name
    ++ (if object.is_static then codes " static" else codes " made")
    ++ flat_map (λ (field, value). codes " " ++ field ++ codes "=" ++ decimal value)
    (zip (kind_of names object.kind).fields object.values)

-- `console BYTES`
unfoldable pub console_size_line : ℕ → List ℕ
console_size_line bytes = codes "console " ++ decimal bytes

-- a line of the console
unfoldable pub console_line : List ℕ → List ℕ
console_line line = codes "| " ++ line

-- whether no thread is in a row
abbrev pub is_free : RowState → Bool
is_free Free = true
is_free Ready = false
is_free (Delayed wake) = false
is_free (Waiting wait) = false
is_free (Ended code) = false

-- a line, unless what it lists is empty
abbrev pub unless_empty : {X : Type 0} → List X → List ℕ → List (List ℕ)
unless_empty [] line = []
unless_empty (x ∷ xs) line = line ∷ []

-- the line of a thread; a free row has none
abbrev pub lines_of_row : Names → ℕ → Row → List (List ℕ)
lines_of_row names thread row = if is_free row.state then [] else row_line names thread row ∷ []

-- the line of a priority's ready threads, where there are some
abbrev pub lines_of_ready : ℕ → List ℕ → List (List ℕ)
lines_of_ready priority threads = unless_empty threads (ready_line priority threads)

-- the lines of a queue
abbrev pub lines_of_queue : List ℕ → Queue → List (List ℕ)
lines_of_queue name queue =
    queue_line name queue.items ∷ []
    ++ unless_empty queue.senders (senders_line name queue.senders)
    ++ unless_empty queue.receivers (receivers_line name queue.receivers)

-- the lines of a semaphore
abbrev pub lines_of_semaphore : List ℕ → Semaphore → List (List ℕ)
lines_of_semaphore name semaphore =
    semaphore_line name semaphore.count ∷ [] ++ unless_empty semaphore.takers (takers_line name semaphore.takers)

-- the lines of all threads
abbrev pub row_lines : Names → List Row → List (List ℕ)
row_lines names rows = flat_map (λ (thread, row). lines_of_row names thread row) (enumerate_from 0 rows)

-- the lines of all ready threads, the greatest priority first
abbrev pub ready_lines : List (List ℕ) → List (List ℕ)
ready_lines ready =
    flat_map (λ priority. lines_of_ready priority (slice_index_or ready priority []))
    (7 ∷ 6 ∷ 5 ∷ 4 ∷ 3 ∷ 2 ∷ 1 ∷ 0 ∷ [])

-- the line of the timed threads, where there are some
abbrev pub timed_lines : List (ℕ × ℕ) → List (List ℕ)
timed_lines timed = unless_empty timed (timed_line timed)

-- the lines of all queues
abbrev pub queue_lines : Names → List Queue → List (List ℕ)
queue_lines names queues =
    flat_map (λ (number, queue). lines_of_queue (name_of names.queues number) queue) (enumerate_from 0 queues)

-- the lines of all semaphores
abbrev pub semaphore_lines : Names → List Semaphore → List (List ℕ)
semaphore_lines names semaphores =
    flat_map (λ (number, semaphore). lines_of_semaphore (name_of names.semaphores number) semaphore)
    (enumerate_from 0 semaphores)

-- the lines of all objects
abbrev pub object_lines : Names → List Object → List (List ℕ)
object_lines names objects = map (object_line names) objects

-- bytes that are one line, without its end
abbrev pub IsOneLine : List ℕ → Type 0
IsOneLine line = All (λ byte. byte ≢ 10) line

-- the lines where a byte more stands in front: a newline is an empty line, and another byte begins the first line
abbrev pub lines_with : ℕ → List (List ℕ) → List (List ℕ)
lines_with byte lines = if byte == 10 then [] ∷ lines else (byte ∷ slice_index_or lines 0 []) ∷ drop 1 lines

-- the lines of the console: each newline ends one, and what follows the last one is a line where it has bytes
abbrev pub console_lines : List ℕ → List (List ℕ)
console_lines [] = []
console_lines (byte ∷ console) = lines_with byte (console_lines console)

-- the lines of a dump but for those of the console itself
abbrev pub summary_lines : Names → Visible → List (List ℕ)
summary_lines names visible =
    events_line visible.events ∷ ticks_line visible.ticks ∷ []
    ++ row_lines names visible.rows
    ++ ready_lines visible.ready
    ++ timed_lines visible.timed
    ++ queue_lines names visible.queues
    ++ semaphore_lines names visible.semaphores
    ++ object_lines names visible.objects
    ++ console_size_line (length visible.console) ∷ []

-- the lines of a dump
abbrev pub dump_lines : Names → Visible → List (List ℕ)
dump_lines names visible = summary_lines names visible ++ map console_line (console_lines visible.console)

-- the bytes of lines, each ended by a newline
abbrev pub text_of : List (List ℕ) → List ℕ
text_of lines = flat_map (λ line. line ++ 10 ∷ []) lines

-- the bytes of a dump
abbrev pub dump : Names → Visible → List ℕ
dump names visible = text_of (dump_lines names visible)
