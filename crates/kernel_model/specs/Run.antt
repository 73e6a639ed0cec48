-- The uncut run: the kernel at the start, and after each event.
use Rattle.std.specs.Prelude.{ℕ, ◌+◌, ◌-◌, ◌==◌, nat_lt, not, ◌&&◌, Bool, if◌then◌else◌, List, [], ◌++◌, length, map, fold, take, replicate, Option, Some, None}
use Rattle.std.specs.List.{list_any, enumerate_from, range_with_len}
use Rattle.kernel_model.specs.declared.event.Event.{Event}
use Rattle.kernel_model.specs.declared.event.Event.TheVariants.{Step, Tick, Input}
use Rattle.kernel_model.specs.Kernel.{Activity, Thread, Row, State, thread_of, changed, behind, is_ready}
use Rattle.kernel_model.specs.Kernel.Activity.{Ready, Delayed, Waiting}
use Rattle.kernel_model.specs.Kernel.Row.{Free}
use Rattle.kernel_model.specs.Order.{live_threads, chosen}
use Rattle.thread_tree.specs.Numbers.{template_number}
use Rattle.kernel_model.specs.Serve.{settle, settled, finish, timed_out}
use Rattle.kernel_model.specs.Serve.Fate.{Stops}
use Rattle.kernel_model.specs.Calls.{birth_row, input}
use Rattle.kernel_model.specs.Act.{effect_of, need}
use Rattle.kernel_model.specs.Objects.{static_objects}
use Rattle.thread_tree.specs.Program.{Program, Start}
use Rattle.thread_tree.specs.Ahead.{Ahead, ahead}
use Rattle.thread_tree.specs.Ahead.Arrival.{AtAction, Finished, Watchdog}
use Rattle.thread_tree.specs.declared.limits.TheConstants.{ROWS, RECORD_WORDS}
use Rattle.kernel_model.specs.declared.codes.TheConstants.{ORDINARY_END, TOO_MANY_MOVES, NO_RECORD_ROOM}

-- how many rows a kernel has
abbrev pub row_count : ℕ
row_count = ROWS

-- the most words of a thread's records
abbrev pub record_room : ℕ
record_room = RECORD_WORDS

-- the codes of an end: the ordinary one, too many moves, and no room for the record
abbrev pub ordinary_end : ℕ
ordinary_end = ORDINARY_END

abbrev pub watchdog : ℕ
watchdog = TOO_MANY_MOVES

abbrev pub no_record_room : ℕ
no_record_room = NO_RECORD_ROOM

-- a thread that ran ahead
abbrev pub arrived : Ahead → Thread → Thread
arrived a thread = record thread { local = a.local; age = thread.age + a.moves }

-- the kernel where a thread performs its action, if its records have room
abbrev pub performed : Program → State → ℕ → Ahead → Thread → State
performed p K t a thread = elim a.arrival [
  | Finished ↦ settle p t (Stops ordinary_end) K
  | Watchdog ↦ settle p t (Stops watchdog) K
  | AtAction statement ↦
      if nat_lt record_room (thread.debt + need p t a.local.top.locals statement)
      then settle p t (Stops no_record_room) K
      else settled p t (effect_of p K t a.local.top.locals statement)
]

-- the kernel after a thread's step: it runs ahead, and performs its action
abbrev pub step_of : Program → State → ℕ → Thread → State
step_of p K t thread =
    let a = ahead p thread.local in performed p (changed K t (arrived a)) t a thread

-- the kernel after a step of the chosen thread; where there is none nothing changes
abbrev pub step : Program → State → State
step p K = elim (chosen K) [
  | None ↦ K
  | Some t ↦ elim (thread_of K t) [ None ↦ K | Some thread ↦ step_of p K t thread ]
]

-- the results with which a tick ends what a thread does, if it does
abbrev pub woken_by : Program → ℕ → Activity → Option (List ℕ)
woken_by p tick Ready = None
woken_by p tick (Delayed wake) = if wake == tick then Some [] else None
woken_by p tick (Waiting wait) = if wait.until == tick then Some (timed_out p wait.what wait.target) else None

-- the kernel where a thread is awake if the tick count has reached its tick
abbrev pub woken : Program → State → ℕ → State
woken p K t = elim (thread_of K t) [
  | None ↦ K
  | Some thread ↦ elim (woken_by p K.ticks thread.activity) [ None ↦ K | Some results ↦ finish p K t results ]
]

-- the kernel where all threads are awake whose tick it is, in order of number
unfoldable pub all_woken : Program → State → State
all_woken p K = fold (woken p) K (range_with_len 0 row_count)

-- whether a thread is ready and has this priority
abbrev pub is_ready_at : ℕ → Thread → Bool
is_ready_at priority thread = is_ready thread && thread.priority == priority

-- whether another ready thread has the priority of this one
abbrev pub has_equals : State → ℕ → Thread → Bool
has_equals K t thread =
    list_any (λ a. not (a.0 == t) && is_ready_at thread.priority a.1) (live_threads K.rows)

-- the kernel where a thread goes behind its ready equals, if it has some
abbrev pub rotated : State → Option ℕ → State
rotated K None = K
rotated K (Some t) = elim (thread_of K t) [
  | None ↦ K
  | Some thread ↦ if has_equals K t thread then behind K t (λ same. same) else K
]

-- the kernel after a tick: the tick count rises, threads wake, and who was chosen before goes behind its equals
abbrev pub tick : Program → State → State
tick p K = rotated (all_woken p (record K { ticks = K.ticks + 1 })) (chosen K)

-- the kernel with one event more counted
abbrev pub counted : State → State
counted K = record K { events = K.events + 1 }

-- one event
abbrev pub one : Program → State → Event → State
one p K Step = step p (counted K)
one p K Tick = tick p (counted K)
one p K (Input channel value) = input p (counted K) channel value

-- the row of a thread that runs from the start, with its stamp
abbrev pub start_row : Program → ℕ × Start → Row
start_row p start = birth_row p (template_number p start.1.template) start.1.arguments start.0

-- the rows at the start
abbrev pub start_rows : Program → List Row
start_rows p = map (start_row p) (enumerate_from 0 p.starts)

-- the kernel of a program at the start
unfoldable pub initial : Program → State
initial p = record {
  events = 0;
  ticks = 0;
  stamp = length p.starts;
  rows = start_rows p ++ replicate (row_count - length p.starts) Free;
  queues = map (λ queue. []) p.queues;
  counts = map (λ semaphore. semaphore.count) p.semaphores;
  console = [];
  objects = static_objects p;
}

-- the kernel after these events
unfoldable pub on : Program → State → List Event → State
on p K events = fold (one p) K events

-- the kernel of the uncut run after so many events
abbrev pub after : Program → List Event → ℕ → State
after p events n = on p (initial p) (take n events)
