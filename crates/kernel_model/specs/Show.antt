-- What can be seen of a kernel's state, and the names of a program.
use Rattle.std.specs.Prelude.{ℕ, ◌==◌, nat_lt, if◌then◌else◌, List, [], map, filter_map, Option, Some, None, option_map, slice_index_or}
use Rattle.std.specs.List.{enumerate_from, range_with_len}
use Rattle.kernel_model.specs.declared.wait.TheConstants.{NEVER}
use Rattle.kernel_model.specs.declared.what.What.TheVariants.{Send, Receive, Take}
use Rattle.kernel_model.specs.declared.row_state.RowState.{RowState}
use Rattle.kernel_model.specs.declared.row_state.RowState.TheVariants as state
use Rattle.kernel_model.specs.Kernel as kernel
use Rattle.kernel_model.specs.Kernel.{Activity, Thread, State}
use Rattle.kernel_model.specs.Kernel.Activity.{Ready, Delayed, Waiting}
use Rattle.kernel_model.specs.Names.{Names}
use Rattle.kernel_model.specs.Visible.{Row, free_row, Visible, Queue, Semaphore}
use Rattle.kernel_model.specs.Order.{in_order, live_threads, line_of, waits_for}
use Rattle.kernel_model.specs.Run.{is_ready_at}
use Rattle.thread_tree.specs.Program.{Program}

-- what can be seen of what a thread does
abbrev pub shown_activity : Activity → RowState
shown_activity Ready = state.Ready
shown_activity (Delayed wake) = state.Delayed wake
shown_activity (Waiting wait) = state.Waiting wait

-- what can be seen of a row
abbrev pub shown_row : kernel.Row → Row
shown_row kernel.Free = free_row
shown_row (kernel.Ended template priority code) =
    record { template = template; priority = priority; state = state.Ended code }
shown_row (kernel.Live thread) =
    record { template = thread.template; priority = thread.priority; state = shown_activity thread.activity }

-- the tick that wakes a thread, if there is one
abbrev pub wake_tick : Activity → Option ℕ
wake_tick Ready = None
wake_tick (Delayed wake) = Some wake
wake_tick (Waiting wait) = if wait.until == NEVER then None else Some wait.until

-- the threads that a tick wakes, in order of tick and then number
abbrev pub timed_list : State → List (ℕ × ℕ)
timed_list K = in_order (λ a b. nat_lt a.1 b.1)
    (filter_map (λ a. option_map (λ wake. (a.0, wake)) (wake_tick a.1.activity)) (live_threads K.rows))

-- the ready threads of each priority, the next one first
abbrev pub ready_lists : State → List (List ℕ)
ready_lists K = map (λ priority. line_of (is_ready_at priority) K.rows) (range_with_len 0 8)

-- what can be seen of a queue
abbrev pub shown_queue : State → ℕ × List ℕ → Queue
shown_queue K queue = record {
  items = queue.1;
  senders = line_of (waits_for Send queue.0) K.rows;
  receivers = line_of (waits_for Receive queue.0) K.rows;
}

-- what can be seen of a semaphore
abbrev pub shown_semaphore : State → ℕ × ℕ → Semaphore
shown_semaphore K semaphore = record { count = semaphore.1; takers = line_of (waits_for Take semaphore.0) K.rows }

-- what can be seen of a kernel
unfoldable pub visible : Program → State → Visible
visible p K = record {
  events = K.events;
  ticks = K.ticks;
  rows = map shown_row K.rows;
  ready = ready_lists K;
  timed = timed_list K;
  queues = map (shown_queue K) (enumerate_from 0 K.queues);
  semaphores = map (shown_semaphore K) (enumerate_from 0 K.counts);
  objects = K.objects;
  console = K.console;
}

-- the bytes of a name
abbrev pub bytes_of : Program → ℕ → List ℕ
bytes_of p name = slice_index_or p.names name []

-- the names of a program's parts
abbrev pub names_of : Program → Names
names_of p = record {
  templates = map (λ template. bytes_of p template.name) p.templates;
  queues = map (λ queue. bytes_of p queue.name) p.queues;
  semaphores = map (λ semaphore. bytes_of p semaphore.name) p.semaphores;
  types = map (λ kind. record { name = bytes_of p kind.name; fields = map (bytes_of p) kind.fields }) p.kinds;
}
