-- What each kernel call does, given its operands' values.
use Rattle.std.specs.Prelude.{ℕ, zero, suc, ◌+◌, ◌==◌, nat_lt, nat_le, ◌&&◌, Bool, false, if◌then◌else◌, List, [], ◌∷◌, ◌++◌, length, position, Option, Some, None, is_none, slice_get, slice_index_or, unwrap_or}
use Rattle.kernel_model.specs.declared.what.What.TheVariants.{Send, Receive, Take}
use Rattle.kernel_model.specs.Kernel.{Thread, Row, State, live_in, thread_of, is_live, with_row, behind, items_of, with_items, count_of, with_count}
use Rattle.kernel_model.specs.Kernel.Activity.{Ready, Delayed, Waiting}
use Rattle.kernel_model.specs.Kernel.Row.{Free, Live}
use Rattle.kernel_model.specs.Order.{first}
use Rattle.kernel_model.specs.Serve.{Effect, answers, becomes, held, finish, wake_of}
use Rattle.kernel_model.specs.Serve.Fate.{ServesBack, Sleeps, Goes}
use Rattle.thread_tree.specs.Program.{Program, Template, Queue}
use Rattle.thread_tree.specs.LocalState.{birth}
use Rattle.thread_tree.specs.declared.limits.TheConstants.{CONSOLE_BYTES}

-- the most bytes of the console
abbrev pub console_room : ℕ
console_room = CONSOLE_BYTES

-- `print`: the bytes are appended where they fit
abbrev pub print : State → List ℕ → Effect
print K bytes =
    if nat_le (length K.console + length bytes) console_room
    then answers (1 ∷ []) (record K { console = K.console ++ bytes })
    else answers (0 ∷ []) K

-- the answer in place of the number or the priority of a thread that isn't there
abbrev pub no_thread : ℕ
no_thread = 4294967295

-- a thread of a template that begins
abbrev pub born : ℕ → Template → List ℕ → ℕ → Thread
born number template arguments stamp = record {
  template = number;
  priority = template.priority;
  activity = Ready;
  stamp = stamp;
  local = birth template arguments;
  age = 0;
  passed = 0;
  debt = 0;
}

-- the row where a thread of a template begins, by the template's number
abbrev pub birth_row : Program → ℕ → List ℕ → ℕ → Row
birth_row p number arguments stamp =
    elim (slice_get p.templates number) [ None ↦ Free | Some template ↦ Live (born number template arguments stamp) ]

-- the least row where no live thread is
abbrev pub vacant : List Row → Option ℕ
vacant rows = position (λ row. is_none (live_in row)) rows

-- `spawn`: a thread begins in the least row where none lives
abbrev pub spawn : Program → State → ℕ → List ℕ → Effect
spawn p K number arguments = elim (vacant K.rows) [
  | None ↦ answers (no_thread ∷ []) K
  | Some u ↦ answers (u ∷ []) (record (with_row K u (birth_row p number arguments K.stamp)) { stamp = K.stamp + 1 })
]

-- `delete`: the row of a live thread becomes free; the caller's own has no results
abbrev pub delete : State → ℕ → ℕ → Effect
delete K t whom =
    if is_live K whom
    then (if whom == t then becomes Goes K else answers (1 ∷ []) (with_row K whom Free))
    else answers (0 ∷ []) K

-- `delay`: none is finished at once, behind the thread's equals
abbrev pub delay : State → ℕ → Effect
delay K ticks = if ticks == 0 then becomes (ServesBack []) K else becomes (Sleeps (wake_of K ticks)) K

-- a thread with another priority
abbrev pub with_priority : ℕ → Thread → Thread
with_priority priority thread = record thread { priority = priority }

-- the priority of a live thread
abbrev pub priority_of : State → ℕ → ℕ
priority_of K t = elim (thread_of K t) [ None ↦ no_thread | Some thread ↦ thread.priority ]

-- `setprio`: a live thread gets another priority, and stands behind its equals; the same one changes nothing
abbrev pub setprio : State → ℕ → ℕ → Effect
setprio K whom priority =
    if is_live K whom && nat_le priority 7
    then answers (1 ∷ []) (if priority_of K whom == priority then K else behind K whom (with_priority priority))
    else answers (0 ∷ []) K

-- `getprio`: the priority of a live thread
abbrev pub getprio : State → ℕ → Effect
getprio K whom = answers (priority_of K whom ∷ []) K

-- how many items a queue holds at most
abbrev pub capacity_of : Program → ℕ → ℕ
capacity_of p queue = (slice_index_or p.queues queue (record { name = 0; capacity = 0; channel = None })).capacity

-- the greatest count of a semaphore
abbrev pub maximum_of : Program → ℕ → ℕ
maximum_of p semaphore =
    (slice_index_or p.semaphores semaphore (record { name = 0; count = 0; maximum = 0 })).maximum

-- the kernel where a queue has one item more
abbrev pub with_item : State → ℕ → ℕ → State
with_item K queue value = with_items K queue (items_of K queue ++ value ∷ [])

-- the kernel where a value is handed to the first receiver, or put into the queue where there is space
abbrev pub delivered : Program → State → ℕ → ℕ → Option State
delivered p K queue value = elim (first K Receive queue) [
  | Some u ↦ Some (finish p K u (1 ∷ value ∷ []))
  | None ↦ if nat_lt (length (items_of K queue)) (capacity_of p queue) then Some (with_item K queue value) else None
]

-- `send`: a value that can't be delivered waits
abbrev pub send : Program → State → ℕ → ℕ → ℕ → Effect
send p K queue value limit = elim (delivered p K queue value) [
  | Some K' ↦ answers (1 ∷ []) K'
  | None ↦ held p K Send queue value limit
]

-- what a thread waits to send
abbrev pub value_sent : State → ℕ → ℕ
value_sent K t = elim (thread_of K t) [
  | None ↦ 0
  | Some thread ↦ elim thread.activity [ Ready ↦ 0 | Delayed wake ↦ 0 | Waiting wait ↦ wait.value ]
]

-- the kernel where the value of the first sender, if there is one, is put into the queue, and its call is finished
abbrev pub refilled : Program → State → ℕ → State
refilled p K queue = elim (first K Send queue) [
  | None ↦ K
  | Some u ↦ finish p (with_item K queue (value_sent K u)) u (1 ∷ [])
]

-- `receive`: the front item, whose space the first sender gets
abbrev pub receive : Program → State → ℕ → ℕ → Effect
receive p K queue limit = elim (items_of K queue) [
  | [] ↦ held p K Receive queue 0 limit
  | item ∷ items ↦ answers (1 ∷ item ∷ []) (refilled p (with_items K queue items) queue)
]

-- `take`: a count above 0 falls by one
abbrev pub take : Program → State → ℕ → ℕ → Effect
take p K semaphore limit = elim (count_of K semaphore) [
  | zero ↦ held p K Take semaphore 0 limit
  | suc count ↦ answers (1 ∷ []) (with_count K semaphore count)
]

-- `give`: the first taker is served, or else a count below the maximum rises by one
abbrev pub give : Program → State → ℕ → Effect
give p K semaphore = elim (first K Take semaphore) [
  | Some u ↦ answers (1 ∷ []) (finish p K u (1 ∷ []))
  | None ↦
      if nat_lt (count_of K semaphore) (maximum_of p semaphore)
      then answers (1 ∷ []) (with_count K semaphore (count_of K semaphore + 1))
      else answers (0 ∷ []) K
]

-- `now`: the tick count
abbrev pub now : State → Effect
now K = answers (K.ticks ∷ []) K

-- `yield`: the thread goes behind its equals
abbrev pub yield : State → Effect
yield K = becomes (ServesBack []) K

-- `waiting`: the number of items of a queue
abbrev pub items_waiting : State → ℕ → Effect
items_waiting K queue = answers (length (items_of K queue) ∷ []) K

-- whether a queue has this input channel
abbrev pub has_channel : ℕ → Queue → Bool
has_channel channel queue = elim queue.channel [ None ↦ false | Some own ↦ own == channel ]

-- an input: its value is delivered to the queue of the channel where that can be done at once, and else is lost
abbrev pub input : Program → State → ℕ → ℕ → State
input p K channel value = elim (position (has_channel channel) p.queues) [
  | None ↦ K
  | Some queue ↦ unwrap_or (delivered p K queue value) K
]
