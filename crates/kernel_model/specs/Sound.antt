-- What always holds of the kernel in the uncut run of a program.
use Rattle.std.specs.Prelude.{◌≡◌, ◌≢◌, ◌⊎◌, ℕ, ◌+◌, ◌%◌, ◌<◌, ◌≤◌, ⊤, Bool, true, false, List, [], ◌∷◌, length, map, filter, All, AllPairs, Option, Some, None, IfSome, option_map, option_and_then, slice_index_or}
use Rattle.kernel_model.specs.declared.wait.Wait.{Wait}
use Rattle.kernel_model.specs.declared.wait.TheConstants.{NEVER}
use Rattle.kernel_model.specs.declared.what.What.{What}
use Rattle.kernel_model.specs.declared.what.What.TheVariants.{Send, Receive, Take}
use Rattle.kernel_model.specs.Visible.{Object}
use Rattle.kernel_model.specs.Kernel.{Activity, Row, State, live_in}
use Rattle.kernel_model.specs.Kernel.Activity.{Ready, Delayed, Waiting}
use Rattle.kernel_model.specs.Kernel.Row.{Free, Ended, Live}
use Rattle.thread_tree.specs.Numbers.{queue_number, semaphore_number, fields_of}
use Rattle.kernel_model.specs.Objects.{end_of, first_place, end_place, static_objects}
use Rattle.kernel_model.specs.Serve.{next_words}
use Rattle.kernel_model.specs.Calls.{capacity_of, maximum_of, console_room}
use Rattle.kernel_model.specs.Act.{call_of}
use Rattle.kernel_model.specs.Run.{row_count, record_room}
use Rattle.thread_tree.specs.declared.action.Call.{Call}
use Rattle.thread_tree.specs.declared.action.Call.TheVariants as call
use Rattle.thread_tree.specs.declared.block.Stmt.{out-Stmt}
use Rattle.thread_tree.specs.Program.{Program}
use Rattle.thread_tree.specs.LocalState.{LocalState, next_statement}

-- the template is one of the program, and the priority is one
pub record IsKnown (p : Program) (template priority : ℕ) : Type 0 where
  pub of_program : template < length p.templates
  pub in_range : priority ≤ 7

-- the call that comes next
abbrev pub next_call : LocalState → Option Call
next_call local = option_and_then (λ s. call_of (out-Stmt s)) (next_statement local.top.todo)

-- whether a call is a delay
abbrev pub is_delay : Call → Bool
is_delay (call.Delay ticks) = true
is_delay _ = false

-- what a call can wait for, and on which queue or semaphore
abbrev pub awaited_by : Program → Call → Option (What × ℕ)
awaited_by p (call.Send queue value limit) = Some (Send, queue_number p queue.name)
awaited_by p (call.Receive queue limit) = Some (Receive, queue_number p queue.name)
awaited_by p (call.Take semaphore limit) = Some (Take, semaphore_number p semaphore.name)
awaited_by p _ = None

-- a delay is the call that comes next, its tick is to come, and the records have room for it
pub record IsDelayed (p : Program) (ticks wake : ℕ) (local : LocalState) (debt : ℕ) : Type 0 where
  pub call : option_map is_delay (next_call local) ≡ Some true
  pub later : ticks < wake
  pub comes : wake < NEVER
  pub room : debt + next_words p local ≤ record_room

-- a wait lasts: the queue is full for a sender and empty for a receiver, and the count is 0 for a taker
abbrev pub IsHeld : Program → List (List ℕ) → List ℕ → What → ℕ → Type 0
IsHeld p queues counts Send queue = length (slice_index_or queues queue []) ≡ capacity_of p queue
IsHeld p queues counts Receive queue = slice_index_or queues queue [] ≡ []
IsHeld p queues counts Take semaphore = slice_index_or counts semaphore 0 ≡ 0

-- a tick that never comes, or that is to come
abbrev pub IsToCome : ℕ → ℕ → Type 0
IsToCome ticks until = (until ≡ NEVER) ⊎ ((ticks < until) × (until < NEVER))

-- the call that comes next is the one that waits, its end is to come, the wait lasts, and the records have room
pub record IsWaiting (p : Program) (ticks : ℕ) (queues : List (List ℕ)) (counts : List ℕ) (wait : Wait) (local : LocalState) (debt : ℕ) : Type 0 where
  pub call : option_and_then (awaited_by p) (next_call local) ≡ Some (wait.what, wait.target)
  pub later : IsToCome ticks wait.until
  pub held : IsHeld p queues counts wait.what wait.target
  pub room : debt + next_words p local ≤ record_room

-- what a thread does fits the kernel
abbrev pub IsDoing : Program → ℕ → List (List ℕ) → List ℕ → LocalState → ℕ → Activity → Type 0
IsDoing p ticks queues counts local debt Ready = ⊤
IsDoing p ticks queues counts local debt (Delayed wake) = IsDelayed p ticks wake local debt
IsDoing p ticks queues counts local debt (Waiting wait) = IsWaiting p ticks queues counts wait local debt

-- a live thread, by the parts that this depends on
pub record IsSoundThread (p : Program) (ticks : ℕ) (queues : List (List ℕ)) (counts : List ℕ) (template priority : ℕ) (local : LocalState) (debt : ℕ) (activity : Activity) : Type 0 where
  pub known : IsKnown p template priority
  pub paid : debt ≤ record_room
  pub doing : IsDoing p ticks queues counts local debt activity

-- a row
abbrev pub IsSoundRow : Program → ℕ → List (List ℕ) → List ℕ → Row → Type 0
IsSoundRow p ticks queues counts Free = ⊤
IsSoundRow p ticks queues counts (Ended template priority code) = IsKnown p template priority
IsSoundRow p ticks queues counts (Live thread) =
    IsSoundThread p ticks queues counts thread.template thread.priority thread.local thread.debt thread.activity

-- the stamp of a thread that stands in a list by its stamp: one that is ready or waits
abbrev pub listed : ℕ → Activity → Option ℕ
listed stamp Ready = Some stamp
listed stamp (Delayed wake) = None
listed stamp (Waiting wait) = Some stamp

-- the stamp by which the thread of a row stands in a list
abbrev pub stamp_in : Row → Option ℕ
stamp_in Free = None
stamp_in (Ended template priority code) = None
stamp_in (Live thread) = listed thread.stamp thread.activity

-- the stamp of a live thread, whatever it does, is below the next one
abbrev pub IsPast : ℕ → Row → Type 0
IsPast stamp row = IfSome (live_in row) (λ thread. thread.stamp < stamp)

-- the stamps of two rows differ
abbrev pub IsApart : Row → Row → Type 0
IsApart a b = IfSome (stamp_in a) (λ s. IfSome (stamp_in b) (λ t. s ≢ t))

-- sixteen rows, each sound, with stamps below the next one, that differ in each list
pub record AreSoundRows (p : Program) (ticks : ℕ) (queues : List (List ℕ)) (counts : List ℕ) (stamp : ℕ) (rows : List Row) : Type 0 where
  pub sixteen : length rows ≡ row_count
  pub each : All (IsSoundRow p ticks queues counts) rows
  pub past : All (IsPast stamp) rows
  pub apart : AllPairs IsApart rows

-- objects that lie apart in order of place, from this place on up to the last one of the heap
abbrev pub IsLaid : ℕ → List Object → Type 0
IsLaid from [] = from ≤ end_place
IsLaid from (object ∷ objects) = (from ≤ object.place) × IsLaid (end_of object) objects

-- objects right behind each other, between two places
abbrev pub IsPacked : ℕ → List Object → ℕ → Type 0
IsPacked from [] to = from ≡ to
IsPacked from (object ∷ objects) to = (object.place ≡ from) × IsPacked (end_of object) objects to

-- a block of so many places from this one on lies in the heap and outside of all objects
pub record IsFree (objects : List Object) (place size : ℕ) : Type 0 where
  pub from_first : first_place ≤ place
  pub to_last : place + size ≤ end_place
  pub outside : All (λ o. (place + size ≤ o.place) ⊎ (end_of o ≤ place)) objects

-- the object has a type of the program, and as many fields as it
pub record HasKind (p : Program) (object : Object) : Type 0 where
  pub of_program : object.kind < length p.kinds
  pub fields : length object.values ≡ length (fields_of p object.kind)

-- the place of an object and the number of its type
abbrev pub place_and_kind : Object → ℕ × ℕ
place_and_kind object = (object.place, object.kind)

-- the places and types of the static objects
abbrev pub statics_in : List Object → List (ℕ × ℕ)
statics_in objects = map place_and_kind (filter (λ o. o.is_static) objects)

-- objects at even places, apart, with types of the program; the static ones stand where they stood at the start
pub record AreSoundObjects (p : Program) (objects : List Object) : Type 0 where
  pub laid : IsLaid first_place objects
  pub even : All (λ o. o.place % 2 ≡ 0) objects
  pub kinds : All (HasKind p) objects
  pub statics : statics_in objects ≡ statics_in (static_objects p)

-- queues and semaphores within their bounds
pub record AreSoundQueues (p : Program) (queues : List (List ℕ)) (counts : List ℕ) : Type 0 where
  pub queue_count : length queues ≡ length p.queues
  pub items : (queue : ℕ) → length (slice_index_or queues queue []) ≤ capacity_of p queue
  pub semaphore_count : length counts ≡ length p.semaphores
  pub count : (semaphore : ℕ) → slice_index_or counts semaphore 0 ≤ maximum_of p semaphore

-- a kernel of the uncut run
pub record IsSound (p : Program) (K : State) : Type 0 where
  pub rows : AreSoundRows p K.ticks K.queues K.counts K.stamp K.rows
  pub ticks : K.ticks ≤ K.events
  pub queues : AreSoundQueues p K.queues K.counts
  pub console : length K.console ≤ console_room
  pub objects : AreSoundObjects p K.objects
