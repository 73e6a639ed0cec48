-- When the image stands for a state of the kernel, and the contexts beside it.
use Rattle.std.specs.Prelude.{◌≡◌, ℕ, ◌+◌, ◌*◌, ◌≤◌, ⊤, List, map, Option, Some, None}
use Rattle.std.specs.List.{enumerate_from}
use Rattle.thread_tree.specs.Program.{Program}
use Rattle.thread_tree.specs.Relive.{Record}
use Rattle.thread_machine.specs.declared.context.Ctx.{Ctx}
use Rattle.thread_machine.specs.Context.{local_of}
use Rattle.thread_machine.specs.Reached.{IsContext}
use Rattle.kernel_model.specs.Kernel as kernel
use Rattle.kernel_model.specs.Kernel.{Thread, State}
use Rattle.kernel_model.specs.Kernel.Row.{Free, Ended, Live}
use Rattle.kernel_model.specs.Objects.{first_place}
use Rattle.kernel_model.specs.Relived.{IsRelived}
use Rattle.kernel_model.specs.Sound.{IsSound}
use Rattle.kernel_model.specs.Show.{visible}
use Rattle.kernel_image.specs.Agree.{Agrees, Both}
use Rattle.kernel_image.specs.Decoded.{Decoded, RowWords, queue_at, semaphore_at}
use Rattle.kernel_image.specs.Shown.{items_of, byte_of, objects_in, shown}
use Rattle.kernel_image.specs.Decoded.{listed}
use Rattle.kernel_image.specs.Unread.{IsUnread}
use Rattle.persistent_objects.specs.Layout.{IsLaidOut}
use Rattle.replay_list.specs.Records.{encoded, recorded, start_in}
use Rattle.thread_tree.specs.declared.limits.TheConstants.{START_VALUES, ROWS}

-- the start and the records in a row give its thread back, the words of the records are what it owes, and the values of
-- the start are among the sixteen
pub record IsLife (p : Program) (row : RowWords) (thread : Thread) : Type 0 where
  pub records : List Record
  pub words : recorded row ≡ encoded records
  pub relived : IsRelived p (start_in row) records thread
  pub used : row.used ≡ thread.debt
  pub few : row.start_count ≤ START_VALUES

-- a live thread's row has its life
abbrev pub HasLife : Program → RowWords → kernel.Row → Type 0
HasLife p row Free = ⊤
HasLife p row (Ended template priority code) = ⊤
HasLife p row (Live thread) = IsLife p row thread

-- a row stands for a row of the kernel
abbrev pub IsRow : Program → RowWords → kernel.Row → Type 0
IsRow p row r = Agrees row r × HasLife p row r

-- the items of the queues that a program declares, and the counts of its semaphores
abbrev pub items_in : Program → Decoded → List (List ℕ)
items_in p d = map (λ queue. items_of queue.1.capacity (queue_at d queue.0)) (enumerate_from 0 p.queues)

abbrev pub counts_in : Program → Decoded → List ℕ
counts_in p d = map (λ semaphore. (semaphore_at d semaphore.0).count) (enumerate_from 0 p.semaphores)

-- the bytes of the console
abbrev pub console_in : Decoded → List ℕ
console_in d = listed d.console_length (byte_of d.console)

-- the image stands for a kernel of the uncut run: it shows what can be seen of it, and has the lives of its threads, the
-- heap is laid out in its objects and the holes between them, and what nothing reads is as formatting gave it
pub record Stands (p : Program) (d : Decoded) (K : State) : Type 0 where
  pub sound : IsSound p K
  pub shows : shown p d ≡ visible p K
  pub events : d.events ≡ K.events
  pub ticks : d.ticks ≡ K.ticks
  pub rows : Both (IsRow p) d.rows K.rows
  pub queues : items_in p d ≡ K.queues
  pub counts : counts_in p d ≡ K.counts
  pub console : console_in d ≡ K.console
  pub objects : objects_in p d.heap d.live ≡ K.objects
  pub layout : IsLaidOut d.heap d.first_hole first_place K.objects
  pub unread : IsUnread p d
  pub stamp : d.stamp ≡ K.stamp
  pub few_stamps : K.stamp ≤ ROWS + 17 * K.events

-- a context stands for the local state of a live thread
pub record IsContextOf (p : Program) (ctx : Ctx) (thread : Thread) : Type 0 where
  pub local : local_of p ctx ≡ thread.local
  pub context : IsContext p ctx

-- each live thread has its context, and there is none for the other rows
abbrev pub HasContext : Program → Option Ctx → kernel.Row → Type 0
HasContext p None Free = ⊤
HasContext p None (Ended template priority code) = ⊤
HasContext p None (Live thread) = ⊥
HasContext p (Some ctx) Free = ⊥
HasContext p (Some ctx) (Ended template priority code) = ⊥
HasContext p (Some ctx) (Live thread) = IsContextOf p ctx thread

-- the image and the contexts stand for a kernel
pub record KernelStands (p : Program) (d : Decoded) (contexts : List (Option Ctx)) (K : State) : Type 0 where
  pub image : Stands p d K
  pub restored : Both (HasContext p) contexts K.rows
