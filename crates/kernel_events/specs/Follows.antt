-- An event on the image: what stands before a thread's action, and what is left behind it.
use Rattle.std.specs.Prelude.{◌≡◌, ℕ, ◌+◌, ◌*◌, ◌<◌, ◌≤◌, List, Option, Some, None, slice_set}
use Rattle.thread_tree.specs.Ahead.{ahead}
use Rattle.thread_tree.specs.Program.{Program}
use Rattle.thread_machine.specs.declared.context.Ctx.{Ctx}
use Rattle.thread_machine.specs.declared.next.Next.{Next}
use Rattle.thread_machine.specs.Context.{local_of}
use Rattle.thread_machine.specs.Next.{IsNext}
use Rattle.thread_machine.specs.Reached.{IsContext}
use Rattle.kernel_model.specs.Kernel.{Thread, State, thread_of}
use Rattle.kernel_model.specs.Kernel.Activity.{Ready}
use Rattle.kernel_model.specs.Objects.{first_place}
use Rattle.kernel_model.specs.Order.{chosen}
use Rattle.kernel_image.specs.Agree.{Both}
use Rattle.kernel_image.specs.Decoded.{Decoded}
use Rattle.kernel_image.specs.Shown.{objects_in}
use Rattle.kernel_image.specs.Unread.{IsUnread}
use Rattle.persistent_objects.specs.Layout.{IsLaidOut}
use Rattle.replay_list.specs.Stands.{IsRow, HasContext, KernelStands, items_in, counts_in, console_in}
use Rattle.thread_tree.specs.declared.limits.TheConstants.{ROWS}

-- the image and the contexts have all that stands for a kernel, but for what soundness gives
pub record Follows (p : Program) (d : Decoded) (contexts : List (Option Ctx)) (K : State) : Type 0 where
  pub events : d.events ≡ K.events
  pub ticks : d.ticks ≡ K.ticks
  pub rows : Both (IsRow p) d.rows K.rows
  pub queues : items_in p d ≡ K.queues
  pub counts : counts_in p d ≡ K.counts
  pub console : console_in d ≡ K.console
  pub objects : objects_in p d.heap d.live ≡ K.objects
  pub layout : IsLaidOut d.heap d.first_hole first_place K.objects
  pub unread : IsUnread p d
  pub stamp : d.stamp ≡ K.stamp
  pub few_stamps : K.stamp ≤ ROWS + 17 * K.events
  pub restored : Both (HasContext p) contexts K.rows

-- the image stands for a kernel whose chosen thread runs ahead: its context was taken from beside the others, stands for
-- the state in which the thread arrives, and says where that is
pub record Arrives (p : Program) (d : Decoded) (contexts : List (Option Ctx)) (K : State) (t : ℕ) (thread : Thread) (ctx : Ctx) (next : Next) : Type 0 where
  pub before : List (Option Ctx)
  pub stands : KernelStands p d before K
  pub taken : contexts ≡ slice_set before t None
  pub early : K.events < 1000000
  pub chosen : chosen K ≡ Some t
  pub lives : thread_of K t ≡ Some thread
  pub ready : thread.activity ≡ Ready
  pub arrived : local_of p ctx ≡ (ahead p thread.local).local
  pub arrival : IsNext p (ahead p thread.local).arrival next
  pub context : IsContext p ctx
