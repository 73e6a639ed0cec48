-- When the image and the contexts have all of a kernel in the midst of an event.
use Rattle.std.specs.Prelude.{◌≡◌, ℕ, ◌==◌, ⊤, Bool, true, false, List, length, Option, Some, slice_get, option_and_then}
use Rattle.thread_tree.specs.Program.{Program}
use Rattle.thread_machine.specs.declared.context.Ctx.{Ctx}
use Rattle.kernel_model.specs.Kernel as kernel
use Rattle.kernel_model.specs.Kernel.{State, Thread, row_with, row_of}
use Rattle.kernel_model.specs.Objects.{first_place}
use Rattle.kernel_model.specs.Relived.{is_open, life_of}
use Rattle.kernel_model.specs.Run.{row_count}
use Rattle.kernel_model.specs.Serve.{asleep}
use Rattle.kernel_image.specs.Decoded.{Decoded, row_at}
use Rattle.kernel_image.specs.Shown.{objects_in}
use Rattle.kernel_image.specs.Unread.{IsUnread}
use Rattle.persistent_objects.specs.Layout.{IsLaidOut}
use Rattle.ready_delay_lists.specs.Lists.{AreListed}
use Rattle.replay_list.specs.Stands.{IsContextOf, HasLife, HasContext, items_in, counts_in, console_in}
use Rattle.thread_tree.specs.declared.limits.TheConstants.{ROWS}

-- the number of a caller that is nobody
abbrev pub nobody : ℕ
nobody = ROWS

-- the row of the caller as its life is read: as if the thread were delayed, so that it stands at its call, which is open
abbrev pub seen_row : Bool → kernel.Row → kernel.Row
seen_row true row = row_with (asleep 0) row
seen_row false row = row

-- the context in the place of a thread
abbrev pub context_at : List (Option Ctx) → ℕ → Option Ctx
context_at contexts u = option_and_then (λ found. found) (slice_get contexts u)

-- where the context of a thread is held, it is that of the row
abbrev pub HoldsContext : Program → Bool → Option Ctx → kernel.Row → Type 0
HoldsContext p true found row = HasContext p found row
HoldsContext p false found row = ⊤

-- the contexts of all threads are held
abbrev pub everybody : ℕ → Bool
everybody u = true

-- the image and the contexts have all of a kernel in the midst of an event of this caller: its lists, the life of each
-- thread, the contexts of those whose contexts are held, and every other part. Left out are how many events there
-- were, and what always holds of the kernel
pub record Matches (p : Program) (caller : ℕ) (whose : ℕ → Bool) (d : Decoded) (contexts : List (Option Ctx)) (K : State) : Type 0 where
  pub sixteen : length K.rows ≡ row_count
  pub places : length contexts ≡ row_count
  pub listed : AreListed d K
  pub lives : (u : ℕ) → HasLife p (row_at d u) (seen_row (u == caller) (row_of K u))
  pub restored : (u : ℕ) → HoldsContext p (whose u) (context_at contexts u) (row_of K u)
  pub ticks : d.ticks ≡ K.ticks
  pub queues : items_in p d ≡ K.queues
  pub counts : counts_in p d ≡ K.counts
  pub console : console_in d ≡ K.console
  pub objects : objects_in p d.heap d.live ≡ K.objects
  pub layout : IsLaidOut d.heap d.first_hole first_place K.objects
  pub unread : IsUnread p d

-- a thread has the life of another one: it stands in a call that is open where the other does, and its local state, its
-- age, and what it passed and owes are the same
pub record HasSameLife (thread later : Thread) : Type 0 where
  pub unfinished : is_open later.activity ≡ is_open thread.activity
  pub life : life_of later ≡ life_of thread
  pub debt : later.debt ≡ thread.debt

-- a thread has its context
pub record IsHeld (p : Program) (found : Option Ctx) (thread : Thread) : Type 0 where
  pub ctx : Ctx
  pub is : found ≡ Some ctx
  pub context : IsContextOf p ctx thread
