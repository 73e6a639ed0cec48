-- What the end of a block leaves.
use Rattle.std.specs.Prelude.{◌≡◌, ℕ, List, Option, Some, slice_set}
use Rattle.thread_tree.specs.LocalState.{bind}
use Rattle.thread_tree.specs.Program.{Program}
use Rattle.thread_machine.specs.declared.context.Ctx.{Ctx}
use Rattle.thread_machine.specs.Context.{local_of}
use Rattle.thread_machine.specs.Reached.{IsContext}
use Rattle.kernel_image.specs.Decoded.{Decoded}
use Rattle.kernel_events.specs.Actions.{IsServed}

-- an event is counted, and a thread has these results: they are recorded, and nothing else changes
pub record IsRecordedEvent (thread kind : ℕ) (results : List ℕ) (old new : Decoded) : Type 0 where
  pub served : IsServed thread kind results old new
  pub console : new.console ≡ old.console
  pub length_same : new.console_length ≡ old.console_length
  pub heap : new.heap ≡ old.heap

-- the results were bound, and the context is in its place again
pub record IsBound (p : Program) (thread : ℕ) (results : List ℕ) (ctx : Ctx) (before after : List (Option Ctx)) : Type 0 where
  pub now : Ctx
  pub bound : local_of p now ≡ bind p (local_of p ctx) results
  pub context : IsContext p now
  pub put : after ≡ slice_set before thread (Some now)
