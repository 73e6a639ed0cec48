-- When an open call of a thread is finished.
use Rattle.std.specs.Prelude.{◌≡◌, ℕ, List, length, Option, Some, slice_get, slice_set, option_and_then}
use Rattle.thread_tree.specs.Program.{Program}
use Rattle.thread_tree.specs.Kinds.{Action, kind_word, result_count}
use Rattle.thread_tree.specs.LocalState.{next_action, bind}
use Rattle.thread_machine.specs.declared.context.Ctx.{Ctx}
use Rattle.thread_machine.specs.Context.{local_of}
use Rattle.thread_machine.specs.Reached.{IsContext}
use Rattle.kernel_image.specs.Decoded.{Decoded}
use Rattle.replay_list.specs.Records.{IsAppended}

-- the context of a thread stands at an action that these results finish
pub record IsUnfinished (p : Program) (contexts : List (Option Ctx)) (thread : ℕ) (results : List ℕ) (ctx : Ctx) (action : Action) : Type 0 where
  pub there : option_and_then (λ found. found) (slice_get contexts thread) ≡ Some ctx
  pub context : IsContext p ctx
  pub next : next_action p (local_of p ctx) ≡ Some action
  pub many : length results ≡ result_count action.kind action.given

-- the context of a thread was given the results of its action
pub record IsGiven (p : Program) (thread : ℕ) (results : List ℕ) (ctx : Ctx) (old new : List (Option Ctx)) : Type 0 where
  pub later : Ctx
  pub context : IsContext p later
  pub bound : local_of p later ≡ bind p (local_of p ctx) results
  pub put : new ≡ slice_set old thread (Some later)

-- the thread has the record of its action, and its context the results
pub record IsFinished (p : Program) (thread : ℕ) (results : List ℕ) (ctx : Ctx) (action : Action) (before after : Decoded) (old new : List (Option Ctx)) : Type 0 where
  pub appended : IsAppended thread (kind_word action.kind action.given) results before after
  pub given : IsGiven p thread results ctx old new
