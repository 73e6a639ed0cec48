-- The local states that a thread of a program can reach.
use Rattle.std.specs.Prelude.{◌≡◌, ℕ, List, length, Some, slice_get}
use Rattle.thread_tree.specs.Program.{Program, Template}
use Rattle.thread_tree.specs.Kinds.{Action, result_count}
use Rattle.thread_tree.specs.LocalState.{LocalState, birth, move, next_action, bind, turn}
use Rattle.thread_tree.specs.Actions.{Spot, loops, inside}
use Rattle.thread_machine.specs.declared.context.Ctx.{Ctx}
use Rattle.thread_machine.specs.Context.{IsCounted, local_of}
use Rattle.thread_machine.specs.Scope.{IsScoped}

-- the states that a thread reaches: a birth, the first statement of a persistent loop, and what
-- moves, results of actions and turns make of them
pub data Reached : Program → LocalState → Type 0 where
  Born : (p : Program) (number : ℕ) (t : Template) (arguments : List ℕ)
      → slice_get p.templates number ≡ Some t → length arguments ≡ length t.parameters → Reached p (birth t arguments)
  Entered : (p : Program) (number : ℕ) (spot : Spot) (values : List ℕ)
      → slice_get (loops p) number ≡ Some spot → length values ≡ length spot.scope → Reached p (inside spot values)
  Moved : (p : Program) (s t : LocalState) → Reached p s → move p s ≡ Some t → Reached p t
  Bound : (p : Program) (s : LocalState) (action : Action) (results : List ℕ) → Reached p s
      → next_action p s ≡ Some action → length results ≡ result_count action.kind action.given → Reached p (bind p s results)
  Turned : (p : Program) (s : LocalState) → Reached p s → Reached p (turn s)

-- a context of a program stands for a state that a thread reaches
pub record IsContext (p : Program) (ctx : Ctx) : Type 0 where
  pub reached : Reached p (local_of p ctx)
  pub counted : IsCounted p ctx
  pub scoped : IsScoped p ctx
