-- A thread that ran ahead to an action stands at it.
use Rattle.std.proofs.Common.{◌≡◌, ℕ, List, [], ◌∷◌, refl, ap, sym, subst, ◌∙◌}
use Rattle.std.specs.Prelude.{Option, Some, None, IfSome, IsSomeAnd, option_and_then, slice_get, slice_set}
use Rattle.thread_tree.specs.declared.block.Stmt.{Stmt}
use Rattle.thread_tree.specs.Actions.{actions}
use Rattle.thread_tree.specs.Ahead.{Arrival, ahead}
use Rattle.thread_tree.specs.Ahead.Arrival.{AtAction, Finished, Watchdog}
use Rattle.thread_tree.specs.Kinds.{Action, action_of}
use Rattle.thread_tree.specs.LocalState.{LocalState, next_action, next_statement}
use Rattle.thread_tree.specs.Program.{Program}
use Rattle.thread_machine.specs.declared.context.Ctx.{Ctx}
use Rattle.thread_machine.specs.declared.next.Next.TheVariants as next
use Rattle.thread_machine.specs.Next.{IsNext}
use Rattle.thread_machine.specs.Reached.{IsContext}
use Rattle.kernel_model.proofs.Callers.{ahead-before}
use Rattle.replay_list.specs.Finished.{IsGiven}

-- the action of the number that is told comes next
pub arrived_at : (p : Program) (s now : LocalState) (number : ℕ) → IsNext p (ahead p s).arrival (next.Action number) → now ≡ (ahead p s).local → IsSomeAnd (slice_get (actions p) number) (λ statement. next_action p now ≡ action_of p statement)
arrived_at p s now number told same = go (ahead p s).arrival refl told where
  go : (a : Arrival) → (ahead p s).arrival ≡ a → IsNext p a (next.Action number) → IsSomeAnd (slice_get (actions p) number) (λ statement. next_action p now ≡ action_of p statement)
  go (AtAction statement) is here =
      let comes : next_statement now.top.todo ≡ Some statement = ap (λ (local : LocalState). next_statement local.top.todo) same ∙ ahead-before p s statement is in
      let acts : next_action p now ≡ action_of p statement = ap (λ (found : Option Stmt). elim found as (λ _. Option Action) [ None ↦ None | Some s ↦ action_of p s ]) comes in
      subst (λ (o : Option Stmt). IsSomeAnd o (λ s. next_action p now ≡ action_of p s)) (sym here) acts
  go Finished is here = absurd here
  go Watchdog is here = absurd here

-- thread 2 has a context behind the results of its action
pub given_context : (p : Program) (results : List ℕ) (ctx : Ctx) (old new : List (Option Ctx)) → IsGiven p 2 results ctx old new → IfSome (option_and_then (λ found. found) (slice_get new 2)) (IsContext p)
given_context p results ctx old new given = subst (λ (xs : List (Option Ctx)). IfSome (option_and_then (λ found. found) (slice_get xs 2)) (IsContext p)) (sym given.put) (go old) where
  go : (xs : List (Option Ctx)) → IfSome (option_and_then (λ found. found) (slice_get (slice_set xs 2 (Some given.later)) 2)) (IsContext p)
  go [] = tt
  go (a ∷ []) = tt
  go (a ∷ b ∷ []) = tt
  go (a ∷ b ∷ d ∷ rest) = given.context
