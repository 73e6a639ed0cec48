-- Where a context arrives, by the number of the action.
use Rattle.std.specs.Prelude.{◌≡◌, [], Some, slice_get}
use Rattle.thread_tree.specs.declared.block.Stmt.{Stmt}
use Rattle.thread_tree.specs.Program.{Program}
use Rattle.thread_tree.specs.Ahead.{Arrival}
use Rattle.thread_tree.specs.Ahead.Arrival.{AtAction, Finished, Watchdog}
use Rattle.thread_tree.specs.Actions.{actions, names_in, spot_at, spots}
use Rattle.thread_tree.specs.LocalState.{LocalState, after_first, next_statement}
use Rattle.thread_machine.specs.declared.next.Next.{Next}
use Rattle.thread_machine.specs.declared.next.Next.TheVariants as next

-- an action is told by its number, the end and the bound by their names
abbrev pub IsNext : Program → Arrival → Next → Type 0
IsNext p (AtAction statement) (next.Action number) = slice_get (actions p) number ≡ Some statement
IsNext p (AtAction statement) next.Finished = ⊥
IsNext p (AtAction statement) next.Watchdog = ⊥
IsNext p Finished (next.Action number) = ⊥
IsNext p Finished next.Finished = Unit {0}
IsNext p Finished next.Watchdog = ⊥
IsNext p Watchdog (next.Action number) = ⊥
IsNext p Watchdog next.Finished = ⊥
IsNext p Watchdog next.Watchdog = Unit {0}

-- in a body's own frame the action's number is the place where it stands, under the names that the locals have
abbrev pub IsAtSpot : Program → LocalState → Next → Type 0
IsAtSpot p s (next.Action number) = s.below ≡ [] → (statement : Stmt) → next_statement s.top.todo ≡ Some statement
    → slice_get (spots p) number ≡ Some (spot_at statement (names_in s.top.locals) (after_first s.top.todo))
IsAtSpot p s next.Finished = Unit {0}
IsAtSpot p s next.Watchdog = Unit {0}
