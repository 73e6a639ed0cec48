-- The room that the innermost frame has for the statement at hand.
use Rattle.std.proofs.Common.{ℕ, ◌+◌, ◌≤◌, List, [], ◌∷◌, length, arith}
use Rattle.std.specs.Prelude.{IfSome}
use Rattle.thread_tree.specs.Program.{Program}
use Rattle.thread_tree.specs.Limits.{IsSound}
use Rattle.thread_tree.specs.Need.{Need, weight_of, callees}
use Rattle.thread_tree.specs.LocalState.{LocalState, Thing, next_statement}
use Rattle.thread_tree.specs.LocalState.Thing.{Do, End, Test, Turn}
use Rattle.thread_machine.specs.Reached.{Reached}
use Rattle.thread_machine.specs.Within.{AreWithin}
use Rattle.thread_machine.proofs.ReachedLemmas.{reached_within}

room_by : (callee : ℕ → Need) (before blocks count : ℕ) (todo : List Thing) → AreWithin callee before blocks count todo → IfSome (next_statement todo) (λ s. count + (weight_of callee s).need.locals ≤ 48)
room_by callee before blocks count [] within = tt
room_by callee before blocks count (Do s ∷ rest) within = omega (arith, within.0)
room_by callee before blocks count (End keep ∷ rest) within = tt
room_by callee before blocks count (Test e block ∷ rest) within = tt
room_by callee before blocks count (Turn s ∷ rest) within = omega (arith, within.0)

-- with what the statement at hand declares, the innermost frame stays within the limit
pub own_room : (p : Program) (s : LocalState) → IsSound p → Reached p s → IfSome (next_statement s.top.todo) (λ t. length s.top.locals + (weight_of (callees p) t).need.locals ≤ 48)
own_room p s sound reached = room_by (callees p) _ _ (length s.top.locals) s.top.todo (reached_within p s sound reached).each.0
