use Rattle.std.proofs.Common.{◌≡◌, ◌+◌, length, drop}
use Rattle.std.specs.List.{slice_get}
use Rattle.thread_check.specs.ActionLists.{actions_in_turn}
use Rattle.thread_check.proofs.actions.+action.Given as goal

abbrev pub invariant-in_turn-loop-i : goal.invariant-in_turn-loop-i
invariant-in_turn-loop-i l = record {
  place : slice_get (actions_in_turn l.stmts) l.number ≡ slice_get (actions_in_turn (drop l.i l.stmts)) l.left;
  passed : l.number + length (actions_in_turn (drop l.i l.stmts)) ≡ length (actions_in_turn l.stmts) + l.left;
}
