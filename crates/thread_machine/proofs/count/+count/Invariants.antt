use Rattle.std.proofs.Common.{◌≡◌, ◌<◌, ◌^◌, length, min, take}
use Rattle.thread_check.specs.ActionLists.{actions_in_turn}
use Rattle.thread_machine.proofs.count.+count.Given as goal

abbrev pub invariant-count_before-loop-at : goal.invariant-count_before-loop-at
invariant-count_before-loop-at l =
    length (actions_in_turn l.stmts) < 2 ^ 32 → l.count ≡ length (actions_in_turn (take (min l.at l.upto) l.stmts))
