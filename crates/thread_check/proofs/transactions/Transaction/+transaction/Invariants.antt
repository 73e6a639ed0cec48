use Rattle.std.proofs.Common.{◌≡◌, drop, map}
use Rattle.thread_check.specs.Blocks.{in_turn}
use Rattle.thread_check.specs.Transactions.{tstatement_rule}
use Rattle.thread_check.proofs.transactions.Transaction.+transaction.Given as goal

abbrev pub invariant-statements-loop-i : goal.invariant-statements-loop-i
invariant-statements-loop-i l =
    in_turn (map (tstatement_rule l.self) (drop l.i l.stmts)) l.scope ≡ in_turn (map (tstatement_rule l.self) l.stmts) l.fn.scope
