use Rattle.std.proofs.Common.{◌≡◌, drop}
use Rattle.std.specs.List.{list_all}
use Rattle.served_program.specs.Served.{is_served_tstmt}
use Rattle.served_program.proofs.transactions.+served_transaction.Given as goal

abbrev pub invariant-are_served_tstmts-loop-i : goal.invariant-are_served_tstmts-loop-i
invariant-are_served_tstmts-loop-i l = list_all is_served_tstmt (drop l.i l.stmts) ≡ list_all is_served_tstmt l.stmts
