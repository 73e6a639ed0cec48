use Rattle.std.proofs.Common.{◌≡◌, drop}
use Rattle.std.specs.List.{list_all}
use Rattle.served_program.specs.Served.{is_served_stmt}
use Rattle.served_program.proofs.statements.+served_body.Given as goal

abbrev pub invariant-are_served_stmts-loop-i : goal.invariant-are_served_stmts-loop-i
invariant-are_served_stmts-loop-i l = list_all is_served_stmt (drop l.i l.stmts) ≡ list_all is_served_stmt l.stmts
