use Rattle.std.proofs.Common.{take}
use Rattle.std.specs.List.{flat_map}
use Rattle.thread_print.specs.Canonical.{tstatement}
use Rattle.thread_print.specs.Wrote.{Wrote}
use Rattle.thread_print.proofs.printer.Printer.+transaction.Given as goal

abbrev pub invariant-tstatements-loop-i : goal.invariant-tstatements-loop-i
invariant-tstatements-loop-i l = Wrote l.self l.initial.out l.out (flat_map tstatement (take l.i l.stmts))
