use Rattle.std.proofs.Common.{take}
use Rattle.std.specs.List.{flat_map}
use Rattle.thread_print.specs.Canonical.{statement}
use Rattle.thread_print.specs.Wrote.{Wrote}
use Rattle.thread_print.proofs.printer.Printer.+body.Given as goal

abbrev pub invariant-statements-loop-i : goal.invariant-statements-loop-i
invariant-statements-loop-i l = Wrote l.self l.initial.out l.out (flat_map statement (take l.i l.stmts))
