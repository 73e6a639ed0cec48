use Rattle.std.proofs.Common.{take}
use Rattle.thread_print.specs.Canonical.{expressions}
use Rattle.thread_print.specs.Wrote.{Wrote}
use Rattle.thread_print.proofs.printer.Printer.expressions.Given as goal

abbrev pub invariant-loop-i : goal.invariant-loop-i
invariant-loop-i l = Wrote l.self l.initial.out l.out (expressions (take l.i l.exprs))
