use Rattle.std.proofs.Common.{take}
use Rattle.thread_print.specs.Canonical.{numbers}
use Rattle.thread_print.specs.Wrote.{Wrote}
use Rattle.thread_print.proofs.printer.Printer.numbers.Given as goal

abbrev pub invariant-loop-i : goal.invariant-loop-i
invariant-loop-i l = Wrote l.self l.initial.out l.out (numbers (take l.i l.nums))
