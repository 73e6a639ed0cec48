use Rattle.std.proofs.Common.{take}
use Rattle.thread_print.specs.Canonical.{item_tokens, separated}
use Rattle.thread_print.specs.Wrote.{Wrote}
use Rattle.thread_print.proofs.printer.Printer.items.Given as goal

abbrev pub invariant-loop-i : goal.invariant-loop-i
invariant-loop-i l = Wrote l.self l.initial.out l.out (separated item_tokens (take l.i l.items))
