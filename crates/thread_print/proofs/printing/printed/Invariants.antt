use Rattle.thread_print.proofs.Lines.{HasLines}
use Rattle.thread_print.proofs.printing.printed.Given as goal

abbrev pub invariant-loop-i : goal.invariant-loop-i
invariant-loop-i l = HasLines l.tree l.i l.out
