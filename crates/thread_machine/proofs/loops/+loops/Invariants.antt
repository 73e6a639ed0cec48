use Rattle.std.proofs.Common.{◌≡◌, ◌<◌, ◌^◌, take}
use Rattle.thread_machine.specs.Loops.{loops_from}
use Rattle.thread_machine.proofs.loops.+loops.Given as goal

abbrev pub invariant-loops_from-loop-at : goal.invariant-loops_from-loop-at
invariant-loops_from-loop-at l = loops_from l.stmts < 2 ^ 32 → l.count ≡ loops_from (take l.at l.stmts)
