use Rattle.std.proofs.Common.{◌≡◌, ◌+◌, ◌≤◌, length, drop}
use Rattle.thread_tree.specs.Program.{sorted}
use Rattle.served_program.proofs.program.start_count.Given as goal

abbrev pub invariant-loop-i : goal.invariant-loop-i
invariant-loop-i l = record {
  count : l.count + length (sorted (drop l.i l.decls)).starts ≡ length (sorted l.decls).starts;
  few : l.count ≤ l.i;
}
