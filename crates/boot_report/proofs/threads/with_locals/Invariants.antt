use Rattle.std.proofs.Common.{◌≡◌, ◌≤◌, ◌+◌, ◌*◌, ◌++◌, drop, length}
use Rattle.thread_tree.specs.Program.{program_of}
use Rattle.boot_report.specs.Lines.{locals_text}
use Rattle.boot_report.proofs.threads.with_locals.Given as goal

abbrev pub invariant-loop-at : goal.invariant-loop-at
invariant-loop-at l = record {
  text : l.line ++ locals_text (program_of l.program) (drop l.at l.locals) ≡ l.initial.line ++ locals_text (program_of l.program) l.locals;
  len : length l.line ≤ 100 + 36 * l.at;
}
