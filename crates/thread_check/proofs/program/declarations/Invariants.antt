use Rattle.std.proofs.Common.{◌≡◌, ◌≤◌, take, drop, false}
use Rattle.thread_check.specs.Declarations.{declarations_rule, IsFew}
use Rattle.thread_check.specs.Faults.{no_names}
use Rattle.thread_check.proofs.program.declarations.Given as goal

abbrev pub invariant-loop-i : goal.invariant-loop-i
invariant-loop-i l = record {
  few : IsFew (take l.i l.decls);
  loops : l.loops ≤ 64;
  same :
      declarations_rule (record { declarations = take l.i l.decls; functions = l.functions.items; in_function = false }) l.loops (drop l.i l.decls) ≡ declarations_rule no_names 0 l.decls;
}
