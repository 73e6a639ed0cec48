use Rattle.std.proofs.Common.{◌≡◌, ◌≤◌, take, drop}
use Rattle.thread_check.specs.Declarations.{fields_rule}
use Rattle.thread_check.proofs.declarations.fields.Given as goal

abbrev pub invariant-loop-i : goal.invariant-loop-i
invariant-loop-i l = record {
  place : l.before ≡ l.i;
  few : l.before ≤ 10;
  same : fields_rule (take l.i l.fields) (drop l.i l.fields) ≡ fields_rule (take 0 l.fields) l.fields;
}
