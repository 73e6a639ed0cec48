use Rattle.std.proofs.Common.{◌≡◌, ◌≤◌, drop}
use Rattle.thread_check.specs.Calls.{items_rule}
use Rattle.thread_check.proofs.names.Names.items.Given as goal

abbrev pub invariant-loop-i : goal.invariant-loop-i
invariant-loop-i l = record {
  few : l.count ≤ 8;
  same : items_rule l.self l.scope l.count (drop l.i l.items) ≡ items_rule l.self l.scope 0 l.items;
}
