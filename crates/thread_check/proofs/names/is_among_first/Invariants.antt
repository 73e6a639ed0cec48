use Rattle.std.proofs.Common.{◌≡◌, drop, take}
use Rattle.thread_check.specs.Names.{is_among}
use Rattle.thread_check.proofs.names.is_among_first.Given as goal

abbrev pub invariant-loop-i : goal.invariant-loop-i
invariant-loop-i l = is_among l.name (drop l.i (take l.count l.ats)) ≡ is_among l.name (take l.count l.ats)
