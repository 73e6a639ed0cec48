use Rattle.std.proofs.Common.{◌≡◌, drop, take}
use Rattle.thread_check.specs.Calls.{further_takers}
use Rattle.thread_check.proofs.names.Names.further_takers.Given as goal

abbrev pub invariant-loop-i : goal.invariant-loop-i
invariant-loop-i l = further_takers l.self l.scope (take l.i l.to) (drop l.i l.to) ≡ further_takers l.self l.scope (take 1 l.to) (drop 1 l.to)
