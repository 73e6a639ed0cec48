use Rattle.std.proofs.Common.{◌≡◌, drop}
use Rattle.std.specs.List.{find}
use Rattle.thread_check.specs.Names.{declares}
use Rattle.thread_check.proofs.names.Names.declaration.Given as goal

abbrev pub invariant-loop-i : goal.invariant-loop-i
invariant-loop-i l = find (declares l.name) (drop l.i l.self.declarations) ≡ find (declares l.name) l.self.declarations
