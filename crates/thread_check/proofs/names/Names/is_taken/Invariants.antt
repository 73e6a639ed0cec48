use Rattle.std.proofs.Common.{◌≡◌, drop}
use Rattle.thread_check.specs.Declarations.{is_taken}
use Rattle.thread_check.proofs.names.Names.is_taken.Given as goal

abbrev pub invariant-loop-i : goal.invariant-loop-i
invariant-loop-i l = is_taken l.channel (drop l.i l.self.declarations) ≡ is_taken l.channel l.self.declarations
