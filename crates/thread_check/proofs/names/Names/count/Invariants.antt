use Rattle.std.proofs.Common.{◌≡◌, take}
use Rattle.thread_check.specs.Declarations.{count_of}
use Rattle.thread_check.proofs.names.Names.count.Given as goal

abbrev pub invariant-loop-i : goal.invariant-loop-i
invariant-loop-i l = l.count ≡ count_of l.sort (take l.i l.self.declarations)
