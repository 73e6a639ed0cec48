use Rattle.std.proofs.Common.{◌≡◌, drop}
use Rattle.thread_check.specs.Declarations.{parameters_rule}
use Rattle.thread_check.proofs.names.Names.parameters.Given as goal

abbrev pub invariant-loop-i : goal.invariant-loop-i
invariant-loop-i l = parameters_rule l.self (drop l.i l.ats) l.scope ≡ parameters_rule l.self l.ats l.fn.scope
