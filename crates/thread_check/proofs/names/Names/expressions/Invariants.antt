use Rattle.std.proofs.Common.{◌≡◌, drop}
use Rattle.thread_check.specs.Expressions.{expressions}
use Rattle.thread_check.proofs.names.Names.expressions.Given as goal

abbrev pub invariant-loop-i : goal.invariant-loop-i
invariant-loop-i l = expressions l.self l.scope (drop l.i l.exprs) ≡ expressions l.self l.scope l.exprs
