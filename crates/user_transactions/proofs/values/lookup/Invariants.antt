use Rattle.std.proofs.Common.{◌≡◌, drop}
use Rattle.thread_tree.specs.Value.{value_in}
use Rattle.user_transactions.proofs.values.lookup.Given as goal

abbrev pub invariant-loop-local : goal.invariant-loop-local
invariant-loop-local l = value_in l.locals l.name ≡ value_in (drop l.local-index l.locals) l.name
