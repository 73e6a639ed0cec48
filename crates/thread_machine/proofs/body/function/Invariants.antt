use Rattle.std.proofs.Common.{◌≡◌, drop}
use Rattle.thread_machine.proofs.BodyLemmas.{function_among}
use Rattle.thread_machine.proofs.body.function.Given as goal

abbrev pub invariant-loop-at : goal.invariant-loop-at
invariant-loop-at l = function_among l.tree.decls l.name ≡ function_among (drop l.at l.tree.decls) l.name
