use Rattle.std.proofs.Common.{◌≡◌, drop}
use Rattle.thread_machine.proofs.BodyLemmas.{body_among}
use Rattle.thread_machine.proofs.body.numbered.Given as goal

abbrev pub invariant-loop-at : goal.invariant-loop-at
invariant-loop-at l = body_among l.tree.decls l.number ≡ body_among (drop l.at l.tree.decls) l.left
