use Rattle.std.proofs.Common.{◌≡◌, drop}
use Rattle.thread_machine.proofs.BodyLemmas.{template_among}
use Rattle.thread_machine.proofs.body.template.Given as goal

abbrev pub invariant-loop-at : goal.invariant-loop-at
invariant-loop-at l = template_among l.tree.decls l.number ≡ template_among (drop l.at l.tree.decls) l.left
