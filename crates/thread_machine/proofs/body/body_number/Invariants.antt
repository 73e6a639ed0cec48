use Rattle.std.proofs.Common.{◌≡◌, ◌≤◌, drop}
use Rattle.thread_machine.proofs.BodyLemmas.{template_among, bodies_behind, bodies_from}
use Rattle.thread_machine.proofs.body.body_number.Given as goal

abbrev pub invariant-loop-at : goal.invariant-loop-at
invariant-loop-at l =
    (template_among l.tree.decls l.template ≡ template_among (drop l.at l.tree.decls) l.left)
    × (bodies_behind l.tree.decls l.number ≡ bodies_from l.tree.decls l.at)
    × (l.number ≤ l.at)
