use Rattle.std.proofs.Common.{◌≡◌, length, take, drop}
use Rattle.thread_check.specs.ActionLists.{actions_of_declarations}
use Rattle.thread_machine.proofs.BodyLemmas.{body_among}
use Rattle.thread_machine.proofs.count.body_offset.Given as goal

abbrev pub invariant-loop-at : goal.invariant-loop-at
invariant-loop-at l =
    (body_among l.tree.decls l.number ≡ body_among (drop l.at l.tree.decls) l.left)
    × (l.offset ≡ length (actions_of_declarations (take l.at l.tree.decls)))
