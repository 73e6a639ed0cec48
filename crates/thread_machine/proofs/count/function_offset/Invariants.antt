use Rattle.std.proofs.Common.{◌≡◌, length, take, drop}
use Rattle.thread_check.specs.ActionLists.{actions_of_declarations}
use Rattle.thread_machine.proofs.BodyLemmas.{function_among}
use Rattle.thread_machine.proofs.count.function_offset.Given as goal

abbrev pub invariant-loop-at : goal.invariant-loop-at
invariant-loop-at l =
    (function_among l.tree.decls l.name ≡ function_among (drop l.at l.tree.decls) l.name)
    × (l.offset ≡ length (actions_of_declarations (take l.at l.tree.decls)))
