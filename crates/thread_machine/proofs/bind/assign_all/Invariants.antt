use Rattle.std.proofs.Common.{◌≡◌, take, drop, length}
use Rattle.thread_tree.specs.LocalState.{with_values}
use Rattle.thread_tree.specs.Program.{names_of}
use Rattle.thread_machine.proofs.bind.assign_all.Given as goal

abbrev pub invariant-loop-at : goal.invariant-loop-at
invariant-loop-at l =
    (with_values (drop l.base l.initial.slots.items) (names_of l.names) l.values ≡ with_values (drop l.base l.slots.items) (drop l.at (names_of l.names)) (drop l.at l.values))
    × (take l.base l.slots.items ≡ take l.base l.initial.slots.items)
    × (length l.slots.items ≡ length l.initial.slots.items)
