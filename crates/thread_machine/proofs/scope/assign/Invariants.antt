use Rattle.std.proofs.Common.{◌≡◌, ◌++◌, take, drop, length}
use Rattle.thread_tree.specs.LocalState.{with_value}
use Rattle.thread_machine.proofs.scope.assign.Given as goal

abbrev pub invariant-loop-at : goal.invariant-loop-at
invariant-loop-at l =
    (take l.base l.initial.slots.items ++ with_value (drop l.base l.initial.slots.items) l.name l.value
    ≡ take l.at l.slots.items ++ with_value (drop l.at l.slots.items) l.name l.value)
    × (length l.slots.items ≡ length l.initial.slots.items)
