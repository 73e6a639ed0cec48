use Rattle.std.proofs.Common.{◌≡◌, ◌+◌, ◌++◌, length, take, drop}
use Rattle.thread_tree.specs.LocalState.{named}
use Rattle.thread_tree.specs.Program.{names_of}
use Rattle.thread_tree.specs.Value.{values_in}
use Rattle.thread_machine.proofs.scope.fill.Given as goal

abbrev pub invariant-loop-at : goal.invariant-loop-at
invariant-loop-at l =
    (l.slots.items ≡ l.initial.slots.items ++ named (take l.at (names_of l.parameters)) (take l.at (values_in (drop l.base l.initial.slots.items) l.arguments)))
    × (length l.slots.items ≡ length l.initial.slots.items + l.at)
    × (l.begin ≡ length l.initial.slots.items)
