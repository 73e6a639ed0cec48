use Rattle.std.proofs.Common.{◌≡◌, ◌+◌, ◌++◌, length, take}
use Rattle.thread_tree.specs.LocalState.{named}
use Rattle.thread_tree.specs.Program.{names_of}
use Rattle.thread_machine.proofs.fresh.declare_all.Given as goal

abbrev pub invariant-loop-at : goal.invariant-loop-at
invariant-loop-at l =
    (l.slots.items ≡ l.initial.slots.items ++ named (take l.at (names_of l.names)) (take l.at l.values))
    × (length l.slots.items ≡ length l.initial.slots.items + l.at)
