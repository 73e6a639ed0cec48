use Rattle.std.proofs.Common.{◌≡◌, length, take}
use Rattle.thread_tree.specs.LocalState.{named}
use Rattle.thread_machine.specs.Seeking.{names_in}
use Rattle.thread_machine.proofs.at_loop.with_values.Given as goal

abbrev pub invariant-loop-at : goal.invariant-loop-at
invariant-loop-at l =
    (l.slots.items ≡ named (take l.at (names_in l.locals)) (take l.at l.values)) × (length l.slots.items ≡ l.at)
