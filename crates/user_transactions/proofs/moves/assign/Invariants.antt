-- The locals so far have other names.
use Rattle.std.proofs.Common.{◌≡◌, ◌++◌, take, drop, length}
use Rattle.thread_tree.specs.LocalState.{with_value}
use Rattle.user_transactions.proofs.moves.assign.Given as goal

abbrev pub invariant-loop-at : goal.invariant-loop-at
invariant-loop-at l =
    (with_value l.initial.locals.items l.name l.value ≡ take l.at l.locals.items ++ with_value (drop l.at l.locals.items) l.name l.value)
    × (length l.locals.items ≡ length l.initial.locals.items)
