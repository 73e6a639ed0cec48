use Rattle.std.proofs.Common.{◌≡◌, ℕ, List, length}
use Rattle.thread_tree.specs.declared.local.Local.{Local}
use Rattle.thread_tree.specs.Program.{Program}
use Rattle.thread_machine.specs.Context.{level_along}
use Rattle.thread_machine.specs.Scope.{IsOpenBy}
use Rattle.thread_machine.proofs.moves.pop_call.Given as goal

abbrev pub invariant-loop-cursor : goal.invariant-loop-cursor
invariant-loop-cursor l = (p : Program) (template : ℕ) →
    ((level_along p template l.initial.cursors.items).waiting ≡ (level_along p template l.cursors.items).waiting)
    × ((level_along p template l.initial.cursors.items).result ≡ (level_along p template l.cursors.items).result)
    × ((base : ℕ) (slots : List Local) → IsOpenBy p template l.initial.cursors.items slots base → IsOpenBy p template l.cursors.items slots base)

abbrev pub decreases-loop-cursor : goal.decreases-loop-cursor
decreases-loop-cursor l = length l.cursors.items
