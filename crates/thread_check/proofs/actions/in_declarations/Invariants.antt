use Rattle.std.proofs.Common.{◌≡◌, ◌+◌, length, drop}
use Rattle.std.specs.List.{slice_get}
use Rattle.thread_check.specs.ActionLists.{actions_of_declarations}
use Rattle.thread_check.proofs.actions.in_declarations.Given as goal

abbrev pub invariant-loop-i : goal.invariant-loop-i
invariant-loop-i l = record {
  place : slice_get (actions_of_declarations l.decls) l.number ≡ slice_get (actions_of_declarations (drop l.i l.decls)) l.left;
  passed : l.number + length (actions_of_declarations (drop l.i l.decls)) ≡ length (actions_of_declarations l.decls) + l.left;
}
