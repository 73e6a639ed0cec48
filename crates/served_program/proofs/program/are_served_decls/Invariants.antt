use Rattle.std.proofs.Common.{◌≡◌, drop}
use Rattle.std.specs.List.{list_all}
use Rattle.served_program.specs.Served.{is_served_decl}
use Rattle.served_program.proofs.program.are_served_decls.Given as goal

abbrev pub invariant-loop-i : goal.invariant-loop-i
invariant-loop-i l = list_all is_served_decl (drop l.i l.decls) ≡ list_all is_served_decl l.decls
