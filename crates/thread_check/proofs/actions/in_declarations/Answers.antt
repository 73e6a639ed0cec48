-- A number that isn't in the first declarations is a smaller one in the rest.
use Rattle.std.proofs.Common.{◌≡◌, ℕ, ◌+◌, List, ◌++◌, length, drop, Some, ap, ◌∙◌, arith, length-append}
use Rattle.std.specs.List.{slice_get}
use Rattle.thread_tree.specs.declared.tree.Decl.{Decl}
use Rattle.thread_check.specs.ActionLists.{actions_of_declaration, actions_of_declarations}
use Rattle.thread_check.proofs.Steps.{drop_at}
use Rattle.thread_check.proofs.ActionLaws.{slice_get_behind, slice_get_before}
use Rattle.thread_check.proofs.actions.in_declarations.Goals as goal

-- the actions from a place on
from_place : (ds : List Decl) (i : ℕ) (d : Decl) → slice_get ds i ≡ Some d → actions_of_declarations (drop i ds) ≡ actions_of_declaration d ++ actions_of_declarations (drop (i + 1) ds)
from_place ds i d there = ap actions_of_declarations (drop_at ds i d there)

pub returns-in-Ok : goal.returns-in-Ok
returns-in-Ok c =
    c.loop-i.invariant.place
    ∙ ap (λ all. slice_get all c.loop-i.left) (from_place c.args.decls.now c.loop-i.i _ c.get.ensures)
    ∙ slice_get_before (actions_of_declaration c.get.result.now) (actions_of_declarations (drop (c.loop-i.i + 1) c.args.decls.now)) _ _ c.in-Ok.ensures

pub loop-i-preserved : goal.loop-i-preserved
loop-i-preserved c =
    let e : c.loop-i.left ≡ length (actions_of_declaration c.get.result.now) + c.in-Err.rest = c.in-Err.ensures in
    let all = from_place c.args.decls.now c.loop-i.i _ c.get.ensures in
    record {
      place =
          c.loop-i.invariant.place
          ∙ ap (λ l. slice_get l c.loop-i.left) all
          ∙ slice_get_behind (actions_of_declaration c.get.result.now) (actions_of_declarations (drop (c.loop-i.i + 1) c.args.decls.now)) _ _ e;
      passed =
          let long = ap length all in
          let parts = length-append (actions_of_declaration c.get.result.now) (actions_of_declarations (drop (c.loop-i.i + 1) c.args.decls.now)) in
          omega (arith, c.loop-i.invariant.passed);
    }
