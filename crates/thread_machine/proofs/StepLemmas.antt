-- The next move of a context.
use Rattle.std.proofs.Common.{◌≡◌, ◌+◌, List, [], ◌∷◌, ◌++◌, drop, map, Bool, true, false, Some, None, refl, ap, ◌∙◌}
use Rattle.thread_tree.specs.declared.block.Block.{Block}
use Rattle.thread_tree.specs.declared.block.Stmt.{Stmt, out-Stmt}
use Rattle.thread_tree.specs.declared.block.Stmt.TheOpen.{Stmt-F}
use Rattle.thread_tree.specs.declared.block.Stmt.TheOpen as stmt
use Rattle.thread_tree.specs.Program.{Program}
use Rattle.thread_tree.specs.LocalState.{Thing, LocalState, move, moved, moved_by}
use Rattle.thread_tree.specs.LocalState.Thing.{Do}
use Rattle.thread_machine.specs.declared.context.Ctx.{Ctx}
use Rattle.thread_machine.specs.Context.{again_of, level_of, local_of, rest_of, statement_of, to_do}
use Rattle.thread_machine.proofs.ListLemmas.{drop_at_item, drop_at_none}

moved_again : (p : Program) (state : LocalState) (layer : Stmt-F Stmt Block) (s : Stmt) (rest : List Thing) → out-Stmt s ≡ layer → moved p state (again_of layer s ∷ rest) ≡ moved_by p state rest layer
moved_again p state (stmt.Let at e) s rest is = ap (moved_by p state rest) is
moved_again p state (stmt.Set at e) s rest is = ap (moved_by p state rest) is
moved_again p state (stmt.Apply to callee arguments) s rest is = ap (moved_by p state rest) is
moved_again p state (stmt.If e block other) s rest is = ap (moved_by p state rest) is
moved_again p state (stmt.While e block) s rest is = refl
moved_again p state (stmt.Ploop place block) s rest is = refl
moved_again p state (stmt.Break place) s rest is = ap (moved_by p state rest) is
moved_again p state (stmt.Return place value) s rest is = ap (moved_by p state rest) is
moved_again p state (stmt.Atomic place to block) s rest is = ap (moved_by p state rest) is
moved_again p state (stmt.Call place call to) s rest is = ap (moved_by p state rest) is

-- a loop that comes again makes the move of its statement
moved_head : (p : Program) (state : LocalState) (again : Bool) (s : Stmt) (stmts : List Stmt) (behind : List Thing) → moved p state (to_do again (s ∷ stmts) ++ behind) ≡ moved_by p state (map Do stmts ++ behind) (out-Stmt s)
moved_head p state false s stmts behind = refl
moved_head p state true s stmts behind = moved_again p state (out-Stmt s) s (map Do stmts ++ behind) refl

-- the move at a statement
pub step_some : (p : Program) (ctx : Ctx) (s : Stmt) → statement_of p ctx ≡ Some s → move p (local_of p ctx) ≡ moved_by p (local_of p ctx) (rest_of p ctx) (out-Stmt s)
step_some p ctx s here =
    let l = level_of p ctx in
    ap (λ stmts. moved p (local_of p ctx) (to_do ctx.again stmts ++ l.behind)) (drop_at_item l.stmts ctx.at s here)
    ∙ moved_head p (local_of p ctx) ctx.again s (drop (ctx.at + 1) l.stmts) l.behind

moved_end : (p : Program) (state : LocalState) (again : Bool) (behind : List Thing) → moved p state (to_do again [] ++ behind) ≡ moved p state behind
moved_end p state false behind = refl
moved_end p state true behind = refl

-- the move at the end of a block
pub step_none : (p : Program) (ctx : Ctx) → statement_of p ctx ≡ None → move p (local_of p ctx) ≡ moved p (local_of p ctx) (level_of p ctx).behind
step_none p ctx here =
    let l = level_of p ctx in
    ap (λ stmts. moved p (local_of p ctx) (to_do ctx.again stmts ++ l.behind)) (drop_at_none l.stmts ctx.at here)
    ∙ moved_end p (local_of p ctx) ctx.again l.behind
