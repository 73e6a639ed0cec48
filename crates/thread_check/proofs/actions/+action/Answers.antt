-- A number that isn't in the first part is a smaller one in the rest.
use Rattle.std.proofs.Common.{◌≡◌, ℕ, ◌+◌, List, ◌++◌, length, drop, Some, Result, Ok, Err, MatchResult, subst, sym, ap, ◌∙◌, arith, length-append}
use Rattle.std.specs.List.{slice_get}
use Rattle.thread_tree.specs.declared.block.Block.{Block}
use Rattle.thread_tree.specs.declared.block.Stmt.{Stmt, out-Stmt, out-roll-Stmt}
use Rattle.thread_tree.specs.declared.block.Stmt.TheVariants.{rolls-If}
use Rattle.thread_tree.specs.declared.block.Stmt.TheOpen as stmt
use Rattle.thread_check.specs.ActionLists.{in_some, actions_in, actions_layer, actions_in_turn}
use Rattle.thread_check.proofs.Steps.{drop_at}
use Rattle.thread_check.proofs.ActionLaws.{actions_of_out, slice_get_behind, slice_get_before}
use Rattle.thread_check.proofs.actions.+action.Goals as goal

-- the actions from a place on
from_place : (ss : List Stmt) (i : ℕ) (s : Stmt) → slice_get ss i ≡ Some s → actions_in_turn (drop i ss) ≡ actions_layer actions_in (out-Stmt s) s ++ actions_in_turn (drop (i + 1) ss)
from_place ss i s there = ap actions_in_turn (drop_at ss i s there) ∙ ap (λ own. own ++ actions_in_turn (drop (i + 1) ss)) (actions_of_out s)

-- a number that isn't in the statement at a place
behind_place : (ss : List Stmt) (i : ℕ) (s : Stmt) (left rest : ℕ) → slice_get ss i ≡ Some s → left ≡ length (actions_layer actions_in (out-Stmt s) s) + rest → slice_get (actions_in_turn (drop i ss)) left ≡ slice_get (actions_in_turn (drop (i + 1) ss)) rest
behind_place ss i s left rest there e =
    ap (λ all. slice_get all left) (from_place ss i s there) ∙ slice_get_behind (actions_layer actions_in (out-Stmt s) s) (actions_in_turn (drop (i + 1) ss)) left rest e

pub in_turn-loop-i-preserved : goal.in_turn-loop-i-preserved
in_turn-loop-i-preserved t c =
    let e : c.loop-i.left ≡ length (actions_layer actions_in (out-Stmt c.get.result.now) c.get.result.now) + c.in-Err.rest = c.in-Err.ensures in
    record {
      place = c.loop-i.invariant.place ∙ behind_place c.args.stmts.now c.loop-i.i _ _ _ c.get.ensures e;
      passed =
          let all = ap length (from_place c.args.stmts.now c.loop-i.i _ c.get.ensures) in
          let parts = length-append (actions_layer actions_in (out-Stmt c.get.result.now) c.get.result.now) (actions_in_turn (drop (c.loop-i.i + 1) c.args.stmts.now)) in
          omega (arith, c.loop-i.invariant.passed);
    }

-- what is found in the second of two lists
behind_first : {R : Type 0} (found : Result R ℕ) (now : R → Stmt) (xs ys : List Stmt) (number left : ℕ) → number ≡ length xs + left → MatchResult found (λ s. slice_get ys left ≡ Some (now s)) (λ rest. left ≡ length ys + rest) → MatchResult found (λ s. slice_get (xs ++ ys) number ≡ Some (now s)) (λ rest. number ≡ length (xs ++ ys) + rest)
behind_first (Ok s) now xs ys number left e there = slice_get_behind xs ys number left e ∙ there
behind_first (Err rest) now xs ys number left e passed = let both : length (xs ++ ys) ≡ length xs + length ys = length-append xs ys in omega arith

pub in_statement-returns-in-Ok : goal.in_statement-returns-in-Ok
in_statement-returns-in-Ok t c =
    let is : out-Stmt c.args.stmt.now ≡ stmt.If c.in-If.field-0 c.in-If.then_block c.in-If.else_block = ap out-Stmt (c.in-If.is ∙ sym (rolls-If c.in-If.field-0 c.in-If.then_block c.in-If.else_block)) ∙ out-roll-Stmt _ in
    let there : slice_get (actions_layer {S = Stmt} {B = Block} actions_in (stmt.If c.in-If.field-0 c.in-If.then_block c.in-If.else_block) c.args.stmt.now) c.args.number ≡ Some c.in-Ok.found.now = slice_get_before (actions_in c.in-If.then_block) (in_some actions_in c.in-If.else_block) _ _ c.in-Ok.ensures in
    ap (λ layer. slice_get (actions_layer {S = Stmt} {B = Block} actions_in layer c.args.stmt.now) c.args.number) is ∙ there

pub in_statement-returns-in-Some : goal.in_statement-returns-in-Some
in_statement-returns-in-Some t c =
    let is : out-Stmt c.args.stmt.now ≡ stmt.If c.in-If.field-0 c.in-If.then_block c.in-If.else_block = ap out-Stmt (c.in-If.is ∙ sym (rolls-If c.in-If.field-0 c.in-If.then_block c.in-If.else_block)) ∙ out-roll-Stmt _ in
    let some : out-Stmt c.args.stmt.now ≡ stmt.If c.in-If.field-0 c.in-If.then_block (Some c.in-Some.block) = is ∙ ap (λ other. stmt.If c.in-If.field-0 c.in-If.then_block other) c.in-Some.is in
    subst (λ layer. MatchResult c.in_block-in-Some.result (λ s. slice_get (actions_layer {S = Stmt} {B = Block} actions_in layer c.args.stmt.now) c.args.number ≡ Some s.now) (λ rest. c.args.number ≡ length (actions_layer {S = Stmt} {B = Block} actions_in layer c.args.stmt.now) + rest)) (sym some) (behind_first c.in_block-in-Some.result (λ s. s.now) (actions_in c.in-If.then_block) (actions_in c.in-Some.block) _ c.in-Err.left c.in-Err.ensures c.in_block-in-Some.ensures)
