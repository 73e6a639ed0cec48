-- What a move of a statement is in the local state.
use Rattle.std.proofs.Common.{◌≡◌, ◌≢◌, ℕ, ◌∷◌, Bool, true, false, Option, Some, None, refl, ap, sym, ◌∙◌, arith}
use Rattle.std.specs.Prelude.{◌==◌}
use Rattle.std.specs.Option.{is_some}
use Rattle.std.proofs.lemmas.Bool.Decides.{nat_tests}
use Rattle.thread_tree.specs.declared.expr.Expr.{Expr}
use Rattle.thread_tree.specs.declared.block.Block.{Block}
use Rattle.thread_tree.specs.declared.block.Stmt.{Stmt, out-Stmt}
use Rattle.thread_tree.specs.declared.block.Stmt.TheOpen.{Stmt-F}
use Rattle.thread_tree.specs.declared.block.Stmt.TheOpen as stmt
use Rattle.thread_tree.specs.Program.{Program}
use Rattle.thread_tree.specs.Value.{value_of}
use Rattle.thread_tree.specs.LocalState.{LocalState, branched, tested, entered, chosen_by}
use Rattle.thread_machine.specs.declared.context.Ctx.{Ctx}
use Rattle.thread_machine.specs.declared.context.Way.TheVariants as way
use Rattle.thread_machine.specs.Context.{level_of, local_of, statement_of, rest_of, after_of, block_inside, first_block, other_block, comes_again, again_of}
use Rattle.thread_machine.proofs.StateLemmas.{todo_after_once, todo_after_again}

-- a value that isn't 0 takes the first choice
pub chosen_taken : {X : Type 0} (value : ℕ) (x y : X) → value ≢ 0 → chosen_by value x y ≡ x
chosen_taken value x y other = let no_zero : (value == 0) ≡ false = grind (arith, nat_tests) in rw no_zero refl

-- 0 takes the second
pub chosen_passed : {X : Type 0} (value : ℕ) (x y : X) → value ≡ 0 → chosen_by value x y ≡ y
chosen_passed value x y none = rw none refl

pub first_of_if : (p : Program) (s : Stmt) (e : Expr) (block : Block) (other : Option Block) → out-Stmt s ≡ stmt.If e block other → block_inside p way.First s ≡ Some block
first_of_if p s e block other layer = ap first_block layer

pub first_of_while : (p : Program) (s : Stmt) (e : Expr) (block : Block) → out-Stmt s ≡ stmt.While e block → block_inside p way.First s ≡ Some block
first_of_while p s e block layer = ap first_block layer

pub other_is : (p : Program) (s : Stmt) (e : Expr) (block : Block) (other : Option Block) (b : Block) → out-Stmt s ≡ stmt.If e block other → other ≡ Some b → block_inside p way.Else s ≡ Some b
other_is p s e block other b layer is = ap other_block layer ∙ is

pub branched_first : (p : Program) (ctx : Ctx) (value : ℕ) (s : Stmt) (e : Expr) (block : Block) (other : Option Block) (next : LocalState) → statement_of p ctx ≡ Some s → out-Stmt s ≡ stmt.If e block other → value ≡ value_of (local_of p ctx).top.locals e → value ≢ 0 → next ≡ entered (local_of p ctx) block (after_of p ctx) → next ≡ branched (local_of p ctx) e block other (rest_of p ctx)
branched_first p ctx value s e block other next here layer is nonzero moved =
    moved
    ∙ ap (λ after. entered (local_of p ctx) block after) (todo_after_once (level_of p ctx) ctx.at s here (ap comes_again layer))
    ∙ sym (chosen_taken (value_of (local_of p ctx).top.locals e) _ _ (rw is at nonzero))

some_other : (other : Option Block) → is_some other ≡ true → (b : Block) × (other ≡ Some b)
some_other None is = cc
some_other (Some b) is = (b, refl)

branched_some : (p : Program) (ctx : Ctx) (value : ℕ) (s : Stmt) (e : Expr) (block b : Block) (other : Option Block) (next : LocalState) → statement_of p ctx ≡ Some s → out-Stmt s ≡ stmt.If e block other → value ≡ value_of (local_of p ctx).top.locals e → value ≡ 0 → other ≡ Some b → next ≡ entered (local_of p ctx) b (after_of p ctx) → next ≡ branched (local_of p ctx) e block other (rest_of p ctx)
branched_some p ctx value s e block b other next here layer is none some moved =
    moved
    ∙ ap (λ after. entered (local_of p ctx) b after) (todo_after_once (level_of p ctx) ctx.at s here (ap comes_again layer))
    ∙ rw some (sym (chosen_passed (value_of (local_of p ctx).top.locals e) _ _ (sym is ∙ none)))

pub branched_other : (p : Program) (ctx : Ctx) (value : ℕ) (s : Stmt) (e : Expr) (block : Block) (other : Option Block) (next : LocalState) {has : Bool} → statement_of p ctx ≡ Some s → out-Stmt s ≡ stmt.If e block other → value ≡ value_of (local_of p ctx).top.locals e → value ≡ 0 → is_some other ≡ has → has ≡ true → ((b : Block) → other ≡ Some b → next ≡ entered (local_of p ctx) b (after_of p ctx)) → next ≡ branched (local_of p ctx) e block other (rest_of p ctx)
branched_other p ctx value s e block other next here layer is none same present moved =
    let found = some_other other (same ∙ present) in
    branched_some p ctx value s e block found.0 other next here layer is none found.1 (moved found.0 found.1)

pub tested_first : (p : Program) (ctx : Ctx) (value : ℕ) (s : Stmt) (e : Expr) (block : Block) (next : LocalState) → statement_of p ctx ≡ Some s → out-Stmt s ≡ stmt.While e block → value ≡ value_of (local_of p ctx).top.locals e → value ≢ 0 → next ≡ entered (local_of p ctx) block (after_of p ctx) → next ≡ tested (local_of p ctx) e block (rest_of p ctx)
tested_first p ctx value s e block next here layer is nonzero moved =
    moved
    ∙ ap (λ after. entered (local_of p ctx) block after)
    (todo_after_again (level_of p ctx) ctx.at s here (ap comes_again layer)
    ∙ ap (λ l. again_of l s ∷ rest_of p ctx) layer)
    ∙ sym (chosen_taken (value_of (local_of p ctx).top.locals e) _ _ (rw is at nonzero))
