-- The actions of a block that keeps the rules keep them, under the same names.
use Rattle.std.proofs.Common.{◌≡◌, ℕ, ◌+◌, zero, suc, not, List, [], ◌∷◌, ◌++◌, length, map, Option, Some, None, Ok, sym, ap, ◌∙◌, subst}
use Rattle.std.specs.List.{AllByRecursion, slice_get}
use Rattle.thread_tree.specs.declared.block.Block.{Block, Block-F, roll-Block, map-Block, out-roll-Block}
use Rattle.thread_tree.specs.declared.block.Stmt.{Stmt, Stmt-F, roll-Stmt, map-Stmt, out-roll-Stmt}
use Rattle.thread_tree.specs.declared.block.Stmt.TheOpen as stmt
use Rattle.thread_check.specs.declared.fault.Kind.TheVariants as kind
use Rattle.thread_check.specs.ActionLists.{actions_layer, actions_of, actions_in, actions_in_turn}
use Rattle.thread_check.specs.Verdict.{within_limit}
use Rattle.thread_check.specs.Scope.{Scope, looping, ploop, opened, closed, room_for_block}
use Rattle.thread_check.specs.Names.{Names}
use Rattle.thread_check.specs.Expressions.{expression}
use Rattle.thread_check.specs.Blocks.{in_turn, if_some, allowed}
use Rattle.thread_check.specs.Statements.{statement_rule, block_rule, statement_parts, block_parts}
use Rattle.thread_check.proofs.ActionLaws.{actions_of_out, actions_in_out}
use Rattle.thread_check.proofs.FewLaws.{kept_second}
use Rattle.thread_check.proofs.Induction.{each_block}
use Rattle.thread_check.proofs.KeptLaws.{passes}
use Rattle.thread_check.proofs.StatementLaws.{statement_rule_out, block_rule_out}

-- a statement that keeps the rules under these names
pub record IsKept (names : Names) (s : Stmt) : Type 0 where
  pub scope : Scope
  pub end : Scope
  pub kept : statement_rule names s scope ≡ Ok end

-- all of two lists
pub all_both : {X : Type 0} (P : X → Type 0) (xs ys : List X) → AllByRecursion P xs → AllByRecursion P ys → AllByRecursion P (xs ++ ys)
all_both P [] ys first rest = rest
all_both P (x ∷ xs) ys first rest = (first.0, all_both P xs ys first.1 rest)

-- what holds of all holds of all that it implies
pub all_implied : {X : Type 0} (P Q : X → Type 0) → ((x : X) → P x → Q x) → (xs : List X) → AllByRecursion P xs → AllByRecursion Q xs
all_implied P Q implies [] all = tt
all_implied P Q implies (x ∷ xs) all = (implies x all.0, all_implied P Q implies xs all.1)

-- what holds of all holds of the one at a place
pub all_at : {X : Type 0} (P : X → Type 0) (xs : List X) (k : ℕ) → AllByRecursion P xs → (x : X) → slice_get xs k ≡ Some x → P x
all_at {X} P [] k all x e = absurd (let f : ◌≡◌ {A = Option X} None (Some x) = e in cc)
all_at P (y ∷ ys) zero all x e = let same : y ≡ x = cc in subst P same all.0
all_at P (y ∷ ys) (suc k) all x e = all_at P ys k all.1 x e

module _ (names : Names) where
  -- a statement that keeps the rules has such actions
  abbrev Has : Stmt → Type 0
  Has s = (scope end : Scope) → statement_rule names s scope ≡ Ok end → AllByRecursion (IsKept names) (actions_of s)

  -- a block that does
  abbrev HasIn : Block → Type 0
  HasIn b = (scope end : Scope) → block_rule names b scope ≡ Ok end → AllByRecursion (IsKept names) (actions_in b)

  module _ (S B : Type 0) (f : S → Stmt) (g : B → Block) (of_f : (s : S) → Has (f s)) (of_g : (b : B) → HasIn (g b)) where
    -- the parts of a layer
    layer_has : (x : Stmt-F S B) (t : Stmt) (scope end : Scope) → IsKept names t → statement_parts names (map-Stmt S B Stmt Block f g x) scope ≡ Ok end → AllByRecursion (IsKept names) (actions_layer actions_in (map-Stmt S B Stmt Block f g x) t)
    layer_has (stmt.Let at e) t scope end is kept = tt
    layer_has (stmt.Set at e) t scope end is kept = tt
    layer_has (stmt.Apply to callee arguments) t scope end is kept = tt
    layer_has (stmt.If e block None) t scope end is kept =
        let p = passes (block_rule names (g block) scope) (if_some (block_rule names) None) end (kept_second (expression names scope e) _ end kept) in
        all_both (IsKept names) (actions_in (g block)) [] (of_g block scope p.left p.kept) tt
    layer_has (stmt.If e block (Some other)) t scope end is kept =
        let p = passes (block_rule names (g block) scope) (if_some (block_rule names) (Some (g other))) end (kept_second (expression names scope e) _ end kept) in
        all_both (IsKept names) (actions_in (g block)) (actions_in (g other)) (of_g block scope p.left p.kept) (of_g other p.left end p.after)
    layer_has (stmt.While e block) t scope end is kept =
        let p = passes (block_rule names (g block) (looping scope)) (λ inner. Ok (closed scope inner)) end (kept_second (expression names scope e) _ end kept) in
        of_g block (looping scope) p.left p.kept
    layer_has (stmt.Ploop place block) t scope end is kept =
        let p = passes (block_rule names (g block) (ploop scope)) (λ inner. Ok (closed scope inner)) end (kept_second (within_limit place kind.Scope 16 (length scope.locals)) _ end (kept_second (within_limit place kind.Loops 64 (scope.loops + 1)) _ end (kept_second (allowed place (not names.in_function)) _ end kept))) in
        (is, of_g block (ploop scope) p.left p.kept)
    layer_has (stmt.Break place) t scope end is kept = tt
    layer_has (stmt.Return place value) t scope end is kept = tt
    layer_has (stmt.Atomic place to block) t scope end is kept = (is, tt)
    layer_has (stmt.Call place call to) t scope end is kept = (is, tt)

    -- a statement that is made of a layer
    statement_has : (x : Stmt-F S B) → Has (roll-Stmt (map-Stmt S B Stmt Block f g x))
    statement_has x scope end kept =
        let y : Stmt-F Stmt Block = map-Stmt S B Stmt Block f g x in
        let s : Stmt = roll-Stmt y in
        let parts : statement_parts names y scope ≡ Ok end = sym (statement_rule_out names s scope ∙ ap (λ z. statement_parts names z scope) (out-roll-Stmt y)) ∙ kept in
        subst (AllByRecursion (IsKept names)) (sym (actions_of_out s ∙ ap (λ z. actions_layer actions_in z s) (out-roll-Stmt y)))
        (layer_has x s scope end (record { scope = scope; end = end; kept = kept }) parts)

    -- statements one after another
    turn_has : (ss : List S) (scope end : Scope) → in_turn (map (statement_rule names) (map f ss)) scope ≡ Ok end → AllByRecursion (IsKept names) (actions_in_turn (map f ss))
    turn_has [] scope end kept = tt
    turn_has (s ∷ ss) scope end kept =
        let p = passes (statement_rule names (f s) scope) (in_turn (map (statement_rule names) (map f ss))) end kept in
        all_both (IsKept names) (actions_of (f s)) (actions_in_turn (map f ss)) (of_f s scope p.left p.kept) (turn_has ss p.left end p.after)

    -- a block that is made of a layer
    block_has : (x : Block-F S B) → HasIn (roll-Block (map-Block S B Stmt Block f g x))
    block_has x scope end kept =
        let y : Block-F Stmt Block = map-Block S B Stmt Block f g x in
        let b : Block = roll-Block y in
        let parts : block_parts names y scope ≡ Ok end = sym (block_rule_out names b scope ∙ ap (λ z. block_parts names z scope) (out-roll-Block y)) ∙ kept in
        let p = passes (in_turn (map (statement_rule names) (map f x.stmts)) (opened scope)) (λ inner. Ok (closed scope inner)) end (kept_second (room_for_block x.place scope) _ end parts) in
        subst (AllByRecursion (IsKept names)) (sym (actions_in_out b ∙ ap (λ z. actions_in_turn z.stmts) (out-roll-Block y)))
        (turn_has x.stmts (opened scope) p.left p.kept)

  -- each block that keeps the rules
  pub actions_kept : (b : Block) (scope end : Scope) → block_rule names b scope ≡ Ok end → AllByRecursion (IsKept names) (actions_in b)
  actions_kept b = each_block Has HasIn (λ S B f g of_f of_g x. statement_has S B f g of_f of_g x) (λ S B f g of_f of_g x. block_has S B f g of_f of_g x) b
