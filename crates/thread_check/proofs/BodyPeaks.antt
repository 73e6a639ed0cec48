-- What the statements of a body add to its peak.
use Rattle.std.proofs.Common.{◌≡◌, ℕ, ◌+◌, ◌-◌, Bool, true, false, not, List, [], ◌∷◌, length, map, Option, Some, None, option_map, if◌then◌else◌, Ok, refl, sym, ap, ◌∙◌, subst}
use Rattle.thread_tree.specs.declared.place.At.{At}
use Rattle.thread_tree.specs.declared.block.Block.{Block, Block-F, fold-roll-Block, roll-Block, map-Block, out-roll-Block}
use Rattle.thread_tree.specs.declared.block.Stmt.{Stmt, Stmt-F, fold-Stmt, fold-roll-Stmt, roll-Stmt, map-Stmt, out-roll-Stmt}
use Rattle.thread_tree.specs.declared.block.Stmt.TheOpen as stmt
use Rattle.thread_tree.specs.declared.transaction.TBlock.{TBlock}
use Rattle.thread_tree.specs.Need.{Need, Weight, nothing, needs, in_turn as need_in_turn, weight_of_layer, need_of_layer, need_of, need_of_tblock}
use Rattle.thread_check.specs.declared.fault.Kind.TheVariants as kind
use Rattle.thread_check.specs.declared.sort.Sort.{Sort}
use Rattle.thread_check.specs.declared.sort.Sort.TheVariants as sort
use Rattle.thread_check.specs.Verdict.{◌>>◌, same_count, within_limit}
use Rattle.thread_check.specs.Scope.{Scope, looping, ploop, closed, after_call, is_local, room_for_call}
use Rattle.thread_check.specs.Names.{Names, declaration_of, sort_of, sort_of_declaration, peak_of, arity}
use Rattle.thread_check.specs.Uses.{used, fitting, same_sort}
use Rattle.thread_check.specs.Blocks.{in_turn, if_some, allowed}
use Rattle.thread_check.specs.Transactions.{Transaction, tblock_rule}
use Rattle.thread_check.specs.Statements.{callee_rule, atomic_rule, statement_parts, block_parts, statement_rule, block_rule}
use Rattle.thread_check.proofs.FewLaws.{kept_first, kept_second, within_limit-kept}
use Rattle.thread_check.proofs.KeptLaws.{passes}
use Rattle.thread_check.proofs.Induction.{each_block}
use Rattle.thread_check.proofs.StatementLaws.{statement_rule_out, block_rule_out}
use Rattle.thread_check.proofs.TransactionPeaks.{tblock_adds}
use Rattle.thread_check.proofs.PeakLaws.{IsCounted, After, AfterTurn, value_of_ok, stays, adds_local, one_or_other, closes, keeps_peak, calls, follows, no_more, opens, new_local-kept}

-- a name that fits where a function must stand is a function's
fitting-function : (at : At) (found : Option Sort) → fitting sort.Function at found ≡ Ok tt → found ≡ Some sort.Function
unfolding same_sort
fitting-function at None kept = cc
fitting-function at (Some sort.Local) kept = cc
fitting-function at (Some sort.Kind) kept = cc
fitting-function at (Some sort.Object) kept = cc
fitting-function at (Some sort.Queue) kept = cc
fitting-function at (Some sort.Semaphore) kept = cc
fitting-function at (Some sort.Function) kept = refl
fitting-function at (Some sort.Thread) kept = cc
fitting-function at (Some sort.Start) kept = cc

-- of a choice between a local and something else that is a function the second was taken
choice-function : (b : Bool) (other : Option Sort) → (if b then Some sort.Local else other) ≡ Some sort.Function → other ≡ Some sort.Function
choice-function true other e = cc
choice-function false other e = e

-- a function's name is no local's
sort_of-function : (names : Names) (scope : Scope) (name : ℕ) → sort_of names scope name ≡ Some sort.Function → option_map sort_of_declaration (declaration_of names name) ≡ Some sort.Function
unfolding sort_of
sort_of-function names scope name found = choice-function (is_local scope.locals name) _ found

-- a used function is declared
pub used-function : (names : Names) (scope : Scope) (at : At) → used names scope sort.Function at ≡ Ok tt → option_map sort_of_declaration (declaration_of names at.name) ≡ Some sort.Function
unfolding used
used-function names scope at kept = sort_of-function names scope at.name (fitting-function at (sort_of names scope at.name) kept)

-- the needs by name are the peaks of the functions in scope
abbrev pub Agrees : Names → (ℕ → Need) → Type 0
Agrees names callee = (name : ℕ) → option_map sort_of_declaration (declaration_of names name) ≡ Some sort.Function → ((callee name).locals ≡ (peak_of names name).locals) × ((callee name).blocks ≡ (peak_of names name).blocks)

module _ (names : Names) (callee : ℕ → Need) (agrees : Agrees names callee) where
  -- the weight of a statement
  abbrev weight_of_stmt : Stmt → Weight
  weight_of_stmt = fold-Stmt Weight Need (weight_of_layer callee) need_of_layer

  -- a statement adds its weight
  abbrev Adds : Stmt → Type 0
  Adds s = (scope end : Scope) → IsCounted scope → statement_rule names s scope ≡ Ok end → After (weight_of_stmt s) scope end

  -- a block adds its need
  abbrev AddsIn : Block → Type 0
  AddsIn b = (scope end : Scope) → IsCounted scope → block_rule names b scope ≡ Ok end → After (needs (need_of callee b)) scope end

  -- what a call adds
  call_adds : (scope end : Scope) (at : At) (count : ℕ) → IsCounted scope → callee_rule names scope at count ≡ Ok tt → after_call (peak_of names at.name) scope ≡ end → After (needs (callee at.name)) scope end
  unfolding callee_rule
  call_adds scope end at count counted kept e =
      let same = agrees at.name (used-function names scope at (kept_first _ _ tt kept)) in
      let room : room_for_call at.place (peak_of names at.name) scope ≡ Ok tt = kept_second (same_count at.place (arity names at.name) count) (room_for_call at.place (peak_of names at.name) scope) tt (kept_second (used names scope sort.Function at) (same_count at.place (arity names at.name) count >> room_for_call at.place (peak_of names at.name) scope) tt kept) in
      calls (peak_of names at.name) (callee at.name) scope end counted same.0 same.1 (within_limit-kept _ _ _ _ (kept_first _ _ tt room)) (within_limit-kept _ _ _ _ (kept_second _ _ tt room)) e

  -- what an `atomic` block adds
  atomic_adds : (to : List At) (body : TBlock) (scope end : Scope) → IsCounted scope → atomic_rule names to body scope ≡ Ok end → After (needs (need_of_tblock body)) scope end
  unfolding atomic_rule
  atomic_adds to body scope end counted kept =
      let t : Transaction = record { names = names; outside = scope.locals; given = length to - 1 } in
      let inside : Scope = record scope { in_loop = false } in
      let p = passes (tblock_rule t body inside) (λ inner. Ok (record scope { peak = inner.peak })) end (kept_second _ _ end kept) in
      let inside_counted : IsCounted inside = record { locals = counted.locals; blocks = counted.blocks; most_locals = counted.most_locals; most_blocks = counted.most_blocks } in
      keeps_peak (need_of_tblock body) scope inside p.left end counted refl refl refl (tblock_adds t body inside p.left inside_counted p.kept) (value_of_ok _ _ p.after)

  module _ (S B : Type 0) (f : S → Stmt) (g : B → Block) (of_f : (s : S) → Adds (f s)) (of_g : (b : B) → AddsIn (g b)) where
    -- what a layer adds
    layer_adds : (x : Stmt-F S B) (scope end : Scope) → IsCounted scope → statement_parts names (map-Stmt S B Stmt Block f g x) scope ≡ Ok end → After (weight_of_layer callee (map-Stmt Stmt Block Weight Need weight_of_stmt (need_of callee) (map-Stmt S B Stmt Block f g x))) scope end
    layer_adds (stmt.Let at e) scope end counted kept =
        adds_local scope end at.name counted (new_local-kept names scope at (kept_first _ _ end kept)) (value_of_ok _ _ (kept_second _ _ end (kept_second _ _ end kept)))
    layer_adds (stmt.Set at e) scope end counted kept = stays scope end counted (value_of_ok _ _ (kept_second _ _ end (kept_second _ _ end kept)))
    layer_adds (stmt.Apply to function arguments) scope end counted kept =
        let rest = kept_second _ _ end kept in
        call_adds scope end function (length arguments) counted (kept_first _ _ end rest) (value_of_ok _ _ (kept_second _ _ end (kept_second _ _ end rest)))
    layer_adds (stmt.If e then_block None) scope end counted kept =
        let p = passes (block_rule names (g then_block) scope) (if_some (block_rule names) None) end (kept_second _ _ end kept) in
        let first = of_g then_block scope p.left counted p.kept in
        one_or_other (need_of callee (g then_block)) nothing scope p.left end first (stays p.left end first.counted (value_of_ok _ _ p.after))
    layer_adds (stmt.If e then_block (Some else_block)) scope end counted kept =
        let p = passes (block_rule names (g then_block) scope) (if_some (block_rule names) (Some (g else_block))) end (kept_second _ _ end kept) in
        let first = of_g then_block scope p.left counted p.kept in
        one_or_other (need_of callee (g then_block)) (need_of callee (g else_block)) scope p.left end first (of_g else_block p.left end first.counted p.after)
    layer_adds (stmt.While e body) scope end counted kept =
        let p = passes (block_rule names (g body) (looping scope)) (λ inner. Ok (closed scope inner)) end (kept_second _ _ end kept) in
        let inside : IsCounted (looping scope) = record { locals = counted.locals; blocks = counted.blocks; most_locals = counted.most_locals; most_blocks = counted.most_blocks } in
        closes (need_of callee (g body)) scope (looping scope) p.left end counted refl refl refl (of_g body (looping scope) p.left inside p.kept) (value_of_ok _ _ p.after)
    layer_adds (stmt.Ploop place body) scope end counted kept =
        let p = passes (block_rule names (g body) (ploop scope)) (λ inner. Ok (closed scope inner)) end (kept_second (within_limit place kind.Scope 16 (length scope.locals)) _ end (kept_second (within_limit place kind.Loops 64 (scope.loops + 1)) _ end (kept_second (allowed place (not names.in_function)) _ end kept))) in
        let inside : IsCounted (ploop scope) = record { locals = counted.locals; blocks = counted.blocks; most_locals = counted.most_locals; most_blocks = counted.most_blocks } in
        closes (need_of callee (g body)) scope (ploop scope) p.left end counted refl refl refl (of_g body (ploop scope) p.left inside p.kept) (value_of_ok _ _ p.after)
    layer_adds (stmt.Break place) scope end counted kept = stays scope end counted (value_of_ok _ _ (kept_second _ _ end kept))
    layer_adds (stmt.Return place None) scope end counted kept = stays scope end counted (value_of_ok _ _ kept)
    layer_adds (stmt.Return place (Some e)) scope end counted kept = stays scope end counted (value_of_ok _ _ (kept_second _ _ end (kept_second _ _ end kept)))
    layer_adds (stmt.Atomic place to body) scope end counted kept = atomic_adds to body scope end counted kept
    layer_adds (stmt.Call place call to) scope end counted kept = stays scope end counted (value_of_ok _ _ (kept_second _ _ end (kept_second _ _ end kept)))

    -- what a statement that is made of a layer adds
    statement_adds : (x : Stmt-F S B) → Adds (roll-Stmt (map-Stmt S B Stmt Block f g x))
    unfolding need_of
    statement_adds x scope end counted kept =
        subst (λ w. After w scope end) (sym (fold-roll-Stmt Weight Need (weight_of_layer callee) need_of_layer (map-Stmt S B Stmt Block f g x))) (layer_adds x scope end counted (sym (statement_rule_out names (roll-Stmt (map-Stmt S B Stmt Block f g x)) scope ∙ ap (λ z. statement_parts names z scope) (out-roll-Stmt (map-Stmt S B Stmt Block f g x))) ∙ kept))

    -- what statements one after another add
    turn_adds : (ss : List S) (scope end : Scope) → IsCounted scope → in_turn (map (statement_rule names) (map f ss)) scope ≡ Ok end → AfterTurn (need_in_turn (map weight_of_stmt (map f ss))) scope end
    turn_adds [] scope end counted kept = no_more scope end counted (value_of_ok _ _ kept)
    turn_adds (s ∷ ss) scope end counted kept =
        let p = passes (statement_rule names (f s) scope) (in_turn (map (statement_rule names) (map f ss))) end kept in
        let first = of_f s scope p.left counted p.kept in
        follows (weight_of_stmt (f s)) (need_in_turn (map weight_of_stmt (map f ss))) scope p.left end first (turn_adds ss p.left end first.counted p.after)

    -- what a block that is made of a layer adds
    block_adds : (x : Block-F S B) → AddsIn (roll-Block (map-Block S B Stmt Block f g x))
    unfolding need_of
    block_adds x scope end counted kept =
        subst (λ n. After (needs n) scope end) (sym (fold-roll-Block Weight Need (weight_of_layer callee) need_of_layer (map-Block S B Stmt Block f g x))) (opens (need_in_turn (map weight_of_stmt (map f x.stmts))) x.place (map (statement_rule names) (map f x.stmts)) scope end counted (λ inner inside turn. turn_adds x.stmts _ inner inside turn) (sym (block_rule_out names (roll-Block (map-Block S B Stmt Block f g x)) scope ∙ ap (λ z. block_parts names z scope) (out-roll-Block (map-Block S B Stmt Block f g x))) ∙ kept))

  -- each block adds its need
  pub body_adds : (b : Block) (scope end : Scope) → IsCounted scope → block_rule names b scope ≡ Ok end → After (needs (need_of callee b)) scope end
  body_adds b =
      each_block Adds AddsIn (λ S B f g of_f of_g x. statement_adds S B f g of_f of_g x) (λ S B f g of_f of_g x. block_adds S B f g of_f of_g x) b
