-- What an `atomic` block adds to the peak of its body.
use Rattle.std.proofs.Common.{◌≡◌, List, [], ◌∷◌, map, Some, None, Ok, refl, sym, ap, ◌∙◌, subst}
use Rattle.thread_tree.specs.declared.transaction.TBlock.{TBlock, TBlock-F, fold-roll-TBlock, roll-TBlock, map-TBlock, out-roll-TBlock}
use Rattle.thread_tree.specs.declared.transaction.TStmt.{TStmt, TStmt-F, fold-TStmt, fold-roll-TStmt, roll-TStmt, map-TStmt, out-roll-TStmt}
use Rattle.thread_tree.specs.declared.transaction.TStmt.TheOpen as tstmt
use Rattle.thread_tree.specs.Need.{Need, Weight, nothing, needs, in_turn as need_in_turn, weight_of_tlayer, need_of_tlayer, need_of_tblock}
use Rattle.thread_check.specs.Scope.{Scope, looping, closed}
use Rattle.thread_check.specs.Blocks.{in_turn, if_some}
use Rattle.thread_check.specs.Transactions.{Transaction, tstatement_parts, tblock_parts, tstatement_rule, tblock_rule}
use Rattle.thread_check.proofs.FewLaws.{kept_first, kept_second}
use Rattle.thread_check.proofs.KeptLaws.{passes}
use Rattle.thread_check.proofs.Induction.{each_tblock}
use Rattle.thread_check.proofs.TransactionLaws.{tstatement_rule_out, tblock_rule_out}
use Rattle.thread_check.proofs.PeakLaws.{IsCounted, After, AfterTurn, value_of_ok, stays, adds_local, one_or_other, closes, follows, no_more, opens, new_local-kept}

-- the weight of a statement of a transaction
abbrev weight_of_tstmt : TStmt → Weight
weight_of_tstmt = fold-TStmt Weight Need weight_of_tlayer need_of_tlayer

module _ (t : Transaction) where
  -- a statement adds its weight
  abbrev Adds : TStmt → Type 0
  Adds s = (scope end : Scope) → IsCounted scope → tstatement_rule t s scope ≡ Ok end → After (weight_of_tstmt s) scope end

  -- a block adds its need
  abbrev AddsIn : TBlock → Type 0
  AddsIn b = (scope end : Scope) → IsCounted scope → tblock_rule t b scope ≡ Ok end → After (needs (need_of_tblock b)) scope end

  module _ (S B : Type 0) (f : S → TStmt) (g : B → TBlock) (of_f : (s : S) → Adds (f s)) (of_g : (b : B) → AddsIn (g b)) where
    -- what a layer adds
    layer_adds : (x : TStmt-F S B) (scope end : Scope) → IsCounted scope → tstatement_parts t (map-TStmt S B TStmt TBlock f g x) scope ≡ Ok end → After (weight_of_tlayer (map-TStmt TStmt TBlock Weight Need weight_of_tstmt need_of_tblock (map-TStmt S B TStmt TBlock f g x))) scope end
    layer_adds (tstmt.Let at e) scope end counted kept =
        adds_local scope end at.name counted (new_local-kept t.names scope at (kept_first _ _ end kept)) (value_of_ok _ _ (kept_second _ _ end (kept_second _ _ end kept)))
    layer_adds (tstmt.LetNew at kind) scope end counted kept =
        adds_local scope end at.name counted (new_local-kept t.names scope at (kept_first _ _ end kept)) (value_of_ok _ _ (kept_second _ _ end (kept_second _ _ end kept)))
    layer_adds (tstmt.Set at e) scope end counted kept = stays scope end counted (value_of_ok _ _ (kept_second _ _ end (kept_second _ _ end kept)))
    layer_adds (tstmt.SetNew at kind) scope end counted kept = stays scope end counted (value_of_ok _ _ (kept_second _ _ end (kept_second _ _ end kept)))
    layer_adds (tstmt.Store field e) scope end counted kept = stays scope end counted (value_of_ok _ _ (kept_second _ _ end (kept_second _ _ end kept)))
    layer_adds (tstmt.Free e) scope end counted kept = stays scope end counted (value_of_ok _ _ (kept_second _ _ end kept))
    layer_adds (tstmt.If e then_block None) scope end counted kept =
        let p = passes (tblock_rule t (g then_block) scope) (if_some (tblock_rule t) None) end (kept_second _ _ end kept) in
        let first = of_g then_block scope p.left counted p.kept in
        one_or_other (need_of_tblock (g then_block)) nothing scope p.left end first (stays p.left end first.counted (value_of_ok _ _ p.after))
    layer_adds (tstmt.If e then_block (Some else_block)) scope end counted kept =
        let p = passes (tblock_rule t (g then_block) scope) (if_some (tblock_rule t) (Some (g else_block))) end (kept_second _ _ end kept) in
        let first = of_g then_block scope p.left counted p.kept in
        one_or_other (need_of_tblock (g then_block)) (need_of_tblock (g else_block)) scope p.left end first (of_g else_block p.left end first.counted p.after)
    layer_adds (tstmt.While e body) scope end counted kept =
        let p = passes (tblock_rule t (g body) (looping scope)) (λ inner. Ok (closed scope inner)) end (kept_second _ _ end kept) in
        let inside : IsCounted (looping scope) = record { locals = counted.locals; blocks = counted.blocks; most_locals = counted.most_locals; most_blocks = counted.most_blocks } in
        closes (need_of_tblock (g body)) scope (looping scope) p.left end counted refl refl refl (of_g body (looping scope) p.left inside p.kept) (value_of_ok _ _ p.after)
    layer_adds (tstmt.Break place) scope end counted kept = stays scope end counted (value_of_ok _ _ (kept_second _ _ end kept))
    layer_adds (tstmt.Abort place) scope end counted kept = stays scope end counted (value_of_ok _ _ kept)
    layer_adds (tstmt.Give place es) scope end counted kept = stays scope end counted (value_of_ok _ _ (kept_second _ _ end (kept_second _ _ end kept)))

    -- what a statement that is made of a layer adds
    statement_adds : (x : TStmt-F S B) → Adds (roll-TStmt (map-TStmt S B TStmt TBlock f g x))
    unfolding need_of_tblock
    statement_adds x scope end counted kept =
        subst (λ w. After w scope end) (sym (fold-roll-TStmt Weight Need weight_of_tlayer need_of_tlayer (map-TStmt S B TStmt TBlock f g x))) (layer_adds x scope end counted (sym (tstatement_rule_out t (roll-TStmt (map-TStmt S B TStmt TBlock f g x)) scope ∙ ap (λ z. tstatement_parts t z scope) (out-roll-TStmt (map-TStmt S B TStmt TBlock f g x))) ∙ kept))

    -- what statements one after another add
    turn_adds : (ss : List S) (scope end : Scope) → IsCounted scope → in_turn (map (tstatement_rule t) (map f ss)) scope ≡ Ok end → AfterTurn (need_in_turn (map weight_of_tstmt (map f ss))) scope end
    turn_adds [] scope end counted kept = no_more scope end counted (value_of_ok _ _ kept)
    turn_adds (s ∷ ss) scope end counted kept =
        let p = passes (tstatement_rule t (f s) scope) (in_turn (map (tstatement_rule t) (map f ss))) end kept in
        let first = of_f s scope p.left counted p.kept in
        follows (weight_of_tstmt (f s)) (need_in_turn (map weight_of_tstmt (map f ss))) scope p.left end first (turn_adds ss p.left end first.counted p.after)

    -- what a block that is made of a layer adds
    block_adds : (x : TBlock-F S B) → AddsIn (roll-TBlock (map-TBlock S B TStmt TBlock f g x))
    unfolding need_of_tblock
    block_adds x scope end counted kept =
        subst (λ n. After (needs n) scope end) (sym (fold-roll-TBlock Weight Need weight_of_tlayer need_of_tlayer (map-TBlock S B TStmt TBlock f g x))) (opens (need_in_turn (map weight_of_tstmt (map f x.stmts))) x.place (map (tstatement_rule t) (map f x.stmts)) scope end counted (λ inner inside turn. turn_adds x.stmts _ inner inside turn) (sym (tblock_rule_out t (roll-TBlock (map-TBlock S B TStmt TBlock f g x)) scope ∙ ap (λ z. tblock_parts t z scope) (out-roll-TBlock (map-TBlock S B TStmt TBlock f g x))) ∙ kept))

  -- each block adds its need
  pub tblock_adds : (b : TBlock) (scope end : Scope) → IsCounted scope → tblock_rule t b scope ≡ Ok end → After (needs (need_of_tblock b)) scope end
  tblock_adds b =
      each_tblock Adds AddsIn (λ S B f g of_f of_g x. statement_adds S B f g of_f of_g x) (λ S B f g of_f of_g x. block_adds S B f g of_f of_g x) b
