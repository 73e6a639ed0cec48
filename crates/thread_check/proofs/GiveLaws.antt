-- What a block of a transaction gives: by its parts, and as many values as are wanted where it keeps the rules.
use Rattle.std.proofs.Common.{◌≡◌, ℕ, ◌==◌, Bool, cond, true, false, Err, List, [], ◌∷◌, length, map, Some, None, Ok, refl, sym, ap, ◌∙◌}
use Rattle.std.proofs.lemmas.Bool.{and_from}
use Rattle.thread_tree.specs.declared.place.Place.{Place}
use Rattle.thread_tree.specs.declared.transaction.TBlock.{TBlock, TBlock-F, out-TBlock, fold_out-TBlock, roll-TBlock, map-TBlock, out-roll-TBlock}
use Rattle.thread_tree.specs.declared.transaction.TStmt.{TStmt, TStmt-F, out-TStmt, fold_out-TStmt, roll-TStmt, map-TStmt, out-roll-TStmt}
use Rattle.thread_tree.specs.declared.transaction.TStmt.TheOpen as tstmt
use Rattle.thread_check.specs.declared.fault.CheckFault.TheVariants.{WrongCount}
use Rattle.thread_check.specs.Verdict.{Verdict, fine, same_count}
use Rattle.thread_check.specs.Scope.{Scope, looping, opened, closed, room_for_block}
use Rattle.thread_check.specs.Expressions.{expression}
use Rattle.thread_check.specs.Blocks.{in_turn, if_some}
use Rattle.thread_check.specs.Transactions.{Transaction, tstatement_rule, tblock_rule, tstatement_parts, tblock_parts}
use Rattle.thread_check.specs.Gives.{all_hold, gives_layer, gives_block_layer, statement_gives, block_gives, statement_parts_give, block_parts_give}
use Rattle.thread_check.proofs.FewLaws.{kept_first, kept_second}
use Rattle.thread_check.proofs.KeptLaws.{passes}
use Rattle.thread_check.proofs.Induction.{each_tblock}
use Rattle.thread_check.proofs.TransactionLaws.{tblock_rule_out, tstatement_rule_out}

-- a block gives what its statements do
pub block_gives_out : (given : ℕ) (b : TBlock) → block_gives given b ≡ block_parts_give given (out-TBlock b)
unfolding block_gives statement_gives
block_gives_out given b = fold_out-TBlock Bool Bool (gives_layer given (λ test. test)) gives_block_layer b

-- the blocks of a layer may be read after or before what they give is
layer_of_tests : (given : ℕ) (s : TStmt-F TStmt TBlock) → gives_layer given (λ test. test) (map-TStmt TStmt TBlock Bool Bool (statement_gives given) (block_gives given) s) ≡ statement_parts_give given s
layer_of_tests given (tstmt.Let at e) = refl
layer_of_tests given (tstmt.LetNew at kind) = refl
layer_of_tests given (tstmt.Set at e) = refl
layer_of_tests given (tstmt.SetNew at kind) = refl
layer_of_tests given (tstmt.Store field e) = refl
layer_of_tests given (tstmt.Free e) = refl
layer_of_tests given (tstmt.If e then_block None) = refl
layer_of_tests given (tstmt.If e then_block (Some block)) = refl
layer_of_tests given (tstmt.While e body) = refl
layer_of_tests given (tstmt.Break place) = refl
layer_of_tests given (tstmt.Abort place) = refl
layer_of_tests given (tstmt.Give place es) = refl

-- a statement gives what its parts do
pub statement_gives_out : (given : ℕ) (s : TStmt) → statement_gives given s ≡ statement_parts_give given (out-TStmt s)
unfolding block_gives statement_gives
statement_gives_out given s = fold_out-TStmt Bool Bool (gives_layer given (λ test. test)) gives_block_layer s ∙ layer_of_tests given (out-TStmt s)

-- a count that is the wanted one
pub is_wanted : (place : Place) (wanted count : ℕ) → same_count place wanted count ≡ Ok tt → (count == wanted) ≡ true
unfolding same_count
is_wanted place wanted count kept = go (count == wanted) kept
  where
    go : (b : Bool) → cond b fine (Err (WrongCount place)) ≡ Ok tt → b ≡ true
    go true e = refl
    go false e = absurd (let f : ◌≡◌ {A = Verdict} (Err (WrongCount place)) (Ok tt) = e in cc)

module _ (t : Transaction) where
  -- a statement that keeps the rules gives as many
  abbrev Gives : TStmt → Type 0
  Gives s = (scope end : Scope) → tstatement_rule t s scope ≡ Ok end → statement_gives t.given s ≡ true

  -- a block that does
  abbrev GivesIn : TBlock → Type 0
  GivesIn b = (scope end : Scope) → tblock_rule t b scope ≡ Ok end → block_gives t.given b ≡ true

  module _ (S B : Type 0) (f : S → TStmt) (g : B → TBlock) (of_f : (s : S) → Gives (f s)) (of_g : (b : B) → GivesIn (g b)) where
    -- the parts of a layer
    layer_gives : (x : TStmt-F S B) (scope end : Scope) → tstatement_parts t (map-TStmt S B TStmt TBlock f g x) scope ≡ Ok end → statement_parts_give t.given (map-TStmt S B TStmt TBlock f g x) ≡ true
    layer_gives (tstmt.Let at e) scope end kept = refl
    layer_gives (tstmt.LetNew at kind) scope end kept = refl
    layer_gives (tstmt.Set at e) scope end kept = refl
    layer_gives (tstmt.SetNew at kind) scope end kept = refl
    layer_gives (tstmt.Store field e) scope end kept = refl
    layer_gives (tstmt.Free e) scope end kept = refl
    layer_gives (tstmt.If e then_block None) scope end kept =
        let p = passes (tblock_rule t (g then_block) scope) (if_some (tblock_rule t) None) end (kept_second (expression t.names scope e) _ end kept) in
        and_from (block_gives t.given (g then_block)) true (of_g then_block scope p.left p.kept) refl
    layer_gives (tstmt.If e then_block (Some else_block)) scope end kept =
        let p = passes (tblock_rule t (g then_block) scope) (if_some (tblock_rule t) (Some (g else_block))) end (kept_second (expression t.names scope e) _ end kept) in
        and_from (block_gives t.given (g then_block)) (block_gives t.given (g else_block)) (of_g then_block scope p.left p.kept) (of_g else_block p.left end p.after)
    layer_gives (tstmt.While e body) scope end kept =
        let p = passes (tblock_rule t (g body) (looping scope)) (λ inner. Ok (closed scope inner)) end (kept_second (expression t.names scope e) _ end kept) in
        of_g body (looping scope) p.left p.kept
    layer_gives (tstmt.Break place) scope end kept = refl
    layer_gives (tstmt.Abort place) scope end kept = refl
    layer_gives (tstmt.Give place es) scope end kept = is_wanted place t.given (length es) (kept_first (same_count place t.given (length es)) _ end kept)

    -- a statement that is made of a layer
    made_gives : (x : TStmt-F S B) → Gives (roll-TStmt (map-TStmt S B TStmt TBlock f g x))
    made_gives x scope end kept =
        let y : TStmt-F TStmt TBlock = map-TStmt S B TStmt TBlock f g x in
        let s : TStmt = roll-TStmt y in
        let parts = layer_gives x scope end (sym (tstatement_rule_out t s scope ∙ ap (λ z. tstatement_parts t z scope) (out-roll-TStmt y)) ∙ kept) in
        statement_gives_out t.given s ∙ ap (statement_parts_give t.given) (out-roll-TStmt y) ∙ parts

    -- statements one after another
    turn_gives : (ss : List S) (scope end : Scope) → in_turn (map (tstatement_rule t) (map f ss)) scope ≡ Ok end → all_hold (map (statement_gives t.given) (map f ss)) ≡ true
    turn_gives [] scope end kept = refl
    turn_gives (s ∷ ss) scope end kept =
        let p = passes (tstatement_rule t (f s) scope) (in_turn (map (tstatement_rule t) (map f ss))) end kept in
        and_from (statement_gives t.given (f s)) (all_hold (map (statement_gives t.given) (map f ss))) (of_f s scope p.left p.kept) (turn_gives ss p.left end p.after)

    -- a block that is made of a layer
    made_block_gives : (x : TBlock-F S B) → GivesIn (roll-TBlock (map-TBlock S B TStmt TBlock f g x))
    made_block_gives x scope end kept =
        let y : TBlock-F TStmt TBlock = map-TBlock S B TStmt TBlock f g x in
        let b : TBlock = roll-TBlock y in
        let parts : tblock_parts t y scope ≡ Ok end = sym (tblock_rule_out t b scope ∙ ap (λ z. tblock_parts t z scope) (out-roll-TBlock y)) ∙ kept in
        let p = passes (in_turn (map (tstatement_rule t) (map f x.stmts)) (opened scope)) (λ inner. Ok (closed scope inner)) end (kept_second (room_for_block x.place scope) _ end parts) in
        block_gives_out t.given b ∙ ap (block_parts_give t.given) (out-roll-TBlock y) ∙ turn_gives x.stmts (opened scope) p.left p.kept

  -- each block that keeps the rules
  pub gives : (b : TBlock) (scope end : Scope) → tblock_rule t b scope ≡ Ok end → block_gives t.given b ≡ true
  gives b = each_tblock Gives GivesIn (λ S B f g of_f of_g x. made_gives S B f g of_f of_g x) (λ S B f g of_f of_g x. made_block_gives S B f g of_f of_g x) b
