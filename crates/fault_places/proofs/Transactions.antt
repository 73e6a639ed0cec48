-- The faults of transactions: the first of them, and where they are met.
use Rattle.std.proofs.Common.{◌≡◌, if◌then◌else◌, List, length, map, Some, None, Ok, Err, refl, sym, ap, subst, ◌∙◌}
use Rattle.thread_tree.specs.declared.place.At.{At}
use Rattle.thread_tree.specs.declared.expr.Expr.{Expr}
use Rattle.thread_tree.specs.declared.token.Placed.{Placed}
use Rattle.thread_tree.specs.declared.transaction.TBlock.{TBlock, out-TBlock, fold_out-TBlock}
use Rattle.thread_tree.specs.declared.transaction.TStmt.{TStmt, out-TStmt, fold_out-TStmt, map-TStmt}
use Rattle.thread_tree.specs.declared.transaction.TStmt.TheOpen.{TStmt-F, TBlock-F}
use Rattle.thread_tree.specs.declared.transaction.TStmt.TheOpen as tstmt
use Rattle.thread_tree.specs.SpellingOfTransactions.{SpellsValues, no_values, values, SpellsTBlock, tblock, SpellsTStmts, no_tstmts, tstmts, SpellsTStmt, tlet, tlet_new, tset, tset_new, store, free, tif, tif_else, twhile, tbreak, abort, tgive}
use Rattle.thread_check.specs.declared.fault.CheckFault.TheVariants.{NotAllowedHere}
use Rattle.thread_check.specs.Verdict.{fine, same_count}
use Rattle.thread_check.specs.Scope.{Scope, is_local, with_local, looping, closed}
use Rattle.thread_check.specs.Names.{sort_of_declaration}
use Rattle.thread_check.specs.Blocks.{Rule, allowed, if_some, in_turn}
use Rattle.thread_check.specs.Transactions.{Transaction, own_local, tstatement_layer, tblock_layer, tstatement_rule, tblock_rule, tstatement_parts, tblock_parts}
use Rattle.fault_places.specs.Sorts.{used_as_local, used_as_kind}
use Rattle.fault_places.specs.Found.{answer}
use Rattle.fault_places.specs.OfExpressions.{expressions_faults}
use Rattle.fault_places.specs.OfBlocks.{Walk, walk_if_some, walk_in_turn, walk_block}
use Rattle.fault_places.specs.OfTransactions.{own_local_faults, tstatement_steps, tblock_steps, tstatement_walk, tblock_walk}
use Rattle.fault_places.proofs.Answers.{Finds, Gives, one, both, left_as, ahead, passes}
use Rattle.fault_places.proofs.Ways.{AreIn, Meets, none_met, at_both, then_way, meet, skip, skip_placed, then_last}
use Rattle.fault_places.proofs.Places.{used_at, count_at, allowed_at, not_allowed_at}
use Rattle.fault_places.proofs.Expressions.{field_finds, field_met, expression_finds, expression_met, expressions_find, expressions_met}
use Rattle.fault_places.proofs.Blocks.{IsWalked, new_local_finds, new_local_at, no_walk, first_walk, block_walked}

module _ (t : Transaction) where
  -- a statement's walk by its layer
  abbrev steps_of : TStmt-F TStmt TBlock → Walk
  steps_of stmt = tstatement_steps t (tblock_walk t) stmt

  rules_in_layer : (stmt : TStmt-F TStmt TBlock) → tstatement_layer t (λ rule. rule) (map-TStmt TStmt TBlock Rule Rule (tstatement_rule t) (tblock_rule t) stmt) ≡ tstatement_parts t stmt
  rules_in_layer (tstmt.Let at e) = refl
  rules_in_layer (tstmt.LetNew at kind) = refl
  rules_in_layer (tstmt.Set at e) = refl
  rules_in_layer (tstmt.SetNew at kind) = refl
  rules_in_layer (tstmt.Store field e) = refl
  rules_in_layer (tstmt.Free e) = refl
  rules_in_layer (tstmt.If e then_block None) = refl
  rules_in_layer (tstmt.If e then_block (Some block)) = refl
  rules_in_layer (tstmt.While e body) = refl
  rules_in_layer (tstmt.Break place) = refl
  rules_in_layer (tstmt.Abort place) = refl
  rules_in_layer (tstmt.Give place es) = refl

  walks_in_layer : (stmt : TStmt-F TStmt TBlock) → tstatement_steps t (λ walk. walk) (map-TStmt TStmt TBlock Walk Walk (tstatement_walk t) (tblock_walk t) stmt) ≡ steps_of stmt
  walks_in_layer (tstmt.Let at e) = refl
  walks_in_layer (tstmt.LetNew at kind) = refl
  walks_in_layer (tstmt.Set at e) = refl
  walks_in_layer (tstmt.SetNew at kind) = refl
  walks_in_layer (tstmt.Store field e) = refl
  walks_in_layer (tstmt.Free e) = refl
  walks_in_layer (tstmt.If e then_block None) = refl
  walks_in_layer (tstmt.If e then_block (Some block)) = refl
  walks_in_layer (tstmt.While e body) = refl
  walks_in_layer (tstmt.Break place) = refl
  walks_in_layer (tstmt.Abort place) = refl
  walks_in_layer (tstmt.Give place es) = refl

  rule_out : (s : TStmt) (scope : Scope) → tstatement_rule t s scope ≡ tstatement_parts t (out-TStmt s) scope
  unfolding tblock_rule tstatement_rule
  rule_out s scope =
      ap (λ rule. rule scope) (fold_out-TStmt Rule Rule (tstatement_layer t (λ rule. rule)) tblock_layer s ∙ rules_in_layer (out-TStmt s))

  walk_out : (s : TStmt) (scope : Scope) → tstatement_walk t s scope ≡ steps_of (out-TStmt s) scope
  unfolding tblock_walk tstatement_walk
  walk_out s scope =
      ap (λ walk. walk scope) (fold_out-TStmt Walk Walk (tstatement_steps t (λ walk. walk)) tblock_steps s ∙ walks_in_layer (out-TStmt s))

  block_rule_out : (b : TBlock) (scope : Scope) → tblock_rule t b scope ≡ tblock_parts t (out-TBlock b) scope
  unfolding tblock_rule tstatement_rule
  block_rule_out b scope = ap (λ rule. rule scope) (fold_out-TBlock Rule Rule (tstatement_layer t (λ rule. rule)) tblock_layer b)

  block_walk_out : (b : TBlock) (scope : Scope) → tblock_walk t b scope ≡ walk_block (out-TBlock b).place (map (tstatement_walk t) (out-TBlock b).stmts) scope
  unfolding tblock_walk tstatement_walk
  block_walk_out b scope = ap (λ walk. walk scope) (fold_out-TBlock Walk Walk (tstatement_steps t (λ walk. walk)) tblock_steps b)

  -- a statement, by its layer
  by_layer : {a b : List Placed} (s : TStmt) {k : TStmt-F TStmt TBlock} → out-TStmt s ≡ k → ((scope : Scope) → Gives (tstatement_parts t k scope) (steps_of k scope)) → ((scope : Scope) → Meets a b (steps_of k scope).faults) → IsWalked a b (tstatement_rule t s) (tstatement_walk t s)
  by_layer {a} {b} s {k} is gives met =
      let walked : (scope : Scope) → tstatement_walk t s scope ≡ steps_of k scope = λ scope. walk_out s scope ∙ ap (λ x. steps_of x scope) is in
      record {
        gives = λ scope. record { same = rule_out s scope ∙ (ap (λ x. tstatement_parts t x scope) is ∙ ((gives scope).same ∙ sym (ap answer (walked scope)))) };
        met = λ scope. subst (λ x. Meets a b x.faults) (sym (walked scope)) (met scope);
      }

  -- a block, by its layer
  by_block : {a b : List Placed} (x : TBlock) → IsWalked a b (tblock_parts t (out-TBlock x)) (walk_block (out-TBlock x).place (map (tstatement_walk t) (out-TBlock x).stmts)) → IsWalked a b (tblock_rule t x) (tblock_walk t x)
  by_block {a} {b} x walked = record {
    gives = λ scope. record { same = block_rule_out x scope ∙ ((walked.gives scope).same ∙ sym (ap answer (block_walk_out x scope))) };
    met = λ scope. subst (λ y. Meets a b y.faults) (sym (block_walk_out x scope)) (walked.met scope);
  }

  -- a local that the block assigns to
  own_local_finds : (scope : Scope) (at : At) → Finds (own_local t scope at) (own_local_faults t scope at)
  unfolding own_local
  own_local_finds scope at = both (one (used_as_local t.names scope at)) (one (if is_local t.outside at.name then Err (NotAllowedHere at.place) else fine))

  own_local_at : (scope : Scope) (at : At) → AreIn at.place 5 0 (own_local_faults t scope at)
  own_local_at scope at = at_both (used_at t.names scope _ at) (not_allowed_at at.place (is_local t.outside at.name))

  -- the values of a `give`
  values_met : {a b : List Placed} (scope : Scope) {es : List Expr} → SpellsValues a b es → Meets a b (expressions_faults t.names scope es)
  values_met scope (no_values m) = skip m none_met
  values_met scope (values l m) = then_last (expressions_met t.names scope l) m

  mutual
    unfolding sort_of_declaration

    -- a block
    pub tblock_walked : {a b : List Placed} {x : TBlock} → SpellsTBlock a b x → IsWalked a b (tblock_rule t x) (tblock_walk t x)
    tblock_walked (tblock {inside} o d c) =
        by_block inside (block_walked (map (tstatement_rule t) (out-TBlock inside).stmts) (map (tstatement_walk t) (out-TBlock inside).stmts) o (tstmts_walked d) c)

    -- statements one after another
    tstmts_walked : {a b : List Placed} {ss : List TStmt} → SpellsTStmts a b ss → IsWalked a b (in_turn (map (tstatement_rule t) ss)) (walk_in_turn (map (tstatement_walk t) ss))
    tstmts_walked no_tstmts = no_walk
    tstmts_walked (tstmts {rest = ss} d rest) = first_walk (map (tstatement_rule t) ss) (map (tstatement_walk t) ss) (tstmt_walked d) (tstmts_walked rest)

    -- a statement
    tstmt_walked : {a b : List Placed} {s : TStmt} → SpellsTStmt a b s → IsWalked a b (tstatement_rule t s) (tstatement_walk t s)
    tstmt_walked (tlet {s} {name} {e} h l n q x m) =
        by_layer s h
        (λ scope. ahead (new_local_finds t.names scope name) (ahead (expression_finds t.names scope e) (left_as (with_local name.name scope))))
        (λ scope. skip l (meet n (new_local_at t.names scope name) (skip q (then_way (expression_met t.names scope x) (skip m none_met)))))
    tstmt_walked (tlet_new {s} {name} {kind} h l n q w k m) =
        by_layer s h
        (λ scope. ahead (new_local_finds t.names scope name) (ahead (one (used_as_kind t.names scope kind)) (left_as (with_local name.name scope))))
        (λ scope. skip l (meet n (new_local_at t.names scope name) (skip q (skip w (meet k (used_at t.names scope _ kind) (skip m none_met))))))
    tstmt_walked (tset {s} {name} {e} h n q x m) =
        by_layer s h
        (λ scope. ahead (own_local_finds scope name) (ahead (expression_finds t.names scope e) (left_as scope)))
        (λ scope. meet n (own_local_at scope name) (skip q (then_way (expression_met t.names scope x) (skip m none_met))))
    tstmt_walked (tset_new {s} {name} {kind} h n q w k m) =
        by_layer s h
        (λ scope. ahead (own_local_finds scope name) (ahead (one (used_as_kind t.names scope kind)) (left_as scope)))
        (λ scope. meet n (own_local_at scope name) (skip q (skip w (meet k (used_at t.names scope _ kind) (skip m none_met)))))
    tstmt_walked (store {s} {f} {e} h d q x m) =
        by_layer s h
        (λ scope. ahead (field_finds t.names scope f) (ahead (expression_finds t.names scope e) (left_as scope)))
        (λ scope. then_way (field_met t.names scope d) (skip q (then_way (expression_met t.names scope x) (skip m none_met))))
    tstmt_walked (free {s} {e} h w x m) =
        by_layer s h
        (λ scope. ahead (expression_finds t.names scope e) (left_as scope))
        (λ scope. skip w (then_way (expression_met t.names scope x) (skip m none_met)))
    tstmt_walked (tif {s} {e} h i x d) =
        let inside = tblock_walked d in
        by_layer s h
        (λ scope. ahead (expression_finds t.names scope e) (passes (if_some (tblock_rule t) None) (walk_if_some (tblock_walk t) None) (inside.gives scope) (λ inner. left_as inner)))
        (λ scope. skip i (then_way (expression_met t.names scope x) (then_way (inside.met scope) none_met)))
    tstmt_walked (tif_else {s} {e} {other} h i x d l f) =
        let inside = tblock_walked d in
        let behind = tblock_walked f in
        by_layer s h
        (λ scope. ahead (expression_finds t.names scope e) (passes (if_some (tblock_rule t) (Some other)) (walk_if_some (tblock_walk t) (Some other)) (inside.gives scope) behind.gives))
        (λ scope. skip i (then_way (expression_met t.names scope x) (then_way (inside.met scope) (skip l (behind.met _)))))
    tstmt_walked (twhile {s} {e} h w x d) =
        let inside = tblock_walked d in
        by_layer s h
        (λ scope. ahead (expression_finds t.names scope e) (passes (λ inner. Ok (closed scope inner)) _ (inside.gives (looping scope)) (λ inner. left_as (closed scope inner))))
        (λ scope. skip w (then_way (expression_met t.names scope x) (then_way (inside.met (looping scope)) none_met)))
    tstmt_walked (tbreak {s} {place} h w m) =
        by_layer s h (λ scope. ahead (one (allowed place scope.in_loop)) (left_as scope)) (λ scope. meet w (allowed_at place scope.in_loop) (skip m none_met))
    tstmt_walked (abort {s} h w m) = by_layer s h (λ scope. left_as scope) (λ scope. skip_placed w (skip m none_met))
    tstmt_walked (tgive {s} {place} {es} h w v) =
        by_layer s h
        (λ scope. ahead (one (same_count place t.given (length es))) (ahead (expressions_find t.names scope es) (left_as scope)))
        (λ scope. meet w (count_at place t.given (length es)) (then_way (values_met scope v) none_met))
