-- The faults of bodies: the first of them, and where they are met.
use Rattle.std.proofs.Common.{◌≡◌, ℕ, ◌+◌, ◌-◌, ◌==◌, false, nat_le, not, List, ◌++◌, length, map, Option, Some, None, Ok, refl, sym, ap, subst, ◌∙◌}
use Rattle.thread_tree.specs.declared.place.At.{At}
use Rattle.thread_tree.specs.declared.place.Place.{Place}
use Rattle.thread_tree.specs.declared.token.Placed.{Placed}
use Rattle.thread_tree.specs.declared.block.Block.{Block, out-Block, fold_out-Block}
use Rattle.thread_tree.specs.declared.block.Stmt.{Stmt, out-Stmt, fold_out-Stmt, map-Stmt}
use Rattle.thread_tree.specs.declared.block.Stmt.TheOpen.{Stmt-F, Block-F}
use Rattle.thread_tree.specs.declared.block.Stmt.TheOpen as stmt
use Rattle.thread_tree.specs.Kinds.{result_count, kind_of_call}
use Rattle.thread_tree.specs.SpellingOfBlocks.{SpellsGiven, no_given, given, SpellsBlock, block, SpellsStmts, no_stmts, stmts, SpellsStmt, let_to, set, apply_to, apply, if_only, if_else, while_loop, ploop as ploop_spelled, break_loop, return_only, return_value, atomic, call}
use Rattle.thread_check.specs.declared.fault.Kind.TheVariants as kind
use Rattle.thread_check.specs.Verdict.{same_count, within_limit}
use Rattle.thread_check.specs.Scope.{Scope, with_local, looping, ploop, closed, after_call}
use Rattle.thread_check.specs.Names.{Names, sort_of_declaration, arity, peak_of}
use Rattle.thread_check.specs.Blocks.{Rule, allowed, if_some, in_turn}
use Rattle.thread_check.specs.Transactions.{Transaction}
use Rattle.thread_check.specs.Statements.{taker, callee_rule, atomic_rule, statement_layer, block_layer, statement_rule, block_rule, statement_parts, block_parts}
use Rattle.fault_places.specs.Sorts.{used_as_local, used_as_function}
use Rattle.fault_places.specs.Found.{answer}
use Rattle.fault_places.specs.OfCalls.{takers_faults}
use Rattle.fault_places.specs.OfBlocks.{Walk, walk_if_some, walk_in_turn, walk_block}
use Rattle.fault_places.specs.OfStatements.{taker_faults, callee_faults, ploop_faults, atomic_walk, statement_steps, block_steps, statement_walk, block_walk}
use Rattle.fault_places.proofs.Answers.{Finds, Gives, one, none, both, left_as, ahead, passes, joined_three}
use Rattle.fault_places.proofs.Ways.{AreIn, Meets, none_met, at_both, then_way, meet, skip, skip_placed}
use Rattle.fault_places.proofs.Places.{used_at, count_at, limit_at, allowed_at}
use Rattle.fault_places.proofs.Expressions.{expression_finds, expression_met, expressions_find}
use Rattle.fault_places.proofs.Calls.{takers_find, takers_met, results_met, arguments_met, call_finds, call_met}
use Rattle.fault_places.proofs.Blocks.{IsWalked, new_local_finds, new_local_at, no_walk, first_walk, block_walked}
use Rattle.fault_places.proofs.Transactions.{tblock_walked}

-- the transaction of an `atomic` block with these names
abbrev transaction : Names → Scope → List At → Transaction
transaction names scope to = record { names = names; outside = scope.locals; given = length to - 1 }

module _ (names : Names) where
  -- a statement's walk by its layer
  abbrev steps_of : Stmt-F Stmt Block → Walk
  steps_of s = statement_steps names (block_walk names) s

  rules_in_layer : (s : Stmt-F Stmt Block) → statement_layer names (λ rule. rule) (map-Stmt Stmt Block Rule Rule (statement_rule names) (block_rule names) s) ≡ statement_parts names s
  rules_in_layer (stmt.Let at e) = refl
  rules_in_layer (stmt.Set at e) = refl
  rules_in_layer (stmt.Apply to callee es) = refl
  rules_in_layer (stmt.If e then_block None) = refl
  rules_in_layer (stmt.If e then_block (Some other)) = refl
  rules_in_layer (stmt.While e body) = refl
  rules_in_layer (stmt.Ploop place body) = refl
  rules_in_layer (stmt.Break place) = refl
  rules_in_layer (stmt.Return place None) = refl
  rules_in_layer (stmt.Return place (Some e)) = refl
  rules_in_layer (stmt.Atomic place to body) = refl
  rules_in_layer (stmt.Call place c to) = refl

  walks_in_layer : (s : Stmt-F Stmt Block) → statement_steps names (λ walk. walk) (map-Stmt Stmt Block Walk Walk (statement_walk names) (block_walk names) s) ≡ steps_of s
  walks_in_layer (stmt.Let at e) = refl
  walks_in_layer (stmt.Set at e) = refl
  walks_in_layer (stmt.Apply to callee es) = refl
  walks_in_layer (stmt.If e then_block None) = refl
  walks_in_layer (stmt.If e then_block (Some other)) = refl
  walks_in_layer (stmt.While e body) = refl
  walks_in_layer (stmt.Ploop place body) = refl
  walks_in_layer (stmt.Break place) = refl
  walks_in_layer (stmt.Return place None) = refl
  walks_in_layer (stmt.Return place (Some e)) = refl
  walks_in_layer (stmt.Atomic place to body) = refl
  walks_in_layer (stmt.Call place c to) = refl

  rule_out : (s : Stmt) (scope : Scope) → statement_rule names s scope ≡ statement_parts names (out-Stmt s) scope
  unfolding block_rule statement_rule
  rule_out s scope =
      ap (λ rule. rule scope) (fold_out-Stmt Rule Rule (statement_layer names (λ rule. rule)) block_layer s ∙ rules_in_layer (out-Stmt s))

  walk_out : (s : Stmt) (scope : Scope) → statement_walk names s scope ≡ steps_of (out-Stmt s) scope
  unfolding block_walk statement_walk
  walk_out s scope =
      ap (λ walk. walk scope) (fold_out-Stmt Walk Walk (statement_steps names (λ walk. walk)) block_steps s ∙ walks_in_layer (out-Stmt s))

  block_rule_out : (b : Block) (scope : Scope) → block_rule names b scope ≡ block_parts names (out-Block b) scope
  unfolding block_rule statement_rule
  block_rule_out b scope = ap (λ rule. rule scope) (fold_out-Block Rule Rule (statement_layer names (λ rule. rule)) block_layer b)

  block_walk_out : (b : Block) (scope : Scope) → block_walk names b scope ≡ walk_block (out-Block b).place (map (statement_walk names) (out-Block b).stmts) scope
  unfolding block_walk statement_walk
  block_walk_out b scope = ap (λ walk. walk scope) (fold_out-Block Walk Walk (statement_steps names (λ walk. walk)) block_steps b)

  -- a statement, by its layer
  by_layer : {a b : List Placed} (s : Stmt) {k : Stmt-F Stmt Block} → out-Stmt s ≡ k → ((scope : Scope) → Gives (statement_parts names k scope) (steps_of k scope)) → ((scope : Scope) → Meets a b (steps_of k scope).faults) → IsWalked a b (statement_rule names s) (statement_walk names s)
  by_layer {a} {b} s {k} is gives met =
      let walked : (scope : Scope) → statement_walk names s scope ≡ steps_of k scope = λ scope. walk_out s scope ∙ ap (λ x. steps_of x scope) is in
      record {
        gives = λ scope. record { same = rule_out s scope ∙ (ap (λ x. statement_parts names x scope) is ∙ ((gives scope).same ∙ sym (ap answer (walked scope)))) };
        met = λ scope. subst (λ x. Meets a b x.faults) (sym (walked scope)) (met scope);
      }

  -- a block, by its layer
  by_block : {a b : List Placed} (x : Block) → IsWalked a b (block_parts names (out-Block x)) (walk_block (out-Block x).place (map (statement_walk names) (out-Block x).stmts)) → IsWalked a b (block_rule names x) (block_walk names x)
  by_block {a} {b} x walked = record {
    gives = λ scope. record { same = block_rule_out x scope ∙ ((walked.gives scope).same ∙ sym (ap answer (block_walk_out x scope))) };
    met = λ scope. subst (λ y. Meets a b y.faults) (sym (block_walk_out x scope)) (walked.met scope);
  }

  -- a local that takes a result
  taker_finds : (scope : Scope) (to : Option At) → Finds (taker names scope to) (taker_faults names scope to)
  unfolding taker taker_faults
  taker_finds scope None = none
  taker_finds scope (Some at) = one (used_as_local names scope at)

  taker_at : (scope : Scope) (at : At) → AreIn at.place 2 0 (taker_faults names scope (Some at))
  unfolding taker_faults
  taker_at scope at = used_at names scope _ at

  none_taken : {a b : List Placed} {fs : List _} (scope : Scope) → Meets a b fs → Meets a b (taker_faults names scope None ++ fs)
  unfolding taker_faults
  none_taken scope way = way

  -- a callee
  callee_finds : (scope : Scope) (callee : At) (count : ℕ) → Finds (callee_rule names scope callee count) (callee_faults names scope callee count)
  unfolding callee_rule sort_of_declaration
  callee_finds scope callee count =
      both (one (used_as_function names scope callee))
      (both (one (same_count callee.place (arity names callee.name) count))
      (both (one (within_limit callee.place kind.Locals 48 (length scope.locals + (peak_of names callee.name).locals)))
      (one (within_limit callee.place kind.Nesting 24 (scope.blocks + (peak_of names callee.name).blocks)))))

  callee_at : (scope : Scope) (callee : At) (count : ℕ) → AreIn callee.place 5 0 (callee_faults names scope callee count)
  callee_at scope callee count =
      at_both (used_at names scope _ callee)
      (at_both (count_at callee.place (arity names callee.name) count)
      (at_both (limit_at callee.place kind.Locals 48 (length scope.locals + (peak_of names callee.name).locals))
      (limit_at callee.place kind.Nesting 24 (scope.blocks + (peak_of names callee.name).blocks))))

  -- the word `ploop`
  ploop_at : (scope : Scope) (place : Place) → AreIn place 5 0 (ploop_faults names place scope)
  ploop_at scope place =
      at_both (allowed_at place (not names.in_function)) (at_both (limit_at place kind.Loops 64 (scope.loops + 1)) (limit_at place kind.Scope 16 (length scope.locals)))

  ploop_gives : (scope : Scope) (place : Place) (rule : Rule) (walk : Walk) → Gives (rule (ploop scope)) (walk (ploop scope)) → Gives (statement_layer {S = Rule} {B = Rule} names (λ r. r) (stmt.Ploop place rule) scope) (statement_steps {S = Walk} {B = Walk} names (λ w. w) (stmt.Ploop place walk) scope)
  ploop_gives scope place rule walk inside =
      joined_three (allowed place (not names.in_function)) (within_limit place kind.Loops 64 (scope.loops + 1)) (within_limit place kind.Scope 16 (length scope.locals))
      (both (one (allowed place (not names.in_function))) (both (one (within_limit place kind.Loops 64 (scope.loops + 1))) (one (within_limit place kind.Scope 16 (length scope.locals)))))
      (passes (λ inner. Ok (closed scope inner)) _ inside (λ inner. left_as (closed scope inner)))

  -- the names that get what an `atomic` gives
  given_met : {a b : List Placed} (scope : Scope) (fits : _) {to : List At} → SpellsGiven a b to → Meets a b (takers_faults names scope fits to)
  given_met scope fits no_given = none_met
  given_met scope fits (given o l) = skip o (takers_met names scope fits l)

  mutual
    unfolding atomic_rule atomic_walk

    -- a block
    pub block_of_body_walked : {a b : List Placed} {x : Block} → SpellsBlock a b x → IsWalked a b (block_rule names x) (block_walk names x)
    block_of_body_walked (block {inside} o d c) =
        by_block inside (block_walked (map (statement_rule names) (out-Block inside).stmts) (map (statement_walk names) (out-Block inside).stmts) o (stmts_walked d) c)

    -- statements one after another
    stmts_walked : {a b : List Placed} {ss : List Stmt} → SpellsStmts a b ss → IsWalked a b (in_turn (map (statement_rule names) ss)) (walk_in_turn (map (statement_walk names) ss))
    stmts_walked no_stmts = no_walk
    stmts_walked (stmts {rest = ss} d rest) = first_walk (map (statement_rule names) ss) (map (statement_walk names) ss) (stmt_walked d) (stmts_walked rest)

    -- a statement
    stmt_walked : {a b : List Placed} {s : Stmt} → SpellsStmt a b s → IsWalked a b (statement_rule names s) (statement_walk names s)
    stmt_walked (let_to {s} {name} {e} h l n q x m) =
        by_layer s h
        (λ scope. ahead (new_local_finds names scope name) (ahead (expression_finds names scope e) (left_as (with_local name.name scope))))
        (λ scope. skip l (meet n (new_local_at names scope name) (skip q (then_way (expression_met names scope x) (skip m none_met)))))
    stmt_walked (set {s} {name} {e} h n q x m) =
        by_layer s h
        (λ scope. ahead (one (used_as_local names scope name)) (ahead (expression_finds names scope e) (left_as scope)))
        (λ scope. meet n (used_at names scope _ name) (skip q (then_way (expression_met names scope x) (skip m none_met))))
    stmt_walked (apply_to {s} {name} {function} {es} h n q k o l m) =
        by_layer s h
        (λ scope. ahead (taker_finds scope (Some name)) (ahead (callee_finds scope function (length es)) (ahead (expressions_find names scope es) (left_as (after_call (peak_of names function.name) scope)))))
        (λ scope. meet n (taker_at scope name) (skip q (meet k (callee_at scope function (length es)) (skip o (then_way (arguments_met names scope l) (skip m none_met))))))
    stmt_walked (apply {s} {function} {es} h n o l m) =
        by_layer s h
        (λ scope. ahead (taker_finds scope None) (ahead (callee_finds scope function (length es)) (ahead (expressions_find names scope es) (left_as (after_call (peak_of names function.name) scope)))))
        (λ scope. none_taken scope (meet n (callee_at scope function (length es)) (skip o (then_way (arguments_met names scope l) (skip m none_met)))))
    stmt_walked (if_only {s} {e} h i x d) =
        let inside = block_of_body_walked d in
        by_layer s h
        (λ scope. ahead (expression_finds names scope e) (passes (if_some (block_rule names) None) (walk_if_some (block_walk names) None) (inside.gives scope) (λ inner. left_as inner)))
        (λ scope. skip i (then_way (expression_met names scope x) (then_way (inside.met scope) none_met)))
    stmt_walked (if_else {s} {e} {other} h i x d l f) =
        let inside = block_of_body_walked d in
        let behind = block_of_body_walked f in
        by_layer s h
        (λ scope. ahead (expression_finds names scope e) (passes (if_some (block_rule names) (Some other)) (walk_if_some (block_walk names) (Some other)) (inside.gives scope) behind.gives))
        (λ scope. skip i (then_way (expression_met names scope x) (then_way (inside.met scope) (skip l (behind.met _)))))
    stmt_walked (while_loop {s} {e} h w x d) =
        let inside = block_of_body_walked d in
        by_layer s h
        (λ scope. ahead (expression_finds names scope e) (passes (λ inner. Ok (closed scope inner)) _ (inside.gives (looping scope)) (λ inner. left_as (closed scope inner))))
        (λ scope. skip w (then_way (expression_met names scope x) (then_way (inside.met (looping scope)) none_met)))
    stmt_walked (ploop_spelled {s} {place} {inside = body} h w d) =
        let inside = block_of_body_walked d in
        by_layer s h
        (λ scope. ploop_gives scope place (block_rule names body) (block_walk names body) (inside.gives (ploop scope)))
        (λ scope. meet w (ploop_at scope place) (then_way (inside.met (ploop scope)) none_met))
    stmt_walked (break_loop {s} {place} h w m) =
        by_layer s h (λ scope. ahead (one (allowed place scope.in_loop)) (left_as scope)) (λ scope. meet w (allowed_at place scope.in_loop) (skip m none_met))
    stmt_walked (return_only {s} h w m) = by_layer s h (λ scope. left_as scope) (λ scope. skip_placed w (skip m none_met))
    stmt_walked (return_value {s} {place} {e} h w x m) =
        by_layer s h
        (λ scope. ahead (one (allowed place names.in_function)) (ahead (expression_finds names scope e) (left_as scope)))
        (λ scope. meet w (allowed_at place names.in_function) (then_way (expression_met names scope x) (skip m none_met)))
    stmt_walked (atomic {s} {names = to} {inside = body} h w g d) =
        by_layer s h
        (λ scope. ahead (takers_find names scope (nat_le (length to) 4) to) (passes (λ inner. Ok (record scope { peak = inner.peak })) _ ((tblock_walked (transaction names scope to) d).gives (record scope { in_loop = false })) (λ inner. left_as (record scope { peak = inner.peak }))))
        (λ scope. skip_placed w (then_way (given_met scope (nat_le (length to) 4) g) (then_way ((tblock_walked (transaction names scope to) d).met (record scope { in_loop = false })) none_met)))
    stmt_walked (call {s} {c} {names = to} h asked ends) =
        by_layer s h
        (λ scope. ahead (call_finds names scope c) (ahead (takers_find names scope (length to == result_count (kind_of_call c) 0) to) (left_as scope)))
        (λ scope. then_way (call_met names scope asked) (then_way (results_met names scope (length to == result_count (kind_of_call c) 0) ends) none_met))
