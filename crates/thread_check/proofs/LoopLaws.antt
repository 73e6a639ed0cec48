-- The persistent loops of a body are those that the check counted.
use Rattle.std.proofs.Common.{◌≡◌, ℕ, ◌+◌, ◌≤◌, true, false, not, List, [], ◌∷◌, ◌++◌, length, map, All, Some, None, is_some, Ok, refl, sym, ap, ◌∙◌, subst, arith, cond, length-append}
use Rattle.std.proofs.lemmas.List.{append-nil}
use Rattle.std.proofs.lemmas.List.Elements.{All-append, filter-append}
use Rattle.std.specs.List.{filter}
use Rattle.thread_tree.specs.declared.place.At.{At}
use Rattle.thread_tree.specs.declared.block.Block.{Block, Block-F, para-roll-Block, roll-Block, map-Block, out-roll-Block}
use Rattle.thread_tree.specs.declared.block.Stmt.{Stmt, Stmt-F, para-roll-Stmt, para-Stmt, roll-Stmt, map-Stmt, out-Stmt, out-roll-Stmt}
use Rattle.thread_tree.specs.declared.block.Stmt.TheOpen as stmt
use Rattle.thread_tree.specs.declared.transaction.TBlock.{TBlock}
use Rattle.thread_tree.specs.LocalState.{Thing, loop_block}
use Rattle.thread_tree.specs.LocalState.Thing.{Do, End, Test, Turn}
use Rattle.thread_tree.specs.Actions.{Spot, SpotsOf, SpotsIn, spots_in, spots_of_layer, spots_in_turn, spots_in_layer, declared_by, is_loop}
use Rattle.thread_check.specs.declared.fault.Kind.TheVariants as kind
use Rattle.thread_check.specs.declared.peak.Peak.{Peak}
use Rattle.thread_check.specs.Verdict.{◌>>=◌, within_limit}
use Rattle.thread_check.specs.Scope.{Scope, with_local, looping, ploop, closed, opened, after_call, room_for_block}
use Rattle.thread_check.specs.Names.{Names, peak_of}
use Rattle.thread_check.specs.Expressions.{expression, expressions}
use Rattle.thread_check.specs.Blocks.{in_turn, if_some, allowed}
use Rattle.thread_check.specs.Transactions.{tblock_rule}
use Rattle.thread_check.specs.Statements.{taker, callee_rule, atomic_rule, statement_parts, block_parts, statement_rule, block_rule}
use Rattle.thread_check.proofs.FewLaws.{kept_first, kept_second, within_limit-kept}
use Rattle.thread_check.proofs.KeptLaws.{passes, All-nil, All-cons}
use Rattle.thread_check.proofs.Induction.{each_block}
use Rattle.thread_check.proofs.StatementLaws.{statement_rule_out, block_rule_out}
use Rattle.thread_check.proofs.PeakLaws.{value_of_ok}

-- a part with these persistent loops: each was counted, with few locals in scope
pub record Counts (loops : List Spot) (before after : ℕ) : Type 0 where
  pub count : after ≡ before + length loops
  pub most : before ≤ 64 → after ≤ 64
  pub few : All (λ spot. length spot.scope ≤ 16) loops

-- the persistent loops among spots
abbrev pub loops_of : List Spot → List Spot
loops_of spots = filter is_loop spots

-- no loop
pub counts_none : (before after : ℕ) → before ≡ after → Counts [] before after
counts_none before after same = record { count = omega arith; most = λ few. omega arith; few = All-nil (λ (spot : Spot). length spot.scope ≤ 16) }

-- the loops of two parts one after another
pub counts_both : (xs ys : List Spot) (before mid after : ℕ) → Counts (loops_of xs) before mid → Counts (loops_of ys) mid after → Counts (loops_of (xs ++ ys)) before after
counts_both xs ys before mid after first second =
    let long : length (loops_of xs ++ loops_of ys) ≡ length (loops_of xs) + length (loops_of ys) = length-append (loops_of xs) (loops_of ys) in
    rw (filter-append is_loop xs ys) (record {
      count = omega (arith, first.count, second.count);
      most = λ few. second.most (first.most few);
      few = All-append (λ (spot : Spot). length spot.scope ≤ 16) (loops_of xs) (loops_of ys) first.few second.few;
    })

-- a loop before those in it
counts_loop : (spot : Spot) (inner : List Spot) (before after : ℕ) → is_loop spot ≡ true → length spot.scope ≤ 16 → before + 1 ≤ 64 → Counts (loops_of inner) (before + 1) after → Counts (loops_of (spot ∷ inner)) before after
counts_loop spot inner before after loop few room rest =
    subst (λ b. Counts (cond b (spot ∷ loops_of inner) (loops_of inner)) before after) (sym loop) (record {
      count = omega (arith, rest.count);
      most = λ small. rest.most room;
      few = All-cons (λ (s : Spot). length s.scope ≤ 16) spot (loops_of inner) few rest.few;
    })

-- another action
counts_other : (spot : Spot) (before after : ℕ) → is_loop spot ≡ false → before ≡ after → Counts (loops_of (spot ∷ [])) before after
counts_other spot before after other same =
    subst (λ b. Counts (cond b (spot ∷ []) []) before after) (sym other) (counts_none before after same)

-- the spots of a statement
abbrev spots_of : Stmt → SpotsOf
spots_of = para-Stmt SpotsOf SpotsIn spots_of_layer spots_in_layer

-- a part that has these loops and leaves these locals more
record Leaves (spots : List Spot) (declares : List ℕ) (scope end : Scope) : Type 0 where
  counts : Counts (loops_of spots) scope.loops end.loops
  locals : end.locals ≡ scope.locals ++ declares

-- a part without loops that leaves the locals
leaves : (scope end : Scope) → scope ≡ end → Leaves [] [] scope end
leaves scope end e = subst (Leaves [] [] scope) e (record { counts = counts_none scope.loops scope.loops refl; locals = sym (append-nil scope.locals) })

-- another action that leaves the locals
leaves_other : (spot : Spot) (scope end : Scope) → is_loop spot ≡ false → scope.loops ≡ end.loops → end.locals ≡ scope.locals → Leaves (spot ∷ []) [] scope end
leaves_other spot scope end other loops locals = record {
  counts = counts_other spot scope.loops end.loops other loops;
  locals = locals ∙ sym (append-nil scope.locals);
}

-- a new local
leaves_local : (scope end : Scope) (name : ℕ) → with_local name scope ≡ end → Leaves [] (name ∷ []) scope end
leaves_local scope end name e = subst (Leaves [] (name ∷ []) scope) e (record { counts = counts_none scope.loops scope.loops refl; locals = refl })

-- a call leaves the locals and has no loop
leaves_call : (callee : Peak) (scope end : Scope) → after_call callee scope ≡ end → Leaves [] [] scope end
leaves_call callee scope end e = subst (Leaves [] [] scope) e (record { counts = counts_none scope.loops scope.loops refl; locals = sym (append-nil scope.locals) })

-- what is a loop by its layer
is_loop-layer : (spot : Spot) (layer : Stmt-F Stmt Block) → out-Stmt spot.statement ≡ layer → is_loop spot ≡ is_some (loop_block layer)
is_loop-layer spot layer e = ap (λ l. is_some (loop_block l)) e

module _ (names : Names) where
  -- a statement has its loops
  abbrev Has : Stmt → Type 0
  Has s = (scope end : Scope) (rest : List Thing) → statement_rule names s scope ≡ Ok end → Leaves (spots_of s s scope.locals rest) (declared_by (out-Stmt s)) scope end

  -- a block has its loops
  abbrev HasIn : Block → Type 0
  HasIn b = (scope end : Scope) (rest : List Thing) → block_rule names b scope ≡ Ok end → Leaves (spots_in b scope.locals rest) [] scope end

  -- an `atomic` block has none
  atomic_has : (to : List At) (body : TBlock) (spot : Spot) (scope end : Scope) → is_loop spot ≡ false → atomic_rule names to body scope ≡ Ok end → Leaves (spot ∷ []) [] scope end
  unfolding atomic_rule
  atomic_has to body spot scope end other kept =
      let p = passes (tblock_rule _ body (record scope { in_loop = false })) (λ inner. Ok (record scope { peak = inner.peak })) end (kept_second _ _ end kept) in
      let e : record scope { peak = p.left.peak } ≡ end = value_of_ok _ _ p.after in
      leaves_other spot scope end other (ap (λ (s : Scope). s.loops) e) (sym (ap (λ (s : Scope). s.locals) e))

  module _ (S B : Type 0) (f : S → Stmt) (g : B → Block) (of_f : (s : S) → Has (f s)) (of_g : (b : B) → HasIn (g b)) where
    -- the parts of a layer have its loops
    layer_has : (x : Stmt-F S B) (t : Stmt) (scope end : Scope) (rest : List Thing) → out-Stmt t ≡ map-Stmt S B Stmt Block f g x → statement_parts names (map-Stmt S B Stmt Block f g x) scope ≡ Ok end → Leaves (spots_of_layer (map-Stmt Stmt Block (Stmt × SpotsOf) (Block × SpotsIn) (λ y. (y, spots_of y)) (λ y. (y, spots_in y)) (map-Stmt S B Stmt Block f g x)) t scope.locals rest) (declared_by (map-Stmt S B Stmt Block f g x)) scope end
    layer_has (stmt.Let at e) t scope end rest is kept = leaves_local scope end at.name (value_of_ok _ _ (kept_second _ _ end (kept_second _ _ end kept)))
    layer_has (stmt.Set at e) t scope end rest is kept = leaves scope end (value_of_ok _ _ (kept_second _ _ end (kept_second _ _ end kept)))
    layer_has (stmt.Apply to function arguments) t scope end rest is kept =
        leaves_call (peak_of names function.name) scope end (value_of_ok _ _ (kept_second (expressions names scope arguments) _ end (kept_second (callee_rule names scope function (length arguments)) _ end (kept_second (taker names scope to) _ end kept))))
    layer_has (stmt.If e then_block None) t scope end rest is kept =
        let p = passes (block_rule names (g then_block) scope) (if_some (block_rule names) None) end (kept_second (expression names scope e) (block_rule names (g then_block) scope >>= if_some (block_rule names) None) end kept) in
        let first = of_g then_block scope p.left (End (length scope.locals) ∷ rest) p.kept in
        let same : p.left ≡ end = value_of_ok _ _ p.after in
        subst (Leaves (spots_in (g then_block) scope.locals (End (length scope.locals) ∷ rest) ++ []) [] scope) same (rw (append-nil (spots_in (g then_block) scope.locals (End (length scope.locals) ∷ rest))) first)
    layer_has (stmt.If e then_block (Some else_block)) t scope end rest is kept =
        let p = passes (block_rule names (g then_block) scope) (if_some (block_rule names) (Some (g else_block))) end (kept_second _ _ end kept) in
        let todo : List Thing = End (length scope.locals) ∷ rest in
        let first = of_g then_block scope p.left todo p.kept in
        let second = of_g else_block p.left end todo p.after in
        let same : p.left.locals ≡ scope.locals = first.locals ∙ append-nil scope.locals in
        record {
          counts = counts_both (spots_in (g then_block) scope.locals todo) (spots_in (g else_block) scope.locals todo) scope.loops p.left.loops end.loops first.counts (subst (λ l. Counts (loops_of (spots_in (g else_block) l todo)) p.left.loops end.loops) same second.counts);
          locals = second.locals ∙ ap (λ l. l ++ []) same;
        }
    layer_has (stmt.While e body) t scope end rest is kept =
        let p = passes (block_rule names (g body) (looping scope)) (λ inner. Ok (closed scope inner)) end (kept_second _ _ end kept) in
        let inside = of_g body (looping scope) p.left (End (length scope.locals) ∷ Test e (g body) ∷ rest) p.kept in
        let same : closed scope p.left ≡ end = value_of_ok _ _ p.after in
        subst (Leaves (spots_in (g body) scope.locals (End (length scope.locals) ∷ Test e (g body) ∷ rest)) [] scope) same (record { counts = inside.counts; locals = sym (append-nil scope.locals) })
    layer_has (stmt.Ploop place body) t scope end rest is kept =
        let few : length scope.locals ≤ 16 = within_limit-kept place kind.Scope 16 (length scope.locals) (kept_first (within_limit place kind.Scope 16 (length scope.locals)) _ end (kept_second (within_limit place kind.Loops 64 (scope.loops + 1)) _ end (kept_second (allowed place (not names.in_function)) _ end kept))) in
        let room : scope.loops + 1 ≤ 64 = within_limit-kept place kind.Loops 64 (scope.loops + 1) (kept_first (within_limit place kind.Loops 64 (scope.loops + 1)) _ end (kept_second (allowed place (not names.in_function)) _ end kept)) in
        let p = passes (block_rule names (g body) (ploop scope)) (λ inner. Ok (closed scope inner)) end (kept_second (within_limit place kind.Scope 16 (length scope.locals)) _ end (kept_second (within_limit place kind.Loops 64 (scope.loops + 1)) _ end (kept_second (allowed place (not names.in_function)) _ end kept))) in
        let todo : List Thing = End (length scope.locals) ∷ Turn t ∷ rest in
        let spot : Spot = record { statement = t; scope = scope.locals; rest = rest } in
        let inside = of_g body (ploop scope) p.left todo p.kept in
        let same : closed scope p.left ≡ end = value_of_ok _ _ p.after in
        let loop : is_loop spot ≡ true = is_loop-layer spot (stmt.Ploop place (g body)) is in
        subst (Leaves (spot ∷ spots_in (g body) scope.locals todo) [] scope) same (record { counts = counts_loop spot (spots_in (g body) scope.locals todo) scope.loops p.left.loops loop few room inside.counts; locals = sym (append-nil scope.locals) })
    layer_has (stmt.Break place) t scope end rest is kept = leaves scope end (value_of_ok _ _ (kept_second _ _ end kept))
    layer_has (stmt.Return place None) t scope end rest is kept = leaves scope end (value_of_ok _ _ kept)
    layer_has (stmt.Return place (Some e)) t scope end rest is kept = leaves scope end (value_of_ok _ _ (kept_second _ _ end (kept_second _ _ end kept)))
    layer_has (stmt.Atomic place to body) t scope end rest is kept =
        let spot : Spot = record { statement = t; scope = scope.locals; rest = rest } in
        atomic_has to body spot scope end (is_loop-layer spot (stmt.Atomic place to body) is) kept
    layer_has (stmt.Call place call to) t scope end rest is kept =
        let spot : Spot = record { statement = t; scope = scope.locals; rest = rest } in
        let same : scope ≡ end = value_of_ok _ _ (kept_second _ _ end (kept_second _ _ end kept)) in
        leaves_other spot scope end (is_loop-layer spot (stmt.Call place call to) is) (ap (λ (s : Scope). s.loops) same) (sym (ap (λ (s : Scope). s.locals) same))

    -- a statement that is made of a layer has its loops
    statement_has : (x : Stmt-F S B) → Has (roll-Stmt (map-Stmt S B Stmt Block f g x))
    unfolding spots_in
    statement_has x scope end rest kept =
        let y : Stmt-F Stmt Block = map-Stmt S B Stmt Block f g x in
        let s : Stmt = roll-Stmt y in
        let parts = layer_has x s scope end rest (out-roll-Stmt y) (sym (statement_rule_out names s scope ∙ ap (λ z. statement_parts names z scope) (out-roll-Stmt y)) ∙ kept) in
        let spots = ap (λ of. of s scope.locals rest) (para-roll-Stmt SpotsOf SpotsIn spots_of_layer spots_in_layer y) in
        subst (λ l. Leaves l (declared_by (out-Stmt s)) scope end) (sym spots) (subst (λ z. Leaves (spots_of_layer (map-Stmt Stmt Block (Stmt × SpotsOf) (Block × SpotsIn) (λ q. (q, spots_of q)) (λ q. (q, spots_in q)) y) s scope.locals rest) (declared_by z) scope end) (sym (out-roll-Stmt y)) parts)

    -- statements one after another have their loops
    turn_has : (ss : List S) (scope end : Scope) (rest : List Thing) → in_turn (map (statement_rule names) (map f ss)) scope ≡ Ok end → Counts (loops_of (spots_in_turn (map (λ y. (y, spots_of y)) (map f ss)) scope.locals rest)) scope.loops end.loops
    turn_has [] scope end rest kept = counts_none scope.loops end.loops (ap (λ (s : Scope). s.loops) (value_of_ok _ _ kept))
    turn_has (s ∷ ss) scope end rest kept =
        let p = passes (statement_rule names (f s) scope) (in_turn (map (statement_rule names) (map f ss))) end kept in
        let todo : List Thing = map (λ t. Do t.0) (map (λ y. (y, spots_of y)) (map f ss)) ++ rest in
        let first = of_f s scope p.left todo p.kept in
        let second = turn_has ss p.left end rest p.after in
        counts_both (spots_of (f s) (f s) scope.locals todo) (spots_in_turn (map (λ y. (y, spots_of y)) (map f ss)) (scope.locals ++ declared_by (out-Stmt (f s))) rest) scope.loops p.left.loops end.loops first.counts (subst (λ l. Counts (loops_of (spots_in_turn (map (λ y. (y, spots_of y)) (map f ss)) l rest)) p.left.loops end.loops) first.locals second)

    -- a block that is made of a layer has its loops
    block_has : (x : Block-F S B) → HasIn (roll-Block (map-Block S B Stmt Block f g x))
    unfolding spots_in
    block_has x scope end rest kept =
        let y : Block-F Stmt Block = map-Block S B Stmt Block f g x in
        let b : Block = roll-Block y in
        let parts : block_parts names y scope ≡ Ok end = sym (block_rule_out names b scope ∙ ap (λ z. block_parts names z scope) (out-roll-Block y)) ∙ kept in
        let p = passes (in_turn (map (statement_rule names) (map f x.stmts)) (opened scope)) (λ inner. Ok (closed scope inner)) end (kept_second (room_for_block x.place scope) (in_turn (map (statement_rule names) (map f x.stmts)) (opened scope) >>= λ inner. Ok (closed scope inner)) end parts) in
        let inside = turn_has x.stmts (opened scope) p.left rest p.kept in
        let same : closed scope p.left ≡ end = value_of_ok _ _ p.after in
        let spots = ap (λ in_block. in_block scope.locals rest) (para-roll-Block SpotsOf SpotsIn spots_of_layer spots_in_layer y) in
        subst (λ l. Leaves l [] scope end) (sym spots) (subst (Leaves (spots_in_turn (map (λ q. (q, spots_of q)) (map f x.stmts)) scope.locals rest) [] scope) same (record { counts = inside; locals = sym (append-nil scope.locals) }))

  -- each block has its loops
  pub body_has : (b : Block) (scope end : Scope) (rest : List Thing) → block_rule names b scope ≡ Ok end → Counts (loops_of (spots_in b scope.locals rest)) scope.loops end.loops
  body_has b scope end rest kept =
      (each_block Has HasIn (λ S B f g of_f of_g x. statement_has S B f g of_f of_g x) (λ S B f g of_f of_g x. block_has S B f g of_f of_g x) b scope end rest kept).counts
