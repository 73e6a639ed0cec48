-- The states in persistent loops are within the limits.
use Rattle.std.proofs.Common.{◌≡◌, ℕ, zero, suc, ◌+◌, List, [], ◌∷◌, ◌++◌, length, map, Bool, true, false, Some, None, refl, ap, sym, subst, ◌∙◌, arith}
use Rattle.std.specs.Prelude.{slice_get, flat_map, filter, All, if◌then◌else◌}
use Rattle.std.proofs.lemmas.List.{length-append, append-nil}
use Rattle.std.proofs.lemmas.List.Concat.{flat_map-cons}
use Rattle.std.proofs.lemmas.List.Elements.{All-head, All-tail}
use Rattle.thread_tree.specs.declared.block.Block.{Block, Block-F, para-roll-Block, roll-Block, map-Block, out-roll-Block}
use Rattle.thread_tree.specs.declared.block.Stmt.{Stmt, Stmt-F, para-roll-Stmt, para-Stmt, roll-Stmt, map-Stmt, out-Stmt, out-roll-Stmt}
use Rattle.thread_tree.specs.declared.block.Stmt.TheOpen as stmt
use Rattle.thread_tree.specs.Program.{Program, Body}
use Rattle.thread_tree.specs.Need.{Need, Weight, IsSmall, need_of_body, callees, weight_of}
use Rattle.thread_tree.specs.LocalState.{Thing, things, named}
use Rattle.thread_tree.specs.LocalState.Thing.{Do, End, Test, Turn}
use Rattle.thread_tree.specs.Actions.{Spot, SpotsOf, SpotsIn, at_turn, declared_by, inside, is_loop, loops, spots, spots_in, spots_in_layer, spots_in_turn, spots_of_layer}
use Rattle.thread_machine.specs.Within.{AreWithin, IsWithin}
use Rattle.thread_tree.specs.Limits.{IsSound}
use Rattle.thread_check.proofs.Callers.{each_block}
use Rattle.thread_machine.proofs.RoomLemmas.{weight_parts, weight_out}
use Rattle.thread_machine.proofs.WithinLemmas.{HasRoom, block_within, body_within, fewer_within, head_has_room, length_named, turn_within}

-- a property of each item
abbrev Each : (Spot → Type 0) → List Spot → Type 0
Each P [] = Unit {0}
Each P (spot ∷ rest) = P spot × Each P rest

Each-append : (P : Spot → Type 0) (xs ys : List Spot) → Each P xs → Each P ys → Each P (xs ++ ys)
Each-append P [] ys first second = second
Each-append P (x ∷ xs) ys first second = (first.0, Each-append P xs ys first.1 second)

module _ (callee : ℕ → Need) where
  -- the state at a spot is within the limits
  abbrev SpotFits : Spot → Type 0
  SpotFits spot = AreWithin callee 0 0 (length spot.scope) (Do spot.statement ∷ spot.rest)

  abbrev spots_of : Stmt → SpotsOf
  spots_of = para-Stmt SpotsOf SpotsIn spots_of_layer spots_in_layer

  abbrev Fitting : Stmt → Type 0
  Fitting s = (scope : List ℕ) (rest : List Thing) → AreWithin callee 0 0 (length scope) (Do s ∷ rest) → Each SpotFits (spots_of s s scope rest)

  abbrev FittingIn : Block → Type 0
  FittingIn b = (scope : List ℕ) (after : List Thing) → AreWithin callee 0 0 (length scope) (things b ++ after) → Each SpotFits (spots_in b scope after)

  pub declares_length : (layer : Stmt-F Stmt Block) → length (declared_by layer) ≡ (weight_parts callee layer).declares
  declares_length (stmt.Let at e) = refl
  declares_length (stmt.Set at e) = refl
  declares_length (stmt.Apply to function arguments) = refl
  declares_length (stmt.If e block other) = refl
  declares_length (stmt.While e block) = refl
  declares_length (stmt.Ploop place block) = refl
  declares_length (stmt.Break place) = refl
  declares_length (stmt.Return place value) = refl
  declares_length (stmt.Atomic place to block) = refl
  declares_length (stmt.Call place call to) = refl

  pairs_do : (ss : List Stmt) → map (λ (t : Stmt × SpotsOf). Do t.0) (map (λ y. (y, spots_of y)) ss) ≡ map Do ss
  pairs_do [] = refl
  pairs_do (s ∷ ss) = ap (λ rest. Do s ∷ rest) (pairs_do ss)

  module _ (S B : Type 0) (f : S → Stmt) (g : B → Block) (of_f : (s : S) → Fitting (f s)) (of_g : (b : B) → FittingIn (g b)) where
    abbrev layer_of : Stmt-F S B → Stmt-F Stmt Block
    layer_of x = map-Stmt S B Stmt Block f g x

    parts_fit : (x : Stmt-F S B) (z : Stmt) (scope : List ℕ) (rest : List Thing) → AreWithin callee 0 0 (length scope) (Do z ∷ rest) → HasRoom callee 0 0 (length scope) (weight_parts callee (layer_of x)) rest → Each SpotFits (spots_of_layer (map-Stmt Stmt Block (Stmt × SpotsOf) (Block × SpotsIn) (λ y. (y, spots_of y)) (λ y. (y, spots_in y)) (layer_of x)) z scope rest)
    parts_fit (stmt.Let at e) z scope rest within has = tt
    parts_fit (stmt.Set at e) z scope rest within has = tt
    parts_fit (stmt.Apply to function arguments) z scope rest within has = tt
    parts_fit (stmt.If e block None) z scope rest within has =
        let after = fewer_within callee 0 0 (length scope) (length scope + 0) rest (omega arith) has.after in
        Each-append SpotFits (spots_in (g block) scope (End (length scope) ∷ rest)) [] (of_g block scope (End (length scope) ∷ rest) (block_within callee 0 0 (length scope) (g block) rest (omega (arith, has.locals)) (omega (arith, has.room)) after)) tt
    parts_fit (stmt.If e block (Some other)) z scope rest within has =
        let after = fewer_within callee 0 0 (length scope) (length scope + 0) rest (omega arith) has.after in
        Each-append SpotFits (spots_in (g block) scope (End (length scope) ∷ rest)) (spots_in (g other) scope (End (length scope) ∷ rest))
        (of_g block scope (End (length scope) ∷ rest) (block_within callee 0 0 (length scope) (g block) rest (omega (arith, has.locals)) (omega (arith, has.room)) after))
        (of_g other scope (End (length scope) ∷ rest) (block_within callee 0 0 (length scope) (g other) rest (omega (arith, has.locals)) (omega (arith, has.room)) after))
    parts_fit (stmt.While e block) z scope rest within has =
        let after = fewer_within callee 0 0 (length scope) (length scope + 0) rest (omega arith) has.after in
        let again : AreWithin callee 0 0 (length scope) (Test e (g block) ∷ rest) = (has.locals, has.room, after) in
        of_g block scope (End (length scope) ∷ Test e (g block) ∷ rest) (block_within callee 0 0 (length scope) (g block) (Test e (g block) ∷ rest) has.locals has.room again)
    parts_fit (stmt.Ploop place block) z scope rest within has =
        let after = fewer_within callee 0 0 (length scope) (length scope + 0) rest (omega arith) has.after in
        let again : AreWithin callee 0 0 (length scope) (Turn z ∷ rest) = (within.0, within.1, after) in
        (within, of_g block scope (End (length scope) ∷ Turn z ∷ rest) (block_within callee 0 0 (length scope) (g block) (Turn z ∷ rest) has.locals has.room again))
    parts_fit (stmt.Break place) z scope rest within has = tt
    parts_fit (stmt.Return place None) z scope rest within has = tt
    parts_fit (stmt.Return place (Some value)) z scope rest within has = tt
    parts_fit (stmt.Atomic place to block) z scope rest within has = (within, tt)
    parts_fit (stmt.Call place call to) z scope rest within has = (within, tt)

    layer_fits : (x : Stmt-F S B) → Fitting (roll-Stmt (layer_of x))
    unfolding spots_in
    layer_fits x scope rest within =
        let z = roll-Stmt (layer_of x) in
        let has = head_has_room callee 0 0 (length scope) z rest (layer_of x) (out-roll-Stmt (layer_of x)) within in
        subst (Each SpotFits) (sym (ap (λ of. of z scope rest) (para-roll-Stmt SpotsOf SpotsIn spots_of_layer spots_in_layer (layer_of x)))) (parts_fit x z scope rest within has)

    turn_fits : (ss : List S) (scope : List ℕ) (after : List Thing) → AreWithin callee 0 0 (length scope) (map Do (map f ss) ++ after) → Each SpotFits (spots_in_turn (map (λ y. (y, spots_of y)) (map f ss)) scope after)
    turn_fits [] scope after within = tt
    turn_fits (s ∷ ss) scope after within =
        let rest = map Do (map f ss) ++ after in
        let more : length (scope ++ declared_by (out-Stmt (f s))) ≡ length scope + (weight_of callee (f s)).declares =
        length-append scope (declared_by (out-Stmt (f s))) ∙ ap (λ n. length scope + n) (declares_length (out-Stmt (f s)) ∙ sym (ap (λ (w : Weight). w.declares) (weight_out callee (f s)))) in
        Each-append SpotFits (spots_of (f s) (f s) scope (map (λ (t : Stmt × SpotsOf). Do t.0) (map (λ y. (y, spots_of y)) (map f ss)) ++ after)) (spots_in_turn (map (λ y. (y, spots_of y)) (map f ss)) (scope ++ declared_by (out-Stmt (f s))) after)
        (subst (λ xs. Each SpotFits (spots_of (f s) (f s) scope (xs ++ after))) (sym (pairs_do (map f ss))) (of_f s scope rest within))
        (turn_fits ss (scope ++ declared_by (out-Stmt (f s))) after (subst (λ n. AreWithin callee 0 0 n rest) (sym more) within.2))

    block_fits : (x : Block-F S B) → FittingIn (roll-Block (map-Block S B Stmt Block f g x))
    unfolding spots_in
    block_fits x scope after within =
        let y = map-Block S B Stmt Block f g x in
        let opened : AreWithin callee 0 0 (length scope) (map Do (map f x.stmts) ++ after) = subst (λ (b : Block-F Stmt Block). AreWithin callee 0 0 (length scope) (map Do b.stmts ++ after)) (out-roll-Block y) within in
        subst (Each SpotFits) (sym (ap (λ of. of scope after) (para-roll-Block SpotsOf SpotsIn spots_of_layer spots_in_layer y))) (turn_fits x.stmts scope after opened)

  -- the spots in a block are within the limits
  spots_fit : (b : Block) → FittingIn b
  spots_fit b = each_block Fitting FittingIn (λ S B f g of_f of_g x. layer_fits S B f g of_f of_g x) (λ S B f g of_f of_g x. block_fits S B f g of_f of_g x) b

bodies_fit : (p : Program) (bodies : List Body) → All (λ body. IsSmall (need_of_body (callees p) body.parameters body.block)) bodies → Each (SpotFits (callees p)) (flat_map (λ body. spots_in body.block body.parameters []) bodies)
bodies_fit p [] all = tt
bodies_fit p (body ∷ bodies) all =
    let P = λ (b : Body). IsSmall (need_of_body (callees p) b.parameters b.block) in
    let small = All-head P body bodies all in
    let here = body_within (callees p) 0 0 (length body.parameters) body.block (omega (arith, small.locals)) (omega (arith, small.blocks)) in
    subst (Each (SpotFits (callees p))) (sym (flat_map-cons (λ (b : Body). spots_in b.block b.parameters []) body bodies))
    (Each-append (SpotFits (callees p)) (spots_in body.block body.parameters []) (flat_map (λ (b : Body). spots_in b.block b.parameters []) bodies)
    (spots_fit (callees p) body.block body.parameters [] (rw append-nil here))
    (bodies_fit p bodies (All-tail P body bodies all)))

filtered_by : (P : Spot → Type 0) (x y : Spot) (xs : List Spot) (n : ℕ) (test : Bool) → P x → ((m : ℕ) → slice_get (filter is_loop xs) m ≡ Some y → P y) → slice_get (if test then x ∷ filter is_loop xs else filter is_loop xs) n ≡ Some y → P y
filtered_by P x y xs zero true holds rest is = let e : x ≡ y = cc in subst P e holds
filtered_by P x y xs (suc n) true holds rest is = rest n is
filtered_by P x y xs n false holds rest is = rest n is

loop_fits : (P : Spot → Type 0) (xs : List Spot) (n : ℕ) (y : Spot) → Each P xs → slice_get (filter is_loop xs) n ≡ Some y → P y
loop_fits P [] n y each is = cc
loop_fits P (x ∷ xs) n y each is = filtered_by P x y xs n (is_loop x) each.0 (λ m at. loop_fits P xs m y each.1 at) is

-- the state inside a persistent loop is within the limits
pub inside_within : (p : Program) (number : ℕ) (spot : Spot) (values : List ℕ) → IsSound p → slice_get (loops p) number ≡ Some spot → IsWithin p (inside spot values)
inside_within p number spot values sound is =
    let fits = loop_fits (SpotFits (callees p)) (spots p) number spot (bodies_fit p p.bodies sound.bodies) is in
    let few = length_named spot.scope values in
    turn_within p (at_turn spot values) (record {
      each = (
        (omega (arith, fits.0, few), fits.1, fewer_within (callees p) 0 0 (length (named spot.scope values)) (length spot.scope + (weight_of (callees p) spot.statement).declares) spot.rest (omega (arith, few)) fits.2),
        tt,
      );
    })
