-- The spots of a program by layers, and things to do that stand at them.
use Rattle.std.proofs.Common.{◌≡◌, ℕ, ◌≤◌, true, false, List, [], ◌∷◌, ◌++◌, length, map, take, Contains, Some, None, is_some, refl, sym, ap, subst, ◌∙◌, arith, append-nil, true≢false}
use Rattle.std.specs.List.{AllByRecursion}
use Rattle.std.proofs.lemmas.List.{take-append-le, length-take, take_all}
use Rattle.thread_tree.specs.declared.block.Block.{Block, Block-F, para-roll-Block, roll-Block, map-Block, out-Block, roll-out-Block, out-roll-Block, ind-Block}
use Rattle.thread_tree.specs.declared.block.Stmt.{Stmt, Stmt-F, para-roll-Stmt, roll-Stmt, map-Stmt, out-Stmt, roll-out-Stmt, out-roll-Stmt}
use Rattle.thread_tree.specs.declared.block.Stmt.TheOpen as stmt
use Rattle.thread_tree.specs.Program.{Program}
use Rattle.thread_tree.specs.LocalState.{Thing, loop_block}
use Rattle.thread_tree.specs.LocalState.Thing.{Do, End, Test, Turn}
use Rattle.thread_tree.specs.Actions.{Spot, SpotsOf, SpotsIn, spots_in, spots_of_layer, spots_in_turn, spots_in_layer, declared_by, spots, is_loop}
use Rattle.kernel_model.specs.Placed.{spots_of, AreSpots, IsLoopAt, StandAt}

-- a statement and a block with their spots
abbrev pub with_spots : Stmt → Stmt × SpotsOf
with_spots s = (s, spots_of s)

abbrev pub block_spots : Block → Block × SpotsIn
block_spots b = (b, spots_in b)

-- the spots of a statement are those of its layer
pub spots_of-layer : (s : Stmt) → spots_of s ≡ spots_of_layer (map-Stmt Stmt Block (Stmt × SpotsOf) (Block × SpotsIn) with_spots block_spots (out-Stmt s))
unfolding spots_of spots_in
spots_of-layer s = subst (λ z. spots_of z ≡ spots_of_layer (map-Stmt Stmt Block (Stmt × SpotsOf) (Block × SpotsIn) with_spots block_spots (out-Stmt z))) (roll-out-Stmt s)
    (para-roll-Stmt SpotsOf SpotsIn spots_of_layer spots_in_layer (out-Stmt s)
    ∙ ap (λ x. spots_of_layer (map-Stmt Stmt Block (Stmt × SpotsOf) (Block × SpotsIn) with_spots block_spots x)) (sym (out-roll-Stmt (out-Stmt s))))

-- the spots in a block are those of its statements
pub spots_in-layer : (b : Block) → spots_in b ≡ spots_in_turn (map with_spots (out-Block b).stmts)
unfolding spots_of spots_in
spots_in-layer b = subst (λ z. spots_in z ≡ spots_in_turn (map with_spots (out-Block z).stmts)) (roll-out-Block b)
    (para-roll-Block SpotsOf SpotsIn spots_of_layer spots_in_layer (out-Block b)
    ∙ ap (λ (x : Block-F Stmt Block). spots_in_turn (map with_spots x.stmts)) (sym (out-roll-Block (out-Block b))))

-- what holds of two lists together
pub both-parts : {X : Type 0} (P : X → Type 0) (xs ys : List X) → AllByRecursion P (xs ++ ys) → AllByRecursion P xs × AllByRecursion P ys
both-parts P [] ys all = (tt, all)
both-parts P (x ∷ xs) ys all = let rest = both-parts P xs ys all.1 in ((all.0, rest.0), rest.1)

pub both-All : {X : Type 0} (P : X → Type 0) (xs ys : List X) → AllByRecursion P xs → AllByRecursion P ys → AllByRecursion P (xs ++ ys)
both-All P [] ys one two = two
both-All P (x ∷ xs) ys one two = (one.0, both-All P xs ys one.1 two)

-- the statements of a block, to be done
pub to_do : (ss : List Stmt) → map (λ t. Do t.0) (map with_spots ss) ≡ map Do ss
to_do [] = refl
to_do (s ∷ ss) = ap (λ xs. Do s ∷ xs) (to_do ss)

module _ (p : Program) where
  -- what stands is left standing by a `break`
  pub left_standing : (scope : List ℕ) (todo : List Thing) → StandAt p false scope todo → StandAt p true scope todo
  left_standing scope [] h = tt
  left_standing scope (Do s ∷ rest) h = h.2
  left_standing scope (End keep ∷ rest) h = left_standing (take keep scope) rest h
  left_standing scope (Test e block ∷ rest) h = h.1
  left_standing scope (Turn s ∷ rest) h = h.1

  -- what follows a block stands with the names in scope that the block leaves
  abbrev pub Follows : List ℕ → List Thing → Type 0
  Follows base after = (scope : List ℕ) → take (length base) scope ≡ base → StandAt p false scope after

  -- the names in scope before a block stay in front
  in_front : (base scope more : List ℕ) → take (length base) scope ≡ base → take (length base) (scope ++ more) ≡ base
  in_front base scope more e =
      let m = ap length e in let k = length-take (length base) scope in let l : length base ≤ length scope = omega arith in take-append-le (length base) scope more l ∙ e

  -- after a `break` statements are passed by
  passed_by : (ss : List Stmt) (scope : List ℕ) (after : List Thing) → StandAt p true scope after → StandAt p true scope (map Do ss ++ after)
  passed_by [] scope after h = h
  passed_by (s ∷ ss) scope after h = passed_by ss scope after h

  -- the statements of a block stand where the program has its spots
  pub statements_stand : (base : List ℕ) (after : List Thing) → Follows base after → (ss : List Stmt) (scope : List ℕ) → take (length base) scope ≡ base →
      AreSpots p (spots_in_turn (map with_spots ss) scope after) → StandAt p false scope (map Do ss ++ after)
  statements_stand base after follows [] scope e spots = follows scope e
  statements_stand base after follows (s ∷ ss) scope e all =
      let parts = both-parts (Contains (spots p)) (spots_of s s scope (map (λ t. Do t.0) (map with_spots ss) ++ after))
      (spots_in_turn (map with_spots ss) (scope ++ declared_by (out-Stmt s)) after) all in (
        subst (λ (things : List Thing). AreSpots p (spots_of s s scope (things ++ after))) (to_do ss) parts.0,
        statements_stand base after follows ss (scope ++ declared_by (out-Stmt s)) (in_front base scope (declared_by (out-Stmt s)) e) parts.1,
        passed_by ss scope after (left_standing scope after (follows scope e)),
      )

  -- a block that is entered stands
  pub block_stands : (block : Block) (scope : List ℕ) (rest : List Thing) → AreSpots p (spots_in block scope (End (length scope) ∷ rest)) →
      StandAt p false scope rest → StandAt p false scope (map Do (out-Block block).stmts ++ End (length scope) ∷ rest)
  block_stands block scope rest all h = statements_stand scope (End (length scope) ∷ rest)
      (λ other e. subst (λ (names : List ℕ). StandAt p false names rest) (sym e) h)
      (out-Block block).stmts scope (take_all (length scope) scope (omega arith))
      (subst (λ (of : SpotsIn). AreSpots p (of scope (End (length scope) ∷ rest))) (spots_in-layer block) all)

  -- a body stands
  pub body_stands : (block : Block) (scope : List ℕ) → AreSpots p (spots_in block scope []) → StandAt p false scope (map Do (out-Block block).stmts)
  body_stands block scope all = subst (λ (todo : List Thing). StandAt p false scope todo) (append-nil (map Do (out-Block block).stmts))
      (statements_stand [] [] (λ other e. tt) (out-Block block).stmts scope refl
      (subst (λ (of : SpotsIn). AreSpots p (of scope [])) (spots_in-layer block) all))

  -- what is to be done after a spot stands, and so does its turn, if it is a loop
  abbrev pub TurnStands : Spot → Type 0
  TurnStands spot = (is_loop spot ≡ true → IsLoopAt p spot.statement spot.scope spot.rest (loop_block (out-Stmt spot.statement))) × StandAt p false spot.scope spot.rest

  -- the spots of a statement that stands
  abbrev OfStatement : Stmt → Type 0
  OfStatement s = (scope : List ℕ) (rest : List Thing) → AreSpots p (spots_of s s scope rest) → StandAt p false (scope ++ declared_by (out-Stmt s)) rest →
      AllByRecursion TurnStands (spots_of s s scope rest)

  -- the spots in a block that stands
  abbrev OfBlock : Block → Type 0
  OfBlock b = (scope : List ℕ) (after : List Thing) → AreSpots p (spots_in b scope after) → Follows scope after → AllByRecursion TurnStands (spots_in b scope after)

  -- what follows a block that leaves its scope
  follows-end : (scope : List ℕ) (rest : List Thing) → StandAt p false scope rest → Follows scope (End (length scope) ∷ rest)
  follows-end scope rest h = λ other e. subst (λ (names : List ℕ). StandAt p false names rest) (sym e) h

  module _ (S B : Type 0) (f : S → Stmt) (g : B → Block) (of_f : (s : S) → OfStatement (f s)) (of_g : (b : B) → OfBlock (g b)) where
    -- a layer with the spots of its parts
    abbrev parts : Stmt-F S B → Stmt-F (Stmt × SpotsOf) (Block × SpotsIn)
    parts x = map-Stmt Stmt Block (Stmt × SpotsOf) (Block × SpotsIn) with_spots block_spots (map-Stmt S B Stmt Block f g x)

    -- what is left in scope by a statement that declares nothing
    nothing_more : (scope : List ℕ) (rest : List Thing) → StandAt p false (scope ++ []) rest → StandAt p false scope rest
    nothing_more scope rest h = subst (λ (names : List ℕ). StandAt p false names rest) (append-nil scope) h

    of_layer : (x : Stmt-F S B) (s : Stmt) → out-Stmt s ≡ map-Stmt S B Stmt Block f g x → (scope : List ℕ) (rest : List Thing) →
        AreSpots p (spots_of_layer (parts x) s scope rest) → StandAt p false (scope ++ declared_by (map-Stmt S B Stmt Block f g x)) rest →
        AllByRecursion TurnStands (spots_of_layer (parts x) s scope rest)
    of_layer (stmt.Let at e) s is scope rest all h = tt
    of_layer (stmt.Set at e) s is scope rest all h = tt
    of_layer (stmt.Apply to callee arguments) s is scope rest all h = tt
    of_layer (stmt.If e block None) s is scope rest all h =
        let some = both-parts (Contains (spots p)) (spots_in (g block) scope (End (length scope) ∷ rest)) [] all in
        both-All TurnStands (spots_in (g block) scope (End (length scope) ∷ rest)) []
        (of_g block scope (End (length scope) ∷ rest) some.0 (follows-end scope rest (nothing_more scope rest h))) tt
    of_layer (stmt.If e block (Some other)) s is scope rest all h =
        let some = both-parts (Contains (spots p)) (spots_in (g block) scope (End (length scope) ∷ rest)) (spots_in (g other) scope (End (length scope) ∷ rest)) all in
        both-All TurnStands (spots_in (g block) scope (End (length scope) ∷ rest)) (spots_in (g other) scope (End (length scope) ∷ rest))
        (of_g block scope (End (length scope) ∷ rest) some.0 (follows-end scope rest (nothing_more scope rest h)))
        (of_g other scope (End (length scope) ∷ rest) some.1 (follows-end scope rest (nothing_more scope rest h)))
    of_layer (stmt.While e block) s is scope rest all h = of_g block scope (End (length scope) ∷ Test e (g block) ∷ rest) all
        (follows-end scope (Test e (g block) ∷ rest) (all, nothing_more scope rest h))
    of_layer (stmt.Ploop place block) s is scope rest all h =
        let stands : StandAt p false scope (Turn s ∷ rest) =
        (subst (λ (x : Stmt-F Stmt Block). IsLoopAt p s scope rest (loop_block x)) (sym is) (all.0, all.1), nothing_more scope rest h) in
        (((λ loop. stands.0), stands.1), of_g block scope (End (length scope) ∷ Turn s ∷ rest) all.1 (follows-end scope (Turn s ∷ rest) stands))
    of_layer (stmt.Break place) s is scope rest all h = tt
    of_layer (stmt.Return place value) s is scope rest all h = tt
    of_layer (stmt.Atomic place to block) s is scope rest all h =
        ((λ loop. absurd (true≢false (sym loop ∙ ap (λ (x : Stmt-F Stmt Block). is_some (loop_block x)) is)), nothing_more scope rest h), tt)
    of_layer (stmt.Call place call to) s is scope rest all h =
        ((λ loop. absurd (true≢false (sym loop ∙ ap (λ (x : Stmt-F Stmt Block). is_some (loop_block x)) is)), nothing_more scope rest h), tt)

    -- the spots of a statement
    of_statement : (x : Stmt-F S B) → OfStatement (roll-Stmt (map-Stmt S B Stmt Block f g x))
    of_statement x scope rest all h = let s : Stmt = roll-Stmt (map-Stmt S B Stmt Block f g x) in
        let is : out-Stmt s ≡ map-Stmt S B Stmt Block f g x = out-roll-Stmt (map-Stmt S B Stmt Block f g x) in
        let law : spots_of s ≡ spots_of_layer (parts x) = spots_of-layer s ∙ ap (λ y. spots_of_layer (map-Stmt Stmt Block (Stmt × SpotsOf) (Block × SpotsIn) with_spots block_spots y)) is in
        subst (λ (of : SpotsOf). AllByRecursion TurnStands (of s scope rest)) (sym law)
        (of_layer x s is scope rest (subst (λ (of : SpotsOf). AreSpots p (of s scope rest)) law all)
        (subst (λ (y : Stmt-F Stmt Block). StandAt p false (scope ++ declared_by y) rest) is h))

    -- the spots of statements one after another
    of_statements : (base : List ℕ) (after : List Thing) → Follows base after → (ss : List S) (scope : List ℕ) → take (length base) scope ≡ base →
        AreSpots p (spots_in_turn (map with_spots (map f ss)) scope after) → AllByRecursion TurnStands (spots_in_turn (map with_spots (map f ss)) scope after)
    of_statements base after follows [] scope e all = tt
    of_statements base after follows (s ∷ ss) scope e all =
        let rest : List Thing = map (λ t. Do t.0) (map with_spots (map f ss)) ++ after in
        let some = both-parts (Contains (spots p)) (spots_of (f s) (f s) scope rest) (spots_in_turn (map with_spots (map f ss)) (scope ++ declared_by (out-Stmt (f s))) after) all in
        both-All TurnStands (spots_of (f s) (f s) scope rest) (spots_in_turn (map with_spots (map f ss)) (scope ++ declared_by (out-Stmt (f s))) after)
        (of_f s scope rest some.0 (subst (λ (things : List Thing). StandAt p false (scope ++ declared_by (out-Stmt (f s))) (things ++ after)) (sym (to_do (map f ss)))
        (statements_stand base after follows (map f ss) (scope ++ declared_by (out-Stmt (f s))) (in_front base scope (declared_by (out-Stmt (f s))) e) some.1)))
        (of_statements base after follows ss (scope ++ declared_by (out-Stmt (f s))) (in_front base scope (declared_by (out-Stmt (f s))) e) some.1)

    -- the spots in a block
    of_block : (x : Block-F S B) → OfBlock (roll-Block (map-Block S B Stmt Block f g x))
    of_block x scope after all follows = let b : Block = roll-Block (map-Block S B Stmt Block f g x) in
        let law : spots_in b ≡ spots_in_turn (map with_spots (map f x.stmts)) =
        spots_in-layer b ∙ ap (λ (y : Block-F Stmt Block). spots_in_turn (map with_spots y.stmts)) (out-roll-Block (map-Block S B Stmt Block f g x)) in
        subst (λ (of : SpotsIn). AllByRecursion TurnStands (of scope after)) (sym law)
        (of_statements scope after follows x.stmts scope (take_all (length scope) scope (omega arith))
        (subst (λ (of : SpotsIn). AreSpots p (of scope after)) law all))

  -- the turns of all loops in a block stand
  pub block_turns : (b : Block) → OfBlock b
  block_turns b = ind-Block OfStatement OfBlock
      (λ x y is. subst (λ z. OfStatement (roll-Stmt z)) is (of_statement _ _ (λ e. e.0) (λ e. e.0) (λ e. e.1) (λ e. e.1) y))
      (λ x y is. subst (λ z. OfBlock (roll-Block z)) is (of_block _ _ (λ e. e.0) (λ e. e.0) (λ e. e.1) (λ e. e.1) y)) b
