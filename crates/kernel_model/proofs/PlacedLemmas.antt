-- A thread's things to do stay where the program has them, and a turn enters the state inside its loop.
use Rattle.std.proofs.Common.{◌≡◌, ◌⊎◌, inl, inr, ⊎_elim, ℕ, Bool, true, false, cond, ◌==◌, List, [], ◌∷◌, ◌++◌, length, take, Contains, Option, Some, None, MatchOption, is_some, slice_get, option_map, refl, sym, ap, subst, ◌∙◌, arith, append-nil, eqb-true, true≢false}
use Rattle.std.specs.Prelude.{⊤}
use Rattle.std.specs.List.{AllByRecursion, flat_map, take-map}
use Rattle.std.proofs.lemmas.Bool.{cond_both}
use Rattle.std.proofs.lemmas.List.{length-map, map-append}
use Rattle.std.proofs.lemmas.List.Elements.{All-from_recursion, recursion_from_All, All-contains_itself}
use Rattle.std.proofs.lemmas.Option.{slice_get_within, get_or_from_slice_get}
use Rattle.thread_tree.specs.declared.local.Local.{Local}
use Rattle.thread_tree.specs.declared.expr.Expr.{Expr}
use Rattle.thread_tree.specs.declared.block.Block.{Block}
use Rattle.thread_tree.specs.declared.block.Stmt.{Stmt, Stmt-F, map-Stmt, out-Stmt}
use Rattle.thread_tree.specs.declared.block.Stmt.TheOpen as stmt
use Rattle.thread_tree.specs.Program.{Program, Body, Function, function_of}
use Rattle.thread_tree.specs.Value.{value_of, values_in}
use Rattle.thread_tree.specs.Kinds.{Action, action_layer, action_of}
use Rattle.thread_tree.specs.LocalState.{Thing, Frame, LocalState, things, named, with_value, with_values, given_to, going_on, entered, chosen_by, tested, branched, broken, frame_of, moved_by, moved, move, next_statement, next_action, after_first, next_names, bind, loop_block, turned}
use Rattle.thread_tree.specs.LocalState.Thing.{Do, End, Test, Turn}
use Rattle.thread_tree.specs.Actions.{Spot, SpotsOf, SpotsIn, spots_in, spots_of_layer, spots_if_some, declared_by, spots, is_loop, loops, inside, names_in, values_of as values_in_order}
use Rattle.kernel_model.specs.Placed.{AreSpots, IsLoopAt, StandAt, own_frame, IsPlacedFrame, IsPlaced}
use Rattle.kernel_model.proofs.OrderLemmas.{passing}
use Rattle.kernel_model.proofs.SpotLemmas.{with_spots, block_spots, spots_of-layer, both-parts, both-All, block_stands, TurnStands, block_turns}

-- a local that is assigned keeps its name
pub names-with_value : (locals : List Local) (name value : ℕ) → names_in (with_value locals name value) ≡ names_in locals
names-with_value [] name value = refl
names-with_value (local ∷ locals) name value = go (local.name == name) refl (names-with_value locals name value)
  where
    go : (b : Bool) → (local.name == name) ≡ b → names_in (with_value locals name value) ≡ names_in locals →
        names_in (cond b (record { name = name; value = value } ∷ locals) (local ∷ with_value locals name value)) ≡ names_in (local ∷ locals)
    go true e rest = ap (λ n. n ∷ names_in locals) (sym (eqb-true local.name name e))
    go false e rest = ap (λ ns. local.name ∷ ns) rest

pub names-with_values : (names values : List ℕ) (locals : List Local) → names_in (with_values locals names values) ≡ names_in locals
names-with_values [] values locals = refl
names-with_values (name ∷ names) [] locals = refl
names-with_values (name ∷ names) (value ∷ values) locals =
    names-with_values names values (with_value locals name value) ∙ names-with_value locals name value

-- locals are made of their names and values
pub named-parts : (locals : List Local) → named (names_in locals) (values_in_order locals) ≡ locals
named-parts [] = refl
named-parts (local ∷ locals) = ap (λ ls. local ∷ ls) (named-parts locals)

pub names-named : (names values : List ℕ) → length values ≡ length names → names_in (named names values) ≡ names
names-named [] values e = refl
names-named (name ∷ names) [] e = absurd (omega arith)
names-named (name ∷ names) (value ∷ values) e = ap (λ ns. name ∷ ns) (names-named names values (omega arith))

module _ (p : Program) where
  -- what is left by a `break` stands
  broken-stands : (locals : List Local) (todo : List Thing) → StandAt p true (names_in locals) todo →
      StandAt p false (names_in (broken locals todo).0) (broken locals todo).1
  broken-stands locals [] h = tt
  broken-stands locals (Do s ∷ todo) h = broken-stands locals todo h
  broken-stands locals (End keep ∷ todo) h = broken-stands (take keep locals) todo
      (subst (λ (names : List ℕ). StandAt p true names todo) (take-map (λ (local : Local). local.name) keep locals) h)
  broken-stands locals (Test e block ∷ todo) h = h
  broken-stands locals (Turn s ∷ todo) h = h

  -- a frame that gets a result stays where it stands
  given-placed : (to : Option ℕ) (value : ℕ) (frame : Frame) → IsPlacedFrame p frame → IsPlacedFrame p (given_to to value frame)
  given-placed None value frame h = h
  given-placed (Some name) value frame h = record {
    stands = subst (λ (names : List ℕ). StandAt p false names frame.todo) (sym (names-with_value frame.locals name value)) h.stands;
    lone = h.lone;
  }

  given-own : (to : Option ℕ) (value : ℕ) (frame : Frame) (frames : List Frame) → IsPlacedFrame p (own_frame frame frames) →
      IsPlacedFrame p (own_frame (given_to to value frame) frames)
  given-own to value frame [] h = given-placed to value frame h
  given-own to value frame (next ∷ frames) h = h

  -- one of two states
  chosen-placed : (value : ℕ) (taken passed : LocalState) → IsPlaced p taken → IsPlaced p passed → IsPlaced p (chosen_by value taken passed)
  chosen-placed value taken passed h g = cond_both (value == 0) passed taken (IsPlaced p) (λ e. g) (λ e. h)

  -- moves of a function that the thread called
  module _ (f next : Frame) (frames : List Frame) (h : IsPlacedFrame p (own_frame next frames)) where
    abbrev s0 : LocalState
    s0 = record { top = f; below = next ∷ frames }

    other-branch : (e : Expr) (block : Block) (other : Option Block) (rest : List Thing) → IsPlaced p (branched s0 e block other rest)
    other-branch e block None rest = chosen-placed (value_of f.locals e) (entered s0 block rest) (going_on s0 rest) h h
    other-branch e block (Some other) rest = chosen-placed (value_of f.locals e) (entered s0 block rest) (entered s0 other rest) h h

    other-call : (rest : List Thing) (o : Option Function) (values : List ℕ) (result : Option ℕ) → IsPlaced p (elim o [
      | None ↦ going_on s0 rest
      | Some function ↦ record { top = frame_of function values result; below = (going_on s0 rest).top ∷ s0.below }
    ])
    other-call rest None values result = h
    other-call rest (Some function) values result = h

    other-moved_by : (rest : List Thing) (x : Stmt-F Stmt Block) → MatchOption (moved_by p s0 rest x) ⊤ (IsPlaced p)
    other-moved_by rest (stmt.Let at e) = h
    other-moved_by rest (stmt.Set at e) = h
    other-moved_by rest (stmt.Apply to callee arguments) = other-call rest (function_of p callee.name) (values_in f.locals arguments) _
    other-moved_by rest (stmt.If e block other) = other-branch e block other rest
    other-moved_by rest (stmt.While e block) = chosen-placed (value_of f.locals e) (entered s0 block (Test e block ∷ rest)) (going_on s0 rest) h h
    other-moved_by rest (stmt.Ploop place block) = tt
    other-moved_by rest (stmt.Break place) = h
    other-moved_by rest (stmt.Return place value) = given-own f.result (elim value [ None ↦ 0 | Some e ↦ value_of f.locals e ]) next frames h
    other-moved_by rest (stmt.Atomic place to block) = tt
    other-moved_by rest (stmt.Call place call to) = tt

    other-moved : (todo : List Thing) → MatchOption (moved p s0 todo) ⊤ (IsPlaced p)
    other-moved [] = given-own f.result 0 next frames h
    other-moved (Do s ∷ rest) = other-moved_by rest (out-Stmt s)
    other-moved (End keep ∷ rest) = h
    other-moved (Test e block ∷ rest) = chosen-placed (value_of f.locals e) (entered s0 block (Test e block ∷ rest)) (going_on s0 rest) h h
    other-moved (Turn s ∷ rest) = tt

  -- moves of the thread itself
  module _ (f : Frame) (lone : f.result ≡ None) where
    abbrev s1 : LocalState
    s1 = record { top = f; below = [] }

    abbrev scope : List ℕ
    scope = names_in f.locals

    on-placed : (rest : List Thing) → StandAt p false scope rest → IsPlaced p (going_on s1 rest)
    on-placed rest h = record { stands = h; lone = lone }

    entered-placed : (block : Block) (rest : List Thing) → AreSpots p (spots_in block scope (End (length scope) ∷ rest)) → StandAt p false scope rest →
        IsPlaced p (entered s1 block rest)
    entered-placed block rest all h = on-placed (things block ++ End (length f.locals) ∷ rest)
        (subst (λ (n : ℕ). StandAt p false scope (things block ++ End n ∷ rest)) (length-map f.locals (λ (local : Local). local.name)) (block_stands p block scope rest all h))

    tested-placed : (e : Expr) (block : Block) (rest : List Thing) → StandAt p false scope (Test e block ∷ rest) → IsPlaced p (tested s1 e block rest)
    tested-placed e block rest h = chosen-placed (value_of f.locals e) (entered s1 block (Test e block ∷ rest)) (going_on s1 rest)
        (entered-placed block (Test e block ∷ rest) h.0 h) (on-placed rest h.1)

    own-branch : (e : Expr) (block : Block) (other : Option Block) (rest : List Thing) → StandAt p false scope rest →
        AreSpots p (spots_in block scope (End (length scope) ∷ rest)) → AreSpots p (spots_if_some (option_map block_spots other) scope (End (length scope) ∷ rest)) →
        IsPlaced p (branched s1 e block other rest)
    own-branch e block None rest h all more = chosen-placed (value_of f.locals e) (entered s1 block rest) (going_on s1 rest)
        (entered-placed block rest all h) (on-placed rest h)
    own-branch e block (Some other) rest h all more = chosen-placed (value_of f.locals e) (entered s1 block rest) (entered s1 other rest)
        (entered-placed block rest all h) (entered-placed other rest more h)

    own-call : (rest : List Thing) → StandAt p false scope rest → (o : Option Function) (values : List ℕ) (result : Option ℕ) → IsPlaced p (elim o [
      | None ↦ going_on s1 rest
      | Some function ↦ record { top = frame_of function values result; below = (going_on s1 rest).top ∷ s1.below }
    ])
    own-call rest h None values result = on-placed rest h
    own-call rest h (Some function) values result = on-placed rest h

    same_scope : (rest : List Thing) → StandAt p false (scope ++ []) rest → StandAt p false scope rest
    same_scope rest h = subst (λ (names : List ℕ). StandAt p false names rest) (append-nil scope) h

    own-moved_by : (s : Stmt) (rest : List Thing) (x : Stmt-F Stmt Block) →
        AreSpots p (spots_of_layer (map-Stmt Stmt Block (Stmt × SpotsOf) (Block × SpotsIn) with_spots block_spots x) s scope rest) →
        StandAt p false (scope ++ declared_by x) rest → StandAt p true scope rest → MatchOption (moved_by p s1 rest x) ⊤ (IsPlaced p)
    own-moved_by s rest (stmt.Let at e) all h left = record {
      stands = subst (λ (names : List ℕ). StandAt p false names rest) (sym (map-append (λ (local : Local). local.name) f.locals (record { name = at.name; value = value_of f.locals e } ∷ []))) h;
      lone = lone;
    }
    own-moved_by s rest (stmt.Set at e) all h left = record {
      stands = subst (λ (names : List ℕ). StandAt p false names rest) (sym (names-with_value f.locals at.name (value_of f.locals e))) (same_scope rest h);
      lone = lone;
    }
    own-moved_by s rest (stmt.Apply to callee arguments) all h left = own-call rest (same_scope rest h) (function_of p callee.name) (values_in f.locals arguments) _
    own-moved_by s rest (stmt.If e block None) all h left =
        let some = both-parts (Contains (spots p)) (spots_in block scope (End (length scope) ∷ rest)) [] all in
        own-branch e block None rest (same_scope rest h) some.0 tt
    own-moved_by s rest (stmt.If e block (Some other)) all h left =
        let some = both-parts (Contains (spots p)) (spots_in block scope (End (length scope) ∷ rest)) (spots_in other scope (End (length scope) ∷ rest)) all in
        own-branch e block (Some other) rest (same_scope rest h) some.0 some.1
    own-moved_by s rest (stmt.While e block) all h left = tested-placed e block rest (all, same_scope rest h)
    own-moved_by s rest (stmt.Ploop place block) all h left = tt
    own-moved_by s rest (stmt.Break place) all h left = record { stands = broken-stands f.locals rest left; lone = lone }
    own-moved_by s rest (stmt.Return place value) all h left = record { stands = tt; lone = lone }
    own-moved_by s rest (stmt.Atomic place to block) all h left = tt
    own-moved_by s rest (stmt.Call place call to) all h left = tt

    own-moved : (todo : List Thing) → StandAt p false scope todo → MatchOption (moved p s1 todo) ⊤ (IsPlaced p)
    own-moved [] h = tt
    own-moved (Do s ∷ rest) h = own-moved_by s rest (out-Stmt s) (subst (λ (of : SpotsOf). AreSpots p (of s scope rest)) (spots_of-layer s) h.0) h.1 h.2
    own-moved (End keep ∷ rest) h = record {
      stands = subst (λ (names : List ℕ). StandAt p false names rest) (take-map (λ (local : Local). local.name) keep f.locals) h;
      lone = lone;
    }
    own-moved (Test e block ∷ rest) h = tested-placed e block rest h
    own-moved (Turn s ∷ rest) h = tt

  -- a move keeps a local state where it stands
  pub move-placed : (s : LocalState) → IsPlaced p s → MatchOption (move p s) ⊤ (IsPlaced p)
  move-placed s h = go s.below h
    where
      go : (frames : List Frame) → IsPlacedFrame p (own_frame s.top frames) → MatchOption (moved p (record { top = s.top; below = frames }) s.top.todo) ⊤ (IsPlaced p)
      go [] h = own-moved s.top h.lone s.top.todo h.stands
      go (next ∷ frames) h = other-moved s.top next frames h s.top.todo

  -- a move that is made
  pub moved-placed : (s t : LocalState) → IsPlaced p s → move p s ≡ Some t → IsPlaced p t
  moved-placed s t h e = subst (λ (o : Option LocalState). MatchOption o ⊤ (IsPlaced p)) e (move-placed s h)

  -- an action declares nothing
  action-declares : (s : Stmt-F Stmt Block) (action : Action) → action_layer p s ≡ Some action → declared_by s ≡ []
  action-declares (stmt.Let at e) action is = absurd (let f : ◌≡◌ {A = Option Action} None (Some action) = is in cc)
  action-declares (stmt.Set at e) action is = refl
  action-declares (stmt.Apply to callee arguments) action is = refl
  action-declares (stmt.If e block other) action is = refl
  action-declares (stmt.While e block) action is = refl
  action-declares (stmt.Ploop place block) action is = refl
  action-declares (stmt.Break place) action is = refl
  action-declares (stmt.Return place value) action is = refl
  action-declares (stmt.Atomic place to block) action is = refl
  action-declares (stmt.Call place call to) action is = refl

  -- what follows an action
  after-action : (scope : List ℕ) (todo : List Thing) (action : Action) → elim (next_statement todo) [ None ↦ None | Some statement ↦ action_of p statement ] ≡ Some action →
      StandAt p false scope todo → StandAt p false scope (after_first todo)
  after-action scope [] action e h = tt
  after-action scope (Do s ∷ rest) action e h =
      subst (λ (names : List ℕ). StandAt p false names rest) (ap (λ ns. scope ++ ns) (action-declares (out-Stmt s) action e) ∙ append-nil scope) h.1
  after-action scope (End keep ∷ rest) action e h = absurd (let f : ◌≡◌ {A = Option Action} None (Some action) = e in cc)
  after-action scope (Test x block ∷ rest) action e h = absurd (let f : ◌≡◌ {A = Option Action} None (Some action) = e in cc)
  after-action scope (Turn s ∷ rest) action e h = h.1

  -- the results of an action keep a local state where it stands
  pub bind-placed : (s : LocalState) (action : Action) (results : List ℕ) → IsPlaced p s → next_action p s ≡ Some action → IsPlaced p (bind p s results)
  bind-placed s action results h e = go s.below h
    where
      go : (frames : List Frame) → IsPlacedFrame p (own_frame s.top frames) → IsPlacedFrame p (own_frame (bind p s results).top frames)
      go [] h = record {
        stands = subst (λ (names : List ℕ). StandAt p false names (after_first s.top.todo)) (sym (names-with_values (next_names p s) results s.top.locals))
            (after-action (names_in s.top.locals) s.top.todo action e h.stands);
        lone = h.lone;
      }
      go (next ∷ frames) h = h

  -- the spots of all bodies
  each_turn : (bodies : List Body) → AreSpots p (flat_map (λ (body : Body). spots_in body.block body.parameters []) bodies) →
      AllByRecursion (TurnStands p) (flat_map (λ (body : Body). spots_in body.block body.parameters []) bodies)
  each_turn [] all = tt
  each_turn (body ∷ bodies) all =
      let some = both-parts (Contains (spots p)) (spots_in body.block body.parameters []) (flat_map (λ (body : Body). spots_in body.block body.parameters []) bodies) all in
      both-All (TurnStands p) (spots_in body.block body.parameters []) (flat_map (λ (body : Body). spots_in body.block body.parameters []) bodies)
      (block_turns p body.block body.parameters [] some.0 (λ other e. tt)) (each_turn bodies some.1)

  pub all_spots : AreSpots p (spots p)
  all_spots = recursion_from_All (Contains (spots p)) (spots p) (All-contains_itself (spots p))

  -- a persistent loop of the program
  pub loop-stands : (number : ℕ) (spot : Spot) → slice_get (loops p) number ≡ Some spot → TurnStands p spot × (is_loop spot ≡ true)
  loop-stands number spot e = subst (λ (x : Spot). TurnStands p x × (is_loop x ≡ true)) (get_or_from_slice_get (loops p) number spot spot e)
      (All-from_recursion (λ x. TurnStands p x × (is_loop x ≡ true)) (loops p) (passing (TurnStands p) is_loop (spots p) (each_turn p.bodies all_spots))
      number spot (slice_get_within (loops p) number spot e))

  -- a turn of a loop that stands
  turned-placed : (f : Frame) (s : Stmt) (rest : List Thing) → f.result ≡ None → StandAt p false (names_in f.locals) (Turn s ∷ rest) →
      IsPlaced p (turned (record { top = f; below = [] }) s rest) ⊎ (loop_block (out-Stmt s) ≡ None)
  turned-placed f s rest lone h = go (loop_block (out-Stmt s)) refl
    where
      go : (o : Option Block) → loop_block (out-Stmt s) ≡ o →
          IsPlaced p (elim o [ None ↦ record { top = f; below = [] } | Some block ↦ entered (record { top = f; below = [] }) block (Turn s ∷ rest) ]) ⊎ (loop_block (out-Stmt s) ≡ None)
      go None e = inr e
      go (Some block) e = inl (entered-placed f lone block (Turn s ∷ rest)
          (subst (λ (o : Option Block). IsLoopAt p s (names_in f.locals) rest o) e h.0).1 h)

  -- the state in a persistent loop stands
  pub inside-placed : (number : ℕ) (spot : Spot) (values : List ℕ) → slice_get (loops p) number ≡ Some spot → length values ≡ length spot.scope →
      IsPlaced p (inside spot values)
  inside-placed number spot values e many = let h = loop-stands number spot e in
      ⊎_elim (λ placed. placed) (λ none. absurd (true≢false (sym h.1 ∙ ap is_some none)))
      (turned-placed (record { locals = named spot.scope values; todo = Turn spot.statement ∷ spot.rest; result = None }) spot.statement spot.rest refl
      (subst (λ (names : List ℕ). StandAt p false names (Turn spot.statement ∷ spot.rest)) (sym (names-named spot.scope values many)) (h.0.0 h.1, h.0.1)))
