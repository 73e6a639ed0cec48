-- A turn enters the state inside its loop, and births stand where the program has them.
use Rattle.std.proofs.Common.{◌≡◌, ℕ, zero, suc, ◌<◌, Bool, true, false, cond, List, [], ◌∷◌, ◌++◌, length, filter, get_or, Contains, Option, Some, None, is_some, slice_get, refl, sym, ap, subst, ◌∙◌, arith, true≢false}
use Rattle.std.specs.List.{AllByRecursion, flat_map}
use Rattle.std.proofs.lemmas.List.{length-map}
use Rattle.std.proofs.lemmas.List.Elements.{All-from_recursion}
use Rattle.std.proofs.lemmas.Option.{slice_get_within, get_or_from_slice_get}
use Rattle.thread_tree.specs.declared.local.Local.{Local}
use Rattle.thread_tree.specs.declared.block.Block.{Block}
use Rattle.thread_tree.specs.declared.block.Stmt.{Stmt, Stmt-F, map-Stmt, out-Stmt}
use Rattle.thread_tree.specs.declared.block.Stmt.TheOpen as stmt
use Rattle.thread_tree.specs.declared.tree.Decl.{Decl}
use Rattle.thread_tree.specs.declared.tree.Decl.TheVariants as decl
use Rattle.thread_tree.specs.declared.tree.Tree.{Tree}
use Rattle.thread_tree.specs.Program.{Program, Body, Function, Template, sorted, program_of, names_of}
use Rattle.thread_tree.specs.LocalState.{Thing, Frame, LocalState, things, entered, next_statement, after_first, loop_block, turned, turn, birth}
use Rattle.thread_tree.specs.LocalState.Thing.{Do, End, Test, Turn}
use Rattle.thread_tree.specs.Ahead.{ahead}
use Rattle.thread_tree.specs.Actions.{Spot, SpotsOf, SpotsIn, spots_in, spots_of_layer, spots, is_loop, loops, at_turn, inside, spot_at, names_in, values_of as values_in_order}
use Rattle.kernel_model.specs.Placed.{AreSpots, IsLoopAt, StandAt, own_frame, IsPlacedFrame, IsPlaced}
use Rattle.kernel_model.proofs.SpotLemmas.{with_spots, block_spots, spots_of-layer, both-parts, body_stands}
use Rattle.kernel_model.proofs.PlacedLemmas.{named-parts, names-named, moved-placed, inside-placed, all_spots}
use Rattle.kernel_model.proofs.KeptLaws.{ahead-kept}

-- what passes a test and is in a list has a number among those that pass
pub number_among : {X : Type 0} (test : X → Bool) (xs : List X) (k : ℕ) (x : X) → k < length xs → get_or xs k x ≡ x → test x ≡ true →
    (n : ℕ) × (slice_get (filter test xs) n ≡ Some x)
number_among test [] k x l e passes = absurd (omega arith)
number_among test (y ∷ ys) zero x l e passes = go (test y) (ap test e ∙ passes)
  where
    go : (b : Bool) → b ≡ true → (n : ℕ) × (slice_get (cond b (y ∷ filter test ys) (filter test ys)) n ≡ Some x)
    go true is = (0, ap Some e)
    go false is = absurd (true≢false (sym is))
number_among test (y ∷ ys) (suc k) x l e passes = go (test y) (number_among test ys k x (omega arith) e passes)
  where
    go : (b : Bool) → (n : ℕ) × (slice_get (filter test ys) n ≡ Some x) → (n : ℕ) × (slice_get (cond b (y ∷ filter test ys) (filter test ys)) n ≡ Some x)
    go true rest = (suc rest.0, rest.1)
    go false rest = rest

module _ (p : Program) where
  -- a loop that comes next is a spot of the program
  loop-spot : (s : Stmt) (block : Block) (scope : List ℕ) (rest : List Thing) (x : Stmt-F Stmt Block) → loop_block x ≡ Some block →
      AreSpots p (spots_of_layer (map-Stmt Stmt Block (Stmt × SpotsOf) (Block × SpotsIn) with_spots block_spots x) s scope rest) →
      Contains (spots p) (spot_at s scope rest)
  loop-spot s block scope rest (stmt.Let at e) is all = absurd (let f : ◌≡◌ {A = Option Block} None (Some block) = is in cc)
  loop-spot s block scope rest (stmt.Set at e) is all = absurd (let f : ◌≡◌ {A = Option Block} None (Some block) = is in cc)
  loop-spot s block scope rest (stmt.Apply to callee arguments) is all = absurd (let f : ◌≡◌ {A = Option Block} None (Some block) = is in cc)
  loop-spot s block scope rest (stmt.If e inner other) is all = absurd (let f : ◌≡◌ {A = Option Block} None (Some block) = is in cc)
  loop-spot s block scope rest (stmt.While e inner) is all = absurd (let f : ◌≡◌ {A = Option Block} None (Some block) = is in cc)
  loop-spot s block scope rest (stmt.Ploop place inner) is all = all.0
  loop-spot s block scope rest (stmt.Break place) is all = absurd (let f : ◌≡◌ {A = Option Block} None (Some block) = is in cc)
  loop-spot s block scope rest (stmt.Return place value) is all = absurd (let f : ◌≡◌ {A = Option Block} None (Some block) = is in cc)
  loop-spot s block scope rest (stmt.Atomic place to inner) is all = absurd (let f : ◌≡◌ {A = Option Block} None (Some block) = is in cc)
  loop-spot s block scope rest (stmt.Call place call to) is all = absurd (let f : ◌≡◌ {A = Option Block} None (Some block) = is in cc)

  next-spot : (scope : List ℕ) (todo : List Thing) (s : Stmt) (block : Block) → next_statement todo ≡ Some s → loop_block (out-Stmt s) ≡ Some block →
      StandAt p false scope todo → Contains (spots p) (spot_at s scope (after_first todo))
  next-spot scope [] s block e is h = absurd (let f : ◌≡◌ {A = Option Stmt} None (Some s) = e in cc)
  next-spot scope (Do x ∷ rest) s block e is h = let same : x ≡ s = cc in
      subst (λ (y : Stmt). Contains (spots p) (spot_at y scope rest)) same
      (loop-spot x block scope rest (out-Stmt x) (ap (λ y. loop_block (out-Stmt y)) same ∙ is) (subst (λ (of : SpotsOf). AreSpots p (of x scope rest)) (spots_of-layer x) h.0))
  next-spot scope (End keep ∷ rest) s block e is h = absurd (let f : ◌≡◌ {A = Option Stmt} None (Some s) = e in cc)
  next-spot scope (Test x inner ∷ rest) s block e is h = absurd (let f : ◌≡◌ {A = Option Stmt} None (Some s) = e in cc)
  next-spot scope (Turn x ∷ rest) s block e is h = let same : x ≡ s = cc in
      subst (λ (y : Stmt). Contains (spots p) (spot_at y scope rest)) same
      (subst (λ (o : Option Block). IsLoopAt p x scope rest o) (ap (λ y. loop_block (out-Stmt y)) same ∙ is) h.0).0

  -- the state in a loop's block, by what it depends on
  in_block : Stmt → Block → List Thing → List Local → Option ℕ → List Frame → LocalState
  in_block s block rest locals result below =
      record { top = record { locals = locals; todo = things block ++ End (length locals) ∷ Turn s ∷ rest; result = result }; below = below }

  -- a turn of a loop
  turn-enters : (t : LocalState) (s : Stmt) (block : Block) → next_statement t.top.todo ≡ Some s → loop_block (out-Stmt s) ≡ Some block →
      turn t ≡ in_block s block (after_first t.top.todo) t.top.locals t.top.result t.below
  unfolding in_block
  turn-enters t s block e is = ap (λ (o : Option Stmt). elim o [ None ↦ t | Some statement ↦ turned t statement (after_first t.top.todo) ]) e
      ∙ ap (λ (o : Option Block). elim o [ None ↦ t | Some block ↦ entered t block (Turn s ∷ after_first t.top.todo) ]) is

  -- the turn of a thread that isn't in a function enters the state inside one of the program's loops
  pub turn-inside : (t : LocalState) (s : Stmt) (block : Block) → IsPlaced p t → t.below ≡ [] → next_statement t.top.todo ≡ Some s →
      loop_block (out-Stmt s) ≡ Some block →
      (number : ℕ) × (slice_get (loops p) number ≡ Some (spot_at s (names_in t.top.locals) (after_first t.top.todo)))
      × (turn t ≡ inside (spot_at s (names_in t.top.locals) (after_first t.top.todo)) (values_in_order t.top.locals))
  turn-inside t s block h alone e is =
      let own : IsPlacedFrame p t.top = subst (λ (frames : List Frame). IsPlacedFrame p (own_frame t.top frames)) alone h in
      let spot : Spot = spot_at s (names_in t.top.locals) (after_first t.top.todo) in
      let at : Contains (spots p) spot = next-spot (names_in t.top.locals) t.top.todo s block e is own.stands in
      let found = number_among is_loop (spots p) at.0 spot at.1 at.2 (ap is_some is) in (
        found.0,
        found.1,
        turn-enters t s block e is
            ∙ ap (λ (r : Option ℕ). in_block s block (after_first t.top.todo) t.top.locals r t.below) own.lone
            ∙ ap (λ (frames : List Frame). in_block s block (after_first t.top.todo) t.top.locals None frames) alone
            ∙ ap (λ (ls : List Local). in_block s block (after_first t.top.todo) ls None []) (sym (named-parts t.top.locals))
            ∙ sym (turn-enters (at_turn spot (values_in_order t.top.locals)) s block refl is),
      )

  -- a turn keeps a thread where it stands
  pub turn-placed : (t : LocalState) (s : Stmt) (block : Block) → IsPlaced p t → t.below ≡ [] → next_statement t.top.todo ≡ Some s →
      loop_block (out-Stmt s) ≡ Some block → IsPlaced p (turn t)
  turn-placed t s block h alone e is = let law = turn-inside t s block h alone e is in
      subst (IsPlaced p) (sym law.2) (inside-placed p law.0 (spot_at s (names_in t.top.locals) (after_first t.top.todo)) (values_in_order t.top.locals) law.1
      (length-map t.top.locals (λ (local : Local). local.value) ∙ sym (length-map t.top.locals (λ (local : Local). local.name))))

  -- running ahead keeps a thread where it stands
  pub ahead-placed : (s : LocalState) → IsPlaced p s → IsPlaced p (ahead p s).local
  ahead-placed = ahead-kept p (IsPlaced p) (moved-placed p)

  -- the birth of a template whose body is one of the program's
  birth-stands : (t : Template) (arguments : List ℕ) → length arguments ≡ length t.parameters → AreSpots p (spots_in t.body t.parameters []) →
      IsPlaced p (birth t arguments)
  birth-stands t arguments many all = record {
    stands = subst (λ (names : List ℕ). StandAt p false names (things t.body)) (sym (names-named t.parameters arguments many)) (body_stands p t.body t.parameters all);
    lone = refl;
  }

  -- the bodies of the templates and functions that declarations have
  pub bodies-stand : (ds : List Decl) → AreSpots p (flat_map (λ (body : Body). spots_in body.block body.parameters []) (sorted ds).bodies) →
      AllByRecursion (λ (t : Template). AreSpots p (spots_in t.body t.parameters [])) (sorted ds).templates
      × AllByRecursion (λ (f : Function). AreSpots p (spots_in f.body f.parameters [])) (sorted ds).functions
  bodies-stand [] all = (tt, tt)
  bodies-stand (decl.Kind name fields ∷ ds) all = bodies-stand ds all
  bodies-stand (decl.Object name kind ∷ ds) all = bodies-stand ds all
  bodies-stand (decl.Queue name capacity channel ∷ ds) all = bodies-stand ds all
  bodies-stand (decl.Semaphore name count maximum ∷ ds) all = bodies-stand ds all
  bodies-stand (decl.Function name parameters body ∷ ds) all =
      let some = both-parts (Contains (spots p)) (spots_in body (names_of parameters) []) (flat_map (λ (body : Body). spots_in body.block body.parameters []) (sorted ds).bodies) all in
      let rest = bodies-stand ds some.1 in (rest.0, (some.0, rest.1))
  bodies-stand (decl.Thread name parameters priority body ∷ ds) all =
      let some = both-parts (Contains (spots p)) (spots_in body (names_of parameters) []) (flat_map (λ (body : Body). spots_in body.block body.parameters []) (sorted ds).bodies) all in
      let rest = bodies-stand ds some.1 in ((some.0, rest.0), rest.1)
  bodies-stand (decl.Start place name arguments ∷ ds) all = bodies-stand ds all

-- the body of a template stands
pub template-stands : (tree : Tree) (number : ℕ) (t : Template) → slice_get (program_of tree).templates number ≡ Some t →
    AreSpots (program_of tree) (spots_in t.body t.parameters [])
template-stands tree number t e =
    subst (λ (x : Template). AreSpots (program_of tree) (spots_in x.body x.parameters [])) (get_or_from_slice_get (program_of tree).templates number t t e)
    (All-from_recursion (λ (x : Template). AreSpots (program_of tree) (spots_in x.body x.parameters [])) (program_of tree).templates
    (bodies-stand (program_of tree) tree.decls (all_spots (program_of tree))).0 number t (slice_get_within (program_of tree).templates number t e))

-- the birth of a thread stands where the program of a tree has it
pub birth-placed : (tree : Tree) (number : ℕ) (t : Template) (arguments : List ℕ) → slice_get (program_of tree).templates number ≡ Some t →
    length arguments ≡ length t.parameters → IsPlaced (program_of tree) (birth t arguments)
birth-placed tree number t arguments e many = birth-stands (program_of tree) t arguments many (template-stands tree number t e)
