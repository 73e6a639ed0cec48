-- What a thread has still to do is written in its program, in its own frame and in those of the functions that it
-- called. So the action at which it arrives is one of the program's.
use Rattle.std.proofs.Common.{◌≡◌, ℕ, zero, suc, ◌<◌, false, ◌==◌, List, [], ◌∷◌, ◌++◌, length, map, take, find, get_or, Contains, Option, Some, None, MatchOption, slice_get, ap, subst, arith}
use Rattle.std.specs.Prelude.{⊤}
use Rattle.std.specs.List.{AllByRecursion}
use Rattle.std.proofs.lemmas.Bool.{cond_both}
use Rattle.thread_tree.specs.declared.local.Local.{Local}
use Rattle.thread_tree.specs.declared.expr.Expr.{Expr}
use Rattle.thread_tree.specs.declared.block.Block.{Block, out-Block}
use Rattle.thread_tree.specs.declared.block.Stmt.{Stmt, Stmt-F, map-Stmt, out-Stmt}
use Rattle.thread_tree.specs.declared.block.Stmt.TheOpen as stmt
use Rattle.thread_tree.specs.declared.tree.Tree.{Tree}
use Rattle.thread_tree.specs.Program.{Program, Function, Template, function_of, program_of}
use Rattle.thread_tree.specs.Value.{value_of, values_in}
use Rattle.thread_tree.specs.LocalState.{Thing, Frame, LocalState, things, named, given_to, going_on, entered, returned, chosen_by, tested, branched, broken, frame_of, moved_by, moved, move, next_statement, after_first, bind, birth, loop_block}
use Rattle.thread_tree.specs.LocalState.Thing.{Do, End, Test, Turn}
use Rattle.thread_tree.specs.Ahead.{ahead}
use Rattle.thread_tree.specs.Ahead.Arrival.{AtAction}
use Rattle.thread_tree.specs.Actions.{Spot, SpotsOf, SpotsIn, spots_in, spots_of_layer, spots_in_turn, declared_by, spot_at, spots, actions, loops, inside}
use Rattle.thread_tree.specs.Relive.{Start, Record}
use Rattle.kernel_model.specs.Kernel.{Thread}
use Rattle.kernel_model.specs.Placed.{spots_of, AreSpots, IsLoopAt, StandAt}
use Rattle.kernel_model.specs.Relived.{IsRelived}
use Rattle.kernel_model.proofs.ActLemmas.{ahead-before, ahead-rests}
use Rattle.kernel_model.proofs.SpotLemmas.{with_spots, block_spots, spots_of-layer, spots_in-layer, both-parts, both-All}
use Rattle.kernel_model.proofs.PlacedLemmas.{all_spots, loop-stands}
use Rattle.kernel_model.proofs.TurnLemmas.{bodies-stand, template-stands}
use Rattle.kernel_model.proofs.KeptLaws.{ahead-kept, relived-kept}

-- a block is written in the program: its actions are the program's
pub record IsWritten (p : Program) (block : Block) : Type 0 where
  pub scope : List ℕ
  pub after : List Thing
  pub are : AreSpots p (spots_in block scope after)

-- a statement is written in the program
pub record IsWrittenStmt (p : Program) (s : Stmt) : Type 0 where
  pub scope : List ℕ
  pub after : List Thing
  pub are : AreSpots p (spots_of s s scope after)

-- a statement is an action of the program
pub record IsWrittenAction (p : Program) (s : Stmt) : Type 0 where
  pub scope : List ℕ
  pub after : List Thing
  pub is : Contains (spots p) (spot_at s scope after)

-- a thing to do is written in the program
abbrev pub IsWrittenThing : Program → Thing → Type 0
IsWrittenThing p (Do s) = IsWrittenStmt p s
IsWrittenThing p (End keep) = ⊤
IsWrittenThing p (Test e block) = IsWritten p block
IsWrittenThing p (Turn s) = IsWrittenAction p s

-- all that is still to do in a frame
abbrev pub IsWrittenFrame : Program → Frame → Type 0
IsWrittenFrame p frame = AllByRecursion (IsWrittenThing p) frame.todo

-- all that a thread has still to do
abbrev pub IsWrittenState : Program → LocalState → Type 0
IsWrittenState p s = IsWrittenFrame p s.top × AllByRecursion (IsWrittenFrame p) s.below

module _ (p : Program) where
  -- things to do, one after another
  abbrev AreWritten : List Thing → Type 0
  AreWritten todo = AllByRecursion (IsWrittenThing p) todo

  -- the spots of a layer
  abbrev AreSpotsOf : Stmt → List ℕ → List Thing → Stmt-F Stmt Block → Type 0
  AreSpotsOf s scope after x = AreSpots p (spots_of_layer (map-Stmt Stmt Block (Stmt × SpotsOf) (Block × SpotsIn) with_spots block_spots x) s scope after)

  -- the statements of a block
  statements-written : (ss : List Stmt) (scope : List ℕ) (after : List Thing) → AreSpots p (spots_in_turn (map with_spots ss) scope after) → AreWritten (map Do ss)
  statements-written [] scope after all = tt
  statements-written (s ∷ ss) scope after all =
      let rest : List Thing = map (λ t. Do t.0) (map with_spots ss) ++ after in
      let parts = both-parts (Contains (spots p)) (spots_of s s scope rest) (spots_in_turn (map with_spots ss) (scope ++ declared_by (out-Stmt s)) after) all in
      (record { scope = scope; after = rest; are = parts.0 }, statements-written ss (scope ++ declared_by (out-Stmt s)) after parts.1)

  -- the statements of a block that is written in the program
  things-written : (block : Block) → IsWritten p block → AreWritten (things block)
  things-written block h = statements-written (out-Block block).stmts h.scope h.after (subst (λ (of : SpotsIn). AreSpots p (of h.scope h.after)) (spots_in-layer block) h.are)

  -- what stands at its place is written there
  turn-written : (s : Stmt) (scope : List ℕ) (rest : List Thing) (o : Option Block) → IsLoopAt p s scope rest o → IsWrittenAction p s
  turn-written s scope rest None h = absurd h
  turn-written s scope rest (Some block) h = record { scope = scope; after = rest; is = h.0 }

  -- so is all that stands at its place
  standing-written : (scope : List ℕ) (todo : List Thing) → StandAt p false scope todo → AreWritten todo
  standing-written scope [] h = tt
  standing-written scope (Do s ∷ rest) h =
      (record { scope = scope; after = rest; are = h.0 }, standing-written (scope ++ declared_by (out-Stmt s)) rest h.1)
  standing-written scope (End keep ∷ rest) h = (tt, standing-written (take keep scope) rest h)
  standing-written scope (Test e block ∷ rest) h =
      (record { scope = scope; after = End (length scope) ∷ Test e block ∷ rest; are = h.0 }, standing-written scope rest h.1)
  standing-written scope (Turn s ∷ rest) h = (turn-written s scope rest (loop_block (out-Stmt s)) h.0, standing-written scope rest h.1)

  -- what is left after a `break`
  broken-written : (locals : List Local) (todo : List Thing) → AreWritten todo → AreWritten (broken locals todo).1
  broken-written locals [] h = tt
  broken-written locals (Do s ∷ todo) h = broken-written locals todo h.1
  broken-written locals (End keep ∷ todo) h = broken-written (take keep locals) todo h.1
  broken-written locals (Test e block ∷ todo) h = h.1
  broken-written locals (Turn s ∷ todo) h = h.1

  -- a frame that gets a result
  given-written : (to : Option ℕ) (value : ℕ) (frame : Frame) → IsWrittenFrame p frame → IsWrittenFrame p (given_to to value frame)
  given-written None value frame h = h
  given-written (Some name) value frame h = h

  -- a value that is returned
  returned-written : (f : Frame) (frames : List Frame) (value : ℕ) → AllByRecursion (IsWrittenFrame p) frames → IsWrittenState p (returned (record { top = f; below = frames }) value)
  returned-written f [] value h = (tt, tt)
  returned-written f (next ∷ frames) value h = (given-written f.result value next h.0, h.1)

  -- a function that is found by its name
  found-written : (name : ℕ) (functions : List Function) → AllByRecursion (λ function. IsWritten p function.body) functions →
      MatchOption (find (λ function. function.name == name) functions) ⊤ (λ function. IsWritten p function.body)
  found-written name [] h = tt
  found-written name (function ∷ functions) h = cond_both (function.name == name) (Some function) (find (λ (f : Function). f.name == name) functions)
      (λ (o : Option Function). MatchOption o ⊤ (λ function. IsWritten p function.body)) (λ e. h.0) (λ e. found-written name functions h.1)

  module _ (f : Frame) (frames : List Frame) (below : AllByRecursion (IsWrittenFrame p) frames) where
    abbrev s0 : LocalState
    s0 = record { top = f; below = frames }

    -- one of two states
    chosen-written : (value : ℕ) (taken passed : LocalState) → IsWrittenState p taken → IsWrittenState p passed → IsWrittenState p (chosen_by value taken passed)
    chosen-written value taken passed h g = cond_both (value == 0) passed taken (IsWrittenState p) (λ e. g) (λ e. h)

    -- a block that is entered
    entered-written : (block : Block) (rest : List Thing) → IsWritten p block → AreWritten rest → IsWrittenState p (entered s0 block rest)
    entered-written block rest h all = (both-All (IsWrittenThing p) (things block) (End (length f.locals) ∷ rest) (things-written block h) (tt, all), below)

    -- the test of a `while`
    tested-written : (e : Expr) (block : Block) (rest : List Thing) → IsWritten p block → AreWritten rest → IsWrittenState p (tested s0 e block rest)
    tested-written e block rest h all = chosen-written (value_of f.locals e) (entered s0 block (Test e block ∷ rest)) (going_on s0 rest)
        (entered-written block (Test e block ∷ rest) h (h, all)) (all, below)

    -- the choice of an `if`
    branched-written : (e : Expr) (block : Block) (other : Option Block) (rest : List Thing) → IsWritten p block → MatchOption other ⊤ (IsWritten p) → AreWritten rest →
        IsWrittenState p (branched s0 e block other rest)
    branched-written e block None rest h more all = chosen-written (value_of f.locals e) (entered s0 block rest) (going_on s0 rest)
        (entered-written block rest h all) (all, below)
    branched-written e block (Some other) rest h more all = chosen-written (value_of f.locals e) (entered s0 block rest) (entered s0 other rest)
        (entered-written block rest h all) (entered-written other rest more all)

    -- a function that is called, if it is declared
    called-written : (rest : List Thing) (o : Option Function) (values : List ℕ) (result : Option ℕ) → AreWritten rest →
        MatchOption o ⊤ (λ function. IsWritten p function.body) → IsWrittenState p (elim o [
          | None ↦ going_on s0 rest
          | Some function ↦ record { top = frame_of function values result; below = (going_on s0 rest).top ∷ s0.below }
        ])
    called-written rest None values result all h = (all, below)
    called-written rest (Some function) values result all h = (things-written function.body h, (all, below))

  -- the program's functions are written in it
  module _ (functions : AllByRecursion (λ function. IsWritten p function.body) p.functions) where
    module _ (f : Frame) (frames : List Frame) (below : AllByRecursion (IsWrittenFrame p) frames) where
      abbrev s1 : LocalState
      s1 = record { top = f; below = frames }

      -- the move that a statement is
      moved_by-written : (s : Stmt) (rest : List Thing) (x : Stmt-F Stmt Block) (scope : List ℕ) (after : List Thing) → AreSpotsOf s scope after x → AreWritten rest →
          MatchOption (moved_by p s1 rest x) ⊤ (IsWrittenState p)
      moved_by-written s rest (stmt.Let at e) scope after h all = (all, below)
      moved_by-written s rest (stmt.Set at e) scope after h all = (all, below)
      moved_by-written s rest (stmt.Apply to callee arguments) scope after h all =
          called-written f frames below rest (function_of p callee.name) (values_in f.locals arguments) _ all (found-written callee.name p.functions functions)
      moved_by-written s rest (stmt.If e block None) scope after h all =
          branched-written f frames below e block None rest (record { scope = scope; after = _; are = (both-parts (Contains (spots p)) (spots_in block scope (End (length scope) ∷ after)) [] h).0 }) tt all
      moved_by-written s rest (stmt.If e block (Some other)) scope after h all =
          let both = both-parts (Contains (spots p)) (spots_in block scope (End (length scope) ∷ after)) (spots_in other scope (End (length scope) ∷ after)) h in
          branched-written f frames below e block (Some other) rest (record { scope = scope; after = _; are = both.0 }) (record { scope = scope; after = _; are = both.1 }) all
      moved_by-written s rest (stmt.While e block) scope after h all = tested-written f frames below e block rest (record { scope = scope; after = _; are = h }) all
      moved_by-written s rest (stmt.Ploop place block) scope after h all = tt
      moved_by-written s rest (stmt.Break place) scope after h all = (broken-written f.locals rest all, below)
      moved_by-written s rest (stmt.Return place value) scope after h all = returned-written f frames (elim value [ None ↦ 0 | Some e ↦ value_of f.locals e ]) below
      moved_by-written s rest (stmt.Atomic place to block) scope after h all = tt
      moved_by-written s rest (stmt.Call place call to) scope after h all = tt

      -- the end of a body is the return of 0, or no move
      finished-written : (frames : List Frame) → AllByRecursion (IsWrittenFrame p) frames → MatchOption (moved p (record { top = f; below = frames }) []) ⊤ (IsWrittenState p)
      finished-written [] h = tt
      finished-written (next ∷ frames) h = returned-written f (next ∷ frames) 0 h

      -- the move that comes next, if one does
      moved-thing : (todo : List Thing) → AreWritten todo → MatchOption (moved p s1 todo) ⊤ (IsWrittenState p)
      moved-thing [] h = finished-written frames below
      moved-thing (Do s ∷ rest) h = moved_by-written s rest (out-Stmt s) h.0.scope h.0.after (subst (λ (of : SpotsOf). AreSpots p (of s h.0.scope h.0.after)) (spots_of-layer s) h.0.are) h.1
      moved-thing (End keep ∷ rest) h = (h.1, below)
      moved-thing (Test e block ∷ rest) h = tested-written f frames below e block rest h.0 h.1
      moved-thing (Turn s ∷ rest) h = tt

    -- a move keeps what is to do written in the program
    pub moved-written : (s t : LocalState) → IsWrittenState p s → move p s ≡ Some t → IsWrittenState p t
    moved-written s t h is = subst (λ (o : Option LocalState). MatchOption o ⊤ (IsWrittenState p)) is (moved-thing s.top s.below h.1 s.top.todo h.0)

  -- the results of an action keep it
  pub bind-written : (s : LocalState) (results : List ℕ) → IsWrittenState p s → IsWrittenState p (bind p s results)
  bind-written s results h = (rest s.top.todo h.0, h.1)
    where
      rest : (todo : List Thing) → AreWritten todo → AreWritten (after_first todo)
      rest [] all = tt
      rest (thing ∷ todo) all = all.1

  -- the state in a persistent loop
  inside-written : (number : ℕ) (spot : Spot) (values : List ℕ) → slice_get (loops p) number ≡ Some spot → IsWrittenState p (inside spot values)
  inside-written number spot values e =
      let loop = loop-stands p number spot e in
      go (loop_block (out-Stmt spot.statement)) (loop.0.0 loop.1) (standing-written spot.scope spot.rest loop.0.1)
    where
      f : Frame
      f = record { locals = named spot.scope values; todo = Turn spot.statement ∷ spot.rest; result = None }

      go : (o : Option Block) → IsLoopAt p spot.statement spot.scope spot.rest o → AreWritten spot.rest →
          IsWrittenState p (elim o [ None ↦ record { top = f; below = [] } | Some block ↦ entered (record { top = f; below = [] }) block (Turn spot.statement ∷ spot.rest) ])
      go None h all = absurd h
      go (Some block) h all = entered-written f [] tt block (Turn spot.statement ∷ spot.rest)
          (record { scope = spot.scope; after = _; are = h.1 }) (record { scope = spot.scope; after = spot.rest; is = h.0 }, all)

  -- a statement that comes next and is no move is an action of the program
  by_no_move : (s : LocalState) (rest : List Thing) (t : Stmt) (x : Stmt-F Stmt Block) (scope : List ℕ) (after : List Thing) → AreSpotsOf t scope after x → moved_by p s rest x ≡ None →
      Contains (spots p) (spot_at t scope after)
  by_no_move s rest t (stmt.Ploop place block) scope after h none = h.0
  by_no_move s rest t (stmt.Atomic place to block) scope after h none = h.0
  by_no_move s rest t (stmt.Call place call to) scope after h none = h.0
  by_no_move s rest t x scope after h none = cc

  -- what comes next where no move does
  next-written : (s : LocalState) (todo : List Thing) (t : Stmt) → AreWritten todo → moved p s todo ≡ None → next_statement todo ≡ Some t → IsWrittenAction p t
  next-written s [] t h none e = absurd (let f : ◌≡◌ {A = Option Stmt} None (Some t) = e in cc)
  next-written s (Do x ∷ rest) t h none e = let same : x ≡ t = cc in subst (IsWrittenAction p) same (record {
    scope = h.0.scope;
    after = h.0.after;
    is = by_no_move s rest x (out-Stmt x) h.0.scope h.0.after (subst (λ (of : SpotsOf). AreSpots p (of x h.0.scope h.0.after)) (spots_of-layer x) h.0.are) none;
  })
  next-written s (End keep ∷ rest) t h none e = absurd (let f : ◌≡◌ {A = Option Stmt} None (Some t) = e in cc)
  next-written s (Test x block ∷ rest) t h none e = absurd (let f : ◌≡◌ {A = Option Stmt} None (Some t) = e in cc)
  next-written s (Turn x ∷ rest) t h none e = let same : x ≡ t = cc in subst (IsWrittenAction p) same h.0

  -- an action of the program has a number
  number_of : (these : List Spot) (k : ℕ) (spot : Spot) → k < length these → get_or these k spot ≡ spot → slice_get (map (λ (x : Spot). x.statement) these) k ≡ Some spot.statement
  number_of [] k spot l e = absurd (omega arith)
  number_of (x ∷ these) zero spot l e = ap (λ (y : Spot). Some y.statement) e
  number_of (x ∷ these) (suc k) spot l e = number_of these k spot (omega arith) e

  -- the action that comes next where no move does
  action-written : (s : LocalState) (t : Stmt) → IsWrittenState p s → move p s ≡ None → next_statement s.top.todo ≡ Some t →
      (number : ℕ) × (slice_get (actions p) number ≡ Some t)
  action-written s t h none e =
      let at = next-written s s.top.todo t h.0 none e in
      (at.is.0, number_of (spots p) at.is.0 (spot_at t at.scope at.after) at.is.1 at.is.2)

module _ (tree : Tree) where
  abbrev p : Program
  p = program_of tree

  -- the program's functions
  functions-written : (functions : List Function) → AllByRecursion (λ (f : Function). AreSpots p (spots_in f.body f.parameters [])) functions → AllByRecursion (λ function. IsWritten p function.body) functions
  functions-written [] all = tt
  functions-written (f ∷ functions) all = (record { scope = f.parameters; after = []; are = all.0 }, functions-written functions all.1)

  -- a move of a thread of the program
  tree-moved : (s t : LocalState) → IsWrittenState p s → move p s ≡ Some t → IsWrittenState p t
  tree-moved = moved-written p (functions-written p.functions (bodies-stand p tree.decls (all_spots p)).1)

  -- the birth of a thread
  pub birth-written : (number : ℕ) (t : Template) (arguments : List ℕ) → slice_get p.templates number ≡ Some t → IsWrittenState p (birth t arguments)
  birth-written number t arguments e = (
    things-written p t.body (record { scope = t.parameters; after = []; are = template-stands tree number t e }),
    tt,
  )

  -- running ahead
  pub ahead-written : (s : LocalState) → IsWrittenState p s → IsWrittenState p (ahead p s).local
  ahead-written = ahead-kept p (IsWrittenState p) tree-moved

  -- the action at which a thread arrives is one of the program's
  pub arrival-written : (s : LocalState) (t : Stmt) → IsWrittenState p s → (ahead p s).arrival ≡ AtAction t → (number : ℕ) × (slice_get (actions p) number ≡ Some t)
  arrival-written s t h at = action-written p (ahead p s).local t (ahead-written s h) (ahead-rests p s t at) (ahead-before p s t at)

  -- so is that of a thread that its start and its records give back
  pub relived-arrival : (start : Start) (rs : List Record) (thread : Thread) (t : Stmt) → IsRelived p start rs thread → (ahead p thread.local).arrival ≡ AtAction t →
      (number : ℕ) × (slice_get (actions p) number ≡ Some t)
  relived-arrival start rs thread t h at = arrival-written thread.local t (relived-kept p (IsWrittenState p) (record {
    born = λ number t arguments e many. birth-written number t arguments e;
    entered = λ number spot values e many. inside-written p number spot values e;
    moved = tree-moved;
    bound = λ s action results h e. bind-written p s results h;
  }) start rs thread h) at
