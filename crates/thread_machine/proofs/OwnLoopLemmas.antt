-- A thread whose functions have no persistent loop stands at one in its own frame only.
use Rattle.std.proofs.Common.{◌≡◌, ℕ, ◌==◌, List, [], ◌∷◌, ◌++◌, length, map, take, Option, Some, None, MatchOption, true, false, refl, sym, ap, ◌∙◌, subst}
use Rattle.std.proofs.lemmas.Bool.{cond_both}
use Rattle.std.specs.Prelude.{⊤, find, Bool, cond}
use Rattle.std.specs.List.{AllByRecursion}
use Rattle.thread_tree.specs.declared.local.Local.{Local}
use Rattle.thread_tree.specs.declared.expr.Expr.{Expr}
use Rattle.thread_tree.specs.declared.block.Block.{Block, out-Block}
use Rattle.thread_tree.specs.declared.block.Stmt.{Stmt, Stmt-F, out-Stmt}
use Rattle.thread_tree.specs.declared.block.Stmt.TheOpen as stmt
use Rattle.thread_tree.specs.Program.{Program, Function, function_of}
use Rattle.thread_tree.specs.Value.{value_of, values_in}
use Rattle.thread_tree.specs.LocalState.{Thing, Frame, LocalState, things, given_to, going_on, entered, returned, chosen_by, tested, broken, frame_of, moved_by, moved, move, next_statement, after_first, bind, loop_block, turn, turned}
use Rattle.thread_tree.specs.LocalState.Thing.{Do, End, Test, Turn}
use Rattle.thread_tree.specs.Actions.{at_turn}
use Rattle.thread_check.specs.ActionLists.{actions_layer, actions_of, actions_in, actions_in_turn}
use Rattle.thread_check.specs.Loopless.{IsNoLoop, IsLoopless, AreLooplessFunctions}
use Rattle.thread_check.proofs.Callers.{actions_of_out, actions_in_out, all_both}
use Rattle.thread_machine.specs.Reached.{Reached}
use Rattle.thread_machine.specs.Reached.Reached.{Born, Entered, Moved, Bound, Turned}

-- actions without a persistent loop
abbrev NoLoops : List Stmt → Type 0
NoLoops ss = AllByRecursion IsNoLoop ss

-- a thing to do without a persistent loop in it
abbrev IsLooplessThing : Thing → Type 0
IsLooplessThing (Do s) = NoLoops (actions_of s)
IsLooplessThing (End keep) = ⊤
IsLooplessThing (Test e block) = IsLoopless block
IsLooplessThing (Turn s) = IsNoLoop s

abbrev AreLoopless : List Thing → Type 0
AreLoopless todo = AllByRecursion IsLooplessThing todo

-- what holds of a called function's frame, which has frames below it
abbrev IfCalled : List Frame → Type 0 → Type 0
IfCalled [] P = ⊤
IfCalled (f ∷ frames) P = P

-- each frame below is a called function's without loops, but for the outermost
abbrev AreBelow : List Frame → Type 0
AreBelow [] = ⊤
AreBelow (f ∷ frames) = IfCalled frames (AreLoopless f.todo) × AreBelow frames

-- only the outermost frame may have persistent loops
record IsOwn (s : LocalState) : Type 0 where
  pub top : IfCalled s.below (AreLoopless s.top.todo)
  pub below : AreBelow s.below

called_too : {P Q : Type 0} (frames : List Frame) → (P → Q) → IfCalled frames P → IfCalled frames Q
called_too [] so h = tt
called_too (f ∷ frames) so h = so h

-- the first and the second of two lists
all_first : {X : Type 0} (P : X → Type 0) (xs ys : List X) → AllByRecursion P (xs ++ ys) → AllByRecursion P xs
all_first P [] ys all = tt
all_first P (x ∷ xs) ys all = (all.0, all_first P xs ys all.1)

all_second : {X : Type 0} (P : X → Type 0) (xs ys : List X) → AllByRecursion P (xs ++ ys) → AllByRecursion P ys
all_second P [] ys all = all
all_second P (x ∷ xs) ys all = all_second P xs ys all.1

-- what holds of all holds of the one that is found
all_found : {X : Type 0} (P : X → Type 0) (test : X → Bool) (xs : List X) → AllByRecursion P xs → (x : X) → find test xs ≡ Some x → P x
all_found {X} P test [] all x e = absurd (let f : ◌≡◌ {A = Option X} None (Some x) = e in cc)
all_found P test (y ∷ ys) all x e = go (test y) (all_found P test ys all.1 x) e
  where
    go : (b : Bool) → (find test ys ≡ Some x → P x) → cond b (Some y) (find test ys) ≡ Some x → P x
    go true rest is = let same : y ≡ x = cc in subst P same all.0
    go false rest is = rest is

-- the statements of a block without loops, to be done
statements_do : (ss : List Stmt) → NoLoops (actions_in_turn ss) → AreLoopless (map Do ss)
statements_do [] all = tt
statements_do (s ∷ ss) all = (all_first IsNoLoop (actions_of s) (actions_in_turn ss) all, statements_do ss (all_second IsNoLoop (actions_of s) (actions_in_turn ss) all))

block_do : (block : Block) → IsLoopless block → AreLoopless (things block)
block_do block is = statements_do (out-Block block).stmts (subst NoLoops (actions_in_out block) is)

-- a block to be done, and what follows it
things_loopless : (block : Block) (keep : ℕ) (rest : List Thing) → IsLoopless block → AreLoopless rest → AreLoopless (things block ++ End keep ∷ rest)
things_loopless block keep rest is all = all_both IsLooplessThing (things block) (End keep ∷ rest) (block_do block is) (tt, all)

-- what is left by a `break`
broken_loopless : (locals : List Local) (todo : List Thing) → AreLoopless todo → AreLoopless (broken locals todo).1
broken_loopless locals [] all = tt
broken_loopless locals (Do s ∷ todo) all = broken_loopless locals todo all.1
broken_loopless locals (End keep ∷ todo) all = broken_loopless (take keep locals) todo all.1
broken_loopless locals (Test e block ∷ todo) all = all.1
broken_loopless locals (Turn s ∷ todo) all = all.1

-- what follows the first thing
after_loopless : (todo : List Thing) → AreLoopless todo → AreLoopless (after_first todo)
after_loopless [] all = tt
after_loopless (thing ∷ rest) all = all.1

-- a statement that is no loop, by its actions
no_loop : (x : Stmt-F Stmt Block) (s : Stmt) → out-Stmt s ≡ x → NoLoops (actions_layer actions_in x s) → loop_block x ≡ None
no_loop (stmt.Let at e) s is all = refl
no_loop (stmt.Set at e) s is all = refl
no_loop (stmt.Apply to callee arguments) s is all = refl
no_loop (stmt.If e block other) s is all = refl
no_loop (stmt.While e block) s is all = refl
no_loop (stmt.Ploop place block) s is all = ap loop_block (sym is) ∙ all.0
no_loop (stmt.Break place) s is all = refl
no_loop (stmt.Return place value) s is all = refl
no_loop (stmt.Atomic place to block) s is all = refl
no_loop (stmt.Call place call to) s is all = refl

-- the statement whose action comes next is none
next_no_loop : (todo : List Thing) (s : Stmt) → AreLoopless todo → next_statement todo ≡ Some s → IsNoLoop s
next_no_loop [] s all e = absurd (let f : ◌≡◌ {A = Option Stmt} None (Some s) = e in cc)
next_no_loop (Do x ∷ rest) s all e =
    let same : x ≡ s = cc in
    subst IsNoLoop same (no_loop (out-Stmt x) x refl (subst NoLoops (actions_of_out x) all.0))
next_no_loop (End keep ∷ rest) s all e = absurd (let f : ◌≡◌ {A = Option Stmt} None (Some s) = e in cc)
next_no_loop (Test x block ∷ rest) s all e = absurd (let f : ◌≡◌ {A = Option Stmt} None (Some s) = e in cc)
next_no_loop (Turn x ∷ rest) s all e = let same : x ≡ s = cc in subst IsNoLoop same all.0

-- the state after results were bound
bind_own : (p : Program) (s : LocalState) (results : List ℕ) → IsOwn s → IsOwn (bind p s results)
bind_own p s results h = record { top = called_too s.below (after_loopless s.top.todo) h.top; below = h.below }

-- the state after a turn of what may be a loop: a called function's statement is none
turned_own : (s : LocalState) (statement : Stmt) (rest : List Thing) (o : Option Block) → loop_block (out-Stmt statement) ≡ o → IfCalled s.below (IsNoLoop statement) → IsOwn s → IsOwn (elim o [ None ↦ s | Some block ↦ entered s block (Turn statement ∷ rest) ])
turned_own s statement rest None is none h = h
turned_own s statement rest (Some block) is none h = record {
  top = called_too s.below (λ no. absurd (let f : ◌≡◌ {A = Option Block} None (Some block) = sym no ∙ is in cc)) none;
  below = h.below;
}

turn_by : (s : LocalState) (o : Option Stmt) → next_statement s.top.todo ≡ o → IsOwn s → IsOwn (elim o [ None ↦ s | Some statement ↦ turned s statement (after_first s.top.todo) ])
turn_by s None is h = h
turn_by s (Some statement) is h =
    turned_own s statement (after_first s.top.todo) (loop_block (out-Stmt statement)) refl (called_too s.below (λ all. next_no_loop s.top.todo statement all is) h.top) h

turn_own : (s : LocalState) → IsOwn s → IsOwn (turn s)
turn_own s h = turn_by s (next_statement s.top.todo) refl h

-- a frame that gets a result
given_below : (to : Option ℕ) (value : ℕ) (f : Frame) (frames : List Frame) → IfCalled frames (AreLoopless f.todo) → IfCalled frames (AreLoopless (given_to to value f).todo)
given_below None value f frames h = h
given_below (Some name) value f frames h = h

-- a value that is returned
returned_own : (f : Frame) (frames : List Frame) → AreBelow frames → (value : ℕ) → IsOwn (returned (record { top = f; below = frames }) value)
returned_own f [] below value = record { top = tt; below = tt }
returned_own f (next ∷ frames) below value = record { top = given_below f.result value next frames below.0; below = below.1 }

module _ (p : Program) (functions : AreLooplessFunctions p) where
  module _ (f : Frame) (frames : List Frame) (below : AreBelow frames) where
    abbrev s0 : LocalState
    s0 = record { top = f; below = frames }

    on_own : (rest : List Thing) → IfCalled frames (AreLoopless rest) → IsOwn (going_on s0 rest)
    on_own rest all = record { top = all; below = below }

    entered_own : (block : Block) (rest : List Thing) → IfCalled frames (IsLoopless block × AreLoopless rest) → IsOwn (entered s0 block rest)
    entered_own block rest h = record { top = called_too frames (λ both. things_loopless block (length f.locals) rest both.0 both.1) h; below = below }

    chosen_own : (value : ℕ) (taken passed : LocalState) → IsOwn taken → IsOwn passed → IsOwn (chosen_by value taken passed)
    chosen_own value taken passed h g = cond_both (value == 0) passed taken IsOwn (λ e. g) (λ e. h)

    tested_own : (e : Expr) (block : Block) (rest : List Thing) → IfCalled frames (IsLoopless block × AreLoopless rest) → IsOwn (tested s0 e block rest)
    tested_own e block rest h = chosen_own (value_of f.locals e) (entered s0 block (Test e block ∷ rest)) (going_on s0 rest)
        (entered_own block (Test e block ∷ rest) (called_too frames (λ both. (both.0, (both.0, both.1))) h)) (on_own rest (called_too frames (λ both. both.1) h))

    called_own : (callee : ℕ) (rest : List Thing) (values : List ℕ) (result : Option ℕ) → IfCalled frames (AreLoopless rest) → (o : Option Function) → function_of p callee ≡ o → IsOwn (elim o [
      | None ↦ going_on s0 rest
      | Some function ↦ record { top = frame_of function values result; below = (going_on s0 rest).top ∷ s0.below }
    ])
    called_own callee rest values result all None e = on_own rest all
    called_own callee rest values result all (Some function) e = record {
      top = block_do function.body (all_found (λ (function : Function). IsLoopless function.body) (λ function. function.name == callee) p.functions functions function e);
      below = (all, below);
    }

    -- the move that a statement is, by its layer
    moved_by_own : (s : Stmt) (rest : List Thing) (x : Stmt-F Stmt Block) → IfCalled frames (NoLoops (actions_layer actions_in x s) × AreLoopless rest) → MatchOption (moved_by p s0 rest x) ⊤ IsOwn
    moved_by_own s rest (stmt.Let at e) h = record { top = called_too frames (λ both. both.1) h; below = below }
    moved_by_own s rest (stmt.Set at e) h = record { top = called_too frames (λ both. both.1) h; below = below }
    moved_by_own s rest (stmt.Apply to callee arguments) h = called_own callee.name rest (values_in f.locals arguments) _ (called_too frames (λ both. both.1) h) (function_of p callee.name) refl
    moved_by_own s rest (stmt.If e block None) h = chosen_own (value_of f.locals e) (entered s0 block rest) (going_on s0 rest)
        (entered_own block rest (called_too frames (λ both. (all_first IsNoLoop (actions_in block) [] both.0, both.1)) h)) (on_own rest (called_too frames (λ both. both.1) h))
    moved_by_own s rest (stmt.If e block (Some other)) h = chosen_own (value_of f.locals e) (entered s0 block rest) (entered s0 other rest)
        (entered_own block rest (called_too frames (λ both. (all_first IsNoLoop (actions_in block) (actions_in other) both.0, both.1)) h))
        (entered_own other rest (called_too frames (λ both. (all_second IsNoLoop (actions_in block) (actions_in other) both.0, both.1)) h))
    moved_by_own s rest (stmt.While e block) h = tested_own e block rest h
    moved_by_own s rest (stmt.Ploop place block) h = tt
    moved_by_own s rest (stmt.Break place) h = record { top = called_too frames (λ both. broken_loopless f.locals rest both.1) h; below = below }
    moved_by_own s rest (stmt.Return place None) h = returned_own f frames below 0
    moved_by_own s rest (stmt.Return place (Some e)) h = returned_own f frames below (value_of f.locals e)
    moved_by_own s rest (stmt.Atomic place to block) h = tt
    moved_by_own s rest (stmt.Call place call to) h = tt

  finished_own : (f : Frame) (frames : List Frame) → AreBelow frames → MatchOption (moved p (record { top = f; below = frames }) []) ⊤ IsOwn
  finished_own f [] below = tt
  finished_own f (next ∷ frames) below = returned_own f (next ∷ frames) below 0

  moved_own : (f : Frame) (frames : List Frame) (todo : List Thing) → AreBelow frames → IfCalled frames (AreLoopless todo) → MatchOption (moved p (record { top = f; below = frames }) todo) ⊤ IsOwn
  moved_own f frames [] below h = finished_own f frames below
  moved_own f frames (Do s ∷ rest) below h =
      moved_by_own f frames below s rest (out-Stmt s) (called_too frames (λ all. (subst NoLoops (actions_of_out s) all.0, all.1)) h)
  moved_own f frames (End keep ∷ rest) below h = record { top = called_too frames (λ all. all.1) h; below = below }
  moved_own f frames (Test e block ∷ rest) below h = tested_own f frames below e block rest h
  moved_own f frames (Turn s ∷ rest) below h = tt

  -- a move
  move_own : (s t : LocalState) → IsOwn s → move p s ≡ Some t → IsOwn t
  move_own s t h is = subst (λ (o : Option LocalState). MatchOption o ⊤ IsOwn) is (moved_own s.top s.below s.top.todo h.below h.top)

-- each state that a thread reaches
reached_own : (p : Program) (s : LocalState) → AreLooplessFunctions p → Reached p s → IsOwn s
reached_own p s functions (Born q number t arguments is same) = record { top = tt; below = tt }
reached_own p s functions (Entered q number spot values is same) = turn_own (at_turn spot values) (record { top = tt; below = tt })
reached_own p s functions (Moved q r t reached is) = move_own p functions r t (reached_own p r functions reached) is
reached_own p s functions (Bound q r action results reached is same) = bind_own p r results (reached_own p r functions reached)
reached_own p s functions (Turned q r reached) = turn_own r (reached_own p r functions reached)

-- a thread that stands at a persistent loop is in no function
pub own_loop : (p : Program) (s : LocalState) (t : Stmt) (block : Block) → AreLooplessFunctions p → Reached p s → next_statement s.top.todo ≡ Some t → loop_block (out-Stmt t) ≡ Some block → s.below ≡ []
own_loop p s t block functions reached next loop = go s.below (reached_own p s functions reached).top
  where
    go : (frames : List Frame) → IfCalled frames (AreLoopless s.top.todo) → frames ≡ []
    go [] h = refl
    go (f ∷ frames) h = absurd (let e : ◌≡◌ {A = Option Block} None (Some block) = sym (next_no_loop s.top.todo t h next) ∙ loop in cc)
