-- Running ahead, move by move.
use Rattle.std.proofs.Common.{◌≡◌, ◌≢◌, ℕ, zero, suc, ◌+◌, ◌-◌, List, [], ◌∷◌, ◌++◌, length, take, drop, Bool, true, false, not, Option, Some, None, ◌⊎◌, ⊎_elim, inl, inr, refl, ap, sym, ◌∙◌, arith}
use Rattle.std.specs.Prelude.{slice_get, if◌then◌else◌}
use Rattle.std.specs.Option.{is_some}
use Rattle.thread_tree.specs.declared.local.Local.{Local}
use Rattle.thread_tree.specs.declared.block.Block.{Block}
use Rattle.thread_tree.specs.declared.block.Stmt.{Stmt, out-Stmt}
use Rattle.thread_tree.specs.declared.block.Stmt.TheOpen.{Stmt-F}
use Rattle.thread_tree.specs.declared.block.Stmt.TheOpen as stmt
use Rattle.thread_tree.specs.Program.{Program}
use Rattle.thread_tree.specs.LocalState.{Thing, LocalState, move, moved, moved_by}
use Rattle.thread_tree.specs.Ahead.{Ahead, ahead, ahead_by, arrival_of, goes_on, stays, stops}
use Rattle.thread_tree.specs.Ahead.Arrival.{Watchdog}
use Rattle.thread_machine.specs.declared.context.Ctx.{Ctx}
use Rattle.thread_machine.specs.declared.context.Cursor.{Cursor}
use Rattle.thread_machine.specs.declared.context.Way.{Way}
use Rattle.thread_machine.specs.declared.context.Way.TheVariants as way
use Rattle.thread_machine.specs.Context.{is_move, level_along, level_of, local_of, state_at, statement_of, todo_at}
use Rattle.thread_machine.proofs.LevelLemmas.{last_is, last_none}
use Rattle.thread_machine.proofs.ReturnLemmas.{end_none, end_call, end_block}
use Rattle.thread_machine.proofs.StepLemmas.{step_some, step_none}

statement_moves : (p : Program) (s : LocalState) (rest : List Thing) (layer : Stmt-F Stmt Block) → is_some (moved_by p s rest layer) ≡ is_move layer
statement_moves p s rest (stmt.Let at e) = refl
statement_moves p s rest (stmt.Set at e) = refl
statement_moves p s rest (stmt.Apply to callee arguments) = refl
statement_moves p s rest (stmt.If e block other) = refl
statement_moves p s rest (stmt.While e block) = refl
statement_moves p s rest (stmt.Ploop place block) = refl
statement_moves p s rest (stmt.Break place) = refl
statement_moves p s rest (stmt.Return place value) = refl
statement_moves p s rest (stmt.Atomic place to block) = refl
statement_moves p s rest (stmt.Call place call to) = refl

-- a statement at hand is the next move, if it is one
pub move_at_statement : (p : Program) (ctx : Ctx) (s : Stmt) → statement_of p ctx ≡ Some s → is_some (move p (local_of p ctx)) ≡ is_move (out-Stmt s)
move_at_statement p ctx s here =
    ap (λ t. is_some t) (step_some p ctx s here) ∙ statement_moves p (local_of p ctx) _ (out-Stmt s)

is_call : (w : Way) → (w ≡ way.Call) ⊎ (w ≢ way.Call)
is_call way.First = inr (λ e. cc)
is_call way.Else = inr (λ e. cc)
is_call way.Call = inl refl

end_moves : (p : Program) (template : ℕ) (cs less : List Cursor) (c : Cursor) (outer own : List Local) (before : List Thing) → cs ≡ less ++ c ∷ [] → is_some (moved p (state_at (level_along p template cs) outer own before) (level_along p template cs).behind) ≡ true
end_moves p template cs less c outer own before is =
    ⊎_elim
    (λ call. ap (λ t. is_some t) (end_call p template cs less c outer own before is call))
    (λ block. ap (λ t. is_some t) (end_block p template cs less c outer own before [] is block))
    (is_call c.way)

-- at the end of a block a move is next
pub move_at_end : (p : Program) (ctx : Ctx) (c : Cursor) → statement_of p ctx ≡ None → slice_get ctx.cursors.items (length ctx.cursors.items - 1) ≡ Some c → is_some (move p (local_of p ctx)) ≡ true
move_at_end p ctx c here is =
    let cs = ctx.cursors.items in
    ap (λ t. is_some t) (step_none p ctx here)
    ∙ end_moves p ctx.body cs (take (length cs - 1) cs) c (take ctx.base ctx.slots.items) (drop ctx.base ctx.slots.items) (todo_at (level_of p ctx) ctx.again ctx.at) (last_is cs c is)

-- at the end of a thread's body none is
pub no_move_at_end : (p : Program) (ctx : Ctx) → statement_of p ctx ≡ None → slice_get ctx.cursors.items (length ctx.cursors.items - 1) ≡ None → is_some (move p (local_of p ctx)) ≡ false
no_move_at_end p ctx here is =
    let cs = ctx.cursors.items in
    ap (λ t. is_some t) (step_none p ctx here)
    ∙ ap (λ t. is_some t) (end_none p ctx.body cs (take ctx.base ctx.slots.items) (drop ctx.base ctx.slots.items) (todo_at (level_of p ctx) ctx.again ctx.at) (last_none cs is))

-- after so many moves a thread that runs ahead is in a state, and may make so many more
pub record IsAhead (p : Program) (start : LocalState) (made left : ℕ) (s : LocalState) (all : Ahead) : Type 0 where
  pub arrival : all.arrival ≡ (ahead_by p left s).arrival
  pub local : all.local ≡ (ahead_by p left s).local
  pub moves : all.moves ≡ (ahead_by p left s).moves + made

pub ahead_begins : (p : Program) (s : LocalState) → IsAhead p s 0 10000 s (ahead p s)
ahead_begins p s = record { arrival = refl; local = refl; moves = omega arith }

ahead_moved : (p : Program) (s t : LocalState) (left : ℕ) → move p s ≡ Some t → ahead_by p (suc left) s ≡ (let a = ahead_by p left t in record a { moves = a.moves + 1 })
unfolding ahead_by
ahead_moved p s t left is = ap (λ o. goes_on (λ t. ahead_by p left t) s o) is

-- one move more
pub ahead_more : (p : Program) (start s t : LocalState) (made left less : ℕ) (all : Ahead) → left ≡ suc less → move p s ≡ Some t → IsAhead p start made left s all → IsAhead p start (made + 1) less t all
ahead_more p start s t made left less all one is so_far =
    let e : ahead_by p left s ≡ (let a = ahead_by p less t in record a { moves = a.moves + 1 }) = rw one (ahead_moved p s t less is) in
    record {
      arrival = so_far.arrival ∙ ap (λ (a : Ahead). a.arrival) e;
      local = so_far.local ∙ ap (λ (a : Ahead). a.local) e;
      moves = omega (arith, so_far.moves, ap (λ (a : Ahead). a.moves) e);
    }

ahead_stays : (p : Program) (s : LocalState) (left : ℕ) → move p s ≡ None → ahead_by p left s ≡ stays (arrival_of s) s
unfolding ahead_by
ahead_stays p s zero is = ap (λ o. stops s o) is
ahead_stays p s (suc left) is = ap (λ o. goes_on (λ t. ahead_by p left t) s o) is

-- no move is next
pub ahead_stops : (p : Program) (start s : LocalState) (made left : ℕ) (all : Ahead) → move p s ≡ None → IsAhead p start made left s all → (all.arrival ≡ arrival_of s) × (s ≡ all.local) × (all.moves ≡ made)
ahead_stops p start s made left all is so_far =
    let e = ahead_stays p s left is in (
      so_far.arrival ∙ ap (λ (a : Ahead). a.arrival) e,
      sym (so_far.local ∙ ap (λ (a : Ahead). a.local) e),
      omega (arith, so_far.moves, ap (λ (a : Ahead). a.moves) e),
    )

ahead_full : (p : Program) (s : LocalState) (next : Option LocalState) → move p s ≡ next → is_some next ≡ true → ahead_by p 0 s ≡ stays Watchdog s
unfolding ahead_by
ahead_full p s None is some = cc
ahead_full p s (Some t) is some = ap (λ o. stops s o) is

-- the bound is reached and a move is next
pub ahead_bound : (p : Program) (start s : LocalState) (made left : ℕ) (all : Ahead) → left ≡ 0 → is_some (move p s) ≡ true → IsAhead p start made left s all → (all.arrival ≡ Watchdog) × (s ≡ all.local) × (all.moves ≡ made)
ahead_bound p start s made left all none is so_far =
    let e : ahead_by p left s ≡ stays Watchdog s = rw none (ahead_full p s (move p s) refl is) in (
      so_far.arrival ∙ ap (λ (a : Ahead). a.arrival) e,
      sym (so_far.local ∙ ap (λ (a : Ahead). a.local) e),
      omega (arith, so_far.moves, ap (λ (a : Ahead). a.moves) e),
    )

pub none_from : (next : Option LocalState) → is_some next ≡ false → next ≡ None
none_from None is = refl
none_from (Some t) is = cc

-- the bound is reached, and a move is next or not
pub ahead_ends : (p : Program) (start s : LocalState) (made left : ℕ) (all : Ahead) (has : Bool) → left ≡ 0 → has ≡ is_some (move p s) → IsAhead p start made left s all → (all.arrival ≡ (if (not has) then arrival_of s else Watchdog)) × (s ≡ all.local) × (all.moves ≡ made)
ahead_ends p start s made left all true none is so_far = ahead_bound p start s made left all none (sym is) so_far
ahead_ends p start s made left all false none is so_far = ahead_stops p start s made left all (none_from (move p s) (sym is)) so_far
