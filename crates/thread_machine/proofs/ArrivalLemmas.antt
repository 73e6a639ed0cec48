-- Where a thread stands that has no move.
use Rattle.std.proofs.Common.{◌≡◌, ℕ, ◌+◌, ◌-◌, List, [], ◌∷◌, ◌++◌, length, take, drop, map, Bool, true, false, Option, Some, None, refl, ap, sym, ◌∙◌}
use Rattle.std.specs.Prelude.{slice_get, IsSomeAnd}
use Rattle.std.specs.Option.{is_some}
use Rattle.thread_tree.specs.declared.block.Block.{Block}
use Rattle.thread_tree.specs.declared.block.Stmt.{Stmt, out-Stmt}
use Rattle.thread_tree.specs.declared.block.Stmt.TheOpen.{Stmt-F}
use Rattle.thread_tree.specs.declared.block.Stmt.TheOpen as stmt
use Rattle.thread_tree.specs.Program.{Program}
use Rattle.thread_tree.specs.declared.local.Local.{Local}
use Rattle.thread_tree.specs.Actions.{actions, names_in, spot_at, spots}
use Rattle.thread_tree.specs.Ahead.{Arrival, arrival_of}
use Rattle.thread_tree.specs.Ahead.Arrival.{AtAction, Finished}
use Rattle.thread_tree.specs.LocalState.{Thing, after_first, move, next_statement}
use Rattle.thread_tree.specs.LocalState.Thing.{Do}
use Rattle.thread_machine.specs.declared.context.Ctx.{Ctx}
use Rattle.thread_machine.specs.declared.context.Cursor.{Cursor}
use Rattle.thread_machine.specs.declared.context.Way.{Way}
use Rattle.thread_machine.specs.declared.context.Way.TheVariants as way
use Rattle.thread_machine.specs.declared.next.Next.TheVariants as next
use Rattle.thread_machine.specs.Context.{Level, Waiting, again_of, frames, is_move, level_along, level_by, level_of, local_of, rest_of, statement_of, to_do, todo_at}
use Rattle.thread_machine.specs.Next.{IsAtSpot, IsNext}
use Rattle.thread_machine.proofs.ListLemmas.{drop_at_item, drop_at_none}
use Rattle.thread_machine.proofs.LevelLemmas.{level_along-snoc, level_along-none, last_is, last_none}
use Rattle.thread_machine.proofs.RunLemmas.{move_at_statement}

-- a statement at which no move is next is an action
pub action_stops : (p : Program) (ctx : Ctx) (s : Stmt) → statement_of p ctx ≡ Some s → move p (local_of p ctx) ≡ None → is_move (out-Stmt s) ≡ false
action_stops p ctx s here none = sym (move_at_statement p ctx s here) ∙ ap (λ t. is_some t) none

pub action_required : (p : Program) (ctx : Ctx) (s : Stmt) → statement_of p ctx ≡ Some s → move p (local_of p ctx) ≡ None → IsSomeAnd (statement_of p ctx) (λ t. is_move (out-Stmt t) ≡ false)
action_required p ctx s here none = rw here (action_stops p ctx s here none)

first_again : (layer : Stmt-F Stmt Block) (s : Stmt) (rest : List Thing) → is_move layer ≡ false → next_statement (again_of layer s ∷ rest) ≡ Some s
first_again (stmt.Let at e) s rest is = cc
first_again (stmt.Set at e) s rest is = cc
first_again (stmt.Apply to callee arguments) s rest is = cc
first_again (stmt.If e block other) s rest is = cc
first_again (stmt.While e block) s rest is = cc
first_again (stmt.Ploop place block) s rest is = refl
first_again (stmt.Break place) s rest is = cc
first_again (stmt.Return place value) s rest is = cc
first_again (stmt.Atomic place to block) s rest is = refl
first_again (stmt.Call place call to) s rest is = refl

first_head : (again : Bool) (s : Stmt) (stmts : List Stmt) (behind : List Thing) → is_move (out-Stmt s) ≡ false → next_statement (to_do again (s ∷ stmts) ++ behind) ≡ Some s
first_head false s stmts behind is = refl
first_head true s stmts behind is = first_again (out-Stmt s) s (map Do stmts ++ behind) is

abbrev arrives : Option Stmt → Arrival
arrives found = elim found as (λ _. Arrival) [ None ↦ Finished | Some statement ↦ AtAction statement ]

-- the action at hand is where the thread arrives
pub arrives_at : (p : Program) (ctx : Ctx) (s : Stmt) → statement_of p ctx ≡ Some s → move p (local_of p ctx) ≡ None → arrival_of (local_of p ctx) ≡ AtAction s
arrives_at p ctx s here none =
    let l = level_of p ctx in
    ap (λ stmts. arrives (next_statement (to_do ctx.again stmts ++ l.behind))) (drop_at_item l.stmts ctx.at s here)
    ∙ ap arrives (first_head ctx.again s (drop (ctx.at + 1) l.stmts) l.behind (action_stops p ctx s here none))

first_by : (p : Program) (l : Level) (at keep : ℕ) (w : Way) → next_statement (level_by p l at keep w).behind ≡ None
first_by p l at keep way.First = refl
first_by p l at keep way.Else = refl
first_by p l at keep way.Call = refl

first_behind : (p : Program) (body : ℕ) (cs : List Cursor) (last : Option Cursor) → slice_get cs (length cs - 1) ≡ last → next_statement (level_along p body cs).behind ≡ None
first_behind p body cs None is = ap (λ xs. next_statement (level_along p body xs).behind) (last_none cs is) ∙ ap (λ (l : Level). next_statement l.behind) (level_along-none p body)
first_behind p body cs (Some c) is =
    ap (λ xs. next_statement (level_along p body xs).behind) (last_is cs c is)
    ∙ ap (λ (l : Level). next_statement l.behind) (level_along-snoc p body (take (length cs - 1) cs) c)
    ∙ first_by p (level_along p body (take (length cs - 1) cs)) c.at c.keep c.way

first_end : (again : Bool) (behind : List Thing) → next_statement (to_do again [] ++ behind) ≡ next_statement behind
first_end false behind = refl
first_end true behind = refl

-- where no statement is left no action is
pub arrives_end : (p : Program) (ctx : Ctx) → statement_of p ctx ≡ None → arrival_of (local_of p ctx) ≡ Finished
arrives_end p ctx here =
    let l = level_of p ctx in
    ap (λ stmts. arrives (next_statement (to_do ctx.again stmts ++ l.behind))) (drop_at_none l.stmts ctx.at here)
    ∙ ap arrives (first_end ctx.again l.behind ∙ first_behind p ctx.body ctx.cursors.items (slice_get ctx.cursors.items (length ctx.cursors.items - 1)) refl)

-- the number of the action at hand tells where the thread arrives
pub next_action_is : (p : Program) (ctx : Ctx) (s : Stmt) (arrival : Arrival) (number : ℕ) → arrival ≡ arrival_of (local_of p ctx) → statement_of p ctx ≡ Some s → move p (local_of p ctx) ≡ None → slice_get (actions p) number ≡ statement_of p ctx → IsNext p arrival (next.Action number)
next_action_is p ctx s arrival number is here none at = rw (is, arrives_at p ctx s here none) (at ∙ here)

-- after the action that comes next the rest of its block is to be done
after_again : (again : Bool) (s : Stmt) (stmts : List Stmt) (behind : List Thing) → after_first (to_do again (s ∷ stmts) ++ behind) ≡ map Do stmts ++ behind
after_again false s stmts behind = refl
after_again true s stmts behind = refl

after_here : (l : Level) (again : Bool) (at : ℕ) (s : Stmt) → slice_get l.stmts at ≡ Some s → after_first (todo_at l again at) ≡ todo_at l false (at + 1)
after_here l again at s here = rw (drop_at_item l.stmts at s here) (after_again again s (drop (at + 1) l.stmts) l.behind)

-- a frame is below for each that waits
frames_none : (slots : List Local) (ws : List Waiting) → frames slots ws ≡ [] → ws ≡ []
frames_none slots [] none = refl
frames_none slots (w ∷ ws) none = cc

-- the number of the action at hand tells where it stands
pub next_spot_is : (p : Program) (ctx : Ctx) (s : Stmt) (number : ℕ) → statement_of p ctx ≡ Some s → move p (local_of p ctx) ≡ None → ((level_of p ctx).waiting ≡ [] → (t : Stmt) → statement_of p ctx ≡ Some t → slice_get (spots p) number ≡ Some (spot_at t (names_in (local_of p ctx).top.locals) (rest_of p ctx))) → IsAtSpot p (local_of p ctx) (next.Action number)
next_spot_is p ctx s number here none place below t is =
    let l = level_of p ctx in
    let names = names_in (local_of p ctx).top.locals in
    let first : next_statement (local_of p ctx).top.todo ≡ Some s =
    ap (λ stmts. next_statement (to_do ctx.again stmts ++ l.behind)) (drop_at_item l.stmts ctx.at s here)
    ∙ first_head ctx.again s (drop (ctx.at + 1) l.stmts) l.behind (action_stops p ctx s here none) in
    let same : s ≡ t = (let both : Some s ≡ Some t = sym first ∙ is in cc) in
    place (frames_none (take ctx.base ctx.slots.items) l.waiting below) t (here ∙ ap (λ u. Some u) same)
    ∙ ap (λ rest. Some (spot_at t names rest)) (sym (after_here l ctx.again ctx.at s here))

pub next_finished_is : (p : Program) (ctx : Ctx) (arrival : Arrival) → arrival ≡ arrival_of (local_of p ctx) → statement_of p ctx ≡ None → IsNext p arrival next.Finished
next_finished_is p ctx arrival is here = rw (is, arrives_end p ctx here) tt
