-- What a call of a function is in the local state.
use Rattle.std.proofs.Common.{◌≡◌, ℕ, ◌+◌, ◌-◌, ◌≤◌, List, [], ◌∷◌, ◌++◌, length, take, drop, false, Option, Some, None, refl, ap, sym, ◌∙◌, arith}
use Rattle.std.specs.Prelude.{slice_get, option_map}
use Rattle.std.proofs.lemmas.List.{append-nil, take_at, drop_at, length-append}
use Rattle.thread_tree.specs.declared.local.Local.{Local}
use Rattle.thread_tree.specs.declared.place.At.{At}
use Rattle.thread_tree.specs.declared.expr.Expr.{Expr}
use Rattle.thread_tree.specs.declared.block.Stmt.{Stmt, out-Stmt}
use Rattle.thread_tree.specs.declared.block.Stmt.TheOpen as stmt
use Rattle.thread_tree.specs.Program.{Program, Body, Function, function_of}
use Rattle.thread_tree.specs.Value.{values_in}
use Rattle.thread_tree.specs.LocalState.{Thing, LocalState, called, frame_of, going_on, named, things}
use Rattle.thread_machine.specs.declared.context.Ctx.{Ctx}
use Rattle.thread_machine.specs.declared.context.Cursor.{Cursor}
use Rattle.thread_machine.specs.declared.context.Way.TheVariants as way
use Rattle.thread_machine.specs.Context.{Level, IsCounted, kept_in, body_of, level_along, level_of, level_called, local_of, rest_of, state_at, statement_of, todo_at}
use Rattle.thread_machine.proofs.ReturnLemmas.{level_of_call}

-- the function behind a body that was found
found_function : (found : Option Function) (body : Body) → option_map body_of found ≡ Some body → (f : Function) × (found ≡ Some f) × (body_of f ≡ body)
found_function None body is = cc
found_function (Some f) body is = let e : body_of f ≡ body = cc in (f, refl, e)

base_from_kept : (len base : ℕ) → base ≤ len → len - (len - base) ≡ base
base_from_kept len base within = omega arith

-- a call of a function that is found
pub called_is : (p : Program) (s : LocalState) (to : Option At) (name : At) (arguments : List Expr) (rest : List Thing) (f : Function) → function_of p name.name ≡ Some f → called p s to name arguments rest ≡ record { top = frame_of f (values_in s.top.locals arguments) (option_map (λ at. at.name) to); below = (going_on s rest).top ∷ s.below }
called_is p s to name arguments rest f found =
    ap (λ o. elim o as (λ _. LocalState) [ None ↦ going_on s rest | Some g ↦ record { top = frame_of g (values_in s.top.locals arguments) (option_map (λ at. at.name) to); below = (going_on s rest).top ∷ s.below } ]) found

-- a call of a function that isn't declared
pub called_none : (p : Program) (s : LocalState) (to : Option At) (name : At) (arguments : List Expr) (rest : List Thing) → function_of p name.name ≡ None → called p s to name arguments rest ≡ going_on s rest
called_none p s to name arguments rest found =
    ap (λ o. elim o as (λ _. LocalState) [ None ↦ going_on s rest | Some g ↦ record { top = frame_of g (values_in s.top.locals arguments) (option_map (λ at. at.name) to); below = (going_on s rest).top ∷ s.below } ]) found

called_state : (p : Program) (l : Level) (at base : ℕ) (s : Stmt) (to : Option At) (name : At) (arguments : List Expr) (f : Function) (slots more : List Local) (before : List Thing) → slice_get l.stmts at ≡ Some s → out-Stmt s ≡ stmt.Apply to name arguments → function_of p name.name ≡ Some f → base ≤ length slots → more ≡ slots ++ named f.parameters (values_in (drop base slots) arguments) → state_at (level_called p l at (length slots - base)) (take (length slots) more) (drop (length slots) more) (todo_at (level_called p l at (length slots - base)) false 0) ≡ called p (state_at l (take base slots) (drop base slots) before) to name arguments (todo_at l false (at + 1))
called_state p l at base s to name arguments f slots more before here layer found within is =
    let locals = named f.parameters (values_in (drop base slots) arguments) in
    rw (is, take_at slots locals (length slots) refl, drop_at slots locals (length slots) refl, here, layer, found, base_from_kept (length slots) base within, append-nil (things f.body)) refl
    ∙ sym (called_is p (state_at l (take base slots) (drop base slots) before) to name arguments (todo_at l false (at + 1)) f found)

-- the context in the body of a function that was called
pub called_local : (p : Program) (ctx next : Ctx) (s : Stmt) (to : Option At) (name : At) (arguments : List Expr) (body : Body) (callee : ℕ) → statement_of p ctx ≡ Some s → out-Stmt s ≡ stmt.Apply to name arguments → name.name ≡ callee → ctx.base ≤ length ctx.slots.items → option_map body_of (function_of p callee) ≡ Some body → next.cursors.items ≡ ctx.cursors.items ++ record { at = ctx.at; way = way.Call; keep = length ctx.slots.items - ctx.base } ∷ [] → next.slots.items ≡ ctx.slots.items ++ named body.parameters (values_in (drop ctx.base ctx.slots.items) arguments) → next ≡ record ctx { slots = next.slots; base = length ctx.slots.items; cursors = next.cursors; at = 0; again = false } → local_of p next ≡ called p (local_of p ctx) to name arguments (rest_of p ctx)
called_local p ctx next s to name arguments body callee here layer same within found cursors slots kept =
    let f = found_function (function_of p callee) body found in
    let c : Cursor = record { at = ctx.at; way = way.Call; keep = length ctx.slots.items - ctx.base } in
    let slots_are : next.slots.items ≡ ctx.slots.items ++ named f.0.parameters (values_in (drop ctx.base ctx.slots.items) arguments) =
    slots ∙ ap (λ (b : Body). ctx.slots.items ++ named b.parameters (values_in (drop ctx.base ctx.slots.items) arguments)) (sym f.2) in
    ap (λ n. local_of p n) kept
    ∙ ap (λ l. state_at l (take (length ctx.slots.items) next.slots.items) (drop (length ctx.slots.items) next.slots.items) (todo_at l false 0)) (level_of_call p ctx.body next.cursors.items ctx.cursors.items c cursors refl)
    ∙ called_state p (level_of p ctx) ctx.at ctx.base s to name arguments f.0 ctx.slots.items next.slots.items (todo_at (level_of p ctx) ctx.again ctx.at) here layer (rw same f.1) within slots_are

pub called_counted : (p : Program) (ctx next : Ctx) (names values : List ℕ) → next.cursors.items ≡ ctx.cursors.items ++ record { at = ctx.at; way = way.Call; keep = length ctx.slots.items - ctx.base } ∷ [] → next.slots.items ≡ ctx.slots.items ++ named names values → next ≡ record ctx { slots = next.slots; base = length ctx.slots.items; cursors = next.cursors; at = 0; again = false } → IsCounted p ctx → IsCounted p next
called_counted p ctx next names values cursors slots kept counted =
    let c : Cursor = record { at = ctx.at; way = way.Call; keep = length ctx.slots.items - ctx.base } in
    let level = level_of_call p ctx.body next.cursors.items ctx.cursors.items c cursors refl in
    let waiting : kept_in (level_along p ctx.body next.cursors.items).waiting ≡ length ctx.slots.items - ctx.base + kept_in (level_of p ctx).waiting = ap (λ (l : Level). kept_in l.waiting) level in
    rw kept (record {
      within = omega (arith, ap length slots, length-append ctx.slots.items (named names values));
      waiting = omega (arith, waiting, counted.waiting, counted.within);
    })
