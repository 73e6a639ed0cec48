-- The results of an action, and the locals of a birth.
use Rattle.std.proofs.Common.{◌≡◌, ℕ, zero, suc, ◌+◌, ◌-◌, ◌≤◌, min, List, [], ◌∷◌, ◌++◌, length, take, drop, map, Bool, true, false, Option, Some, None, refl, ap, subst, sym, ◌∙◌, arith}
use Rattle.std.specs.Prelude.{slice_get, option_map, flat_map, IfSome, IsSomeAnd}
use Rattle.std.proofs.lemmas.List.{take_at, drop_at, length-take-le, length-append, append-nil, append_assoc, take-append-drop, nil_from_length}
use Rattle.std.proofs.lemmas.List.Concat.{flat_map-cons}
use mathlib.Core.List.{reverse_aux}
use Rattle.thread_tree.specs.declared.local.Local.{Local}
use Rattle.thread_tree.specs.declared.expr.Expr.{Expr}
use Rattle.thread_tree.specs.declared.block.Block.{Block}
use Rattle.thread_tree.specs.declared.block.Stmt.{Stmt, out-Stmt}
use Rattle.thread_tree.specs.declared.block.Stmt.TheOpen.{Stmt-F}
use Rattle.thread_tree.specs.declared.block.Stmt.TheOpen as stmt
use Rattle.thread_tree.specs.Program.{Program, Body, Template}
use Rattle.thread_tree.specs.Value.{value_of}
use Rattle.thread_tree.specs.Kinds.{Action, action_layer, action_of, result_count}
use Rattle.thread_tree.specs.Actions.{declared_by, names_in}
use Rattle.thread_tree.specs.LocalState.{Thing, Frame, after_first, bind, birth, locals_of, things, named, next_action, next_names, next_statement, with_value, with_values}
use Rattle.thread_tree.specs.LocalState.Thing.{Do}
use Rattle.thread_machine.specs.declared.context.Ctx.{Ctx}
use Rattle.thread_machine.specs.declared.context.Cursor.{Cursor}
use Rattle.thread_machine.specs.declared.context.Way.{Way}
use Rattle.thread_machine.specs.declared.context.Way.TheVariants as way
use Rattle.arrayvec.specs.ArrayVec.{ArrayVec}
use Rattle.thread_machine.specs.Context.{Level, Waiting, IsCounted, again_of, frames, kept_in, parameters_of, template_body, thread_body, level_along, level_by, level_of, local_of, rest_of, state_at, statement_of, to_do}
use Rattle.thread_machine.specs.Reached.{IsContext}
use Rattle.thread_machine.specs.Reached.Reached.{Born, Bound}
use Rattle.thread_machine.specs.Operands.{operands_by, taken_by}
use Rattle.thread_machine.proofs.KeepLemmas.{passed_on, scoped_begin}
use Rattle.thread_machine.proofs.NameLemmas.{names_bound, names_named}
use Rattle.thread_machine.proofs.ListLemmas.{drop_at_item, drop_at_none}
use Rattle.thread_machine.proofs.LevelLemmas.{level_along-snoc, level_along-none, last_is, last_none}
use Rattle.thread_machine.proofs.ScopeLemmas.{named_more, named_cut}

-- one value more was given
pub assigned_more : (base n name value : ℕ) (old slots next : List Local) (names values : List ℕ) → with_values (drop base old) names values ≡ with_values (drop base slots) (drop n names) (drop n values) → take base slots ≡ take base old → base ≤ length slots → next ≡ take base slots ++ with_value (drop base slots) name value → slice_get names n ≡ Some name → slice_get values n ≡ Some value → (with_values (drop base old) names values ≡ with_values (drop base next) (drop (n + 1) names) (drop (n + 1) values)) × (take base next ≡ take base old)
assigned_more base n name value old slots next names values so_far front within is in_names in_values =
    let same = length-take-le base slots within in (
      so_far
          ∙ ap (λ ns. with_values (drop base slots) ns (drop n values)) (drop_at_item names n name in_names)
          ∙ ap (λ vs. with_values (drop base slots) (name ∷ drop (n + 1) names) vs) (drop_at_item values n value in_values)
          ∙ ap (λ own. with_values own (drop (n + 1) names) (drop (n + 1) values)) (sym (ap (drop base) is ∙ drop_at (take base slots) (with_value (drop base slots) name value) base same)),
      ap (take base) is ∙ take_at (take base slots) (with_value (drop base slots) name value) base same ∙ front,
    )

with_values_none : (locals : List Local) (names : List ℕ) → with_values locals names [] ≡ locals
with_values_none locals [] = refl
with_values_none locals (name ∷ names) = refl

with_values_end : (locals : List Local) (names values : List ℕ) (n : ℕ) → min (length names) (length values) ≤ n → with_values locals (drop n names) (drop n values) ≡ locals
with_values_end locals [] values zero past = refl
with_values_end locals [] values (suc n) past = refl
with_values_end locals (name ∷ names) [] zero past = refl
with_values_end locals (name ∷ names) [] (suc n) past = with_values_none locals (drop n names)
with_values_end locals (name ∷ names) (value ∷ values) zero past = absurd (omega (arith, past))
with_values_end locals (name ∷ names) (value ∷ values) (suc n) past = with_values_end locals names values n (omega (arith, past))

-- all values were given
pub assigned_all : (base : ℕ) (old slots : List Local) (names values : List ℕ) (n : ℕ) → with_values (drop base old) names values ≡ with_values (drop base slots) (drop n names) (drop n values) → take base slots ≡ take base old → min (length names) (length values) ≤ n → slots ≡ take base old ++ with_values (drop base old) names values
assigned_all base old slots names values n so_far front past =
    sym (ap (λ own. take base old ++ own) (so_far ∙ with_values_end (drop base slots) names values n past) ∙ ap (λ xs. xs ++ drop base slots) (sym front) ∙ take-append-drop base slots)

-- one local more was declared
pub declared_more : (first slots next : List Local) (names values : List ℕ) (n name value : ℕ) → slots ≡ first ++ named (take n names) (take n values) → next ≡ slots ++ record { name = name; value = value } ∷ [] → slice_get names n ≡ Some name → slice_get values n ≡ Some value → next ≡ first ++ named (take (n + 1) names) (take (n + 1) values)
declared_more first slots next names values n name value so_far is in_names in_values =
    rw (is, so_far, named_more names values n name value in_names in_values)
    (append_assoc first (named (take n names) (take n values)) (record { name = name; value = value } ∷ []))

pub declared_all : (first slots : List Local) (names values : List ℕ) (n : ℕ) → slots ≡ first ++ named (take n names) (take n values) → n ≡ min (length names) (length values) → slots ≡ first ++ named names values
declared_all first slots names values n so_far is = so_far ∙ ap (λ xs. first ++ xs) (named_cut names values n is)

-- the action that comes first among things to do
abbrev next_among : Program → List Thing → Option Action
next_among p todo = elim (next_statement todo) as (λ _. Option Action) [ None ↦ None | Some statement ↦ action_of p statement ]

next_again : (p : Program) (layer : Stmt-F Stmt Block) (s : Stmt) (rest : List Thing) (a : Action) → next_among p (again_of layer s ∷ rest) ≡ Some a → action_of p s ≡ Some a
next_again p (stmt.Let at e) s rest a is = is
next_again p (stmt.Set at e) s rest a is = is
next_again p (stmt.Apply to callee arguments) s rest a is = is
next_again p (stmt.If e block other) s rest a is = is
next_again p (stmt.While e block) s rest a is = cc
next_again p (stmt.Ploop place block) s rest a is = is
next_again p (stmt.Break place) s rest a is = is
next_again p (stmt.Return place value) s rest a is = is
next_again p (stmt.Atomic place to block) s rest a is = is
next_again p (stmt.Call place call to) s rest a is = is

next_head : (p : Program) (again : Bool) (s : Stmt) (stmts : List Stmt) (behind : List Thing) (a : Action) → next_among p (to_do again (s ∷ stmts) ++ behind) ≡ Some a → action_of p s ≡ Some a
next_head p false s stmts behind a is = is
next_head p true s stmts behind a is = next_again p (out-Stmt s) s (map Do stmts ++ behind) a is

-- the action that comes next is the statement at hand
pub action_at : (p : Program) (ctx : Ctx) (s : Stmt) (a : Action) → statement_of p ctx ≡ Some s → next_action p (local_of p ctx) ≡ Some a → action_of p s ≡ Some a
action_at p ctx s a here is =
    let l = level_of p ctx in
    next_head p ctx.again s (drop (ctx.at + 1) l.stmts) l.behind a (sym (ap (λ stmts. next_among p (to_do ctx.again stmts ++ l.behind)) (drop_at_item l.stmts ctx.at s here)) ∙ is)

after_head : (again : Bool) (s : Stmt) (stmts : List Stmt) (behind : List Thing) → after_first (to_do again (s ∷ stmts) ++ behind) ≡ map Do stmts ++ behind
after_head false s stmts behind = refl
after_head true s stmts behind = refl

-- what follows the statement at hand
pub after_at : (p : Program) (ctx : Ctx) (s : Stmt) → statement_of p ctx ≡ Some s → after_first (local_of p ctx).top.todo ≡ rest_of p ctx
after_at p ctx s here =
    let l = level_of p ctx in
    ap (λ stmts. after_first (to_do ctx.again stmts ++ l.behind)) (drop_at_item l.stmts ctx.at s here) ∙ after_head ctx.again s (drop (ctx.at + 1) l.stmts) l.behind

next_by : (p : Program) (l : Level) (at keep : ℕ) (w : Way) → next_among p (level_by p l at keep w).behind ≡ None
next_by p l at keep way.First = refl
next_by p l at keep way.Else = refl
next_by p l at keep way.Call = refl

next_behind : (p : Program) (template : ℕ) (cs : List Cursor) (last : Option Cursor) → slice_get cs (length cs - 1) ≡ last → next_among p (level_along p template cs).behind ≡ None
next_behind p template cs None is = ap (λ xs. next_among p (level_along p template xs).behind) (last_none cs is) ∙ ap (λ (l : Level). next_among p l.behind) (level_along-none p template)
next_behind p template cs (Some c) is =
    ap (λ xs. next_among p (level_along p template xs).behind) (last_is cs c is)
    ∙ ap (λ (l : Level). next_among p l.behind) (level_along-snoc p template (take (length cs - 1) cs) c)
    ∙ next_by p (level_along p template (take (length cs - 1) cs)) c.at c.keep c.way

next_end : (p : Program) (again : Bool) (behind : List Thing) → next_among p (to_do again [] ++ behind) ≡ next_among p behind
next_end p false behind = refl
next_end p true behind = refl

-- no action comes next at the end of a block
pub no_action_at_end : (p : Program) (ctx : Ctx) → statement_of p ctx ≡ None → next_action p (local_of p ctx) ≡ None
no_action_at_end p ctx here =
    let l = level_of p ctx in
    ap (λ stmts. next_among p (to_do ctx.again stmts ++ l.behind)) (drop_at_none l.stmts ctx.at here)
    ∙ next_end p ctx.again l.behind ∙ next_behind p ctx.body ctx.cursors.items (slice_get ctx.cursors.items (length ctx.cursors.items - 1)) refl

some_names : (a b : Action) → Some a ≡ Some b → b.names ≡ a.names
some_names a b is = let e : a ≡ b = cc in ap (λ (x : Action). x.names) (sym e)

some_operands : (a b : Action) → Some a ≡ Some b → b.operands ≡ a.operands
some_operands a b is = let e : a ≡ b = cc in ap (λ (x : Action). x.operands) (sym e)

action_parts : (p : Program) (layer : Stmt-F Stmt Block) (a : Action) → action_layer p layer ≡ Some a → (a.names ≡ taken_by layer) × (a.operands ≡ operands_by layer)
action_parts p (stmt.Let at e) a is = cc
action_parts p (stmt.Set at e) a is = cc
action_parts p (stmt.Apply to callee arguments) a is = cc
action_parts p (stmt.If e block other) a is = cc
action_parts p (stmt.While e block) a is = cc
action_parts p (stmt.Ploop place block) a is = (some_names _ a is, some_operands _ a is)
action_parts p (stmt.Break place) a is = cc
action_parts p (stmt.Return place value) a is = cc
action_parts p (stmt.Atomic place to block) a is = (some_names _ a is, some_operands _ a is)
action_parts p (stmt.Call place call to) a is = (some_names _ a is, some_operands _ a is)

-- the action at hand takes these names and has these operands
pub parts_at : (p : Program) (ctx : Ctx) (s : Stmt) (a : Action) → statement_of p ctx ≡ Some s → next_action p (local_of p ctx) ≡ Some a → (a.names ≡ taken_by (out-Stmt s)) × (a.operands ≡ operands_by (out-Stmt s))
parts_at p ctx s a here is = action_parts p (out-Stmt s) a (action_at p ctx s a here is)

pub some_and : {X : Type 0} (P : X → Type 0) (o : Option X) → IsSomeAnd o P → (x : X) × (o ≡ Some x) × P x
some_and P None is = absurd is
some_and P (Some x) is = (x, refl, is)

bound_state : (l : Level) (base : ℕ) (slots next own : List Local) (rest : List Thing) → base ≤ length slots → next ≡ take base slots ++ own → state_at l (take base next) (drop base next) rest ≡ state_at l (take base slots) own rest
bound_state l base slots next own rest within is =
    let same = length-take-le base slots within in
    rw (is, take_at (take base slots) own base same, drop_at (take base slots) own base same) refl

-- the context behind an action that had these results
pub bound_local : (p : Program) (ctx : Ctx) (next : ArrayVec Local) (s : Stmt) (a : Action) (names results : List ℕ) → statement_of p ctx ≡ Some s → next_action p (local_of p ctx) ≡ Some a → ctx.base ≤ length ctx.slots.items → names ≡ taken_by (out-Stmt s) → next.items ≡ take ctx.base ctx.slots.items ++ with_values (drop ctx.base ctx.slots.items) names results → local_of p (record ctx { slots = next; at = ctx.at + 1; again = false }) ≡ bind p (local_of p ctx) results
bound_local p ctx next s a names results here is within taken given =
    let l = level_of p ctx in
    let outer = take ctx.base ctx.slots.items in
    let own = drop ctx.base ctx.slots.items in
    let same : names ≡ next_names p (local_of p ctx) = taken ∙ sym (parts_at p ctx s a here is).0 ∙ sym (ap (λ o. elim o as (λ _. List ℕ) [ None ↦ [] | Some action ↦ action.names ]) is) in
    bound_state l ctx.base ctx.slots.items next.items (with_values own names results) (rest_of p ctx) within given
    ∙ ap (λ ns. state_at l outer (with_values own ns results) (rest_of p ctx)) same
    ∙ ap (λ todo. state_at l outer (with_values own (next_names p (local_of p ctx)) results) todo) (sym (after_at p ctx s here))

action_declares : (p : Program) (layer : Stmt-F Stmt Block) (a : Action) → action_layer p layer ≡ Some a → declared_by layer ≡ []
action_declares p (stmt.Let at e) a is = cc
action_declares p _ a is = refl

-- it is one of the program
pub bound_context : (p : Program) (ctx : Ctx) (next : ArrayVec Local) (s : Stmt) (names values : List ℕ) (a : Action) → IsContext p ctx → statement_of p ctx ≡ Some s → next_action p (local_of p ctx) ≡ Some a → length values ≡ result_count a.kind a.given → next.items ≡ take ctx.base ctx.slots.items ++ with_values (drop ctx.base ctx.slots.items) names values → local_of p (record ctx { slots = next; at = ctx.at + 1; again = false }) ≡ bind p (local_of p ctx) values → IsContext p (record ctx { slots = next; at = ctx.at + 1; again = false })
bound_context p ctx next s names values a context here is same given bound =
    let own = with_values (drop ctx.base ctx.slots.items) names values in
    record {
      reached = rw bound (Bound p (local_of p ctx) a values context.reached is same);
      counted = record {
        within = omega (arith, ap length given, length-append (take ctx.base ctx.slots.items) own, length-take-le ctx.base ctx.slots.items context.counted.within);
        waiting = context.counted.waiting;
      };
      scoped =
          passed_on p ctx.body ctx.cursors.items ctx.slots.items next.items ctx.base ctx.at s here (action_declares p (out-Stmt s) a (action_at p ctx s a here is))
          (ap names_in given ∙ names_bound ctx.base ctx.slots.items names values) context.scoped;
    }

-- the value of the operand that was found
pub operand_value : (p : Program) (ctx : Ctx) (s : Stmt) (which r : ℕ) (found : Option Expr) (o : Option Action) → statement_of p ctx ≡ Some s → next_action p (local_of p ctx) ≡ o → found ≡ slice_get (operands_by (out-Stmt s)) which → IfSome found (λ e. r ≡ value_of (local_of p ctx).top.locals e) → IfSome o (λ a. IfSome (slice_get a.operands which) (λ e. r ≡ value_of (local_of p ctx).top.locals e))
operand_value p ctx s which r found None here is at value = tt
operand_value p ctx s which r found (Some a) here is at value =
    rw (parts_at p ctx s a here is).1 (subst (λ o. IfSome o (λ e. r ≡ value_of (local_of p ctx).top.locals e)) at value)

-- the context of a birth
pub fresh_local : (p : Program) (template number : ℕ) (t : Template) (arguments : List ℕ) (slots : ArrayVec Local) (cursors : ArrayVec Cursor) (found : Option Body) → slice_get p.bodies number ≡ template_body p template → slice_get p.templates template ≡ Some t → found ≡ template_body p template → cursors.items ≡ [] → slots.items ≡ named (parameters_of found) arguments → local_of p (record { slots = slots; base = 0; body = number; cursors = cursors; at = 0; again = false }) ≡ birth t arguments
fresh_local p template number t arguments slots cursors found at_body is same none declared =
    let body : template_body p template ≡ Some (thread_body t) = ap (λ o. option_map thread_body o) is in
    rw (none, declared, same, level_along-none p number, at_body, body, append-nil (things t.body)) refl

-- the locals of frames that wait, from the outermost inwards
frames_locals : (slots : List Local) (ws : List Waiting) (inner : List Frame) → kept_in ws ≡ length slots → flat_map (λ (f : Frame). f.locals) (reverse_aux (frames slots ws) inner) ≡ slots ++ flat_map (λ (f : Frame). f.locals) inner
frames_locals slots [] inner is = rw (nil_from_length slots (sym is)) refl
frames_locals slots (w ∷ ws) inner is =
    let begin = length slots - w.kept in
    let frame : Frame = record { locals = drop begin slots; todo = w.todo; result = w.result } in
    let front : length (take begin slots) ≡ begin = length-take-le begin slots (omega arith) in
    let rest : kept_in ws ≡ length (take begin slots) = omega (arith, front, is) in
    frames_locals (take begin slots) ws (frame ∷ inner) rest
    ∙ ap (λ xs. take begin slots ++ xs) (flat_map-cons (λ (f : Frame). f.locals) frame inner)
    ∙ sym (append_assoc (take begin slots) (drop begin slots) (flat_map (λ (f : Frame). f.locals) inner))
    ∙ ap (λ xs. xs ++ flat_map (λ (f : Frame). f.locals) inner) (take-append-drop begin slots)

-- the slots are the locals of all frames
pub all_locals : (p : Program) (ctx : Ctx) → IsCounted p ctx → locals_of (local_of p ctx) ≡ ctx.slots.items
all_locals p ctx counted =
    let outer = take ctx.base ctx.slots.items in
    let front : length outer ≡ ctx.base = length-take-le ctx.base ctx.slots.items counted.within in
    frames_locals outer (level_of p ctx).waiting ((local_of p ctx).top ∷ []) (counted.waiting ∙ sym front)
    ∙ ap (λ xs. outer ++ xs) (flat_map-cons (λ (f : Frame). f.locals) (local_of p ctx).top [] ∙ append-nil (drop ctx.base ctx.slots.items))
    ∙ take-append-drop ctx.base ctx.slots.items

pub some_is_none : {X : Type 0} (x : X) → Some x ≡ None → ⊥
some_is_none x is = cc

-- a birth is in the program's thread
pub fresh_context : (p : Program) (template number : ℕ) (t : Template) (arguments : List ℕ) (slots : ArrayVec Local) (cursors : ArrayVec Cursor) (found : Option Body) → slice_get p.bodies number ≡ template_body p template → slice_get p.templates template ≡ Some t → length arguments ≡ length t.parameters → found ≡ template_body p template → cursors.items ≡ [] → slots.items ≡ named (parameters_of found) arguments → IsContext p (record { slots = slots; base = 0; body = number; cursors = cursors; at = 0; again = false })
fresh_context p template number t arguments slots cursors found at_body is many same none declared =
    let parameters : parameters_of found ≡ t.parameters = ap parameters_of (same ∙ ap (λ o. option_map thread_body o) is) in
    record {
      reached = rw (fresh_local p template number t arguments slots cursors found at_body is same none declared) (Born p template t arguments is many);
      counted = record { within = omega arith; waiting = rw (none, level_along-none p number) refl };
      scoped =
          scoped_begin p number cursors.items slots.items none
          (ap names_in declared ∙ names_named (parameters_of found) arguments (omega (arith, many, ap length parameters)) ∙ ap parameters_of (same ∙ sym at_body));
    }

pub fresh_born : (p : Program) (template number : ℕ) (t : Template) (arguments : List ℕ) (slots : ArrayVec Local) (cursors : ArrayVec Cursor) (found : Option Body) → slice_get p.bodies number ≡ template_body p template → slice_get p.templates template ≡ Some t → found ≡ template_body p template → cursors.items ≡ [] → slots.items ≡ named (parameters_of found) arguments → IfSome (slice_get p.templates template) (λ u. local_of p (record { slots = slots; base = 0; body = number; cursors = cursors; at = 0; again = false }) ≡ birth u arguments)
fresh_born p template number t arguments slots cursors found at_body is same none declared =
    subst (λ o. IfSome o (λ u. local_of p (record { slots = slots; base = 0; body = number; cursors = cursors; at = 0; again = false }) ≡ birth u arguments)) (sym is) (fresh_local p template number t arguments slots cursors found at_body is same none declared)
