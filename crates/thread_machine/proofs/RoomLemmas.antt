-- The room that a statement has by the limits of the local state.
use Rattle.std.proofs.Common.{◌≡◌, ℕ, suc, ◌+◌, ◌-◌, ◌<◌, ◌≤◌, List, [], ◌∷◌, ◌++◌, length, take, drop, map, Bool, true, false, Option, Some, None, refl, ap, sym, ◌∙◌, arith}
use Rattle.std.specs.Prelude.{slice_get, option_map, fold, All, find, ◌==◌}
use Rattle.std.specs.Prelude.{IfSome}
use Rattle.std.proofs.Common.{cond, subst}
use Rattle.std.proofs.lemmas.List.Elements.{All-head, All-tail}
use Rattle.thread_tree.specs.declared.place.At.{At}
use Rattle.thread_tree.specs.declared.expr.Expr.{Expr}
use Rattle.std.proofs.lemmas.List.{length-take-le, length-drop}
use Rattle.std.proofs.lemmas.Bool.Decides.{nat_tests}
use Rattle.thread_tree.specs.declared.local.Local.{Local}
use Rattle.thread_tree.specs.declared.block.Block.{Block, out-Block, fold_out-Block}
use Rattle.thread_tree.specs.declared.block.Stmt.{Stmt, out-Stmt, fold_out-Stmt, map-Stmt}
use Rattle.thread_tree.specs.declared.block.Stmt.TheOpen.{Stmt-F, Block-F}
use Rattle.thread_tree.specs.declared.block.Stmt.TheOpen as stmt
use Rattle.thread_tree.specs.Program.{Program, Function, function_of}
use Rattle.thread_tree.specs.Need.{Need, Weight, Fits, HasItsNeed, needs, nothing, declaration, either, or_nothing, opened, in_turn, weight_of, weight_of_layer, need_of, need_of_layer, need_of_tblock, need_of_body, callees}
use Rattle.thread_tree.specs.LocalState.{Thing}
use Rattle.thread_tree.specs.LocalState.Thing.{Do}
use Rattle.thread_machine.specs.declared.context.Ctx.{Ctx}
use Rattle.thread_machine.specs.declared.context.Cursor.{Cursor}
use Rattle.thread_machine.specs.declared.context.Way.{Way}
use Rattle.thread_machine.specs.declared.context.Way.TheVariants as way
use Rattle.thread_machine.specs.Context.{Level, Waiting, IsCounted, kept_in, again_of, is_loop, place_after, place_behind, frames, level_along, level_by, level_in, level_of, local_of, outermost, statement_of, to_do}
use Rattle.thread_machine.specs.Within.{AreWithin, IsWithin, blocks_in, ends, locals_in, weight_of_thing}
use Rattle.thread_machine.proofs.ListLemmas.{drop_at_item}

eq_true : (m n : ℕ) → (m == n) ≡ true → m ≡ n
eq_true m n is = grind (arith, nat_tests)

-- the weight of a statement by its parts
abbrev pub weight_parts : (ℕ → Need) → Stmt-F Stmt Block → Weight
weight_parts callee (stmt.Let at e) = declaration
weight_parts callee (stmt.Set at e) = needs nothing
weight_parts callee (stmt.Apply to function arguments) = needs (callee function.name)
weight_parts callee (stmt.If e block other) = needs (either (need_of callee block) (or_nothing (option_map (need_of callee) other)))
weight_parts callee (stmt.While e block) = needs (need_of callee block)
weight_parts callee (stmt.Ploop place block) = needs (need_of callee block)
weight_parts callee (stmt.Break place) = needs nothing
weight_parts callee (stmt.Return place value) = needs nothing
weight_parts callee (stmt.Atomic place to block) = needs (need_of_tblock block)
weight_parts callee (stmt.Call place call to) = needs nothing

weight_of_parts : (callee : ℕ → Need) (layer : Stmt-F Stmt Block) → weight_of_layer callee (map-Stmt Stmt Block Weight Need (weight_of callee) (need_of callee) layer) ≡ weight_parts callee layer
weight_of_parts callee (stmt.Let at e) = refl
weight_of_parts callee (stmt.Set at e) = refl
weight_of_parts callee (stmt.Apply to function arguments) = refl
weight_of_parts callee (stmt.If e block None) = refl
weight_of_parts callee (stmt.If e block (Some other)) = refl
weight_of_parts callee (stmt.While e block) = refl
weight_of_parts callee (stmt.Ploop place block) = refl
weight_of_parts callee (stmt.Break place) = refl
weight_of_parts callee (stmt.Return place None) = refl
weight_of_parts callee (stmt.Return place (Some value)) = refl
weight_of_parts callee (stmt.Atomic place to block) = refl
weight_of_parts callee (stmt.Call place call to) = refl

pub weight_out : (callee : ℕ → Need) (s : Stmt) → weight_of callee s ≡ weight_parts callee (out-Stmt s)
unfolding weight_of need_of
weight_out callee s = fold_out-Stmt Weight Need (weight_of_layer callee) need_of_layer s ∙ weight_of_parts callee (out-Stmt s)

pub need_out : (callee : ℕ → Need) (block : Block) → need_of callee block ≡ opened (in_turn (map (weight_of callee) (out-Block block).stmts))
unfolding weight_of need_of
need_out callee block = fold_out-Block Weight Need (weight_of_layer callee) need_of_layer block

-- statements are no ends of blocks
pub ends_do : (stmts : List Stmt) (rest : List Thing) → ends (map Do stmts ++ rest) ≡ ends rest
ends_do [] rest = refl
ends_do (s ∷ stmts) rest = ends_do stmts rest

ends_again : (layer : Stmt-F Stmt Block) (s : Stmt) (rest : List Thing) → ends (again_of layer s ∷ rest) ≡ ends rest
ends_again (stmt.Let at e) s rest = refl
ends_again (stmt.Set at e) s rest = refl
ends_again (stmt.Apply to callee arguments) s rest = refl
ends_again (stmt.If e block other) s rest = refl
ends_again (stmt.While e block) s rest = refl
ends_again (stmt.Ploop place block) s rest = refl
ends_again (stmt.Break place) s rest = refl
ends_again (stmt.Return place value) s rest = refl
ends_again (stmt.Atomic place to block) s rest = refl
ends_again (stmt.Call place call to) s rest = refl

ends_to_do : (again : Bool) (stmts : List Stmt) (rest : List Thing) → ends (to_do again stmts ++ rest) ≡ ends rest
ends_to_do false stmts rest = ends_do stmts rest
ends_to_do true [] rest = refl
ends_to_do true (s ∷ stmts) rest = ends_again (out-Stmt s) s (map Do stmts ++ rest) ∙ ends_do stmts rest

-- the blocks that are open in frames that wait
blocks_waiting : List Waiting → ℕ
blocks_waiting [] = 0
blocks_waiting (w ∷ ws) = suc (ends w.todo) + blocks_waiting ws

blocks_in_frames : (slots : List Local) (ws : List Waiting) → blocks_in (frames slots ws) ≡ blocks_waiting ws
unfolding blocks_waiting
blocks_in_frames slots [] = refl
blocks_in_frames slots (w ∷ ws) = ap (λ n. suc (ends w.todo) + n) (blocks_in_frames (take (length slots - w.kept) slots) ws)

-- the open blocks at a level
blocks_at : Level → ℕ
blocks_at l = ends l.behind + blocks_waiting l.waiting

blocks_by : (p : Program) (l : Level) (at keep : ℕ) (w : Way) → blocks_at (level_by p l at keep w) ≡ suc (blocks_at l)
unfolding blocks_at blocks_waiting
blocks_by p l at keep way.First =
    let found = slice_get l.stmts at in
    omega (arith, ends_to_do (is_loop found) (drop (place_after found at) l.stmts) l.behind)
blocks_by p l at keep way.Else =
    let found = slice_get l.stmts at in
    omega (arith, ends_to_do (is_loop found) (drop (place_after found at) l.stmts) l.behind)
blocks_by p l at keep way.Call =
    omega (arith, ends_do (drop (place_behind (slice_get l.stmts at) at) l.stmts) l.behind)

blocks_along : (p : Program) (l : Level) (cs : List Cursor) → blocks_at (fold (level_in p) l cs) ≡ blocks_at l + length cs
blocks_along p l [] = omega arith
blocks_along p l (c ∷ cs) = omega (arith, blocks_along p (level_in p l c) cs, blocks_by p l c.at c.keep c.way)

-- each cursor is an open block
cursors_open : (p : Program) (template : ℕ) (cs : List Cursor) → blocks_at (level_along p template cs) ≡ length cs
unfolding level_along blocks_at blocks_waiting
cursors_open p template cs = omega (arith, blocks_along p (outermost p template) cs)

-- the locals of frames that wait are the slots
locals_in_frames : (slots : List Local) (ws : List Waiting) → kept_in ws ≡ length slots → locals_in (frames slots ws) ≡ length slots
locals_in_frames slots [] is = is
locals_in_frames slots (w ∷ ws) is =
    let begin = length slots - w.kept in
    let front : length (take begin slots) ≡ begin = length-take-le begin slots (omega arith) in
    let rest : kept_in ws ≡ length (take begin slots) = omega (arith, front, is) in
    omega (arith, locals_in_frames (take begin slots) ws rest, length-drop begin slots, front, is)

weight_again : (callee : ℕ → Need) (layer : Stmt-F Stmt Block) (s : Stmt) → out-Stmt s ≡ layer → weight_of_thing callee (again_of layer s) ≡ weight_of callee s
weight_again callee (stmt.Let at e) s is = refl
weight_again callee (stmt.Set at e) s is = refl
weight_again callee (stmt.Apply to function arguments) s is = refl
weight_again callee (stmt.If e block other) s is = refl
weight_again callee (stmt.While e block) s is = sym (weight_out callee s ∙ ap (weight_parts callee) is)
weight_again callee (stmt.Ploop place block) s is = refl
weight_again callee (stmt.Break place) s is = refl
weight_again callee (stmt.Return place value) s is = refl
weight_again callee (stmt.Atomic place to block) s is = refl
weight_again callee (stmt.Call place call to) s is = refl

-- the room of a statement at the head of what is to be done
head_room : (callee : ℕ → Need) (before blocks count : ℕ) (again : Bool) (s : Stmt) (stmts : List Stmt) (behind : List Thing) → AreWithin callee before blocks count (to_do again (s ∷ stmts) ++ behind) → (before + count + (weight_of callee s).need.locals ≤ 48) × (blocks + suc (ends behind) + (weight_of callee s).need.blocks ≤ 24)
head_room callee before blocks count false s stmts behind within =
    (within.0, omega (arith, within.1, ends_do stmts behind))
head_room callee before blocks count true s stmts behind within =
    let weight = weight_again callee (out-Stmt s) s refl in
    (omega (arith, within.0, ap (λ (w : Weight). w.need.locals) weight), omega (arith, within.1, ends_do stmts behind, ap (λ (w : Weight). w.need.blocks) weight))

-- the room of the statement at which a context stands
pub room : (p : Program) (ctx : Ctx) (s : Stmt) → IsWithin p (local_of p ctx) → IsCounted p ctx → statement_of p ctx ≡ Some s → (length ctx.slots.items + (weight_of (callees p) s).need.locals ≤ 48) × (suc (length ctx.cursors.items) + (weight_of (callees p) s).need.blocks ≤ 24)
unfolding blocks_at
room p ctx s within counted here =
    let l = level_of p ctx in
    let outer = take ctx.base ctx.slots.items in
    let front : length outer ≡ ctx.base = length-take-le ctx.base ctx.slots.items counted.within in
    let locals = locals_in_frames outer l.waiting (counted.waiting ∙ sym front) in
    let blocks = blocks_in_frames outer l.waiting in
    let cursors = cursors_open p ctx.body ctx.cursors.items in
    let own = length-drop ctx.base ctx.slots.items in
    let top : AreWithin (callees p) (locals_in (frames outer l.waiting)) (blocks_in (frames outer l.waiting)) (length (drop ctx.base ctx.slots.items)) (to_do ctx.again (s ∷ drop (ctx.at + 1) l.stmts) ++ l.behind) = rw (← drop_at_item l.stmts ctx.at s here) within.each.0 in
    let head = head_room (callees p) (locals_in (frames outer l.waiting)) (blocks_in (frames outer l.waiting)) (length (drop ctx.base ctx.slots.items)) ctx.again s (drop (ctx.at + 1) l.stmts) l.behind top in
    (omega (arith, head.0, locals, front, own, counted.within), omega (arith, head.1, blocks, cursors))

-- a frame has room for one local more where it declares one
pub room_for_local : (p : Program) (ctx : Ctx) (s : Stmt) (at : At) (e : Expr) → IsWithin p (local_of p ctx) → IsCounted p ctx → statement_of p ctx ≡ Some s → out-Stmt s ≡ stmt.Let at e → length ctx.slots.items < 48
room_for_local p ctx s at e within counted here layer =
    omega (arith, (room p ctx s within counted here).0, ap (λ (w : Weight). w.need.locals) (weight_out (callees p) s ∙ ap (weight_parts (callees p)) layer))

-- there is room for one cursor more
pub room_for_cursor : (p : Program) (ctx : Ctx) (s : Stmt) → IsWithin p (local_of p ctx) → IsCounted p ctx → statement_of p ctx ≡ Some s → length ctx.cursors.items < 24
room_for_cursor p ctx s within counted here = omega (arith, (room p ctx s within counted here).1)

-- what is found passes the test, and what holds of each holds of it
found_by : {X : Type 0} (P : X → Type 0) (test : X → Bool) (y x : X) (ys : List X) (b : Bool) → test y ≡ b → P y → ((find test ys ≡ Some x) → P x × (test x ≡ true)) → cond b (Some y) (find test ys) ≡ Some x → P x × (test x ≡ true)
found_by P test y x ys true passes holds rest is = let e : y ≡ x = cc in (subst P e holds, ap test (sym e) ∙ passes)
found_by P test y x ys false passes holds rest is = rest is

pub found_holds : {X : Type 0} (P : X → Type 0) (test : X → Bool) (xs : List X) (x : X) → All P xs → find test xs ≡ Some x → P x × (test x ≡ true)
found_holds P test [] x all is = cc
found_holds P test (y ∷ ys) x all is =
    found_by P test y x ys (test y) refl (All-head P y ys all) (λ rest. found_holds P test ys x (All-tail P y ys all) rest) is

-- a function that is found has the need that its callers count
pub need_found : (p : Program) (name : ℕ) (f : Function) → Fits p → function_of p name ≡ Some f → need_of_body (callees p) f.parameters f.body ≡ callees p name
need_found p name f fits is =
    let found = found_holds (HasItsNeed p) (λ g. g.name == name) p.functions f fits.functions is in
    let same : f.name ≡ name = eq_true f.name name found.1 in
    found.0 ∙ ap (callees p) same

-- there is room for the parameters of a function that is called
pub room_for_call : (p : Program) (ctx : Ctx) (s : Stmt) (to : Option At) (name : At) (arguments : List Expr) (found : Option Function) → Fits p → IsWithin p (local_of p ctx) → IsCounted p ctx → statement_of p ctx ≡ Some s → out-Stmt s ≡ stmt.Apply to name arguments → function_of p name.name ≡ found → IfSome found (λ f. length ctx.slots.items + length f.parameters ≤ 48)
room_for_call p ctx s to name arguments None fits within counted here layer found = tt
room_for_call p ctx s to name arguments (Some f) fits within counted here layer found =
    omega (arith, (room p ctx s within counted here).0, ap (λ (w : Weight). w.need.locals) (weight_out (callees p) s ∙ ap (weight_parts (callees p)) layer), ap (λ (n : Need). n.locals) (need_found p name.name f fits found))
