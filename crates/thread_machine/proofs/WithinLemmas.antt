-- Each move stays within the limits.
use Rattle.std.proofs.Common.{◌≡◌, ℕ, suc, ◌+◌, ◌≤◌, List, [], ◌∷◌, ◌++◌, length, take, get_or, map, Bool, true, false, Option, Some, None, refl, ap, subst, ◌∙◌, arith}
use Rattle.std.proofs.lemmas.Option.{slice_get_within, get_or_from_slice_get}
use Rattle.std.proofs.lemmas.List.Elements.{All-get_or}
use Rattle.std.specs.Prelude.{slice_get, All, ◌==◌}
use Rattle.std.proofs.lemmas.List.{length-take, length_push, append-nil}
use Rattle.thread_tree.specs.declared.local.Local.{Local}
use Rattle.thread_tree.specs.declared.place.At.{At}
use Rattle.thread_tree.specs.declared.expr.Expr.{Expr}
use Rattle.thread_tree.specs.declared.block.Block.{Block, out-Block}
use Rattle.thread_tree.specs.declared.block.Stmt.{Stmt, out-Stmt}
use Rattle.thread_tree.specs.declared.block.Stmt.TheOpen.{Stmt-F}
use Rattle.thread_tree.specs.declared.block.Stmt.TheOpen as stmt
use Rattle.thread_tree.specs.Program.{Program, Function, Template, function_of}
use Rattle.thread_tree.specs.Value.{value_of, values_in}
use Rattle.thread_tree.specs.Need.{Need, Weight, Fits, IsSmall, needs, in_turn, weight_of, need_of, need_of_body, callees}
use Rattle.thread_tree.specs.Kinds.{Action, action_layer, action_of}
use Rattle.thread_tree.specs.LocalState.{after_first, bind, loop_block, next_action, next_names, next_statement, turn, with_values, Thing, Frame, LocalState, broken, assigned, birth, broken_off, branched, declared_local, called, chosen_by, entered, ended, finished, given_to, going_on, move, moved, moved_by, named, returned, tested, things, with_value}
use Rattle.thread_tree.specs.LocalState.Thing.{Do, End, Test, Turn}
use Rattle.thread_machine.specs.Within.{AreWithin, FramesAreWithin, IsWithin, blocks_in, ends, locals_in}
use Rattle.thread_machine.proofs.RoomLemmas.{weight_parts, weight_out, need_out, need_found, ends_do}
use Rattle.thread_machine.proofs.CallLemmas.{called_is, called_none}
use Rattle.thread_machine.proofs.StateLemmas.{length-with_value}

-- with fewer locals a frame stays within the limits too
pub fewer_within : (callee : ℕ → Need) (before blocks fewer count : ℕ) (todo : List Thing) → fewer ≤ count → AreWithin callee before blocks count todo → AreWithin callee before blocks fewer todo
fewer_within callee before blocks fewer count [] le within = tt
fewer_within callee before blocks fewer count (Do s ∷ todo) le within =
    (omega (arith, within.0), within.1, fewer_within callee before blocks (fewer + (weight_of callee s).declares) (count + (weight_of callee s).declares) todo (omega arith) within.2)
fewer_within callee before blocks fewer count (End keep ∷ todo) le within = (omega (arith, within.0), within.1, within.2)
fewer_within callee before blocks fewer count (Test e block ∷ todo) le within =
    (omega (arith, within.0), within.1, fewer_within callee before blocks fewer count todo le within.2)
fewer_within callee before blocks fewer count (Turn s ∷ todo) le within =
    (omega (arith, within.0), within.1, fewer_within callee before blocks fewer count todo le within.2)

-- statements in front of what stays within the limits
do_within : (callee : ℕ → Need) (before blocks count : ℕ) (stmts : List Stmt) (after : List Thing) → before + count + (in_turn (map (weight_of callee) stmts)).locals ≤ 48 → blocks + suc (ends after) + (in_turn (map (weight_of callee) stmts)).blocks ≤ 24 → ((m : ℕ) → before + m ≤ 48 → AreWithin callee before blocks m after) → AreWithin callee before blocks count (map Do stmts ++ after)
do_within callee before blocks count [] after locals room rest = rest count (omega arith)
do_within callee before blocks count (s ∷ stmts) after locals room rest =
    let ends_same = ends_do stmts after in (
      omega arith,
      omega (arith, ends_same),
      do_within callee before blocks (count + (weight_of callee s).declares) stmts after (omega arith) (omega arith) rest,
    )

-- a block that is entered
pub block_within : (callee : ℕ → Need) (before blocks count : ℕ) (block : Block) (rest : List Thing) → before + count + (need_of callee block).locals ≤ 48 → blocks + suc (ends rest) + (need_of callee block).blocks ≤ 24 → AreWithin callee before blocks count rest → AreWithin callee before blocks count (things block ++ End count ∷ rest)
block_within callee before blocks count block rest locals room within =
    let need_locals = ap (λ (n : Need). n.locals) (need_out callee block) in
    let need_blocks = ap (λ (n : Need). n.blocks) (need_out callee block) in
    do_within callee before blocks count (out-Block block).stmts (End count ∷ rest) (omega (arith, need_locals)) (omega (arith, need_blocks))
    (λ m le. (omega arith, omega (arith, need_blocks), within))

-- a body that is entered
pub body_within : (callee : ℕ → Need) (before blocks count : ℕ) (block : Block) → before + count + (need_of callee block).locals ≤ 48 → blocks + (need_of callee block).blocks ≤ 24 → AreWithin callee before blocks count (things block)
body_within callee before blocks count block locals room =
    let need_locals = ap (λ (n : Need). n.locals) (need_out callee block) in
    let need_blocks = ap (λ (n : Need). n.blocks) (need_out callee block) in
    rw (← append-nil (things block))
    (do_within callee before blocks count (out-Block block).stmts [] (omega (arith, need_locals)) (omega (arith, need_blocks)) (λ m le. tt))

-- what a `break` leaves
broken_within : (callee : ℕ → Need) (before blocks count : ℕ) (locals : List Local) (todo : List Thing) → length locals ≤ count → AreWithin callee before blocks count todo → AreWithin callee before blocks (length (broken locals todo).0) (broken locals todo).1
broken_within callee before blocks count locals [] le within = tt
broken_within callee before blocks count locals (Do s ∷ todo) le within = broken_within callee before blocks (count + (weight_of callee s).declares) locals todo (omega arith) within.2
broken_within callee before blocks count locals (End keep ∷ todo) le within = broken_within callee before blocks keep (take keep locals) todo (omega (arith, length-take keep locals)) within.2
broken_within callee before blocks count locals (Test e block ∷ todo) le within = fewer_within callee before blocks (length locals) count todo le within.2
broken_within callee before blocks count locals (Turn s ∷ todo) le within = fewer_within callee before blocks (length locals) count todo le within.2

-- a frame with other locals, as many
same_within : (callee : ℕ → Need) (before blocks : ℕ) (locals others : List Local) (todo : List Thing) → length others ≡ length locals → AreWithin callee before blocks (length locals) todo → AreWithin callee before blocks (length others) todo
same_within callee before blocks locals others todo same within = rw same within

given_within : (callee : ℕ → Need) (result : Option ℕ) (value : ℕ) (frame : Frame) (frames : List Frame) → FramesAreWithin callee (frame ∷ frames) → FramesAreWithin callee (given_to result value frame ∷ frames)
given_within callee None value frame frames within = within
given_within callee (Some name) value frame frames within =
    (same_within callee (locals_in frames) (blocks_in frames) frame.locals (with_value frame.locals name value) frame.todo (length-with_value frame.locals name value) within.0, within.1)

-- what a return leaves
returned_within : (p : Program) (top : Frame) (below : List Frame) (value : ℕ) → FramesAreWithin (callees p) below → IsWithin p (returned (record { top = top; below = below }) value)
returned_within p top [] value within = record { each = (tt, tt) }
returned_within p top (frame ∷ frames) value within = record { each = given_within (callees p) top.result value frame frames within }

chosen_within : (p : Program) (value : ℕ) (x y : LocalState) (test : Bool) → (value == 0) ≡ test → IsWithin p x → IsWithin p y → IsWithin p (chosen_by value x y)
chosen_within p value x y true is within_x within_y = rw is within_y
chosen_within p value x y false is within_x within_y = rw is within_x

-- the room that a statement has, by its weight
pub record HasRoom (callee : ℕ → Need) (before blocks count : ℕ) (weight : Weight) (rest : List Thing) : Type 0 where
  pub locals : before + count + weight.need.locals ≤ 48
  pub room : blocks + suc (ends rest) + weight.need.blocks ≤ 24
  pub after : AreWithin callee before blocks (count + weight.declares) rest

some_within : (p : Program) (s t : LocalState) → Some s ≡ Some t → IsWithin p s → IsWithin p t
some_within p s t is within = let e : s ≡ t = cc in subst (IsWithin p) e within

finished_within : (p : Program) (top : Frame) (below : List Frame) (t : LocalState) → FramesAreWithin (callees p) below → finished (record { top = top; below = below }) ≡ Some t → IsWithin p t
finished_within p top [] t within is = cc
finished_within p top (frame ∷ frames) t within is =
    some_within p (returned (record { top = top; below = frame ∷ frames }) 0) t is (returned_within p top (frame ∷ frames) 0 within)

-- what holds of each item holds of the one at a place
pub All-slice_get : {X : Type 0} (P : X → Type 0) (xs : List X) (n : ℕ) (x : X) → All P xs → slice_get xs n ≡ Some x → P x
All-slice_get P xs n x all is =
    let e : get_or xs n x ≡ x = get_or_from_slice_get xs n x x is in
    subst P e (All-get_or P xs n x (slice_get_within xs n x is) all)

pub entered_within : (p : Program) (s : LocalState) (block : Block) (rest : List Thing) → locals_in s.below + length s.top.locals + (need_of (callees p) block).locals ≤ 48 → blocks_in s.below + suc (ends rest) + (need_of (callees p) block).blocks ≤ 24 → AreWithin (callees p) (locals_in s.below) (blocks_in s.below) (length s.top.locals) rest → FramesAreWithin (callees p) s.below → IsWithin p (entered s block rest)
entered_within p s block rest locals room within below = record {
  each = (block_within (callees p) (locals_in s.below) (blocks_in s.below) (length s.top.locals) block rest locals room within, below);
}

branched_within : (p : Program) (s : LocalState) (e : Expr) (block : Block) (other : Option Block) (rest : List Thing) → HasRoom (callees p) (locals_in s.below) (blocks_in s.below) (length s.top.locals) (weight_parts (callees p) (stmt.If e block other)) rest → FramesAreWithin (callees p) s.below → IsWithin p (branched s e block other rest)
branched_within p s e block None rest has below =
    let within = fewer_within (callees p) (locals_in s.below) (blocks_in s.below) (length s.top.locals) (length s.top.locals + 0) rest (omega arith) has.after in
    chosen_within p (value_of s.top.locals e) (entered s block rest) (going_on s rest) (value_of s.top.locals e == 0) refl
    (entered_within p s block rest (omega (arith, has.locals)) (omega (arith, has.room)) within below)
    (record { each = (within, below) })
branched_within p s e block (Some other) rest has below =
    let within = fewer_within (callees p) (locals_in s.below) (blocks_in s.below) (length s.top.locals) (length s.top.locals + 0) rest (omega arith) has.after in
    chosen_within p (value_of s.top.locals e) (entered s block rest) (entered s other rest) (value_of s.top.locals e == 0) refl
    (entered_within p s block rest (omega (arith, has.locals)) (omega (arith, has.room)) within below)
    (entered_within p s other rest (omega (arith, has.locals)) (omega (arith, has.room)) within below)

tested_within : (p : Program) (s : LocalState) (e : Expr) (block : Block) (rest : List Thing) → HasRoom (callees p) (locals_in s.below) (blocks_in s.below) (length s.top.locals) (needs (need_of (callees p) block)) rest → FramesAreWithin (callees p) s.below → IsWithin p (tested s e block rest)
tested_within p s e block rest has below =
    let within = fewer_within (callees p) (locals_in s.below) (blocks_in s.below) (length s.top.locals) (length s.top.locals + 0) rest (omega arith) has.after in
    let again : AreWithin (callees p) (locals_in s.below) (blocks_in s.below) (length s.top.locals) (Test e block ∷ rest) = (has.locals, has.room, within) in
    chosen_within p (value_of s.top.locals e) (entered s block (Test e block ∷ rest)) (going_on s rest) (value_of s.top.locals e == 0) refl
    (entered_within p s block (Test e block ∷ rest) has.locals has.room again below)
    (record { each = (within, below) })

pub length_named : (names values : List ℕ) → length (named names values) ≤ length names
length_named [] values = omega arith
length_named (name ∷ names) [] = omega arith
length_named (name ∷ names) (value ∷ values) = omega (arith, length_named names values)

called_within : (p : Program) (s : LocalState) (to : Option At) (name : At) (arguments : List Expr) (rest : List Thing) (found : Option Function) → Fits p → function_of p name.name ≡ found → HasRoom (callees p) (locals_in s.below) (blocks_in s.below) (length s.top.locals) (needs (callees p name.name)) rest → FramesAreWithin (callees p) s.below → IsWithin p (called p s to name arguments rest)
called_within p s to name arguments rest None fits found has below =
    let within = fewer_within (callees p) (locals_in s.below) (blocks_in s.below) (length s.top.locals) (length s.top.locals + 0) rest (omega arith) has.after in
    rw (called_none p s to name arguments rest found) (record { each = (within, below) })
called_within p s to name arguments rest (Some f) fits found has below =
    let within = fewer_within (callees p) (locals_in s.below) (blocks_in s.below) (length s.top.locals) (length s.top.locals + 0) rest (omega arith) has.after in
    let need = need_found p name.name f fits found in
    let need_locals = ap (λ (n : Need). n.locals) need in
    let need_blocks = ap (λ (n : Need). n.blocks) need in
    let locals = named f.parameters (values_in s.top.locals arguments) in
    let few = length_named f.parameters (values_in s.top.locals arguments) in
    rw (called_is p s to name arguments rest f found) (record {
      each = (
        body_within (callees p) (length s.top.locals + locals_in s.below) (suc (ends rest) + blocks_in s.below) (length locals) f.body (omega (arith, has.locals, need_locals, few)) (omega (arith, has.room, need_blocks)),
        (within, below),
      );
    })

-- the state after a statement's move
statement_within : (p : Program) (s t : LocalState) (rest : List Thing) (layer : Stmt-F Stmt Block) → Fits p → HasRoom (callees p) (locals_in s.below) (blocks_in s.below) (length s.top.locals) (weight_parts (callees p) layer) rest → FramesAreWithin (callees p) s.below → moved_by p s rest layer ≡ Some t → IsWithin p t
statement_within p s t rest (stmt.Let at e) fits has below is =
    some_within p (declared_local s at.name (value_of s.top.locals e) rest) t is (record {
      each = (rw (length_push s.top.locals (record { name = at.name; value = value_of s.top.locals e })) has.after, below);
    })
statement_within p s t rest (stmt.Set at e) fits has below is =
    let same = length-with_value s.top.locals at.name (value_of s.top.locals e) in
    some_within p (assigned s at.name (value_of s.top.locals e) rest) t is (record {
      each = (fewer_within (callees p) (locals_in s.below) (blocks_in s.below) (length (with_value s.top.locals at.name (value_of s.top.locals e))) (length s.top.locals + 0) rest (omega (arith, same)) has.after, below);
    })
statement_within p s t rest (stmt.Apply to callee arguments) fits has below is =
    some_within p (called p s to callee arguments rest) t is (called_within p s to callee arguments rest (function_of p callee.name) fits refl has below)
statement_within p s t rest (stmt.If e block other) fits has below is =
    some_within p (branched s e block other rest) t is (branched_within p s e block other rest has below)
statement_within p s t rest (stmt.While e block) fits has below is =
    some_within p (tested s e block rest) t is (tested_within p s e block rest has below)
statement_within p s t rest (stmt.Ploop place block) fits has below is = cc
statement_within p s t rest (stmt.Break place) fits has below is =
    some_within p (broken_off s rest) t is (record {
      each = (broken_within (callees p) (locals_in s.below) (blocks_in s.below) (length s.top.locals + 0) s.top.locals rest (omega arith) has.after, below);
    })
statement_within p s t rest (stmt.Return place None) fits has below is =
    some_within p (returned s 0) t is (returned_within p s.top s.below 0 below)
statement_within p s t rest (stmt.Return place (Some e)) fits has below is =
    some_within p (returned s (value_of s.top.locals e)) t is (returned_within p s.top s.below (value_of s.top.locals e) below)
statement_within p s t rest (stmt.Atomic place to block) fits has below is = cc
statement_within p s t rest (stmt.Call place call to) fits has below is = cc

-- the room at the head of what is to be done
pub head_has_room : (callee : ℕ → Need) (before blocks count : ℕ) (s : Stmt) (rest : List Thing) (layer : Stmt-F Stmt Block) → out-Stmt s ≡ layer → AreWithin callee before blocks count (Do s ∷ rest) → HasRoom callee before blocks count (weight_parts callee layer) rest
head_has_room callee before blocks count s rest layer is within =
    let weight = weight_out callee s ∙ ap (weight_parts callee) is in
    let declares = ap (λ (w : Weight). w.declares) weight in
    record {
      locals = omega (arith, within.0, ap (λ (w : Weight). w.need.locals) weight);
      room = omega (arith, within.1, ap (λ (w : Weight). w.need.blocks) weight);
      after = fewer_within callee before blocks (count + (weight_parts callee layer).declares) (count + (weight_of callee s).declares) rest (omega (arith, declares)) within.2;
    }

-- a move from things to do
todo_within : (p : Program) (s t : LocalState) (todo : List Thing) → Fits p → AreWithin (callees p) (locals_in s.below) (blocks_in s.below) (length s.top.locals) todo → FramesAreWithin (callees p) s.below → moved p s todo ≡ Some t → IsWithin p t
todo_within p s t [] fits top below is = finished_within p s.top s.below t below is
todo_within p s t (Do st ∷ rest) fits top below is =
    statement_within p s t rest (out-Stmt st) fits (head_has_room (callees p) (locals_in s.below) (blocks_in s.below) (length s.top.locals) st rest (out-Stmt st) refl top) below is
todo_within p s t (End keep ∷ rest) fits top below is =
    some_within p (ended s keep rest) t is (record {
      each = (fewer_within (callees p) (locals_in s.below) (blocks_in s.below) (length (take keep s.top.locals)) keep rest (omega (arith, length-take keep s.top.locals)) top.2, below);
    })
todo_within p s t (Test e block ∷ rest) fits top below is =
    some_within p (tested s e block rest) t is
    (tested_within p s e block rest (record {
      locals = top.0;
      room = top.1;
      after = fewer_within (callees p) (locals_in s.below) (blocks_in s.below) (length s.top.locals + 0) (length s.top.locals) rest (omega arith) top.2;
    }) below)
todo_within p s t (Turn st ∷ rest) fits top below is = cc

-- each move stays within the limits
pub move_within : (p : Program) (s t : LocalState) → Fits p → IsWithin p s → move p s ≡ Some t → IsWithin p t
move_within p s t fits within is = todo_within p s t s.top.todo fits within.each.0 within.each.1 is

-- a birth is within the limits
pub birth_within : (p : Program) (number : ℕ) (template : Template) (arguments : List ℕ) → Fits p → slice_get p.templates number ≡ Some template → IsWithin p (birth template arguments)
birth_within p number template arguments fits is =
    let need = All-slice_get (λ t. IsSmall (need_of_body (callees p) t.parameters t.body)) p.templates number template fits.templates is in
    let few = length_named template.parameters arguments in
    record {
      each = (body_within (callees p) 0 0 (length (named template.parameters arguments)) template.body (omega (arith, need.locals, few)) (omega (arith, need.blocks)), tt);
    }

-- an action leaves no local
action_declares : (p : Program) (callee : ℕ → Need) (layer : Stmt-F Stmt Block) (action : Action) → action_layer p layer ≡ Some action → (weight_parts callee layer).declares ≡ 0
action_declares p callee (stmt.Let at e) action is = cc
action_declares p callee (stmt.Set at e) action is = cc
action_declares p callee (stmt.Apply to function arguments) action is = cc
action_declares p callee (stmt.If e block other) action is = cc
action_declares p callee (stmt.While e block) action is = cc
action_declares p callee (stmt.Ploop place block) action is = refl
action_declares p callee (stmt.Break place) action is = cc
action_declares p callee (stmt.Return place value) action is = cc
action_declares p callee (stmt.Atomic place to block) action is = refl
action_declares p callee (stmt.Call place call to) action is = refl

length-with_values : (locals : List Local) (names values : List ℕ) → length (with_values locals names values) ≡ length locals
length-with_values locals [] values = refl
length-with_values locals (name ∷ names) [] = refl
length-with_values locals (name ∷ names) (value ∷ values) =
    length-with_values (with_value locals name value) names values ∙ length-with_value locals name value

-- what follows an action stays within the limits
after_action_within : (p : Program) (callee : ℕ → Need) (before blocks count fewer : ℕ) (todo : List Thing) (action : Action) → elim (next_statement todo) as (λ _. Option Action) [ None ↦ None | Some statement ↦ action_of p statement ] ≡ Some action → fewer ≡ count → AreWithin callee before blocks count todo → AreWithin callee before blocks fewer (after_first todo)
after_action_within p callee before blocks count fewer [] action is same within = tt
after_action_within p callee before blocks count fewer (Do s ∷ rest) action is same within =
    let declares = ap (λ (w : Weight). w.declares) (weight_out callee s) ∙ action_declares p callee (out-Stmt s) action is in
    fewer_within callee before blocks fewer (count + (weight_of callee s).declares) rest (omega (arith, declares)) within.2
after_action_within p callee before blocks count fewer (End keep ∷ rest) action is same within = cc
after_action_within p callee before blocks count fewer (Test e block ∷ rest) action is same within = cc
after_action_within p callee before blocks count fewer (Turn s ∷ rest) action is same within =
    fewer_within callee before blocks fewer count rest (omega arith) within.2

-- the results of an action stay within the limits
pub bind_within : (p : Program) (s : LocalState) (action : Action) (results : List ℕ) → next_action p s ≡ Some action → IsWithin p s → IsWithin p (bind p s results)
bind_within p s action results is within = record {
  each = (
    after_action_within p (callees p) (locals_in s.below) (blocks_in s.below) (length s.top.locals) (length (with_values s.top.locals (next_names p s) results)) s.top.todo action is (length-with_values s.top.locals (next_names p s) results) within.each.0,
    within.each.1,
  );
}

turned_by : (p : Program) (s : LocalState) (statement : Stmt) (rest : List Thing) (layer : Stmt-F Stmt Block) → IsWithin p s → weight_of (callees p) statement ≡ weight_parts (callees p) layer → AreWithin (callees p) (locals_in s.below) (blocks_in s.below) (length s.top.locals) (Turn statement ∷ rest) → IsWithin p (elim (loop_block layer) as (λ _. LocalState) [ None ↦ s | Some block ↦ entered s block (Turn statement ∷ rest) ])
turned_by p s statement rest (stmt.Let at e) within weight again = within
turned_by p s statement rest (stmt.Set at e) within weight again = within
turned_by p s statement rest (stmt.Apply to function arguments) within weight again = within
turned_by p s statement rest (stmt.If e block other) within weight again = within
turned_by p s statement rest (stmt.While e block) within weight again = within
turned_by p s statement rest (stmt.Ploop place block) within weight again =
    entered_within p s block (Turn statement ∷ rest) (omega (arith, again.0, ap (λ (w : Weight). w.need.locals) weight)) (omega (arith, again.1, ap (λ (w : Weight). w.need.blocks) weight)) again within.each.1
turned_by p s statement rest (stmt.Break place) within weight again = within
turned_by p s statement rest (stmt.Return place value) within weight again = within
turned_by p s statement rest (stmt.Atomic place to block) within weight again = within
turned_by p s statement rest (stmt.Call place call to) within weight again = within

turn_at : (p : Program) (top : Frame) (below : List Frame) (todo : List Thing) → FramesAreWithin (callees p) below → AreWithin (callees p) (locals_in below) (blocks_in below) (length top.locals) todo → IsWithin p (turn (record { top = record top { todo = todo }; below = below }))
turn_at p top below [] rest within = record { each = (within, rest) }
turn_at p top below (Do s ∷ todo) rest within =
    turned_by p (record { top = record top { todo = Do s ∷ todo }; below = below }) s todo (out-Stmt s) (record { each = (within, rest) }) (weight_out (callees p) s)
    (within.0, within.1, fewer_within (callees p) (locals_in below) (blocks_in below) (length top.locals) (length top.locals + (weight_of (callees p) s).declares) todo (omega arith) within.2)
turn_at p top below (End keep ∷ todo) rest within = record { each = (within, rest) }
turn_at p top below (Test e block ∷ todo) rest within = record { each = (within, rest) }
turn_at p top below (Turn s ∷ todo) rest within =
    turned_by p (record { top = record top { todo = Turn s ∷ todo }; below = below }) s todo (out-Stmt s) (record { each = (within, rest) }) (weight_out (callees p) s) within

-- a turn stays within the limits
pub turn_within : (p : Program) (s : LocalState) → IsWithin p s → IsWithin p (turn s)
turn_within p s within = turn_at p s.top s.below s.top.todo within.each.1 within.each.0
