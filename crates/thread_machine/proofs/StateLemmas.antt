-- What a change of the slots or the cursors is in the local state.
use Rattle.std.proofs.Common.{◌≡◌, ℕ, suc, ◌+◌, ◌-◌, ◌≤◌, List, [], ◌∷◌, ◌++◌, length, min, take, drop, Bool, true, false, Option, Some, ◌≢◌, refl, ap, ◌∙◌, arith}
use Rattle.std.specs.Prelude.{slice_get, option_and_then, ◌==◌, if◌then◌else◌}
use Rattle.std.proofs.lemmas.List.{take-take, drop-take, take_min, length-take-le, length-drop, length-append}
use Rattle.arrayvec.specs.ArrayVec.{ArrayVec}
use Rattle.thread_tree.specs.declared.local.Local.{Local}
use Rattle.thread_tree.specs.declared.block.Block.{Block}
use Rattle.thread_tree.specs.declared.block.Stmt.{Stmt, out-Stmt}
use Rattle.thread_tree.specs.Program.{Program}
use Rattle.thread_tree.specs.LocalState.{Thing, with_value, ended, entered}
use Rattle.thread_machine.specs.declared.context.Ctx.{Ctx}
use Rattle.thread_machine.specs.declared.context.Cursor.{Cursor}
use Rattle.thread_machine.specs.declared.context.Way.{Way}
use Rattle.thread_machine.specs.declared.context.Way.TheVariants as way
use Rattle.thread_machine.specs.Context.{Level, IsCounted, kept_in, level_along, level_by, level_inside, level_of, local_of, state_at, statement_of, after_of, is_loop, place_after, place_behind, todo_at, todo_after, todo_behind, block_inside, comes_again, again_of}
use Rattle.thread_machine.proofs.ListLemmas.{drop_at_item}
use Rattle.thread_machine.proofs.LevelLemmas.{level_along-snoc, kept_waiting}

length_either : (b : Bool) (xs ys : List Local) (n : ℕ) → length xs ≡ n → length ys ≡ n → length (if b then xs else ys) ≡ n
length_either true xs ys n first second = first
length_either false xs ys n first second = second

-- a write keeps the number of locals
pub length-with_value : (locals : List Local) (name value : ℕ) → length (with_value locals name value) ≡ length locals
length-with_value [] name value = refl
length-with_value (x ∷ xs) name value =
    length_either (x.name == name) (record { name = name; value = value } ∷ xs) (x ∷ with_value xs name value) (length (x ∷ xs)) refl (ap suc (length-with_value xs name value))

pub length_assigned : (base name value : ℕ) (slots : List Local) → base ≤ length slots → length (take base slots ++ with_value (drop base slots) name value) ≡ length slots
length_assigned base name value slots within =
    omega (arith, length-append (take base slots) (with_value (drop base slots) name value), length-with_value (drop base slots) name value, length-drop base slots, length-take-le base slots within)

-- the level that a cursor at the end enters
pub level_entered : (p : Program) (template : ℕ) (cs more : List Cursor) (c : Cursor) → more ≡ cs ++ c ∷ [] → level_along p template more ≡ level_by p (level_along p template cs) c.at c.keep c.way
level_entered p template cs more c is = rw is (level_along-snoc p template cs c)

-- the state at a level that a block was entered to
inside_state : (p : Program) (l : Level) (way : Way) (at keep : ℕ) (block : Block) (outer own : List Local) (before : List Thing) → option_and_then (block_inside p way) (slice_get l.stmts at) ≡ Some block → length own ≡ keep → state_at (level_inside p way l at keep) outer own (todo_at (level_inside p way l at keep) false 0) ≡ entered (state_at l outer own before) block (todo_after l at)
inside_state p l way at keep block outer own before is same = rw (is, same) refl

-- the state at a level that a block was entered to, by the way
entered_state : (p : Program) (l : Level) (w : Way) (at keep : ℕ) (block : Block) (outer own : List Local) (before : List Thing) → w ≢ way.Call → option_and_then (block_inside p w) (slice_get l.stmts at) ≡ Some block → length own ≡ keep → state_at (level_by p l at keep w) outer own (todo_at (level_by p l at keep w) false 0) ≡ entered (state_at l outer own before) block (todo_after l at)
entered_state p l way.First at keep block outer own before is_block is same = inside_state p l way.First at keep block outer own before is same
entered_state p l way.Else at keep block outer own before is_block is same = inside_state p l way.Else at keep block outer own before is same
entered_state p l way.Call at keep block outer own before is_block is same = absurd (is_block refl)

chosen_block : (p : Program) (w : Way) (found : Option Stmt) (s : Stmt) (block : Block) → found ≡ Some s → block_inside p w s ≡ Some block → option_and_then (block_inside p w) found ≡ Some block
chosen_block p w found s block is chosen = rw is chosen

-- the context in a block that was entered
pub entered_local : (p : Program) (ctx : Ctx) (more : ArrayVec Cursor) (w : Way) (s : Stmt) (block : Block) → w ≢ way.Call → more.items ≡ ctx.cursors.items ++ record { at = ctx.at; way = w; keep = length ctx.slots.items - ctx.base } ∷ [] → statement_of p ctx ≡ Some s → block_inside p w s ≡ Some block → local_of p (record ctx { cursors = more; at = 0; again = false }) ≡ entered (local_of p ctx) block (after_of p ctx)
entered_local p ctx more w s block is_block is here chosen =
    let keep = length ctx.slots.items - ctx.base in
    let c : Cursor = record { at = ctx.at; way = w; keep = keep } in
    let outer = take ctx.base ctx.slots.items in
    let own = drop ctx.base ctx.slots.items in
    ap (λ l. state_at l outer own (todo_at l false 0)) (level_entered p ctx.body ctx.cursors.items more.items c is)
    ∙ entered_state p (level_of p ctx) w ctx.at keep block outer own (todo_at (level_of p ctx) ctx.again ctx.at) is_block (chosen_block p w (statement_of p ctx) s block here chosen) (length-drop ctx.base ctx.slots.items)

pub entered_counted : (p : Program) (ctx : Ctx) (more : ArrayVec Cursor) (w : Way) (keep : ℕ) → w ≢ way.Call → more.items ≡ ctx.cursors.items ++ record { at = ctx.at; way = w; keep = keep } ∷ [] → IsCounted p ctx → IsCounted p (record ctx { cursors = more; at = 0; again = false })
entered_counted p ctx more w keep is_block is counted =
    let c : Cursor = record { at = ctx.at; way = w; keep = keep } in
    record {
      within = counted.within;
      waiting =
          ap (λ (l : Level). kept_in l.waiting) (level_entered p ctx.body ctx.cursors.items more.items c is)
          ∙ ap kept_in (kept_waiting p (level_of p ctx) ctx.at keep w is_block)
          ∙ counted.waiting;
    }

-- behind a statement that doesn't come again
pub todo_after_once : (l : Level) (at : ℕ) (s : Stmt) → slice_get l.stmts at ≡ Some s → comes_again (out-Stmt s) ≡ false → todo_after l at ≡ todo_at l false (at + 1)
todo_after_once l at s is once = rw (is, once) refl

-- behind a loop's block it comes again
pub todo_after_again : (l : Level) (at : ℕ) (s : Stmt) → slice_get l.stmts at ≡ Some s → comes_again (out-Stmt s) ≡ true → todo_after l at ≡ again_of (out-Stmt s) s ∷ todo_at l false (at + 1)
todo_after_again l at s is again =
    rw (is, again, drop_at_item l.stmts at s is) refl

pub take_within : (base keep : ℕ) (slots : List Local) → base ≤ length slots → take (base + min keep (length slots - base)) slots ≡ take (base + keep) slots
take_within base keep slots within =
    let e : base + min keep (length slots - base) ≡ min (base + keep) (length slots) = omega arith in
    rw e (take_min (base + keep) slots)

-- a block was left
pub left_state : (l : Level) (base keep : ℕ) (slots less : List Local) (before rest : List Thing) → less ≡ take (base + keep) slots → state_at l (take base less) (drop base less) rest ≡ ended (state_at l (take base slots) (drop base slots) before) keep rest
left_state l base keep slots less before rest is =
    let front : base ≤ base + keep = omega arith in
    rw (is, take-take base (base + keep) slots front, drop-take base keep slots) refl

pub left_local : (p : Program) (ctx : Ctx) (less : ArrayVec Local) (keep at place : ℕ) (again : Bool) (found : Option Stmt) → less.items ≡ take (ctx.base + keep) ctx.slots.items → found ≡ slice_get (level_of p ctx).stmts at → again ≡ is_loop found → place ≡ place_after found at → local_of p (record ctx { slots = less; at = place; again = again }) ≡ ended (local_of p ctx) keep (todo_after (level_of p ctx) at)
left_local p ctx less keep at place again found slots is loop goes_on =
    rw (loop, goes_on, is)
    (left_state (level_of p ctx) ctx.base keep ctx.slots.items less.items (todo_at (level_of p ctx) ctx.again ctx.at) (todo_after (level_of p ctx) at) slots)

pub left_behind : (p : Program) (ctx : Ctx) (less : ArrayVec Local) (keep at place : ℕ) (found : Option Stmt) → less.items ≡ take (ctx.base + keep) ctx.slots.items → found ≡ slice_get (level_of p ctx).stmts at → place ≡ place_behind found at → local_of p (record ctx { slots = less; at = place; again = false }) ≡ ended (local_of p ctx) keep (todo_behind (level_of p ctx) at)
left_behind p ctx less keep at place found slots is goes_on =
    rw (goes_on, is)
    (left_state (level_of p ctx) ctx.base keep ctx.slots.items less.items (todo_at (level_of p ctx) ctx.again ctx.at) (todo_behind (level_of p ctx) at) slots)
