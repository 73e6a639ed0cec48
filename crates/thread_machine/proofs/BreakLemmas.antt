-- What a `break` is in the local state.
use Rattle.std.proofs.Common.{◌≡◌, ◌≢◌, ℕ, ◌+◌, List, [], ◌∷◌, ◌++◌, take, drop, map, Bool, true, false, Option, Some, None, refl, ap, sym, ◌∙◌}
use Rattle.std.specs.Prelude.{slice_get}
use Rattle.std.proofs.lemmas.List.{append-nil}
use Rattle.thread_tree.specs.declared.local.Local.{Local}
use Rattle.thread_tree.specs.declared.block.Block.{Block}
use Rattle.thread_tree.specs.declared.block.Stmt.{Stmt, out-Stmt}
use Rattle.thread_tree.specs.declared.block.Stmt.TheOpen.{Stmt-F}
use Rattle.thread_tree.specs.declared.block.Stmt.TheOpen as stmt
use Rattle.thread_tree.specs.Program.{Program}
use Rattle.thread_tree.specs.LocalState.{Thing, LocalState, broken, broken_off, ended}
use Rattle.thread_tree.specs.LocalState.Thing.{Do}
use Rattle.thread_machine.specs.declared.context.Cursor.{Cursor}
use Rattle.thread_machine.specs.declared.context.Way.{Way}
use Rattle.thread_machine.specs.declared.context.Way.TheVariants as way
use Rattle.thread_machine.specs.declared.context.Ctx.{Ctx}
use Rattle.thread_machine.specs.Context.{Level, level_along, level_by, local_of, rest_of, state_at, todo_at, todo_after, todo_behind, is_loop, comes_again, again_of, place_behind}
use Rattle.thread_machine.proofs.LevelLemmas.{level_along-snoc}
use Rattle.thread_machine.proofs.StateLemmas.{todo_after_once, todo_after_again}

-- statements are passed
broken_statements : (own : List Local) (stmts : List Stmt) (rest : List Thing) → broken own (map Do stmts ++ rest) ≡ broken own rest
broken_statements own [] rest = refl
broken_statements own (s ∷ stmts) rest = broken_statements own stmts rest

broken_again : (own : List Local) (layer : Stmt-F Stmt Block) (s : Stmt) (rest : List Thing) → comes_again layer ≡ true → broken own (again_of layer s ∷ rest) ≡ (own, rest)
broken_again own (stmt.Let at e) s rest again = cc
broken_again own (stmt.Set at e) s rest again = cc
broken_again own (stmt.Apply to callee arguments) s rest again = cc
broken_again own (stmt.If e block other) s rest again = cc
broken_again own (stmt.While e block) s rest again = refl
broken_again own (stmt.Ploop place block) s rest again = refl
broken_again own (stmt.Break place) s rest again = cc
broken_again own (stmt.Return place value) s rest again = cc
broken_again own (stmt.Atomic place to block) s rest again = cc
broken_again own (stmt.Call place call to) s rest again = cc

-- a loop is left
broken_loop : (own : List Local) (l : Level) (at : ℕ) (found : Option Stmt) → slice_get l.stmts at ≡ found → is_loop found ≡ true → broken own (todo_after l at) ≡ (own, todo_behind l at)
broken_loop own l at None is again = cc
broken_loop own l at (Some s) is again =
    ap (λ todo. broken own todo) (todo_after_again l at s is again)
    ∙ broken_again own (out-Stmt s) s (todo_at l false (at + 1)) again
    ∙ ap (λ place. (own, todo_at l false place)) (sym (ap (λ f. place_behind f at) is))

-- what is no loop goes on behind
behind_no_loop : (l : Level) (at : ℕ) (found : Option Stmt) → slice_get l.stmts at ≡ found → is_loop found ≡ false → todo_after l at ≡ todo_behind l at
behind_no_loop l at None is again = rw is refl
behind_no_loop l at (Some s) is again =
    todo_after_once l at s is again ∙ ap (λ place. todo_at l false place) (sym (ap (λ f. place_behind f at) is))

broken_state : Level → List Local → List Local × List Thing → LocalState
broken_state l outer b = state_at l outer b.0 b.1

-- the innermost block is left
broken_by : (p : Program) (l : Level) (at keep place : ℕ) (w : Way) (outer own : List Local) → w ≢ way.Call → broken_off (state_at (level_by p l at keep w) outer own (todo_at (level_by p l at keep w) false place)) (todo_at (level_by p l at keep w) false place) ≡ broken_state l outer (broken (take keep own) (todo_after l at))
unfolding broken_state
broken_by p l at keep place way.First outer own is_block =
    let m = level_by p l at keep way.First in
    ap (λ b. broken_state l outer b) (broken_statements own (drop place m.stmts) m.behind)
broken_by p l at keep place way.Else outer own is_block =
    let m = level_by p l at keep way.Else in
    ap (λ b. broken_state l outer b) (broken_statements own (drop place m.stmts) m.behind)
broken_by p l at keep place way.Call outer own is_block = absurd (is_block refl)

broken_block : (p : Program) (template : ℕ) (cs less : List Cursor) (c : Cursor) (place : ℕ) (outer own : List Local) → cs ≡ less ++ c ∷ [] → c.way ≢ way.Call → broken_off (state_at (level_along p template cs) outer own (todo_at (level_along p template cs) false place)) (todo_at (level_along p template cs) false place) ≡ broken_state (level_along p template less) outer (broken (take c.keep own) (todo_after (level_along p template less) c.at))
broken_block p template cs less c place outer own is is_block =
    ap (λ l. broken_off (state_at l outer own (todo_at l false place)) (todo_at l false place)) (ap (λ xs. level_along p template xs) is ∙ level_along-snoc p template less c)
    ∙ broken_by p (level_along p template less) c.at c.keep place c.way outer own is_block

-- the block that was left was a loop's
pub left_loop : (p : Program) (template : ℕ) (cs less : List Cursor) (c : Cursor) (place : ℕ) (again : Bool) (outer own : List Local) (other : List Thing) → again ≡ false → cs ≡ less ++ c ∷ [] → c.way ≢ way.Call → is_loop (slice_get (level_along p template less).stmts c.at) ≡ true → ended (state_at (level_along p template less) outer own other) c.keep (todo_behind (level_along p template less) c.at) ≡ broken_off (state_at (level_along p template cs) outer own (todo_at (level_along p template cs) again place)) (todo_at (level_along p template cs) again place)
unfolding broken_state
left_loop p template cs less c place again outer own other first is is_block loop =
    let l = level_along p template less in
    rw first
    (sym (broken_block p template cs less c place outer own is is_block
    ∙ ap (λ b. broken_state l outer b) (broken_loop (take c.keep own) l c.at (slice_get l.stmts c.at) refl loop)))

-- the block that was left was none of a loop
pub left_more : (p : Program) (template : ℕ) (cs less : List Cursor) (c : Cursor) (place : ℕ) (again : Bool) (outer own : List Local) (other : List Thing) → again ≡ false → cs ≡ less ++ c ∷ [] → c.way ≢ way.Call → is_loop (slice_get (level_along p template less).stmts c.at) ≡ false → (let s = ended (state_at (level_along p template less) outer own other) c.keep (todo_behind (level_along p template less) c.at) in broken_off s s.top.todo) ≡ broken_off (state_at (level_along p template cs) outer own (todo_at (level_along p template cs) again place)) (todo_at (level_along p template cs) again place)
unfolding broken_state
left_more p template cs less c place again outer own other first is is_block loop =
    let l = level_along p template less in
    rw first
    (sym (broken_block p template cs less c place outer own is is_block
    ∙ ap (λ todo. broken_state l outer (broken (take c.keep own) todo)) (behind_no_loop l c.at (slice_get l.stmts c.at) refl loop)))

-- a body is left to its end
pub left_body : (l : Level) (place : ℕ) (again : Bool) (outer own : List Local) → again ≡ false → l.behind ≡ [] → state_at l outer own [] ≡ broken_off (state_at l outer own (todo_at l again place)) (todo_at l again place)
unfolding broken_state
left_body l place again outer own first none =
    rw (first, none)
    (sym (ap (λ b. broken_state l outer b) (broken_statements own (drop place l.stmts) [])))

-- a `break` is passed before the blocks are left
pub passed_break : (p : Program) (ctx next : Ctx) → next ≡ record ctx { at = ctx.at + 1; again = false } → broken_off (local_of p next) (local_of p next).top.todo ≡ broken_off (local_of p ctx) (rest_of p ctx)
passed_break p ctx next is = rw is refl

pub popped_none : (p : Program) (template : ℕ) (cs less : List Cursor) → cs ≡ less ++ [] → level_along p template cs ≡ level_along p template less
popped_none p template cs less is = ap (λ xs. level_along p template xs) (is ∙ append-nil less)
