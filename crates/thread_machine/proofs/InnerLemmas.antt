-- A block is entered on the way to a persistent loop.
use Rattle.std.proofs.Common.{◌≡◌, ◌≢◌, ℕ, zero, suc, ◌+◌, ◌-◌, ◌<◌, ◌≤◌, ◌^◌, List, [], ◌∷◌, ◌++◌, length, drop, Bool, true, false, Option, Some, None, refl, ap, sym, subst, ◌∙◌, arith}
use Rattle.std.specs.Prelude.{slice_get, filter, option_and_then, IsSomeAnd}
use Rattle.std.proofs.lemmas.List.{drop_all, length-map}
use Rattle.thread_tree.specs.declared.place.Place.{Place}
use Rattle.thread_tree.specs.declared.expr.Expr.{Expr}
use Rattle.thread_tree.specs.declared.block.Block.{Block, out-Block}
use Rattle.thread_tree.specs.declared.block.Stmt.{Stmt, out-Stmt}
use Rattle.thread_tree.specs.declared.block.Stmt.TheOpen.{Stmt-F}
use Rattle.thread_tree.specs.declared.block.Stmt.TheOpen as stmt
use Rattle.thread_tree.specs.Need.{Need, Weight, callees, need_of, weight_of}
use Rattle.thread_tree.specs.Program.{Program}
use Rattle.thread_tree.specs.LocalState.{Thing, entered}
use Rattle.thread_tree.specs.LocalState.Thing.{Do, End, Turn}
use Rattle.thread_tree.specs.Actions.{Spot, declared_by, is_loop, spots_in}
use Rattle.thread_machine.specs.declared.context.Ctx.{Ctx}
use Rattle.thread_machine.specs.declared.context.Way.{Way}
use Rattle.thread_machine.specs.declared.context.Way.TheVariants as way
use Rattle.thread_machine.specs.Context.{Level, after_of, block_inside, comes_again, first_block, other_block, level_along, level_by, level_of, todo_after, todo_at, local_of, rest_of, statement_of, statements}
use Rattle.thread_machine.specs.Loops.{loops_from, loops_in, loops_of}
use Rattle.thread_machine.specs.Seeking.{IsAtLoop, IsInner, IsOnWay, IsOwn, after_block, names_in, sought, spots_from, spots_if_there, spots_of}
use Rattle.thread_machine.specs.Scope.{IsScoped}
use Rattle.thread_machine.specs.Within.{AreWithin, IsWithin, blocks_in, ends, locals_in}
use Rattle.thread_check.proofs.Callers.{slice_get_behind}
use Rattle.thread_machine.proofs.LevelLemmas.{kept_result, kept_waiting}
use Rattle.thread_machine.proofs.KeepLemmas.{entered_by}
use Rattle.thread_machine.proofs.ListLemmas.{drop_at_item, drop_at_none}
use Rattle.thread_machine.proofs.StateLemmas.{level_entered, todo_after_again, todo_after_once}
use Rattle.thread_machine.proofs.WithinLemmas.{entered_within, fewer_within}
use Rattle.thread_tree.specs.declared.local.Local.{Local}
use Rattle.thread_machine.proofs.RoomLemmas.{weight_parts, weight_out, room_for_cursor}
use Rattle.thread_machine.proofs.SeekLemmas.{filter_append, loops_among, loops_count, loops_count_of, loops_out, spots_out}
use Rattle.thread_machine.proofs.SkipLemmas.{head_within, way_counted}

slice_get_front : {A : Type 0} (xs ys : List A) (n : ℕ) → n < length xs → slice_get (xs ++ ys) n ≡ slice_get xs n
slice_get_front [] ys n lt = absurd (omega (arith, lt))
slice_get_front (x ∷ xs) ys zero lt = refl
slice_get_front (x ∷ xs) ys (suc n) lt = slice_get_front xs ys n (omega (arith, lt))

-- the weight of a statement by its parts
parts : (p : Program) (s : Stmt) (layer : Stmt-F Stmt Block) → out-Stmt s ≡ layer → weight_of (callees p) s ≡ weight_parts (callees p) layer
parts p s layer is = weight_out (callees p) s ∙ ap (weight_parts (callees p)) is

pub own_ploop : (s : Stmt) (place : Place) (block : Block) (left : ℕ) → out-Stmt s ≡ stmt.Ploop place block → left ≡ 0 → IsOwn s left
own_ploop s place block left is first = record { place = place; block = block; is = is; first = first }

pub inner_while : (p : Program) (s : Stmt) (e : Expr) (b : Block) (left : ℕ) → out-Stmt s ≡ stmt.While e b → IsInner p s left way.First left
inner_while p s e b left is = record {
  block = b;
  enters = λ same. cc;
  is = rw is refl;
  few = rw is (omega arith);
  locals = omega (arith, ap (λ (w : Weight). w.need.locals) (parts p s (stmt.While e b) is));
  blocks = omega (arith, ap (λ (w : Weight). w.need.blocks) (parts p s (stmt.While e b) is));
  spots = λ scope rest. rw is refl;
}

behind_own : (s : Stmt) (scope : List ℕ) (rest : List Thing) (place : Place) (b : Block) (xs : List Spot) (left inner : ℕ) → out-Stmt s ≡ stmt.Ploop place b → left ≡ suc inner → slice_get (filter is_loop (record { statement = s; scope = scope; rest = rest } ∷ xs)) left ≡ slice_get (filter is_loop xs) inner
behind_own s scope rest place b xs left inner is e = rw (e, is) refl

pub inner_ploop : (p : Program) (s : Stmt) (place : Place) (b : Block) (left : ℕ) → out-Stmt s ≡ stmt.Ploop place b → left ≢ 0 → IsInner p s left way.First (left - 1)
inner_ploop p s place b zero is other = absurd (other refl)
inner_ploop p s place b (suc n) is other = let e : suc n - 1 ≡ n = omega arith in rw e (record {
  block = b;
  enters = λ same. cc;
  is = rw is refl;
  few = rw is (omega arith);
  locals = omega (arith, ap (λ (w : Weight). w.need.locals) (parts p s (stmt.Ploop place b) is));
  blocks = omega (arith, ap (λ (w : Weight). w.need.blocks) (parts p s (stmt.Ploop place b) is));
  spots = λ scope rest.
      ap (λ x. slice_get (filter is_loop (spots_of x s scope rest)) (suc n)) is
      ∙ behind_own s scope rest place b (spots_in b scope (End (length scope) ∷ Turn s ∷ rest)) (suc n) n is refl
      ∙ sym (ap (λ x. slice_get (filter is_loop (spots_in b scope (End (length scope) ∷ after_block x s rest))) n) is);
})

pub front_spots : (b : Block) (scope : List ℕ) (after : List Thing) (ys : List Spot) (left : ℕ) → left < loops_in b → slice_get (filter is_loop (spots_in b scope after ++ ys)) left ≡ slice_get (filter is_loop (spots_in b scope after)) left
unfolding loops_among
front_spots b scope after ys left lt =
    ap (λ xs. slice_get xs left) (filter_append (spots_in b scope after) ys)
    ∙ slice_get_front (filter is_loop (spots_in b scope after)) (filter is_loop ys) left (omega (arith, lt, loops_count b scope after))

pub behind_spots : (b : Block) (scope : List ℕ) (after : List Thing) (ys : List Spot) (left inner : ℕ) → left ≡ loops_in b + inner → slice_get (filter is_loop (spots_in b scope after ++ ys)) left ≡ slice_get (filter is_loop ys) inner
unfolding loops_among
behind_spots b scope after ys left inner is =
    ap (λ xs. slice_get xs left) (filter_append (spots_in b scope after) ys)
    ∙ slice_get_behind (filter is_loop (spots_in b scope after)) (filter is_loop ys) left inner (omega (arith, is, loops_count b scope after))

few_first : (e : Expr) (b : Block) (other : Option Block) → loops_in b ≤ loops_of (stmt.If e b other)
few_first e b None = omega arith
few_first e b (Some other) = omega arith

pub few_if : (s : Stmt) (e : Expr) (b : Block) (other : Option Block) → out-Stmt s ≡ stmt.If e b other → loops_in b ≤ loops_of (out-Stmt s)
few_if s e b other is = rw is (few_first e b other)

first_locals : (p : Program) (e : Expr) (b : Block) (other : Option Block) → ((need_of (callees p) b).locals ≤ (weight_parts (callees p) (stmt.If e b other)).need.locals) × ((need_of (callees p) b).blocks ≤ (weight_parts (callees p) (stmt.If e b other)).need.blocks)
first_locals p e b None = (omega arith, omega arith)
first_locals p e b (Some other) = (omega arith, omega arith)

pub inner_first : (p : Program) (s : Stmt) (e : Expr) (b : Block) (other : Option Block) (left : ℕ) → out-Stmt s ≡ stmt.If e b other → left < loops_in b → IsInner p s left way.First left
inner_first p s e b other left is lt = record {
  block = b;
  enters = λ same. cc;
  is = rw is refl;
  few = few_if s e b other is;
  locals = omega (arith, ap (λ (w : Weight). w.need.locals) (parts p s (stmt.If e b other) is), (first_locals p e b other).0);
  blocks = omega (arith, ap (λ (w : Weight). w.need.blocks) (parts p s (stmt.If e b other) is), (first_locals p e b other).1);
  spots = λ scope rest. rw is (front_spots b scope (End (length scope) ∷ rest) (spots_if_there other scope (End (length scope) ∷ rest)) left lt);
}

pub inner_other : (p : Program) (s : Stmt) (e : Expr) (b : Block) (other : Option Block) (left : ℕ) → out-Stmt s ≡ stmt.If e b other → loops_in b ≤ left → left < loops_of (out-Stmt s) → IsInner p s left way.Else (left - loops_in b)
inner_other p s e b None left is le lt =
    let same : loops_of (out-Stmt s) ≡ loops_in b = ap loops_of is in absurd (omega (arith, same, le, lt))
inner_other p s e b (Some o) left is le lt = record {
  block = o;
  enters = λ same. cc;
  is = rw is refl;
  few = rw is (omega arith);
  locals = omega (arith, ap (λ (w : Weight). w.need.locals) (parts p s (stmt.If e b (Some o)) is));
  blocks = omega (arith, ap (λ (w : Weight). w.need.blocks) (parts p s (stmt.If e b (Some o)) is));
  spots = λ scope rest. rw is (behind_spots b scope (End (length scope) ∷ rest) (spots_in o scope (End (length scope) ∷ rest)) left (left - loops_in b) (omega (arith, le)));
}

-- the loop is in the first block, whose loops were counted
pub counted_first : (p : Program) (s : Stmt) (e : Expr) (b : Block) (other : Option Block) (left count : ℕ) → out-Stmt s ≡ stmt.If e b other → loops_of (out-Stmt s) < 2 ^ 32 → (loops_in b < 2 ^ 32 → count ≡ loops_in b) → left < count → IsInner p s left way.First left
counted_first p s e b other left count is few counted lt =
    let same = counted (omega (arith, few, few_if s e b other is)) in inner_first p s e b other left is (omega (arith, same, lt))

-- the loop is in the other block
pub counted_other : (p : Program) (s : Stmt) (e : Expr) (b : Block) (other : Option Block) (left count : ℕ) → out-Stmt s ≡ stmt.If e b other → loops_of (out-Stmt s) < 2 ^ 32 → (loops_in b < 2 ^ 32 → count ≡ loops_in b) → count ≤ left → left < loops_of (out-Stmt s) → IsInner p s left way.Else (left - count)
counted_other p s e b other left count is few counted le lt =
    let same = counted (omega (arith, few, few_if s e b other is)) in rw same (inner_other p s e b other left is (omega (arith, same, le)) lt)

pub ruleset inner_laws = (own_ploop, inner_while, inner_ploop, inner_first, inner_other, few_if)

-- the loops of the statement at hand are few
pub few_here : (p : Program) (ctx : Ctx) (s : Stmt) → IsOnWay p ctx → statement_of p ctx ≡ Some s → loops_of (out-Stmt s) < 2 ^ 32
few_here p ctx s way here = omega (arith, way.few, ap loops_from (drop_at_item (level_of p ctx).stmts ctx.at s here))

-- behind the last statement no loop is found
pub sought_end : (p : Program) (ctx : Ctx) (left : ℕ) → length (level_of p ctx).stmts ≤ ctx.at → sought p ctx left ≡ None
unfolding sought
sought_end p ctx left past = rw (drop_all ctx.at (level_of p ctx).stmts past) refl

pub level_kept : (p : Program) (ctx next : Ctx) → next.body ≡ ctx.body → next.cursors ≡ ctx.cursors → level_of p next ≡ level_of p ctx
level_kept p ctx next body cursors = rw (body, cursors) refl

pub ruleset approach_laws = (few_here, sought_end, level_kept)

-- what follows a block is as many ends as follow its statement
after_ends : (layer : Stmt-F Stmt Block) (s : Stmt) (rest : List Thing) → ends (after_block layer s rest) ≡ ends rest
after_ends (stmt.Let at e) s rest = refl
after_ends (stmt.Set at e) s rest = refl
after_ends (stmt.Apply to function arguments) s rest = refl
after_ends (stmt.If e block other) s rest = refl
after_ends (stmt.While e block) s rest = refl
after_ends (stmt.Ploop place block) s rest = refl
after_ends (stmt.Break place) s rest = refl
after_ends (stmt.Return place value) s rest = refl
after_ends (stmt.Atomic place to block) s rest = refl
after_ends (stmt.Call place call to) s rest = refl

fewer_after : (callee : ℕ → Need) (before blocks count : ℕ) (s : Stmt) (rest : List Thing) → AreWithin callee before blocks count (Do s ∷ rest) → AreWithin callee before blocks count rest
fewer_after callee before blocks count s rest within =
    fewer_within callee before blocks count (count + (weight_of callee s).declares) rest (omega arith) within.2

-- what follows a block is within the limits
after_within : (p : Program) (before blocks count : ℕ) (s : Stmt) (layer : Stmt-F Stmt Block) (rest : List Thing) → out-Stmt s ≡ layer → AreWithin (callees p) before blocks count (Do s ∷ rest) → AreWithin (callees p) before blocks count (after_block layer s rest)
after_within p before blocks count s (stmt.Let at e) rest is within = fewer_after (callees p) before blocks count s rest within
after_within p before blocks count s (stmt.Set at e) rest is within = fewer_after (callees p) before blocks count s rest within
after_within p before blocks count s (stmt.Apply to function arguments) rest is within = fewer_after (callees p) before blocks count s rest within
after_within p before blocks count s (stmt.If e block other) rest is within = fewer_after (callees p) before blocks count s rest within
after_within p before blocks count s (stmt.While e block) rest is within =
    let weight = parts p s (stmt.While e block) is in
    (omega (arith, within.0, ap (λ (w : Weight). w.need.locals) weight), omega (arith, within.1, ap (λ (w : Weight). w.need.blocks) weight), fewer_after (callees p) before blocks count s rest within)
after_within p before blocks count s (stmt.Ploop place block) rest is within =
    (within.0, within.1, fewer_after (callees p) before blocks count s rest within)
after_within p before blocks count s (stmt.Break place) rest is within = fewer_after (callees p) before blocks count s rest within
after_within p before blocks count s (stmt.Return place value) rest is within = fewer_after (callees p) before blocks count s rest within
after_within p before blocks count s (stmt.Atomic place to block) rest is within = fewer_after (callees p) before blocks count s rest within
after_within p before blocks count s (stmt.Call place call to) rest is within = fewer_after (callees p) before blocks count s rest within

-- what is to be done behind a block, by its statement
pub after_is : (l : Level) (at : ℕ) (s : Stmt) (b : Bool) → slice_get l.stmts at ≡ Some s → comes_again (out-Stmt s) ≡ b → todo_after l at ≡ after_block (out-Stmt s) s (todo_at l false (at + 1))
after_is l at s false here is = todo_after_once l at s here is ∙ rw is refl
after_is l at s true here is = todo_after_again l at s here is ∙ rw is refl

by_stmts : (p : Program) (l : Level) (at keep : ℕ) (w : Way) → w ≢ way.Call → (level_by p l at keep w).stmts ≡ statements (option_and_then (block_inside p w) (slice_get l.stmts at))
by_stmts p l at keep way.First other = refl
by_stmts p l at keep way.Else other = refl
by_stmts p l at keep way.Call other = absurd (other refl)

by_behind : (p : Program) (l : Level) (at keep : ℕ) (w : Way) → w ≢ way.Call → (level_by p l at keep w).behind ≡ End keep ∷ todo_after l at
by_behind p l at keep way.First other = refl
by_behind p l at keep way.Else other = refl
by_behind p l at keep way.Call other = absurd (other refl)

found_block : (p : Program) (w : Way) (found : Option Stmt) (s : Stmt) (b : Block) → found ≡ Some s → block_inside p w s ≡ Some b → statements (option_and_then (block_inside p w) found) ≡ (out-Block b).stmts
found_block p w found s b here is = rw (here, is) refl

-- the loop is among those of the statement at hand
own_spots : (p : Program) (ctx : Ctx) (s : Stmt) (left : ℕ) → statement_of p ctx ≡ Some s → left < loops_of (out-Stmt s) → sought p ctx left ≡ slice_get (filter is_loop (spots_of (out-Stmt s) s (names_in ctx.slots.items) (rest_of p ctx))) left
unfolding sought loops_among
own_spots p ctx s left here lt =
    let l = level_of p ctx in
    let scope = names_in ctx.slots.items in
    let own = spots_of (out-Stmt s) s scope (rest_of p ctx) in
    let more = spots_from (drop (ctx.at + 1) l.stmts) (scope ++ declared_by (out-Stmt s)) l.behind in
    ap (λ xs. slice_get (filter is_loop (spots_from xs scope l.behind)) left) (drop_at_item l.stmts ctx.at s here)
    ∙ ap (λ xs. slice_get xs left) (filter_append own more)
    ∙ slice_get_front (filter is_loop own) (filter is_loop more) left (omega (arith, lt, loops_count_of s scope (rest_of p ctx)))

first_declares : (layer : Stmt-F Stmt Block) (b : Block) → first_block layer ≡ Some b → declared_by layer ≡ []
first_declares (stmt.Let at e) b is = cc
first_declares _ b is = refl

other_declares : (layer : Stmt-F Stmt Block) (b : Block) → other_block layer ≡ Some b → declared_by layer ≡ []
other_declares (stmt.Let at e) b is = cc
other_declares _ b is = refl

-- a statement that has a block declares nothing
block_declares : (p : Program) (w : Way) (s : Stmt) (b : Block) → w ≢ way.Call → block_inside p w s ≡ Some b → declared_by (out-Stmt s) ≡ []
block_declares p way.First s b enters is = first_declares (out-Stmt s) b is
block_declares p way.Else s b enters is = other_declares (out-Stmt s) b is
block_declares p way.Call s b enters is = absurd (enters refl)

-- a block was entered
pub entered_way : (p : Program) (ctx next : Ctx) (s : Stmt) (w : Way) (left n : ℕ) (inner : IsInner p s left w n) → IsOnWay p ctx → statement_of p ctx ≡ Some s → left < loops_of (out-Stmt s) → next.cursors.items ≡ ctx.cursors.items ++ record { at = ctx.at; way = w; keep = length ctx.slots.items - ctx.base } ∷ [] → next ≡ record ctx { cursors = next.cursors; at = 0; again = false } → local_of p next ≡ entered (local_of p ctx) inner.block (after_of p ctx) → IsOnWay p next × (sought p next n ≡ sought p ctx left)
unfolding sought
entered_way p ctx next s w left n inner way here lt cursors kept moved =
    let l = level_of p ctx in
    let t = local_of p ctx in
    let keep = length ctx.slots.items - ctx.base in
    let scope = names_in ctx.slots.items in
    let rest = rest_of p ctx in
    let m = level_by p l ctx.at keep w in
    let level : level_of p next ≡ m =
    ap (λ (c : Ctx). level_along p c.body next.cursors.items) kept ∙ level_entered p ctx.body ctx.cursors.items next.cursors.items (record { at = ctx.at; way = w; keep = keep }) cursors in
    let at : next.at ≡ 0 = ap (λ (c : Ctx). c.at) kept in
    let slots : names_in next.slots.items ≡ scope = ap (λ (c : Ctx). names_in c.slots.items) kept in
    let stmts : m.stmts ≡ (out-Block inner.block).stmts =
    by_stmts p l ctx.at keep w inner.enters ∙ found_block p w (slice_get l.stmts ctx.at) s inner.block here inner.is in
    let count : keep ≡ length scope = omega (arith, way.base, length-map ctx.slots.items (λ (x : Local). x.name)) in
    let after : after_of p ctx ≡ after_block (out-Stmt s) s rest = after_is l ctx.at s (comes_again (out-Stmt s)) here refl in
    let behind : m.behind ≡ End (length scope) ∷ after_block (out-Stmt s) s rest =
    by_behind p l ctx.at keep w inner.enters ∙ ap (λ k. End k ∷ todo_after l ctx.at) count ∙ ap (λ xs. End (length scope) ∷ xs) after in
    let head = head_within p ctx s way here in
    let ends_same : ends (after_of p ctx) ≡ ends rest = ap ends after ∙ after_ends (out-Stmt s) s rest in
    let follows : AreWithin (callees p) (locals_in t.below) (blocks_in t.below) (length t.top.locals) (after_of p ctx) =
    subst (AreWithin (callees p) (locals_in t.below) (blocks_in t.below) (length t.top.locals)) (sym after)
    (after_within p (locals_in t.below) (blocks_in t.below) (length t.top.locals) s (out-Stmt s) rest refl head) in (
      record {
        few = rw (level, at, stmts) (omega (arith, few_here p ctx s way here, inner.few, loops_out inner.block));
        again = ap (λ (c : Ctx). c.again) kept;
        base = ap (λ (c : Ctx). c.base) kept ∙ way.base;
        waiting = ap (λ (x : Level). x.waiting) level ∙ kept_waiting p l ctx.at keep w inner.enters ∙ way.waiting;
        result = ap (λ (x : Level). x.result) level ∙ kept_result p l ctx.at keep w inner.enters ∙ way.result;
        within = subst (IsWithin p) (sym moved) (entered_within p t inner.block (after_of p ctx) (omega (arith, head.0, inner.locals)) (omega (arith, head.1, inner.blocks, ends_same)) follows way.within.each.1);
        scoped =
            subst (IsScoped p) (sym kept)
            (entered_by p ctx.body ctx.cursors.items next.cursors.items ctx.slots.items ctx.base ctx.at w s inner.enters here (block_declares p w s inner.block inner.enters inner.is) cursors way.scoped);
      },
      rw (level, at, slots, stmts, behind)
          (ap (λ xs. slice_get (filter is_loop xs) n) (sym (spots_out inner.block scope (End (length scope) ∷ after_block (out-Stmt s) s rest)))
          ∙ sym (inner.spots scope rest))
          ∙ sym (own_spots p ctx s left here lt),
    )

-- the loop is the statement at hand
own_arrived : (p : Program) (ctx : Ctx) (s : Stmt) (left : ℕ) (spot : Spot) → IsOnWay p ctx → statement_of p ctx ≡ Some s → IsOwn s left → sought p ctx left ≡ Some spot → IsAtLoop p spot ctx
unfolding sought
own_arrived p ctx s left spot way here own is =
    let l = level_of p ctx in
    let scope = names_in ctx.slots.items in
    let this : Spot = record { statement = s; scope = scope; rest = rest_of p ctx } in
    let lt : left < loops_of (out-Stmt s) = rw (own.is, own.first) (omega arith) in
    let first : slice_get (filter is_loop (spots_of (out-Stmt s) s scope (rest_of p ctx))) left ≡ Some this = rw (own.is, own.first) (rw own.is refl) in
    let found : Some this ≡ Some spot = sym first ∙ sym (own_spots p ctx s left here lt) ∙ is in
    let same : this ≡ spot = cc in
    record {
      way = way;
      here = here ∙ ap (λ (x : Spot). Some x.statement) same;
      scope = ap (λ (x : Spot). x.scope) same;
      rest = ap (λ (x : Spot). x.rest) same;
      place = own.place;
      block = own.block;
      loop = sym (ap (λ (x : Spot). out-Stmt x.statement) same) ∙ own.is;
    }

own_found : (p : Program) (ctx : Ctx) (found : Option Stmt) (left : ℕ) (spot : Spot) → IsOnWay p ctx → statement_of p ctx ≡ found → IsSomeAnd found (λ s. IsOwn s left) → sought p ctx left ≡ Some spot → IsAtLoop p spot ctx
own_found p ctx None left spot way here own is = absurd own
own_found p ctx (Some s) left spot way here own is = own_arrived p ctx s left spot way here own is

pub arrived : (p : Program) (ctx : Ctx) (left : ℕ) (spot : Spot) → IsOnWay p ctx → IsSomeAnd (statement_of p ctx) (λ s. IsOwn s left) → sought p ctx left ≡ Some spot → IsAtLoop p spot ctx
arrived p ctx left spot way own is = own_found p ctx (statement_of p ctx) left spot way refl own is

deep_end : (p : Program) (ctx : Ctx) (found : Option Stmt) (left : ℕ) (spot : Spot) → IsOnWay p ctx → statement_of p ctx ≡ found → 24 ≤ length ctx.cursors.items → sought p ctx left ≡ Some spot → IsAtLoop p spot ctx
unfolding sought
deep_end p ctx None left spot way here deep is =
    let l = level_of p ctx in
    let none : None ≡ Some spot = sym (ap (λ xs. slice_get (filter is_loop (spots_from xs (names_in ctx.slots.items) l.behind)) left) (drop_at_none l.stmts ctx.at here)) ∙ is in cc
deep_end p ctx (Some s) left spot way here deep is = absurd (omega (arith, room_for_cursor p ctx s way.within (way_counted p ctx way) here, deep))

-- no loop is deeper than the limits let a block be
pub deepest : (p : Program) (ctx : Ctx) (left : ℕ) (spot : Spot) → IsOnWay p ctx → 24 ≤ length ctx.cursors.items → sought p ctx left ≡ Some spot → IsAtLoop p spot ctx
deepest p ctx left spot way deep is = deep_end p ctx (statement_of p ctx) left spot way refl deep is

pub ruleset narrow_laws = (few_here, way_counted, room_for_cursor, entered_way)

pub ruleset seek_laws = (arrived, deepest)
