-- The names in scope along the cursors of a context, and where the spots of its innermost block stand.
use Rattle.std.proofs.Common.{◌≡◌, ℕ, ◌+◌, ◌<◌, ◌≤◌, List, [], ◌∷◌, ◌++◌, length, fold, get_or, take, drop, false, Option, Some, None, refl, ap, sym, subst, ◌∙◌, arith}
use Rattle.std.specs.Prelude.{slice_get, option_and_then, IfSome}
use Rattle.std.proofs.lemmas.List.{take_more}
use Rattle.thread_tree.specs.declared.block.Block.{Block, out-Block}
use Rattle.thread_tree.specs.declared.block.Stmt.{Stmt, out-Stmt}
use Rattle.thread_tree.specs.Program.{Body, Program}
use Rattle.thread_tree.specs.LocalState.Thing.{End}
use Rattle.thread_tree.specs.Actions.{Spot, actions, names_in, spot_at, spots}
use Rattle.thread_machine.specs.declared.context.Ctx.{Ctx}
use Rattle.thread_machine.specs.declared.context.Cursor.{Cursor}
use Rattle.thread_machine.specs.declared.context.Way.{Way}
use Rattle.thread_machine.specs.declared.context.Way.TheVariants as way
use Rattle.thread_check.specs.ActionLists.{actions_in_turn}
use Rattle.thread_machine.specs.Context.{Level, block_in, block_inside, comes_again, first_block, is_move, level_by, level_of, local_of, other_block, parameters_of, rest_of, statement_of, statements, todo_after, todo_at}
use Rattle.thread_machine.specs.Parts.{IsEntered, IsPart, actions_if_some, first_offset, other_offset, spots_of_body}
use Rattle.thread_machine.specs.Scope.{AreKept, IsKept, IsScoped, Opened, begin_of, opened_along, opened_in, outer_by, scope_at, scope_by}
use Rattle.thread_machine.specs.Seeking.{after_block, spots_from, spots_if_there, spots_of}
use Rattle.thread_machine.proofs.InnerLemmas.{after_is}
use Rattle.thread_machine.proofs.LevelLemmas.{stmts_along, stmts_along-more}
use Rattle.thread_machine.proofs.PartLemmas.{part_none, part_all, part_is}
use Rattle.thread_machine.proofs.PlaceLemmas.{first_spots, other_spots, program_count, spot_head, spots_inside, spots_there}
use Rattle.thread_machine.proofs.ScopedLemmas.{kept_front, kept_last, opened_along-snoc, opened_level}

-- where no frame waits behind a cursor, none waits before it
waiting_by : (p : Program) (l : Level) (at keep : ℕ) (w : Way) → (level_by p l at keep w).waiting ≡ [] → l.waiting ≡ []
waiting_by p l at keep way.First none = none
waiting_by p l at keep way.Else none = none
waiting_by p l at keep way.Call none = cc

outer_none_by : (p : Program) (o : Opened) (at keep : ℕ) (w : Way) → (o.level.waiting ≡ [] → o.outer ≡ []) → (level_by p o.level at keep w).waiting ≡ [] → outer_by o at w ≡ []
outer_none_by p o at keep way.First known none = known none
outer_none_by p o at keep way.Else known none = known none
outer_none_by p o at keep way.Call known none = cc

outer_folded : (p : Program) (o : Opened) (cs : List Cursor) → (o.level.waiting ≡ [] → o.outer ≡ []) → (fold (opened_in p) o cs).level.waiting ≡ [] → (fold (opened_in p) o cs).outer ≡ []
outer_folded p o [] known none = known none
outer_folded p o (c ∷ cs) known none =
    outer_folded p (opened_in p o c) cs (λ here. outer_none_by p o c.at c.keep c.way known here) none

-- where no frame waits, none has locals
pub outer_none : (p : Program) (body : ℕ) (cs : List Cursor) → (opened_along p body cs).level.waiting ≡ [] → (opened_along p body cs).outer ≡ []
unfolding opened_along
outer_none p body cs none = outer_folded p (begin_of p body) cs (λ same. refl) none

-- along cursors that keep what is in scope, in the body's own frame, the spots of the innermost block begin at the offset
pub record IsPlaced (p : Program) (body : ℕ) (cursors : List Cursor) (block : Option Block) (offset : ℕ) : Type 0 where
  pub spots : AreKept p (begin_of p body) cursors → (opened_along p body cursors).level.waiting ≡ []
      → IsPart (spots_if_there block (opened_along p body cursors).scope (opened_along p body cursors).level.behind) (spots p) offset

begin_spots : (p : Program) (found : Option Body) → spots_of_body found ≡ spots_if_there (block_in found) (parameters_of found) []
begin_spots p None = refl
begin_spots p (Some body) = refl

-- the block of a body
pub placed_begin : (p : Program) (body offset : ℕ) (block : Option Block) → block ≡ block_in (slice_get p.bodies body) → IsPart (spots_of_body (slice_get p.bodies body)) (spots p) offset → IsPlaced p body [] block offset
unfolding opened_along
placed_begin p body offset block is part = record {
  spots = λ kept none. rw is (subst (λ xs. IsPart xs (spots p) offset) (begin_spots p (slice_get p.bodies body)) part);
}

-- the spots of a block of the statement at a place
entered_spots : (all : List Spot) (o : Opened) (s : Stmt) (at keep offset inner result : ℕ) (sub : Option Block) → slice_get o.level.stmts at ≡ Some s → keep ≡ length (scope_at o at) → IsPart (spots_from o.level.stmts o.scope o.level.behind) all offset → IsPart (spots_if_there sub (scope_at o at) (End (length (scope_at o at)) ∷ after_block (out-Stmt s) s (todo_at o.level false (at + 1)))) (spots_of (out-Stmt s) s (scope_at o at) (todo_at o.level false (at + 1))) inner → result ≡ offset + (length (actions_in_turn (take at o.level.stmts)) + inner) → IsPart (spots_if_there sub (scope_at o at) (End keep ∷ todo_after o.level at)) all result
entered_spots all o s at keep offset inner result sub here kept outer part code =
    let l = o.level in
    let scope = scope_at o at in
    let after = after_block (out-Stmt s) s (todo_at l false (at + 1)) in
    let behind : End (length scope) ∷ after ≡ End keep ∷ todo_after l at =
    ap (λ n. End n ∷ after) (sym kept) ∙ ap (λ things. End keep ∷ things) (sym (after_is l at s (comes_again (out-Stmt s)) here refl)) in
    part_is (spots_if_there sub scope (End (length scope) ∷ after)) (spots_if_there sub scope (End keep ∷ todo_after l at)) all (offset + (length (actions_in_turn (take at l.stmts)) + inner)) result
    (ap (λ things. spots_if_there sub scope things) behind) (sym code)
    (spots_inside all l.stmts at offset inner s o.scope l.behind (spots_if_there sub scope (End (length scope) ∷ after)) outer here part)

-- the spots of the block that is entered from it, by the way
way_spots : (p : Program) (all : List Spot) (o : Opened) (s : Stmt) (at keep offset result : ℕ) (w : Way) → slice_get o.level.stmts at ≡ Some s → keep ≡ length (scope_at o at) → IsPart (spots_from o.level.stmts o.scope o.level.behind) all offset → IsEntered w offset o.level.stmts at s result → (level_by p o.level at keep w).waiting ≡ [] → IsPart (spots_if_there (block_inside p w s) (scope_by p o at w) (level_by p o.level at keep w).behind) all result
way_spots p all o s at keep offset result way.First here kept outer code none =
    entered_spots all o s at keep offset (first_offset (out-Stmt s)) result (first_block (out-Stmt s)) here kept outer (first_spots (out-Stmt s) s (scope_at o at) (todo_at o.level false (at + 1))) code
way_spots p all o s at keep offset result way.Else here kept outer code none =
    entered_spots all o s at keep offset (other_offset (out-Stmt s)) result (other_block (out-Stmt s)) here kept outer (other_spots (out-Stmt s) s (scope_at o at) (todo_at o.level false (at + 1))) code
way_spots p all o s at keep offset result way.Call here kept outer code none = cc

-- the spots of the block that a cursor enters
step_spots : (p : Program) (all : List Spot) (o : Opened) (c : Cursor) (next : Option Block) (found : Option Stmt) (offset result : ℕ) → slice_get o.level.stmts c.at ≡ found → next ≡ option_and_then (block_inside p c.way) found → IfSome found (λ s. IsEntered c.way offset o.level.stmts c.at s result) → IsKept o c → (opened_in p o c).level.waiting ≡ [] → result ≤ length all → IsPart (spots_from o.level.stmts o.scope o.level.behind) all offset → IsPart (spots_if_there next (opened_in p o c).scope (opened_in p o c).level.behind) all result
step_spots p all o c next None offset result here is code kept none within outer = rw is (part_none all result within)
step_spots p all o c next (Some s) offset result here is code kept none within outer =
    rw is (way_spots p all o s c.at c.keep offset result c.way here kept.keep outer code none)

-- one cursor more
pub placed_more : (p : Program) (body : ℕ) (cs : List Cursor) (c : Cursor) (block next : Option Block) (offset result : ℕ) → statements block ≡ (opened_along p body cs).level.stmts → next ≡ option_and_then (block_inside p c.way) (slice_get (statements block) c.at) → IfSome (slice_get (statements block) c.at) (λ s. IsEntered c.way offset (statements block) c.at s result) → result ≤ length (actions p) → IsPlaced p body cs block offset → IsPlaced p body (cs ++ c ∷ []) next result
placed_more p body cs c block next offset result same is code within before =
    let o = opened_along p body cs in
    let stmts = o.level.stmts in
    let found = slice_get stmts c.at in
    let chosen : next ≡ option_and_then (block_inside p c.way) found =
    is ∙ ap (λ xs. option_and_then (block_inside p c.way) (slice_get xs c.at)) same in
    let entered : IfSome found (λ s. IsEntered c.way offset stmts c.at s result) =
    subst (λ xs. IfSome (slice_get xs c.at) (λ s. IsEntered c.way offset xs c.at s result)) same code in
    record {
      spots = λ kept none.
          let more = opened_along-snoc p body cs c in
          let here : (opened_in p o c).level.waiting ≡ [] = ap (λ (x : Opened). x.level.waiting) (sym more) ∙ none in
          let outer : IsPart (spots_from stmts o.scope o.level.behind) (spots p) offset =
          subst (λ xs. IsPart xs (spots p) offset) (spots_there block o.scope o.level.behind ∙ ap (λ xs. spots_from xs o.scope o.level.behind) same)
          (before.spots (kept_front p body cs c kept) (waiting_by p o.level c.at c.keep c.way here)) in
          subst (λ (x : Opened). IsPart (spots_if_there next x.scope x.level.behind) (spots p) result) (sym more)
          (step_spots p (spots p) o c next found offset result refl chosen entered (kept_last p body cs c kept) here (omega (arith, within, program_count p)) outer);
    }

stmts_opened : (p : Program) (body : ℕ) (cs : List Cursor) (n : ℕ) → stmts_along p body cs n ≡ (opened_along p body (take n cs)).level.stmts
unfolding stmts_along
stmts_opened p body cs n = sym (ap (λ (l : Level). l.stmts) (opened_level p body (take n cs)))

-- the block behind the next cursor
pub placed_next : (p : Program) (body : ℕ) (cs : List Cursor) (n : ℕ) (d : Cursor) (block next : Option Block) (offset result : ℕ) → n < length cs → statements block ≡ stmts_along p body cs n → next ≡ option_and_then (block_inside p (get_or cs n d).way) (slice_get (statements block) (get_or cs n d).at) → IfSome (slice_get (statements block) (get_or cs n d).at) (λ s. IsEntered (get_or cs n d).way offset (statements block) (get_or cs n d).at s result) → IsPart (actions_if_some (option_and_then (block_inside p (get_or cs n d).way) (slice_get (statements block) (get_or cs n d).at))) (actions p) result → IsPlaced p body (take n cs) block offset → (statements next ≡ stmts_along p body cs (n + 1)) × IsPart (actions_if_some next) (actions p) result × IsPlaced p body (take (n + 1) cs) next result
placed_next p body cs n d block next offset result lt same is code part before =
    let c = get_or cs n d in
    let chosen : IsPart (actions_if_some next) (actions p) result = subst (λ o. IsPart (actions_if_some o) (actions p) result) (sym is) part in (
      ap statements is ∙ ap (λ xs. statements (option_and_then (block_inside p c.way) (slice_get xs c.at))) same ∙ sym (stmts_along-more p body cs n d lt),
      chosen,
      subst (λ xs. IsPlaced p body xs next result) (sym (take_more cs n d lt))
          (placed_more p body (take n cs) c block next offset result (same ∙ stmts_opened p body cs n) is code (omega (arith, chosen.fits)) before),
    )

-- the number of the action at hand is its place among the spots
pub spot_is : (p : Program) (ctx : Ctx) (b : Block) (s : Stmt) (offset number : ℕ) → (level_of p ctx).stmts ≡ (out-Block b).stmts → IsPlaced p ctx.body ctx.cursors.items (Some b) offset → IsScoped p ctx → (level_of p ctx).waiting ≡ [] → statement_of p ctx ≡ Some s → is_move (out-Stmt s) ≡ false → number ≡ offset + (length (actions_in_turn (take ctx.at (out-Block b).stmts)) + 0) + 0 → slice_get (spots p) number ≡ Some (spot_at s (names_in (local_of p ctx).top.locals) (rest_of p ctx))
spot_is p ctx b s offset number stmts placed scoped none here action code =
    let o = opened_along p ctx.body ctx.cursors.items in
    let level : o.level ≡ level_of p ctx = opened_level p ctx.body ctx.cursors.items in
    let same : o.level.stmts ≡ (out-Block b).stmts = ap (λ (l : Level). l.stmts) level ∙ stmts in
    let waiting : o.level.waiting ≡ [] = ap (λ (l : Level). l.waiting) level ∙ none in
    let there : slice_get o.level.stmts ctx.at ≡ Some s = ap (λ (l : Level). slice_get l.stmts ctx.at) level ∙ here in
    let outer : o.outer ≡ [] = outer_none p ctx.body ctx.cursors.items waiting in
    let base : ctx.base ≡ 0 = scoped.outer ∙ ap length outer in
    let names : names_in ctx.slots.items ≡ scope_at o ctx.at = scoped.here s there ∙ ap (λ xs. xs ++ scope_at o ctx.at) outer in
    let own : names_in (drop ctx.base ctx.slots.items) ≡ scope_at o ctx.at = ap (λ n. names_in (drop n ctx.slots.items)) base ∙ names in
    let rest : todo_at o.level false (ctx.at + 1) ≡ rest_of p ctx = ap (λ l. todo_at l false (ctx.at + 1)) level in
    let block : IsPart (spots_from o.level.stmts o.scope o.level.behind) (spots p) offset =
    subst (λ xs. IsPart xs (spots p) offset) (spots_there (Some b) o.scope o.level.behind ∙ ap (λ xs. spots_from xs o.scope o.level.behind) (sym same)) (placed.spots scoped.kept waiting) in
    let all = spots_of (out-Stmt s) s (scope_at o ctx.at) (todo_at o.level false (ctx.at + 1)) in
    let part = spots_inside (spots p) o.level.stmts ctx.at offset 0 s o.scope o.level.behind all block there (part_all all) in
    ap (slice_get (spots p)) (code ∙ ap (λ xs. offset + (length (actions_in_turn (take ctx.at xs)) + 0) + 0) (sym same))
    ∙ part.items 0 (spot_at s (scope_at o ctx.at) (todo_at o.level false (ctx.at + 1))) (spot_head (out-Stmt s) s (scope_at o ctx.at) (todo_at o.level false (ctx.at + 1)) action)
    ∙ ap (λ xs. Some (spot_at s xs (todo_at o.level false (ctx.at + 1)))) (sym own)
    ∙ ap (λ xs. Some (spot_at s (names_in (drop ctx.base ctx.slots.items)) xs)) rest
