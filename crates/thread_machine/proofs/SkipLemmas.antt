-- A statement is passed by on the way to a persistent loop.
use Rattle.std.proofs.Common.{◌≡◌, ℕ, ◌+◌, ◌<◌, ◌≤◌, List, [], ◌∷◌, ◌++◌, length, map, drop, false, Some, ap, sym, subst, ◌∙◌, arith}
use Rattle.std.specs.Prelude.{slice_get, filter}
use Rattle.std.specs.Option.{option_to_list}
use Rattle.std.proofs.lemmas.List.{map-append, append-nil, length-append, length-map}
use Rattle.thread_tree.specs.declared.local.Local.{Local}
use Rattle.thread_tree.specs.declared.block.Block.{Block}
use Rattle.thread_tree.specs.declared.block.Stmt.{Stmt, out-Stmt}
use Rattle.thread_tree.specs.declared.block.Stmt.TheOpen.{Stmt-F}
use Rattle.thread_tree.specs.declared.block.Stmt.TheOpen as stmt
use Rattle.thread_tree.specs.Need.{Need, Weight, callees, weight_of}
use Rattle.thread_tree.specs.Program.{Program}
use Rattle.thread_tree.specs.LocalState.{Thing, LocalState, declared_local, going_on}
use Rattle.thread_tree.specs.LocalState.Thing.{Do}
use Rattle.thread_tree.specs.Actions.{declared_by, is_loop}
use Rattle.thread_machine.specs.declared.context.Ctx.{Ctx}
use Rattle.thread_machine.specs.Context.{IsCounted, Level, kept_in, level_of, local_of, rest_of, statement_of, to_do}
use Rattle.thread_machine.specs.Loops.{loops_from, loops_of}
use Rattle.thread_machine.specs.Seeking.{IsOnWay, names_in, sought, spots_from, spots_of}
use Rattle.thread_machine.specs.Scope.{IsScoped}
use Rattle.thread_machine.specs.Within.{AreWithin, IsWithin, blocks_in, locals_in}
use Rattle.thread_check.proofs.Callers.{slice_get_behind}
use Rattle.thread_machine.proofs.KeepLemmas.{went_on}
use Rattle.thread_machine.proofs.ListLemmas.{drop_at_item}
use Rattle.thread_machine.proofs.RoomLemmas.{room, weight_parts, weight_out}
use Rattle.thread_machine.proofs.SeekLemmas.{filter_append, loops_among, loops_count_of}
use Rattle.thread_machine.proofs.SpotLemmas.{declares_length}
use Rattle.thread_machine.proofs.WithinLemmas.{fewer_within}

-- a context on the way is counted
pub way_counted : (p : Program) (ctx : Ctx) → IsOnWay p ctx → IsCounted p ctx
way_counted p ctx way = record {
  within = omega (arith, way.base);
  waiting = ap kept_in way.waiting ∙ sym way.base;
}

pub own_all : (ctx : Ctx) → ctx.base ≡ 0 → drop ctx.base ctx.slots.items ≡ ctx.slots.items
own_all ctx is = ap (λ n. drop n ctx.slots.items) is

needs_declared : (callee : ℕ → Need) (layer : Stmt-F Stmt Block) (name : ℕ) → option_to_list (Some name) ≡ declared_by layer → 1 ≤ (weight_parts callee layer).need.locals
needs_declared callee (stmt.Let at e) name is = omega arith
needs_declared callee (stmt.Set at e) name is = cc
needs_declared callee (stmt.Apply to function arguments) name is = cc
needs_declared callee (stmt.If e block other) name is = cc
needs_declared callee (stmt.While e block) name is = cc
needs_declared callee (stmt.Ploop place block) name is = cc
needs_declared callee (stmt.Break place) name is = cc
needs_declared callee (stmt.Return place value) name is = cc
needs_declared callee (stmt.Atomic place to block) name is = cc
needs_declared callee (stmt.Call place call to) name is = cc

-- there is room for the local that a statement declares
pub declared_room : (p : Program) (ctx : Ctx) (s : Stmt) (name : ℕ) → IsOnWay p ctx → statement_of p ctx ≡ Some s → option_to_list (Some name) ≡ declared_by (out-Stmt s) → length ctx.slots.items < 48
declared_room p ctx s name way here is =
    omega (arith, (room p ctx s way.within (way_counted p ctx way) here).0, ap (λ (w : Weight). w.need.locals) (weight_out (callees p) s), needs_declared (callees p) (out-Stmt s) name is)

-- behind the spots of a statement
behind_statement : (s : Stmt) (stmts : List Stmt) (scope : List ℕ) (after : List Thing) (left : ℕ) → slice_get (filter is_loop (spots_from (s ∷ stmts) scope after)) (left + loops_of (out-Stmt s)) ≡ slice_get (filter is_loop (spots_from stmts (scope ++ declared_by (out-Stmt s)) after)) left
unfolding loops_among
behind_statement s stmts scope after left =
    let own = spots_of (out-Stmt s) s scope (map Do stmts ++ after) in
    let rest = spots_from stmts (scope ++ declared_by (out-Stmt s)) after in
    let count = loops_count_of s scope (map Do stmts ++ after) in
    ap (λ xs. slice_get xs (left + loops_of (out-Stmt s))) (filter_append own rest)
    ∙ slice_get_behind (filter is_loop own) (filter is_loop rest) (left + loops_of (out-Stmt s)) left (omega (arith, count))

-- the statement at hand is first of what is to be done within the limits
pub head_within : (p : Program) (ctx : Ctx) (s : Stmt) → IsOnWay p ctx → statement_of p ctx ≡ Some s → AreWithin (callees p) (locals_in (local_of p ctx).below) (blocks_in (local_of p ctx).below) (length (local_of p ctx).top.locals) (Do s ∷ rest_of p ctx)
head_within p ctx s way here =
    let l = level_of p ctx in
    let t = local_of p ctx in
    subst (λ xs. AreWithin (callees p) (locals_in t.below) (blocks_in t.below) (length t.top.locals) (map Do xs ++ l.behind)) (drop_at_item l.stmts ctx.at s here)
    (subst (λ b. AreWithin (callees p) (locals_in t.below) (blocks_in t.below) (length t.top.locals) (to_do b (drop ctx.at l.stmts) ++ l.behind)) way.again way.within.each.0)

-- the state behind a statement that declares these locals
abbrev pub behind_it : Program → Ctx → List Local → LocalState
behind_it p ctx more =
    let s = local_of p ctx in record s { top = record s.top { locals = s.top.locals ++ more; todo = rest_of p ctx } }

behind_within : (p : Program) (ctx : Ctx) (s : Stmt) (more : List Local) → IsOnWay p ctx → statement_of p ctx ≡ Some s → names_in more ≡ declared_by (out-Stmt s) → IsWithin p (behind_it p ctx more)
behind_within p ctx s more way here names =
    let t = local_of p ctx in
    let head = head_within p ctx s way here in
    let count : length more ≡ (weight_of (callees p) s).declares =
    sym (length-map more (λ (x : Local). x.name)) ∙ ap length names ∙ declares_length (callees p) (out-Stmt s) ∙ sym (ap (λ (w : Weight). w.declares) (weight_out (callees p) s)) in
    record {
      each = (
        fewer_within (callees p) (locals_in t.below) (blocks_in t.below) (length (t.top.locals ++ more)) (length t.top.locals + (weight_of (callees p) s).declares) (rest_of p ctx) (omega (arith, length-append t.top.locals more, count)) head.2,
        way.within.each.1,
      );
    }

-- a statement was passed by
pub skipped : (p : Program) (ctx next : Ctx) (s : Stmt) (more : List Local) → IsOnWay p ctx → statement_of p ctx ≡ Some s → next ≡ record ctx { slots = next.slots; at = ctx.at + 1; again = false } → local_of p next ≡ behind_it p ctx more → names_in more ≡ declared_by (out-Stmt s) → IsOnWay p next × ((left : ℕ) → sought p next left ≡ sought p ctx (left + loops_of (out-Stmt s)))
unfolding sought
skipped p ctx next s more way here kept moved names =
    let l = level_of p ctx in
    let same : level_of p next ≡ l = ap (level_of p) kept in
    let at : next.at ≡ ctx.at + 1 = ap (λ (c : Ctx). c.at) kept in
    let base : next.base ≡ 0 = ap (λ (c : Ctx). c.base) kept ∙ way.base in
    let drops = drop_at_item l.stmts ctx.at s here in
    let slots : next.slots.items ≡ ctx.slots.items ++ more =
    sym (own_all next base) ∙ ap (λ (t : LocalState). t.top.locals) moved ∙ ap (λ xs. xs ++ more) (own_all ctx way.base) in
    let scope : names_in next.slots.items ≡ names_in ctx.slots.items ++ declared_by (out-Stmt s) =
    ap names_in slots ∙ map-append (λ (x : Local). x.name) ctx.slots.items more ∙ ap (λ xs. names_in ctx.slots.items ++ xs) names in (
      record {
        few = rw (same, at) (omega (arith, way.few, ap loops_from drops));
        again = ap (λ (c : Ctx). c.again) kept;
        base = base;
        waiting = ap (λ (m : Level). m.waiting) same ∙ way.waiting;
        result = ap (λ (m : Level). m.result) same ∙ way.result;
        within = subst (IsWithin p) (sym moved) (behind_within p ctx s more way here names);
        scoped =
            subst (IsScoped p) (sym kept)
            (went_on p ctx.body ctx.cursors.items ctx.slots.items next.slots.items ctx.base ctx.at s here scope way.scoped);
      },
      λ left.
          rw (same, at, scope)
          (sym (ap (λ xs. slice_get (filter is_loop (spots_from xs (names_in ctx.slots.items) l.behind)) (left + loops_of (out-Stmt s))) drops
          ∙ behind_statement s (drop (ctx.at + 1) l.stmts) (names_in ctx.slots.items) l.behind left)),
    )

-- a local was declared
pub declared_way : (p : Program) (ctx next : Ctx) (s : Stmt) (name : ℕ) → IsOnWay p ctx → statement_of p ctx ≡ Some s → next ≡ record ctx { slots = next.slots; at = ctx.at + 1; again = false } → local_of p next ≡ declared_local (local_of p ctx) name 0 (rest_of p ctx) → option_to_list (Some name) ≡ declared_by (out-Stmt s) → IsOnWay p next × ((left : ℕ) → sought p next left ≡ sought p ctx (left + loops_of (out-Stmt s)))
declared_way p ctx next s name way here kept moved names = skipped p ctx next s (record { name = name; value = 0 } ∷ []) way here kept moved names

-- nothing was declared
pub passed_way : (p : Program) (ctx next : Ctx) (s : Stmt) → IsOnWay p ctx → statement_of p ctx ≡ Some s → next ≡ record ctx { slots = next.slots; at = ctx.at + 1; again = false } → local_of p next ≡ going_on (local_of p ctx) (rest_of p ctx) → [] ≡ declared_by (out-Stmt s) → IsOnWay p next × ((left : ℕ) → sought p next left ≡ sought p ctx (left + loops_of (out-Stmt s)))
passed_way p ctx next s way here kept moved names =
    let t = local_of p ctx in
    skipped p ctx next s [] way here kept
    (moved ∙ ap (λ xs. record t { top = record t.top { locals = xs; todo = rest_of p ctx } }) (sym (append-nil t.top.locals))) names

pub ruleset skip_laws = (declared_room, declared_way, passed_way)
