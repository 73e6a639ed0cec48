-- Each move keeps the locals those in scope.
use Rattle.std.proofs.Common.{◌≡◌, ◌≢◌, ℕ, ◌+◌, ◌-◌, ◌≤◌, List, [], ◌∷◌, ◌++◌, length, take, drop, Bool, true, false, Option, Some, None, refl, ap, sym, ◌∙◌, subst, arith}
use Rattle.std.specs.Prelude.{slice_get, option_map, if◌then◌else◌}
use Rattle.std.proofs.lemmas.List.{append-nil, append_assoc, length-append, length-map, length-take, map-append, take-append-le, take-map, take-take, take_all, take_at}
use Rattle.std.proofs.lemmas.Option.{slice_get_past}
use Rattle.thread_tree.specs.declared.local.Local.{Local}
use Rattle.thread_tree.specs.declared.place.At.{At}
use Rattle.thread_tree.specs.declared.expr.Expr.{Expr}
use Rattle.thread_tree.specs.declared.block.Block.{Block}
use Rattle.thread_tree.specs.declared.block.Stmt.{Stmt, out-Stmt}
use Rattle.thread_tree.specs.declared.block.Stmt.TheOpen.{Stmt-F}
use Rattle.thread_tree.specs.declared.block.Stmt.TheOpen as stmt
use Rattle.thread_tree.specs.Actions.{declared_by, names_in}
use Rattle.thread_tree.specs.LocalState.{named}
use Rattle.thread_tree.specs.Program.{Program, Body, function_of}
use Rattle.thread_tree.specs.Value.{value_of, values_in}
use Rattle.thread_machine.specs.declared.context.Ctx.{Ctx}
use Rattle.thread_machine.specs.declared.context.Cursor.{Cursor}
use Rattle.thread_machine.specs.declared.context.Way.{Way}
use Rattle.thread_machine.specs.declared.context.Way.TheVariants as way
use Rattle.thread_machine.specs.Context.{body_of, statement_of, level_along, comes_again, parameters_of, place_after, place_behind}
use Rattle.thread_machine.specs.Scope.{AreKept, IsKept, IsOpen, IsOpenBy, declared_in, IsScoped, IsScopedBy, Opened, begin_of, called_names, names_called, opened_along, opened_in, outer_by, scope_at, scope_by}
use Rattle.thread_machine.proofs.NameLemmas.{names_of_named}
use Rattle.thread_machine.proofs.ScopedLemmas.{kept_front, kept_last, kept_snoc, opened_along-none, opened_along-snoc, opened_statement, outer_block, scope_begins, scope_block, scope_more, scope_same}

-- where the locals are those in scope, they begin with those where the block begins
pub is_open : (p : Program) (body : ℕ) (cs : List Cursor) (slots : List Local) (base at : ℕ) → IsScopedBy p body cs slots base at → IsOpenBy p body cs slots base
is_open p body cs slots base at scoped = record { kept = scoped.kept; outer = scoped.outer; begin = scoped.begin }

pub open_here : (p : Program) (ctx : Ctx) → IsScoped p ctx → IsOpen p ctx
open_here p ctx scoped = is_open p ctx.body ctx.cursors.items ctx.slots.items ctx.base ctx.at scoped

pub open_from : (p : Program) (body : ℕ) (cs less : List Cursor) (c : Cursor) (slots : List Local) (base at : ℕ) → cs ≡ less ++ c ∷ [] → IsScopedBy p body cs slots base at → IsOpenBy p body (less ++ c ∷ []) slots base
open_from p body cs less c slots base at is scoped =
    subst (λ xs. IsOpenBy p body xs slots base) is (is_open p body cs slots base at scoped)

-- they have at least so many names
enough : (xs ys : List ℕ) (n : ℕ) → take n xs ≡ ys → length ys ≡ n → n ≤ length xs
enough xs ys n is count = omega (arith, length-take n xs, ap length is, count)

count_of : (base : ℕ) (o : Opened) → base ≡ length o.outer → length (o.outer ++ o.scope) ≡ base + length o.scope
count_of base o outer = omega (arith, length-append o.outer o.scope, outer)

-- the names where a block begins are the first of those at a place in it
first_names : (o : Opened) (at count : ℕ) → length (o.outer ++ o.scope) ≡ count → take count (o.outer ++ scope_at o at) ≡ o.outer ++ o.scope
first_names o at count is =
    let declared = declared_in (take at o.level.stmts) in
    ap (take count) (sym (append_assoc o.outer o.scope declared)) ∙ take_at (o.outer ++ o.scope) declared count is

-- other locals of the same names are in scope
pub renewed : (p : Program) (body : ℕ) (cs : List Cursor) (slots next : List Local) (base at : ℕ) → names_in next ≡ names_in slots → IsScopedBy p body cs slots base at → IsScopedBy p body cs next base at
renewed p body cs slots next base at names scoped = record {
  kept = scoped.kept;
  outer = scoped.outer;
  begin = ap (take (base + length (opened_along p body cs).scope)) names ∙ scoped.begin;
  here = λ s is. names ∙ scoped.here s is;
}

-- the statement at hand was done, and what it declares was declared
pub went_on : (p : Program) (body : ℕ) (cs : List Cursor) (slots next : List Local) (base at : ℕ) (s : Stmt) → slice_get (level_along p body cs).stmts at ≡ Some s → names_in next ≡ names_in slots ++ declared_by (out-Stmt s) → IsScopedBy p body cs slots base at → IsScopedBy p body cs next base (at + 1)
went_on p body cs slots next base at s here names scoped =
    let o = opened_along p body cs in
    let found = opened_statement p body cs at ∙ here in
    let more = enough (names_in slots) (o.outer ++ o.scope) (base + length o.scope) scoped.begin (count_of base o scoped.outer) in
    record {
      kept = scoped.kept;
      outer = scoped.outer;
      begin =
          ap (take (base + length o.scope)) names
          ∙ take-append-le (base + length o.scope) (names_in slots) (declared_by (out-Stmt s)) more
          ∙ scoped.begin;
      here = λ t is.
          names ∙ ap (λ xs. xs ++ declared_by (out-Stmt s)) (scoped.here s found)
          ∙ append_assoc o.outer (scope_at o at) (declared_by (out-Stmt s))
          ∙ ap (λ xs. o.outer ++ xs) (sym (scope_more o at s found));
    }

-- it declares nothing
pub passed_on : (p : Program) (body : ℕ) (cs : List Cursor) (slots next : List Local) (base at : ℕ) (s : Stmt) → slice_get (level_along p body cs).stmts at ≡ Some s → declared_by (out-Stmt s) ≡ [] → names_in next ≡ names_in slots → IsScopedBy p body cs slots base at → IsScopedBy p body cs next base (at + 1)
passed_on p body cs slots next base at s here none names scoped =
    went_on p body cs slots next base at s here (names ∙ sym (append-nil (names_in slots)) ∙ ap (λ xs. names_in slots ++ xs) (sym none)) scoped

-- it declares this name
pub declared_on : (p : Program) (body : ℕ) (cs : List Cursor) (slots next : List Local) (base at name value : ℕ) (s : Stmt) → slice_get (level_along p body cs).stmts at ≡ Some s → declared_by (out-Stmt s) ≡ name ∷ [] → next ≡ slots ++ record { name = name; value = value } ∷ [] → IsScopedBy p body cs slots base at → IsScopedBy p body cs next base (at + 1)
declared_on p body cs slots next base at name value s here one is scoped =
    let more : List Local = record { name = name; value = value } ∷ [] in
    went_on p body cs slots next base at s here
    (ap names_in is ∙ map-append (λ (local : Local). local.name) slots more ∙ ap (λ ns. names_in slots ++ ns) (sym one)) scoped

-- the context is scoped where its innermost open block is this one
scoped_in : (p : Program) (body : ℕ) (cs : List Cursor) (slots : List Local) (base at : ℕ) (o : Opened) → opened_along p body cs ≡ o → AreKept p (begin_of p body) cs → base ≡ length o.outer → take (base + length o.scope) (names_in slots) ≡ o.outer ++ o.scope → ((s : Stmt) → slice_get o.level.stmts at ≡ Some s → names_in slots ≡ o.outer ++ scope_at o at) → IsScopedBy p body cs slots base at
scoped_in p body cs slots base at o is kept outer begin here = record {
  kept = kept;
  outer = rw is outer;
  begin = rw is begin;
  here = rw is here;
}

-- the statement at hand is entered with all locals kept
kept_here : (p : Program) (body : ℕ) (cs : List Cursor) (slots : List Local) (base at : ℕ) (w : Way) (s : Stmt) → slice_get (level_along p body cs).stmts at ≡ Some s → declared_by (out-Stmt s) ≡ [] → IsScopedBy p body cs slots base at → IsKept (opened_along p body cs) (record { at = at; way = w; keep = length slots - base })
kept_here p body cs slots base at w s here none scoped =
    let o = opened_along p body cs in
    let found = opened_statement p body cs at ∙ here in
    record {
      keep = omega (arith, length-map slots (λ (local : Local). local.name), ap length (scoped.here s found), length-append o.outer (scope_at o at), scoped.outer);
      plain = scope_same o at s found none;
    }

-- all names are those of the frames that wait and those in scope
all_names : (o : Opened) (base at : ℕ) (names : List ℕ) → base ≡ length o.outer → names ≡ o.outer ++ scope_at o at → take (base + length (scope_at o at)) names ≡ o.outer ++ scope_at o at
all_names o base at names outer is =
    take_all (base + length (scope_at o at)) names (omega (arith, ap length is, length-append o.outer (scope_at o at), outer)) ∙ is

-- a block of it was entered
pub entered_block : (p : Program) (body : ℕ) (cs : List Cursor) (slots : List Local) (base at : ℕ) (w : Way) (s : Stmt) → w ≢ way.Call → slice_get (level_along p body cs).stmts at ≡ Some s → declared_by (out-Stmt s) ≡ [] → IsScopedBy p body cs slots base at → IsScopedBy p body (cs ++ record { at = at; way = w; keep = length slots - base } ∷ []) slots base 0
entered_block p body cs slots base at w s block here none scoped =
    let o = opened_along p body cs in
    let found = opened_statement p body cs at ∙ here in
    let c : Cursor = record { at = at; way = w; keep = length slots - base } in
    let outer = outer_block o at w block in
    let scope = scope_block p o at w block in
    let names = scoped.here s found in
    scoped_in p body (cs ++ c ∷ []) slots base 0 (opened_in p o c) (opened_along-snoc p body cs c)
    (kept_snoc p body cs c scoped.kept (kept_here p body cs slots base at w s here none scoped))
    (scoped.outer ∙ ap length (sym outer))
    (rw (outer, scope) (all_names o base at (names_in slots) scoped.outer names))
    (λ t is. names ∙ ap (λ xs. o.outer ++ xs) (sym scope) ∙ ap (λ xs. xs ++ scope_by p o at w) (sym outer) ∙ ap (λ xs. outer_by o at w ++ xs) (sym (scope_begins (opened_in p o c))))

pub entered_by : (p : Program) (body : ℕ) (cs more : List Cursor) (slots : List Local) (base at : ℕ) (w : Way) (s : Stmt) → w ≢ way.Call → slice_get (level_along p body cs).stmts at ≡ Some s → declared_by (out-Stmt s) ≡ [] → more ≡ cs ++ record { at = at; way = w; keep = length slots - base } ∷ [] → IsScopedBy p body cs slots base at → IsScopedBy p body more slots base 0
entered_by p body cs more slots base at w s block here none is scoped =
    rw is (entered_block p body cs slots base at w s block here none scoped)

-- the body of a function was entered, with these names
pub entered_call : (p : Program) (body : ℕ) (cs : List Cursor) (slots next : List Local) (base at : ℕ) (s : Stmt) (declared : List ℕ) → slice_get (level_along p body cs).stmts at ≡ Some s → declared_by (out-Stmt s) ≡ [] → names_called p (Some s) ≡ declared → names_in next ≡ names_in slots ++ declared → IsScopedBy p body cs slots base at → IsScopedBy p body (cs ++ record { at = at; way = way.Call; keep = length slots - base } ∷ []) next (length slots) 0
entered_call p body cs slots next base at s declared here none called more scoped =
    let o = opened_along p body cs in
    let found = opened_statement p body cs at ∙ here in
    let c : Cursor = record { at = at; way = way.Call; keep = length slots - base } in
    let outer = o.outer ++ scope_at o at in
    let names : names_in slots ≡ outer = scoped.here s found in
    let scope : names_called p (slice_get o.level.stmts at) ≡ declared = ap (names_called p) found ∙ called in
    let all : names_in next ≡ outer ++ names_called p (slice_get o.level.stmts at) = more ∙ ap (λ xs. xs ++ declared) names ∙ ap (λ xs. outer ++ xs) (sym scope) in
    let count : length slots ≡ length outer = sym (length-map slots (λ (local : Local). local.name)) ∙ ap length names in
    let length_all = length-append outer (names_called p (slice_get o.level.stmts at)) in
    scoped_in p body (cs ++ c ∷ []) next (length slots) 0 (opened_in p o c) (opened_along-snoc p body cs c)
    (kept_snoc p body cs c scoped.kept (kept_here p body cs slots base at way.Call s here none scoped))
    count
    (take_all (length slots + length (names_called p (slice_get o.level.stmts at))) (names_in next) (omega (arith, ap length all, length_all, count)) ∙ all)
    (λ t is. all ∙ ap (λ xs. outer ++ xs) (sym (scope_begins (opened_in p o c))))

-- what a statement declares, by its layer
pub declares : (s : Stmt) (layer : Stmt-F Stmt Block) → out-Stmt s ≡ layer → declared_by (out-Stmt s) ≡ declared_by layer
declares s layer is = ap (λ (l : Stmt-F Stmt Block). declared_by l) is

-- a context is in the body of a function that it called
pub called_scoped : (p : Program) (ctx next : Ctx) (s : Stmt) (to : Option At) (name : At) (arguments : List Expr) (body : Body) (callee : ℕ) → statement_of p ctx ≡ Some s → out-Stmt s ≡ stmt.Apply to name arguments → name.name ≡ callee → option_map body_of (function_of p callee) ≡ Some body → next.cursors.items ≡ ctx.cursors.items ++ record { at = ctx.at; way = way.Call; keep = length ctx.slots.items - ctx.base } ∷ [] → next.slots.items ≡ ctx.slots.items ++ named body.parameters (values_in (drop ctx.base ctx.slots.items) arguments) → next ≡ record ctx { slots = next.slots; base = length ctx.slots.items; cursors = next.cursors; at = 0; again = false } → IsScoped p ctx → IsScoped p next
called_scoped p ctx next s to name arguments body callee here layer same found cursors slots kept scoped =
    let own = drop ctx.base ctx.slots.items in
    let values = values_in own arguments in
    let locals = named body.parameters values in
    let declared = take (length arguments) body.parameters in
    let body_is : option_map body_of (function_of p name.name) ≡ Some body = rw same found in
    let called : names_called p (Some s) ≡ declared = ap (called_names p) layer ∙ ap (λ b. take (length arguments) (parameters_of b)) body_is in
    let names : names_in next.slots.items ≡ names_in ctx.slots.items ++ declared =
    ap names_in slots ∙ map-append (λ (local : Local). local.name) ctx.slots.items locals
    ∙ ap (λ ns. names_in ctx.slots.items ++ ns) (names_of_named body.parameters values ∙ ap (λ n. take n body.parameters) (length-map arguments (value_of own))) in
    subst (IsScoped p) (sym kept)
    (rw cursors (entered_call p ctx.body ctx.cursors.items ctx.slots.items next.slots.items ctx.base ctx.at s declared here (declares s (stmt.Apply to name arguments) layer) called names scoped))

-- the locals are again those at the statement whose block or call was left
back_at : (p : Program) (body : ℕ) (cs : List Cursor) (c : Cursor) (slots : List Local) (base place : ℕ) → AreKept p (begin_of p body) (cs ++ c ∷ []) → base ≡ length (opened_along p body cs).outer → names_in slots ≡ (opened_along p body cs).outer ++ scope_at (opened_along p body cs) c.at → scope_at (opened_along p body cs) place ≡ scope_at (opened_along p body cs) c.at → IsScopedBy p body cs slots base place
back_at p body cs c slots base place kept outer names same =
    let o = opened_along p body cs in
    record {
      kept = kept_front p body cs c kept;
      outer = outer;
      begin = ap (take (base + length o.scope)) names ∙ first_names o c.at (base + length o.scope) (count_of base o outer);
      here = λ s is. names ∙ ap (λ xs. o.outer ++ xs) (sym same);
    }

-- behind a statement that was entered the same names are in scope
stays_either : (o : Opened) (at : ℕ) (b : Bool) → scope_at o (at + 1) ≡ scope_at o at → scope_at o (if b then at else at + 1) ≡ scope_at o at
stays_either o at true plain = refl
stays_either o at false plain = plain

stays_after : (o : Opened) (at : ℕ) (found : Option Stmt) → scope_at o (at + 1) ≡ scope_at o at → scope_at o (place_after found at) ≡ scope_at o at
stays_after o at None plain = refl
stays_after o at (Some s) plain = stays_either o at (comes_again (out-Stmt s)) plain

stays_behind : (o : Opened) (at : ℕ) (found : Option Stmt) → scope_at o (at + 1) ≡ scope_at o at → scope_at o (place_behind found at) ≡ scope_at o at
stays_behind o at None plain = refl
stays_behind o at (Some s) plain = plain

-- the slots begin with the names in scope at the statement whose block is open
pub open_block : (p : Program) (body : ℕ) (cs : List Cursor) (c : Cursor) (slots : List Local) (base : ℕ) → c.way ≢ way.Call → IsOpenBy p body (cs ++ c ∷ []) slots base → (base ≡ length (opened_along p body cs).outer) × (take (base + length (scope_at (opened_along p body cs) c.at)) (names_in slots) ≡ (opened_along p body cs).outer ++ scope_at (opened_along p body cs) c.at)
open_block p body cs c slots base block held =
    let o = opened_along p body cs in
    let is = opened_along-snoc p body cs c in
    let outer = outer_block o c.at c.way block in
    let scope = scope_block p o c.at c.way block in (
      held.outer ∙ ap (λ (x : Opened). length x.outer) is ∙ ap length outer,
      subst (λ ns. take (base + length ns) (names_in slots) ≡ o.outer ++ ns) scope
          (subst (λ ns. take (base + length (opened_in p o c).scope) (names_in slots) ≡ ns ++ (opened_in p o c).scope) outer
          (subst (λ (x : Opened). take (base + length x.scope) (names_in slots) ≡ x.outer ++ x.scope) is held.begin)),
    )

-- a block was left
left_at : (p : Program) (body : ℕ) (cs : List Cursor) (c : Cursor) (slots less : List Local) (base place : ℕ) → c.way ≢ way.Call → IsOpenBy p body (cs ++ c ∷ []) slots base → less ≡ take (base + c.keep) slots → scope_at (opened_along p body cs) place ≡ scope_at (opened_along p body cs) c.at → IsScopedBy p body cs less base place
left_at p body cs c slots less base place block held is same =
    let one = kept_last p body cs c held.kept in
    let before = open_block p body cs c slots base block held in
    back_at p body cs c less base place held.kept before.0
    (ap names_in is ∙ sym (take-map (λ (local : Local). local.name) (base + c.keep) slots)
    ∙ ap (λ k. take (base + k) (names_in slots)) one.keep ∙ before.1)
    same

-- and its statement goes on, or comes again
pub left_after : (p : Program) (body : ℕ) (cs : List Cursor) (c : Cursor) (slots less : List Local) (base : ℕ) (found : Option Stmt) → c.way ≢ way.Call → IsOpenBy p body (cs ++ c ∷ []) slots base → less ≡ take (base + c.keep) slots → IsScopedBy p body cs less base (place_after found c.at)
left_after p body cs c slots less base found block held is =
    let one = kept_last p body cs c held.kept in
    left_at p body cs c slots less base (place_after found c.at) block held is (stays_after (opened_along p body cs) c.at found one.plain)

-- or is left behind
pub left_behind_it : (p : Program) (body : ℕ) (cs : List Cursor) (c : Cursor) (slots less : List Local) (base : ℕ) (found : Option Stmt) → c.way ≢ way.Call → IsOpenBy p body (cs ++ c ∷ []) slots base → less ≡ take (base + c.keep) slots → IsScopedBy p body cs less base (place_behind found c.at)
left_behind_it p body cs c slots less base found block held is =
    let one = kept_last p body cs c held.kept in
    left_at p body cs c slots less base (place_behind found c.at) block held is (stays_behind (opened_along p body cs) c.at found one.plain)

-- a block's cursor is taken away
pub popped_open : (p : Program) (body : ℕ) (cs less : List Cursor) (c : Cursor) (slots : List Local) (base : ℕ) → cs ≡ less ++ c ∷ [] → c.way ≢ way.Call → IsOpenBy p body cs slots base → IsOpenBy p body less slots base
popped_open p body cs less c slots base is block held =
    let o = opened_along p body less in
    let now = subst (λ xs. IsOpenBy p body xs slots base) is held in
    let before = open_block p body less c slots base block now in
    let scope = length-append o.scope (declared_in (take c.at o.level.stmts)) in
    record {
      kept = kept_front p body less c now.kept;
      outer = before.0;
      begin =
          sym (take-take (base + length o.scope) (base + length (scope_at o c.at)) (names_in slots) (omega (arith, scope)))
          ∙ ap (take (base + length o.scope)) before.1
          ∙ first_names o c.at (base + length o.scope) (count_of base o before.0);
    }

outer_call : (o : Opened) (at : ℕ) (w : Way) → w ≡ way.Call → outer_by o at w ≡ o.outer ++ scope_at o at
outer_call o at w call = ap (outer_by o at) call

-- a call was left
pub left_call : (p : Program) (body : ℕ) (cs : List Cursor) (c : Cursor) (slots next : List Local) (base : ℕ) (found : Option Stmt) → c.way ≡ way.Call → IsOpenBy p body (cs ++ c ∷ []) slots base → names_in next ≡ names_in (take base slots) → IsScopedBy p body cs next (base - c.keep) (place_behind found c.at)
left_call p body cs c slots next base found call held names =
    let o = opened_along p body cs in
    let now = opened_in p o c in
    let is = opened_along-snoc p body cs c in
    let one = kept_last p body cs c held.kept in
    let outer : base ≡ length now.outer = held.outer ∙ ap (λ (x : Opened). length x.outer) is in
    let waits : now.outer ≡ o.outer ++ scope_at o c.at = outer_call o c.at c.way call in
    let begin : take (base + length now.scope) (names_in slots) ≡ now.outer ++ now.scope =
    subst (λ (x : Opened). take (base + length x.scope) (names_in slots) ≡ x.outer ++ x.scope) is held.begin in
    back_at p body cs c next (base - c.keep) (place_behind found c.at) held.kept
    (omega (arith, outer, ap length waits, length-append o.outer (scope_at o c.at), one.keep))
    (names ∙ sym (take-map (λ (local : Local). local.name) base slots)
    ∙ sym (take-take base (base + length now.scope) (names_in slots) (omega arith))
    ∙ ap (take base) begin ∙ take_at now.outer now.scope base (sym outer) ∙ waits)
    (stays_behind o c.at found one.plain)

-- the locals of an open block are those in scope behind its last statement
pub open_at_end : (p : Program) (body : ℕ) (cs : List Cursor) (slots : List Local) (base at : ℕ) → slice_get (level_along p body cs).stmts at ≡ None → IsOpenBy p body cs slots base → IsScopedBy p body cs slots base at
open_at_end p body cs slots base at none held = record {
  kept = held.kept;
  outer = held.outer;
  begin = held.begin;
  here = λ s is. let e : None ≡ Some s = sym none ∙ sym (opened_statement p body cs at) ∙ is in cc;
}

pub finished : (p : Program) (body : ℕ) (cs : List Cursor) (slots : List Local) (base at : ℕ) → length (level_along p body cs).stmts ≤ at → IsOpenBy p body cs slots base → IsScopedBy p body cs slots base at
finished p body cs slots base at past held =
    open_at_end p body cs slots base at (slice_get_past (level_along p body cs).stmts at past) held

-- the parameters are those in scope at the begin of a body
pub scoped_begin : (p : Program) (body : ℕ) (cs : List Cursor) (slots : List Local) → cs ≡ [] → names_in slots ≡ parameters_of (slice_get p.bodies body) → IsScopedBy p body cs slots 0 0
scoped_begin p body cs slots none names =
    let o = begin_of p body in
    rw none (scoped_in p body [] slots 0 0 o (opened_along-none p body) tt refl
    (take_all (0 + length o.scope) (names_in slots) (omega (arith, ap length names)) ∙ names)
    (λ s is. names ∙ sym (scope_begins o)))
