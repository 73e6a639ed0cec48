-- The body that has a persistent loop, and the context at it.
use Rattle.std.proofs.Common.{◌≡◌, ℕ, zero, suc, ◌+◌, ◌-◌, ◌<◌, ◌≤◌, ◌^◌, List, [], ◌∷◌, ◌++◌, length, drop, false, Option, Some, None, refl, ap, sym, ◌∙◌, arith}
use Rattle.std.specs.Prelude.{slice_get, filter, flat_map, IfSome}
use Rattle.std.proofs.lemmas.List.{drop_all, length-append, append-nil}
use Rattle.std.proofs.lemmas.List.Concat.{flat_map-cons}
use Rattle.thread_tree.specs.declared.block.Block.{Block}
use Rattle.thread_tree.specs.declared.block.Stmt.{out-Stmt}
use Rattle.thread_tree.specs.declared.tree.Decl.{Decl}
use Rattle.thread_tree.specs.declared.tree.Decl.TheVariants as decl
use Rattle.thread_tree.specs.declared.tree.Tree.{Tree}
use Rattle.thread_tree.specs.declared.local.Local.{Local}
use Rattle.thread_tree.specs.Actions.{Spot, is_loop, loops, spots_in}
use Rattle.thread_tree.specs.Limits.{IsSound}
use Rattle.thread_tree.specs.Program.{Program, Body, program_of, sorted}
use Rattle.thread_machine.specs.Loops.{loops_in}
use Rattle.thread_tree.specs.Need.{IsSmall, need_of_body, callees}
use Rattle.thread_tree.specs.LocalState.{LocalState, loop_block, named, entered}
use Rattle.thread_tree.specs.LocalState.Thing.{Turn}
use Rattle.thread_tree.specs.Actions.{at_turn, inside}
use Rattle.thread_machine.specs.declared.context.Ctx.{Ctx}
use Rattle.thread_machine.specs.Context.{after_of, level_along, level_of, local_of, parameters_of}
use Rattle.thread_machine.specs.Scope.{IsScopedBy}
use Rattle.thread_machine.specs.Seeking.{IsAtLoop, IsBegun, IsInBody, loops_behind, names_in, sought}
use Rattle.thread_machine.proofs.StateLemmas.{todo_after_again}
use Rattle.thread_machine.proofs.WithinLemmas.{All-slice_get, body_within}
use Rattle.thread_machine.proofs.KeepLemmas.{renewed, scoped_begin}
use Rattle.thread_machine.proofs.NameLemmas.{names_named}
use Rattle.thread_machine.proofs.ListLemmas.{drop_at_item, drop_at_none}
use Rattle.thread_machine.proofs.SeekLemmas.{filter_append, loops_among, loops_count, loops_out, spots_out}
use Rattle.thread_machine.proofs.InnerLemmas.{front_spots, behind_spots}

abbrev spots_of_body : Body → List Spot
spots_of_body body = spots_in body.block body.parameters []

-- the loops from a body on are those in it and those behind it
from_body : (bodies : List Body) (n : ℕ) (body : Body) → slice_get bodies n ≡ Some body → flat_map (λ (b : Body). spots_in b.block b.parameters []) (drop n bodies) ≡ spots_in body.block body.parameters [] ++ flat_map (λ (b : Body). spots_in b.block b.parameters []) (drop (n + 1) bodies)
from_body bodies n body is =
    ap (flat_map (λ (b : Body). spots_in b.block b.parameters [])) (drop_at_item bodies n body is) ∙ flat_map-cons (λ (b : Body). spots_in b.block b.parameters []) body (drop (n + 1) bodies)

split : (b : Body) (bodies : List Body) → length (filter is_loop (flat_map (λ (b : Body). spots_in b.block b.parameters []) (b ∷ bodies))) ≡ loops_in b.block + length (filter is_loop (flat_map (λ (b : Body). spots_in b.block b.parameters []) bodies))
unfolding loops_among
split b bodies =
    let f = λ (b : Body). spots_in b.block b.parameters [] in
    ap (λ xs. length (filter is_loop xs)) (flat_map-cons f b bodies) ∙ ap length (filter_append (f b) (flat_map f bodies)) ∙ length-append (filter is_loop (f b)) (filter is_loop (flat_map f bodies))
    ∙ ap (λ n. n + length (filter is_loop (flat_map f bodies))) (loops_count b.block b.parameters [])

-- a body has no more loops than the program
some_loops : (bodies : List Body) (n : ℕ) (body : Body) → slice_get bodies n ≡ Some body → loops_in body.block ≤ length (filter is_loop (flat_map (λ (b : Body). spots_in b.block b.parameters []) bodies))
some_loops [] n body is = cc
some_loops (b ∷ bodies) zero body is = let e : b ≡ body = cc in omega (arith, split b bodies, ap (λ (x : Body). loops_in x.block) e)
some_loops (b ∷ bodies) (suc n) body is = omega (arith, split b bodies, some_loops bodies n body is)

pub few_loops : (p : Program) (n : ℕ) (body : Body) → IsSound p → slice_get p.bodies n ≡ Some body → loops_in body.block < 2 ^ 32
few_loops p n body sound is = omega (arith, some_loops p.bodies n body is, sound.limits.loop_count)

pub place_begins : (p : Program) → loops p ≡ loops_behind p 0
unfolding loops_behind
place_begins p = refl

pub place_here : (p : Program) (n number left count : ℕ) (body : Body) (spot : Spot) → IsSound p → slice_get (loops p) number ≡ slice_get (loops_behind p n) left → slice_get p.bodies n ≡ Some body → (loops_in body.block < 2 ^ 32 → count ≡ loops_in body.block) → left < count → slice_get (loops p) number ≡ Some spot → IsInBody p spot n left
unfolding loops_behind
place_here p n number left count body spot sound so_far is counted lt found =
    let same = counted (few_loops p n body sound is) in
    record {
      body = body;
      is = is;
      loop =
          sym (front_spots body.block body.parameters [] (flat_map (λ (b : Body). spots_in b.block b.parameters []) (drop (n + 1) p.bodies)) left (omega (arith, lt, same)))
          ∙ sym (ap (λ xs. slice_get (filter is_loop xs) left) (from_body p.bodies n body is)) ∙ sym so_far ∙ found;
    }

pub place_passed : (p : Program) (n left count : ℕ) (body : Body) → IsSound p → slice_get p.bodies n ≡ Some body → (loops_in body.block < 2 ^ 32 → count ≡ loops_in body.block) → count ≤ left → slice_get (loops_behind p n) left ≡ slice_get (loops_behind p (n + 1)) (left - count)
unfolding loops_behind
place_passed p n left count body sound is counted le =
    let same = counted (few_loops p n body sound is) in
    ap (λ xs. slice_get (filter is_loop xs) left) (from_body p.bodies n body is)
    ∙ behind_spots body.block body.parameters [] (flat_map (λ (b : Body). spots_in b.block b.parameters []) (drop (n + 1) p.bodies)) left (left - count) (omega (arith, same, le))

place_missing : (p : Program) (n number left : ℕ) (spot : Spot) (x y : ℕ) → drop n p.bodies ≡ [] → slice_get (loops p) number ≡ slice_get (loops_behind p n) left → slice_get (loops p) number ≡ Some spot → IsInBody p spot x y
unfolding loops_behind
place_missing p n number left spot x y none so_far found =
    let e : None ≡ Some spot = sym (ap (λ bs. slice_get (filter is_loop (flat_map (λ (b : Body). spots_in b.block b.parameters []) bs)) left) none) ∙ sym so_far ∙ found in cc

pub place_none : (p : Program) (n number left : ℕ) (spot : Spot) (x y : ℕ) → slice_get p.bodies n ≡ None → slice_get (loops p) number ≡ slice_get (loops_behind p n) left → slice_get (loops p) number ≡ Some spot → IsInBody p spot x y
place_none p n number left spot x y none so_far found = place_missing p n number left spot x y (drop_at_none p.bodies n none) so_far found

few_bodies : (ds : List Decl) → length (sorted ds).bodies ≤ length ds
few_bodies [] = omega arith
few_bodies (decl.Kind at fields ∷ ds) = omega (arith, few_bodies ds)
few_bodies (decl.Object at kind ∷ ds) = omega (arith, few_bodies ds)
few_bodies (decl.Queue at capacity channel ∷ ds) = omega (arith, few_bodies ds)
few_bodies (decl.Semaphore at count maximum ∷ ds) = omega (arith, few_bodies ds)
few_bodies (decl.Function at parameters body ∷ ds) = omega (arith, few_bodies ds)
few_bodies (decl.Thread at parameters priority body ∷ ds) = omega (arith, few_bodies ds)
few_bodies (decl.Start place at arguments ∷ ds) = omega (arith, few_bodies ds)

pub place_end : (tree : Tree) (n number left : ℕ) (spot : Spot) (x y : ℕ) → length tree.decls ≤ n → slice_get (loops (program_of tree)) number ≡ slice_get (loops_behind (program_of tree) n) left → slice_get (loops (program_of tree)) number ≡ Some spot → IsInBody (program_of tree) spot x y
place_end tree n number left spot x y past so_far found =
    let p = program_of tree in
    place_missing p n number left spot x y (drop_all n p.bodies (omega (arith, few_bodies tree.decls, past))) so_far found

pub ruleset place_laws = (place_begins, place_here, place_passed, place_none, place_end)

length_of_named : (names values : List ℕ) → length names ≤ length values → length (named names values) ≡ length names
length_of_named [] values le = refl
length_of_named (name ∷ names) [] le = absurd (omega (arith, le))
length_of_named (name ∷ names) (value ∷ values) le = ap suc (length_of_named names values (omega (arith, le)))

small_body : (p : Program) (n : ℕ) (body : Body) → IsSound p → slice_get p.bodies n ≡ Some body → IsSmall (need_of_body (callees p) body.parameters body.block)
small_body p n body sound is = All-slice_get (λ (b : Body). IsSmall (need_of_body (callees p) b.parameters b.block)) p.bodies n body sound.bodies is

-- there is room for the parameters of a body
room_found : (p : Program) (n : ℕ) (found : Option Body) → IsSound p → slice_get p.bodies n ≡ found → IfSome found (λ b. length b.parameters ≤ 48)
room_found p n None sound is = tt
room_found p n (Some body) sound is = omega (arith, (small_body p n body sound is).locals)

pub room_for_body : (p : Program) (n : ℕ) (body : Body) → IsSound p → Some body ≡ slice_get p.bodies n → length body.parameters ≤ 48
room_for_body p n body sound is = omega (arith, (small_body p n body sound (sym is)).locals)

-- the context at the begin of a body
pub begun : (p : Program) (ctx : Ctx) (body : Body) (found : Option Body) (values : List ℕ) → IsSound p → slice_get p.bodies ctx.body ≡ Some body → found ≡ slice_get p.bodies ctx.body → ctx.slots.items ≡ named (parameters_of found) values → length values ≡ 48 → ctx.cursors.items ≡ [] → ctx.at ≡ 0 → ctx.again ≡ false → ctx.base ≡ 0 → IsBegun p ctx body
unfolding level_along sought
begun p ctx body found values sound is same slots many none at again base =
    let small = small_body p ctx.body body sound is in
    let some : found ≡ Some body = same ∙ is in
    let le : length body.parameters ≤ length values = omega (arith, small.locals, many) in
    let items : ctx.slots.items ≡ named body.parameters values = slots ∙ ap (λ f. named (parameters_of f) values) some in
    let names : names_in ctx.slots.items ≡ body.parameters = ap names_in items ∙ names_named body.parameters values le in
    let count : length ctx.slots.items ≡ length body.parameters = ap length items ∙ length_of_named body.parameters values le in
    record {
      way = record {
        few = rw (none, at, is) (omega (arith, few_loops p ctx.body body sound is, loops_out body.block));
        again = again;
        base = base;
        waiting = rw none refl;
        result = rw none refl;
        within = rw (none, at, again, base, is) (record {
          each = (rw append-nil (body_within (callees p) 0 0 (length ctx.slots.items) body.block (omega (arith, small.locals, count)) (omega (arith, small.blocks))), tt);
        });
        scoped = rw (base, at) (scoped_begin p ctx.body ctx.cursors.items ctx.slots.items none (names ∙ ap parameters_of (sym is)));
      };
      loops = λ left. rw (none, at, is, names) (ap (λ xs. slice_get (filter is_loop xs) left) (sym (spots_out body.block body.parameters [])));
    }

-- the loop is sought in the body that has it
pub sought_there : (p : Program) (ctx : Ctx) (spot : Spot) (number left : ℕ) (there : IsInBody p spot number left) → IsBegun p ctx there.body → sought p ctx left ≡ Some spot
sought_there p ctx spot number left there begin = begin.loops left ∙ there.loop

inside_loop : (spot : Spot) (values : List ℕ) (block : Block) → loop_block (out-Stmt spot.statement) ≡ Some block → inside spot values ≡ entered (at_turn spot values) block (Turn spot.statement ∷ spot.rest)
inside_loop spot values block is =
    ap (λ o. elim o as (λ _. LocalState) [ None ↦ at_turn spot values | Some block ↦ entered (at_turn spot values) block (Turn spot.statement ∷ spot.rest) ]) is

-- inside a loop with these values
pub inside_is : (p : Program) (ctx next last : Ctx) (spot : Spot) (values : List ℕ) (at_loop : IsAtLoop p spot ctx) → next ≡ record ctx { slots = next.slots } → next.slots.items ≡ named (names_in ctx.slots.items) values → local_of p last ≡ entered (local_of p next) at_loop.block (after_of p next) → local_of p last ≡ inside spot values
inside_is p ctx next last spot values at_loop kept slots moved =
    let l = level_of p ctx in
    let level : level_of p next ≡ l = ap (level_of p) kept in
    let at : next.at ≡ ctx.at = ap (λ (c : Ctx). c.at) kept in
    let base : next.base ≡ 0 = ap (λ (c : Ctx). c.base) kept ∙ at_loop.way.base in
    let own : next.slots.items ≡ named spot.scope values = slots ∙ ap (λ ns. named ns values) at_loop.scope in
    let again : after_of p next ≡ Turn spot.statement ∷ spot.rest =
    rw (level, at) (todo_after_again l ctx.at spot.statement at_loop.here (rw at_loop.loop refl) ∙ rw at_loop.loop (ap (λ xs. Turn spot.statement ∷ xs) at_loop.rest)) in
    moved ∙ rw (again, base, own, level, at_loop.way.waiting, at_loop.way.result) refl ∙ sym (inside_loop spot values at_loop.block (ap loop_block at_loop.loop))

-- the locals in scope at a loop, with these values
pub at_loop_scoped : (p : Program) (ctx : Ctx) (next : List Local) (spot : Spot) (values : List ℕ) → IsAtLoop p spot ctx → next ≡ named (names_in ctx.slots.items) values → length values ≡ length spot.scope → IsScopedBy p ctx.body ctx.cursors.items next ctx.base ctx.at
at_loop_scoped p ctx next spot values at_loop slots many =
    let names = names_in ctx.slots.items in
    renewed p ctx.body ctx.cursors.items ctx.slots.items next ctx.base ctx.at
    (ap names_in slots ∙ names_named names values (omega (arith, many, ap length at_loop.scope))) at_loop.way.scoped

pub behind_nothing : {first rest slots : List Local} → slots ≡ first ++ rest → first ≡ [] → slots ≡ rest
behind_nothing {first} {rest} {slots} is none = is ∙ ap (λ xs. xs ++ rest) none
