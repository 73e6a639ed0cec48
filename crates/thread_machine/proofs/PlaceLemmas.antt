-- The spots of a part stand where its actions stand.
use Rattle.std.proofs.Common.{◌≡◌, ℕ, zero, suc, ◌+◌, ◌≤◌, List, [], ◌∷◌, ◌++◌, length, map, take, drop, false, Option, Some, None, refl, ap, sym, subst, ◌∙◌, arith}
use Rattle.std.specs.Prelude.{slice_get, flat_map}
use Rattle.std.proofs.lemmas.List.{append-nil, append_assoc, length-append, length-map}
use Rattle.thread_tree.specs.declared.block.Block.{Block}
use Rattle.thread_tree.specs.declared.block.Stmt.{Stmt, out-Stmt}
use Rattle.thread_tree.specs.declared.block.Stmt.TheOpen.{Stmt-F}
use Rattle.thread_tree.specs.declared.block.Stmt.TheOpen as stmt
use Rattle.thread_tree.specs.declared.tree.Decl.{Decl}
use Rattle.thread_tree.specs.declared.tree.Decl.TheVariants as decl
use Rattle.thread_tree.specs.declared.tree.Tree.{Tree}
use Rattle.thread_tree.specs.Program.{Body, Program, names_of, program_of, sorted}
use Rattle.thread_tree.specs.LocalState.{Thing}
use Rattle.thread_tree.specs.LocalState.Thing.{Do, End, Test, Turn}
use Rattle.thread_tree.specs.Actions.{Spot, actions, declared_by, spot_at, spots, spots_in}
use Rattle.thread_check.specs.ActionLists.{actions_layer, actions_in, actions_in_turn, actions_of, actions_of_declaration, actions_of_declarations, in_some}
use Rattle.thread_machine.specs.Context.{first_block, is_move, other_block, statements}
use Rattle.thread_machine.specs.Parts.{IsPart, first_offset, other_offset, spots_of_body}
use Rattle.thread_machine.specs.Scope.{declared_in}
use Rattle.thread_machine.specs.Seeking.{after_block, spots_from, spots_if_there, spots_of}
use Rattle.thread_machine.specs.Seen.{body_in}
use Rattle.thread_check.proofs.Callers.{actions_of_out, spots_in_shows}
use Rattle.thread_machine.proofs.BodyLemmas.{body_among, body_among-is, body_here, body_at_end}
use Rattle.thread_machine.proofs.PartLemmas.{part_of_part, part_none, part_all, part_zero, part_first, part_second, part_is}
use Rattle.thread_machine.proofs.SeekLemmas.{spots_out}

-- a block has as many spots as actions
spots_count : (b : Block) (scope : List ℕ) (after : List Thing) → length (spots_in b scope after) ≡ length (actions_in b)
spots_count b scope after =
    sym (length-map (spots_in b scope after) (λ (spot : Spot). spot.statement)) ∙ ap length (spots_in_shows b scope after)

-- and so has one that may be left out
some_count : (o : Option Block) (scope : List ℕ) (after : List Thing) → length (spots_if_there o scope after) ≡ length (in_some actions_in o)
some_count None scope after = refl
some_count (Some b) scope after = spots_count b scope after

-- a statement has as many spots as actions
layer_count : (layer : Stmt-F Stmt Block) (s : Stmt) (scope : List ℕ) (rest : List Thing) → length (spots_of layer s scope rest) ≡ length (actions_layer actions_in layer s)
layer_count (stmt.Let at e) s scope rest = refl
layer_count (stmt.Set at e) s scope rest = refl
layer_count (stmt.Apply to callee arguments) s scope rest = refl
layer_count (stmt.If e block other) s scope rest =
    let after = End (length scope) ∷ rest in
    omega (arith, length-append (spots_in block scope after) (spots_if_there other scope after), length-append (actions_in block) (in_some actions_in other), spots_count block scope after, some_count other scope after)
layer_count (stmt.While e block) s scope rest = spots_count block scope (End (length scope) ∷ Test e block ∷ rest)
layer_count (stmt.Ploop place block) s scope rest = ap suc (spots_count block scope (End (length scope) ∷ Turn s ∷ rest))
layer_count (stmt.Break place) s scope rest = refl
layer_count (stmt.Return place value) s scope rest = refl
layer_count (stmt.Atomic place to block) s scope rest = refl
layer_count (stmt.Call place call to) s scope rest = refl

-- the spots of the first block among those of its statement
pub first_spots : (layer : Stmt-F Stmt Block) (s : Stmt) (scope : List ℕ) (rest : List Thing) → IsPart (spots_if_there (first_block layer) scope (End (length scope) ∷ after_block layer s rest)) (spots_of layer s scope rest) (first_offset layer)
first_spots (stmt.Let at e) s scope rest = part_zero []
first_spots (stmt.Set at e) s scope rest = part_zero []
first_spots (stmt.Apply to callee arguments) s scope rest = part_zero []
first_spots (stmt.If e block other) s scope rest =
    part_first (spots_in block scope (End (length scope) ∷ rest)) (spots_if_there other scope (End (length scope) ∷ rest))
first_spots (stmt.While e block) s scope rest = part_all (spots_in block scope (End (length scope) ∷ Test e block ∷ rest))
first_spots (stmt.Ploop place block) s scope rest =
    part_second (spot_at s scope rest ∷ []) (spots_in block scope (End (length scope) ∷ Turn s ∷ rest))
first_spots (stmt.Break place) s scope rest = part_zero []
first_spots (stmt.Return place value) s scope rest = part_zero []
first_spots (stmt.Atomic place to block) s scope rest = part_zero (spot_at s scope rest ∷ [])
first_spots (stmt.Call place call to) s scope rest = part_zero (spot_at s scope rest ∷ [])

-- the spots of the other block among those of its statement
pub other_spots : (layer : Stmt-F Stmt Block) (s : Stmt) (scope : List ℕ) (rest : List Thing) → IsPart (spots_if_there (other_block layer) scope (End (length scope) ∷ after_block layer s rest)) (spots_of layer s scope rest) (other_offset layer)
other_spots (stmt.Let at e) s scope rest = part_zero []
other_spots (stmt.Set at e) s scope rest = part_zero []
other_spots (stmt.Apply to callee arguments) s scope rest = part_zero []
other_spots (stmt.If e block None) s scope rest =
    let own = spots_in block scope (End (length scope) ∷ rest) in
    part_none (own ++ []) (length (actions_in block)) (omega (arith, length-append own [], spots_count block scope (End (length scope) ∷ rest)))
other_spots (stmt.If e block (Some other)) s scope rest =
    let after = End (length scope) ∷ rest in
    part_is (spots_in other scope after) (spots_in other scope after) (spots_in block scope after ++ spots_in other scope after) (length (spots_in block scope after)) (length (actions_in block)) refl (spots_count block scope after)
    (part_second (spots_in block scope after) (spots_in other scope after))
other_spots (stmt.While e block) s scope rest = part_zero (spots_in block scope (End (length scope) ∷ Test e block ∷ rest))
other_spots (stmt.Ploop place block) s scope rest =
    part_zero (spot_at s scope rest ∷ spots_in block scope (End (length scope) ∷ Turn s ∷ rest))
other_spots (stmt.Break place) s scope rest = part_zero []
other_spots (stmt.Return place value) s scope rest = part_zero []
other_spots (stmt.Atomic place to block) s scope rest = part_zero (spot_at s scope rest ∷ [])
other_spots (stmt.Call place call to) s scope rest = part_zero (spot_at s scope rest ∷ [])

-- an action is the first of its statement's spots
pub spot_head : (layer : Stmt-F Stmt Block) (s : Stmt) (scope : List ℕ) (rest : List Thing) → is_move layer ≡ false → slice_get (spots_of layer s scope rest) 0 ≡ Some (spot_at s scope rest)
spot_head (stmt.Let at e) s scope rest is = cc
spot_head (stmt.Set at e) s scope rest is = cc
spot_head (stmt.Apply to callee arguments) s scope rest is = cc
spot_head (stmt.If e block other) s scope rest is = cc
spot_head (stmt.While e block) s scope rest is = cc
spot_head (stmt.Ploop place block) s scope rest is = refl
spot_head (stmt.Break place) s scope rest is = cc
spot_head (stmt.Return place value) s scope rest is = cc
spot_head (stmt.Atomic place to block) s scope rest is = refl
spot_head (stmt.Call place call to) s scope rest is = refl

-- the spots of a statement among those of statements one after another
spots_of_at : (stmts : List Stmt) (n : ℕ) (s : Stmt) (scope : List ℕ) (after : List Thing) → slice_get stmts n ≡ Some s → IsPart (spots_of (out-Stmt s) s (scope ++ declared_in (take n stmts)) (map Do (drop (n + 1) stmts) ++ after)) (spots_from stmts scope after) (length (actions_in_turn (take n stmts)))
spots_of_at [] n s scope after is = cc
spots_of_at (t ∷ stmts) zero s scope after is =
    let same : t ≡ s = cc in
    rw append-nil
    (subst (λ u. IsPart (spots_of (out-Stmt s) s scope (map Do stmts ++ after)) (spots_of (out-Stmt u) u scope (map Do stmts ++ after) ++ spots_from stmts (scope ++ declared_by (out-Stmt u)) after) 0) (sym same)
    (part_first (spots_of (out-Stmt s) s scope (map Do stmts ++ after)) (spots_from stmts (scope ++ declared_by (out-Stmt s)) after)))
spots_of_at (t ∷ stmts) (suc n) s scope after is =
    let inner = scope ++ declared_by (out-Stmt t) in
    let own = spots_of (out-Stmt t) t scope (map Do stmts ++ after) in
    let more = spots_from stmts inner after in
    let rest = map Do (drop (n + 1) stmts) ++ after in
    let count = length (actions_in_turn (take n stmts)) in
    let e : suc n + 1 ≡ suc (n + 1) = omega arith in
    rw e
    (part_is (spots_of (out-Stmt s) s (inner ++ declared_in (take n stmts)) rest) (spots_of (out-Stmt s) s (scope ++ (declared_by (out-Stmt t) ++ declared_in (take n stmts))) rest) (own ++ more) (length own + count) (length (actions_of t ++ actions_in_turn (take n stmts)))
    (ap (λ names. spots_of (out-Stmt s) s names rest) (append_assoc scope (declared_by (out-Stmt t)) (declared_in (take n stmts))))
    (omega (arith, length-append (actions_of t) (actions_in_turn (take n stmts)), layer_count (out-Stmt t) t scope (map Do stmts ++ after), ap length (actions_of_out t)))
    (part_of_part (spots_of (out-Stmt s) s (inner ++ declared_in (take n stmts)) rest) more (own ++ more) count (length own) (spots_of_at stmts n s inner after is) (part_second own more)))

-- a part of a statement's spots among all
pub spots_inside : (all : List Spot) (stmts : List Stmt) (at offset inner : ℕ) (s : Stmt) (scope : List ℕ) (after : List Thing) (sub : List Spot) → IsPart (spots_from stmts scope after) all offset → slice_get stmts at ≡ Some s → IsPart sub (spots_of (out-Stmt s) s (scope ++ declared_in (take at stmts)) (map Do (drop (at + 1) stmts) ++ after)) inner → IsPart sub all (offset + (length (actions_in_turn (take at stmts)) + inner))
spots_inside all stmts at offset inner s scope after sub outer is part =
    let count = length (actions_in_turn (take at stmts)) in
    let own = spots_of (out-Stmt s) s (scope ++ declared_in (take at stmts)) (map Do (drop (at + 1) stmts) ++ after) in
    part_of_part sub (spots_from stmts scope after) all (count + inner) offset
    (part_of_part sub own (spots_from stmts scope after) inner count part (spots_of_at stmts at s scope after is)) outer

-- the spots of a block that may be left out are those of its statements
pub spots_there : (o : Option Block) (scope : List ℕ) (after : List Thing) → spots_if_there o scope after ≡ spots_from (statements o) scope after
spots_there None scope after = refl
spots_there (Some b) scope after = spots_out b scope after

-- the spots of the bodies that declarations have
abbrev spots_declared : List Decl → List Spot
spots_declared ds = flat_map (λ body. spots_in body.block body.parameters []) (sorted ds).bodies

-- those of one declaration more
declared_more : (d : Decl) (ds : List Decl) → spots_declared (d ∷ ds) ≡ spots_of_body (body_in d) ++ spots_declared ds
declared_more (decl.Kind at fields) ds = refl
declared_more (decl.Object at kind) ds = refl
declared_more (decl.Queue at capacity channel) ds = refl
declared_more (decl.Semaphore at count maximum) ds = refl
declared_more (decl.Function at parameters block) ds = refl
declared_more (decl.Thread at parameters priority block) ds = refl
declared_more (decl.Start place at arguments) ds = refl

-- a declaration's body has as many spots as actions
body_count : (d : Decl) → length (spots_of_body (body_in d)) ≡ length (actions_of_declaration d)
body_count (decl.Kind at fields) = refl
body_count (decl.Object at kind) = refl
body_count (decl.Queue at capacity channel) = refl
body_count (decl.Semaphore at count maximum) = refl
body_count (decl.Function at parameters block) = spots_count block (names_of parameters) []
body_count (decl.Thread at parameters priority block) = spots_count block (names_of parameters) []
body_count (decl.Start place at arguments) = refl

-- the spots of a declaration's body among those of all
declaration_spots : (ds : List Decl) (n : ℕ) (d : Decl) → slice_get ds n ≡ Some d → IsPart (spots_of_body (body_in d)) (spots_declared ds) (length (actions_of_declarations (take n ds)))
declaration_spots [] n d is = cc
declaration_spots (t ∷ ds) zero d is =
    let same : t ≡ d = cc in
    subst (λ xs. IsPart (spots_of_body (body_in d)) xs 0) (sym (declared_more t ds))
    (subst (λ u. IsPart (spots_of_body (body_in d)) (spots_of_body (body_in u) ++ spots_declared ds) 0) (sym same) (part_first (spots_of_body (body_in d)) (spots_declared ds)))
declaration_spots (t ∷ ds) (suc n) d is =
    let part = spots_of_body (body_in d) in
    let own = spots_of_body (body_in t) in
    let more = spots_declared ds in
    let count = length (actions_of_declarations (take n ds)) in
    subst (λ xs. IsPart part xs (length (actions_of_declaration t ++ actions_of_declarations (take n ds)))) (sym (declared_more t ds))
    (part_is part part (own ++ more) (length own + count) (length (actions_of_declaration t ++ actions_of_declarations (take n ds))) refl
    (omega (arith, length-append (actions_of_declaration t) (actions_of_declarations (take n ds)), body_count t))
    (part_of_part part more (own ++ more) count (length own) (declaration_spots ds n d is) (part_second own more)))

-- the spots of the body of a number
pub body_spots : (tree : Tree) (n number left offset : ℕ) (d : Decl) (body : Body) → body_among tree.decls number ≡ body_among (drop n tree.decls) left → slice_get tree.decls n ≡ Some d → body_in d ≡ Some body → left ≡ 0 → offset ≡ length (actions_of_declarations (take n tree.decls)) → IsPart (spots_of_body (slice_get (program_of tree).bodies number)) (spots (program_of tree)) offset
body_spots tree n number left offset d body same is found none at =
    let here : slice_get (program_of tree).bodies number ≡ body_in d = sym (body_among-is tree.decls number) ∙ same ∙ body_here tree.decls n d body left is found none ∙ sym found in
    rw (here, at) (declaration_spots tree.decls n d is)

pub body_spots_none : (tree : Tree) (n number left : ℕ) → body_among tree.decls number ≡ body_among (drop n tree.decls) left → length tree.decls ≤ n → IsPart (spots_of_body (slice_get (program_of tree).bodies number)) (spots (program_of tree)) 0
body_spots_none tree n number left same past =
    let none : slice_get (program_of tree).bodies number ≡ None = sym (body_among-is tree.decls number) ∙ same ∙ body_at_end tree.decls n left past in
    rw none (part_zero (spots (program_of tree)))

-- a program has as many spots as actions
pub program_count : (p : Program) → length (actions p) ≡ length (spots p)
program_count p = length-map (spots p) (λ (spot : Spot). spot.statement)
