-- The spots of a block are those of its statements, and how many of them are persistent loops.
use Rattle.std.proofs.Common.{◌≡◌, ℕ, zero, suc, ◌+◌, ◌≤◌, List, [], ◌∷◌, ◌++◌, length, map, take, Bool, true, false, Some, None, refl, ap, sym, subst, ◌∙◌, arith}
use Rattle.std.specs.Prelude.{slice_get, filter, if◌then◌else◌}
use Rattle.std.proofs.lemmas.List.{length-append, append-nil, take_all}
use Rattle.thread_tree.specs.declared.block.Block.{Block, Block-F, para-roll-Block, roll-Block, map-Block, out-Block, out-roll-Block, roll-out-Block, fold_out-Block}
use Rattle.thread_tree.specs.declared.block.Stmt.{Stmt, Stmt-F, para-roll-Stmt, para-Stmt, roll-Stmt, map-Stmt, out-Stmt, out-roll-Stmt, roll-out-Stmt, fold-Stmt, fold_out-Stmt}
use Rattle.thread_tree.specs.declared.block.Stmt.TheOpen as stmt
use Rattle.thread_tree.specs.LocalState.{Thing, loop_block}
use Rattle.thread_tree.specs.LocalState.Thing.{Do, End, Test, Turn}
use Rattle.thread_tree.specs.Actions.{Spot, SpotsOf, SpotsIn, declared_by, is_loop, spots_in, spots_in_layer, spots_in_turn, spots_of_layer}
use Rattle.thread_machine.specs.Loops.{loops_from, loops_in, loops_in_layer, loops_in_turn, loops_of, loops_of_layer}
use Rattle.std.specs.Option.{is_some}
use Rattle.thread_machine.specs.Context.{first_block, other_block}
use Rattle.thread_machine.specs.Seeking.{spots_from, spots_of}
use Rattle.thread_check.proofs.Callers.{each_block}

abbrev para_of : Stmt → SpotsOf
para_of = para-Stmt SpotsOf SpotsIn spots_of_layer spots_in_layer

layer_read : (x : Stmt-F Stmt Block) (s : Stmt) (scope : List ℕ) (rest : List Thing) → spots_of_layer (map-Stmt Stmt Block (Stmt × SpotsOf) (Block × SpotsIn) (λ y. (y, para_of y)) (λ y. (y, spots_in y)) x) s scope rest ≡ spots_of x s scope rest
layer_read (stmt.Let at e) s scope rest = refl
layer_read (stmt.Set at e) s scope rest = refl
layer_read (stmt.Apply to callee arguments) s scope rest = refl
layer_read (stmt.If e block None) s scope rest = refl
layer_read (stmt.If e block (Some other)) s scope rest = refl
layer_read (stmt.While e block) s scope rest = refl
layer_read (stmt.Ploop place block) s scope rest = refl
layer_read (stmt.Break place) s scope rest = refl
layer_read (stmt.Return place None) s scope rest = refl
layer_read (stmt.Return place (Some value)) s scope rest = refl
layer_read (stmt.Atomic place to block) s scope rest = refl
layer_read (stmt.Call place call to) s scope rest = refl

para_roll : (x : Stmt-F Stmt Block) (s : Stmt) (scope : List ℕ) (rest : List Thing) → para_of (roll-Stmt x) s scope rest ≡ spots_of x s scope rest
unfolding spots_in
para_roll x s scope rest = ap (λ of. of s scope rest) (para-roll-Stmt SpotsOf SpotsIn spots_of_layer spots_in_layer x) ∙ layer_read x s scope rest

para_out : (z s : Stmt) (scope : List ℕ) (rest : List Thing) → para_of z s scope rest ≡ spots_of (out-Stmt z) s scope rest
para_out z s scope rest =
    subst (λ y. para_of y s scope rest ≡ spots_of (out-Stmt y) s scope rest) (roll-out-Stmt z)
    (para_roll (out-Stmt z) s scope rest ∙ ap (λ x. spots_of x s scope rest) (sym (out-roll-Stmt (out-Stmt z))))

pairs_do : (ss : List Stmt) → map (λ (t : Stmt × SpotsOf). Do t.0) (map (λ y. (y, para_of y)) ss) ≡ map Do ss
pairs_do [] = refl
pairs_do (s ∷ ss) = ap (λ rest. Do s ∷ rest) (pairs_do ss)

turn_read : (ss : List Stmt) (scope : List ℕ) (after : List Thing) → spots_in_turn (map (λ y. (y, para_of y)) ss) scope after ≡ spots_from ss scope after
turn_read [] scope after = refl
turn_read (s ∷ ss) scope after =
    ap (λ things. para_of s s scope (things ++ after) ++ spots_in_turn (map (λ y. (y, para_of y)) ss) (scope ++ declared_by (out-Stmt s)) after) (pairs_do ss)
    ∙ ap (λ first. first ++ spots_in_turn (map (λ y. (y, para_of y)) ss) (scope ++ declared_by (out-Stmt s)) after) (para_out s s scope (map Do ss ++ after))
    ∙ ap (λ rest. spots_of (out-Stmt s) s scope (map Do ss ++ after) ++ rest) (turn_read ss (scope ++ declared_by (out-Stmt s)) after)

in_roll : (x : Block-F Stmt Block) (scope : List ℕ) (after : List Thing) → spots_in (roll-Block x) scope after ≡ spots_from x.stmts scope after
unfolding spots_in
in_roll x scope after = ap (λ of. of scope after) (para-roll-Block SpotsOf SpotsIn spots_of_layer spots_in_layer x) ∙ turn_read x.stmts scope after

-- the spots in a block are those of its statements
pub spots_out : (b : Block) (scope : List ℕ) (after : List Thing) → spots_in b scope after ≡ spots_from (out-Block b).stmts scope after
spots_out b scope after =
    subst (λ z. spots_in z scope after ≡ spots_from (out-Block z).stmts scope after) (roll-out-Block b)
    (in_roll (out-Block b) scope after ∙ ap (λ (x : Block-F Stmt Block). spots_from x.stmts scope after) (sym (out-roll-Block (out-Block b))))

-- loops
stmt_loops : Stmt → ℕ
stmt_loops = fold-Stmt ℕ ℕ loops_of_layer loops_in_layer

stmt_parts : (layer : Stmt-F Stmt Block) → loops_of_layer (map-Stmt Stmt Block ℕ ℕ stmt_loops loops_in layer) ≡ loops_of layer
stmt_parts (stmt.Let at e) = refl
stmt_parts (stmt.Set at e) = refl
stmt_parts (stmt.Apply to callee arguments) = refl
stmt_parts (stmt.If e block None) = omega arith
stmt_parts (stmt.If e block (Some other)) = refl
stmt_parts (stmt.While e block) = refl
stmt_parts (stmt.Ploop place block) = refl
stmt_parts (stmt.Break place) = refl
stmt_parts (stmt.Return place None) = refl
stmt_parts (stmt.Return place (Some value)) = refl
stmt_parts (stmt.Atomic place to block) = refl
stmt_parts (stmt.Call place call to) = refl

stmt_loops_out : (s : Stmt) → stmt_loops s ≡ loops_of (out-Stmt s)
unfolding stmt_loops loops_in
stmt_loops_out s = fold_out-Stmt ℕ ℕ loops_of_layer loops_in_layer s ∙ stmt_parts (out-Stmt s)

turn_loops : (ss : List Stmt) → loops_in_turn (map stmt_loops ss) ≡ loops_from ss
turn_loops [] = refl
turn_loops (s ∷ ss) = omega (arith, stmt_loops_out s, turn_loops ss)

pub loops_out : (b : Block) → loops_in b ≡ loops_from (out-Block b).stmts
unfolding stmt_loops loops_in
loops_out b = fold_out-Block ℕ ℕ loops_of_layer loops_in_layer b ∙ turn_loops (out-Block b).stmts

pub ruleset loop_laws = loops_out

-- one statement more
pub loops_more : (stmts : List Stmt) (n : ℕ) (s : Stmt) → slice_get stmts n ≡ Some s → loops_from (take (n + 1) stmts) ≡ loops_from (take n stmts) + loops_of (out-Stmt s)
loops_more [] n s is = cc
loops_more (t ∷ stmts) zero s is = let e : t ≡ s = cc in omega (arith, ap (λ u. loops_of (out-Stmt u)) e)
loops_more (t ∷ stmts) (suc n) s is =
    let e : suc n + 1 ≡ suc (n + 1) = omega arith in
    rw e (omega (arith, loops_more stmts n s is))

pub loops_few : (stmts : List Stmt) (n : ℕ) (s : Stmt) → slice_get stmts n ≡ Some s → loops_from (take n stmts) + loops_of (out-Stmt s) ≤ loops_from stmts
loops_few [] n s is = cc
loops_few (t ∷ stmts) zero s is = let e : t ≡ s = cc in omega (arith, ap (λ u. loops_of (out-Stmt u)) e)
loops_few (t ∷ stmts) (suc n) s is = omega (arith, loops_few stmts n s is)

pub loops_all : (stmts : List Stmt) (n : ℕ) → length stmts ≤ n → loops_from (take n stmts) ≡ loops_from stmts
loops_all stmts n past = ap loops_from (take_all n stmts past)

pub ruleset turn_laws = (loops_more, loops_few, loops_all)

-- how many spots are persistent loops
unfoldable pub loops_among : List Spot → ℕ
loops_among spots = length (filter is_loop spots)

filter_both : (test : Bool) (x : Spot) (xs ys : List Spot) → (if test then x ∷ (xs ++ ys) else xs ++ ys) ≡ (if test then x ∷ xs else xs) ++ ys
filter_both true x xs ys = refl
filter_both false x xs ys = refl

pub filter_append : (xs ys : List Spot) → filter is_loop (xs ++ ys) ≡ filter is_loop xs ++ filter is_loop ys
filter_append [] ys = refl
filter_append (x ∷ xs) ys =
    ap (λ rest. if is_loop x then x ∷ rest else rest) (filter_append xs ys) ∙ filter_both (is_loop x) x (filter is_loop xs) (filter is_loop ys)

among_append : (xs ys : List Spot) → loops_among (xs ++ ys) ≡ loops_among xs + loops_among ys
unfolding loops_among
among_append xs ys = ap length (filter_append xs ys) ∙ length-append (filter is_loop xs) (filter is_loop ys)

among_one : (spot : Spot) (rest : List Spot) (test : Bool) → is_loop spot ≡ test → loops_among (spot ∷ rest) ≡ (if test then suc (loops_among rest) else loops_among rest)
unfolding loops_among
among_one spot rest true is = rw is refl
among_one spot rest false is = rw is refl

looks : (spot : Spot) (layer : Stmt-F Stmt Block) → out-Stmt spot.statement ≡ layer → is_loop spot ≡ is_some (loop_block layer)
looks spot layer is = ap (λ x. is_some (loop_block x)) is

abbrev Counts : Block → Type 0
Counts b = (scope : List ℕ) (after : List Thing) → loops_among (spots_in b scope after) ≡ loops_in b

-- the loops among the spots of a statement whose blocks are counted
parts_count : (layer : Stmt-F Stmt Block) (z : Stmt) (scope : List ℕ) (rest : List Thing) → out-Stmt z ≡ layer → ((b : Block) → first_block layer ≡ Some b → Counts b) → ((b : Block) → other_block layer ≡ Some b → Counts b) → loops_among (spots_of layer z scope rest) ≡ loops_of layer
unfolding loops_among
parts_count (stmt.Let at e) z scope rest is first other = refl
parts_count (stmt.Set at e) z scope rest is first other = refl
parts_count (stmt.Apply to callee arguments) z scope rest is first other = refl
parts_count (stmt.If e block None) z scope rest is first other =
    ap loops_among (append-nil (spots_in block scope (End (length scope) ∷ rest))) ∙ first block refl scope (End (length scope) ∷ rest)
parts_count (stmt.If e block (Some more)) z scope rest is first other =
    among_append (spots_in block scope (End (length scope) ∷ rest)) (spots_in more scope (End (length scope) ∷ rest))
    ∙ ap (λ n. n + loops_among (spots_in more scope (End (length scope) ∷ rest))) (first block refl scope (End (length scope) ∷ rest))
    ∙ ap (λ n. loops_in block + n) (other more refl scope (End (length scope) ∷ rest))
parts_count (stmt.While e block) z scope rest is first other = first block refl scope (End (length scope) ∷ Test e block ∷ rest)
parts_count (stmt.Ploop place block) z scope rest is first other =
    among_one (record { statement = z; scope = scope; rest = rest }) (spots_in block scope (End (length scope) ∷ Turn z ∷ rest)) true (looks (record { statement = z; scope = scope; rest = rest }) (stmt.Ploop place block) is)
    ∙ ap suc (first block refl scope (End (length scope) ∷ Turn z ∷ rest))
parts_count (stmt.Break place) z scope rest is first other = refl
parts_count (stmt.Return place value) z scope rest is first other = refl
parts_count (stmt.Atomic place to block) z scope rest is first other =
    among_one (record { statement = z; scope = scope; rest = rest }) [] false (looks (record { statement = z; scope = scope; rest = rest }) (stmt.Atomic place to block) is)
parts_count (stmt.Call place call to) z scope rest is first other =
    among_one (record { statement = z; scope = scope; rest = rest }) [] false (looks (record { statement = z; scope = scope; rest = rest }) (stmt.Call place call to) is)

abbrev CountsOf : Stmt → Type 0
CountsOf s = (scope : List ℕ) (rest : List Thing) → loops_among (spots_of (out-Stmt s) s scope rest) ≡ loops_of (out-Stmt s)

module _ (S B : Type 0) (f : S → Stmt) (g : B → Block) (of_f : (s : S) → CountsOf (f s)) (of_g : (b : B) → Counts (g b)) where
  same_counts : (b : B) (c : Block) → Some (g b) ≡ Some c → Counts c
  same_counts b c is = let e : g b ≡ c = cc in subst Counts e (of_g b)

  firsts : (x : Stmt-F S B) (c : Block) → first_block (map-Stmt S B Stmt Block f g x) ≡ Some c → Counts c
  firsts (stmt.Let at e) c is = cc
  firsts (stmt.Set at e) c is = cc
  firsts (stmt.Apply to callee arguments) c is = cc
  firsts (stmt.If e block None) c is = same_counts block c is
  firsts (stmt.If e block (Some other)) c is = same_counts block c is
  firsts (stmt.While e block) c is = same_counts block c is
  firsts (stmt.Ploop place block) c is = same_counts block c is
  firsts (stmt.Break place) c is = cc
  firsts (stmt.Return place None) c is = cc
  firsts (stmt.Return place (Some value)) c is = cc
  firsts (stmt.Atomic place to block) c is = cc
  firsts (stmt.Call place call to) c is = cc

  others : (x : Stmt-F S B) (c : Block) → other_block (map-Stmt S B Stmt Block f g x) ≡ Some c → Counts c
  others (stmt.Let at e) c is = cc
  others (stmt.Set at e) c is = cc
  others (stmt.Apply to callee arguments) c is = cc
  others (stmt.If e block None) c is = cc
  others (stmt.If e block (Some other)) c is = same_counts other c is
  others (stmt.While e block) c is = cc
  others (stmt.Ploop place block) c is = cc
  others (stmt.Break place) c is = cc
  others (stmt.Return place None) c is = cc
  others (stmt.Return place (Some value)) c is = cc
  others (stmt.Atomic place to block) c is = cc
  others (stmt.Call place call to) c is = cc

  layer_counts : (x : Stmt-F S B) → CountsOf (roll-Stmt (map-Stmt S B Stmt Block f g x))
  layer_counts x scope rest =
      let y = map-Stmt S B Stmt Block f g x in
      let z = roll-Stmt y in
      let is = out-roll-Stmt y in
      ap (λ l. loops_among (spots_of l z scope rest)) is ∙ parts_count y z scope rest is (firsts x) (others x) ∙ sym (ap loops_of is)

  turn_counts : (ss : List S) (scope : List ℕ) (after : List Thing) → loops_among (spots_from (map f ss) scope after) ≡ loops_from (map f ss)
  unfolding loops_among
  turn_counts [] scope after = refl
  turn_counts (s ∷ ss) scope after =
      among_append (spots_of (out-Stmt (f s)) (f s) scope (map Do (map f ss) ++ after)) (spots_from (map f ss) (scope ++ declared_by (out-Stmt (f s))) after)
      ∙ ap (λ n. n + loops_among (spots_from (map f ss) (scope ++ declared_by (out-Stmt (f s))) after)) (of_f s scope (map Do (map f ss) ++ after))
      ∙ ap (λ n. loops_of (out-Stmt (f s)) + n) (turn_counts ss (scope ++ declared_by (out-Stmt (f s))) after)

  block_counts : (x : Block-F S B) → Counts (roll-Block (map-Block S B Stmt Block f g x))
  block_counts x scope after =
      let y = map-Block S B Stmt Block f g x in
      let z = roll-Block y in
      let is = ap (λ (b : Block-F Stmt Block). b.stmts) (out-roll-Block y) in
      ap loops_among (spots_out z scope after) ∙ ap (λ ss. loops_among (spots_from ss scope after)) is ∙ turn_counts x.stmts scope after ∙ sym (ap loops_from is) ∙ sym (loops_out z)

-- the persistent loops among the spots of a block are counted without its scope
pub loops_count : (b : Block) → Counts b
loops_count b = each_block CountsOf Counts (λ S B f g of_f of_g x. layer_counts S B f g of_f of_g x) (λ S B f g of_f of_g x. block_counts S B f g of_f of_g x) b

-- and those of a statement
pub loops_count_of : (s : Stmt) → CountsOf s
loops_count_of s scope rest = parts_count (out-Stmt s) s scope rest refl (λ b is. loops_count b) (λ b is. loops_count b)
