-- How many locals the statements of a block need.
use Rattle.std.proofs.Common.{◌≡◌, ℕ, ◌+◌, ◌≤◌, List, ◌∷◌, map, refl, ap, ◌∙◌, arith}
use Rattle.std.proofs.lemmas.Bool.{and_parts}
use Rattle.std.specs.Prelude.{Option, Some, None, IsTrue, max, ◌&&◌}
use Rattle.thread_tree.specs.declared.expr.Expr.{Expr}
use Rattle.thread_tree.specs.declared.transaction.TBlock.{TBlock, out-TBlock, fold_out-TBlock}
use Rattle.thread_tree.specs.declared.transaction.TStmt.{TStmt, out-TStmt, fold-TStmt, fold_out-TStmt, map-TStmt}
use Rattle.thread_tree.specs.declared.transaction.TStmt.TheOpen.{TStmt-F}
use Rattle.thread_tree.specs.declared.transaction.TStmt.TheOpen as tstmt
use Rattle.thread_tree.specs.Need.{Need, Weight, in_turn, opened, weight_of_tlayer, need_of_tlayer, need_of_tblock}
use Rattle.served_program.specs.Served.{is_served_tblock, is_served_expr, if_some}
use Rattle.user_transactions.specs.Steps.{declares, is_served_statement, blocks_need, need_if_some, IsInside}

-- the weight of a statement
unfoldable pub weight_of_tstmt : TStmt → Weight
weight_of_tstmt = fold-TStmt Weight Need weight_of_tlayer need_of_tlayer

-- a block needs what its statements need one after another
pub need_out : (b : TBlock) → need_of_tblock b ≡ opened (in_turn (map weight_of_tstmt (out-TBlock b).stmts))
unfolding need_of_tblock weight_of_tstmt
need_out b = fold_out-TBlock Weight Need weight_of_tlayer need_of_tlayer b

-- a statement's weight is that of its layer
pub weight_out : (s : TStmt) → weight_of_tstmt s ≡ weight_of_tlayer (map-TStmt TStmt TBlock Weight Need weight_of_tstmt need_of_tblock (out-TStmt s))
unfolding need_of_tblock weight_of_tstmt
weight_out s = fold_out-TStmt Weight Need weight_of_tlayer need_of_tlayer s

-- so many locals, with those of these statements, are at most 48
pub record HasRoom (locals : ℕ) (stmts : List TStmt) : Type 0 where
  pub room : locals + (in_turn (map weight_of_tstmt stmts)).locals ≤ 48

-- the first statement has room for what it declares, and the others behind it
layer-declares : (x : TStmt-F TStmt TBlock) → (weight_of_tlayer (map-TStmt TStmt TBlock Weight Need weight_of_tstmt need_of_tblock x)).declares ≡ declares x
layer-declares (tstmt.Let at e) = refl
layer-declares (tstmt.LetNew at kind) = refl
layer-declares (tstmt.Set at e) = refl
layer-declares (tstmt.SetNew at kind) = refl
layer-declares (tstmt.Store field e) = refl
layer-declares (tstmt.Free e) = refl
layer-declares (tstmt.If e block None) = refl
layer-declares (tstmt.If e block (Some other)) = refl
layer-declares (tstmt.While e block) = refl
layer-declares (tstmt.Break place) = refl
layer-declares (tstmt.Abort place) = refl
layer-declares (tstmt.Give place es) = refl

pub HasRoom-first : (locals : ℕ) (s : TStmt) (stmts : List TStmt) → HasRoom locals (s ∷ stmts) → locals + declares (out-TStmt s) ≤ 48
HasRoom-first locals s stmts h =
    let same = ap (λ (w : Weight). w.declares) (weight_out s) ∙ layer-declares (out-TStmt s) in
    omega (arith, h.room, same)

pub HasRoom-rest : (locals more : ℕ) (s : TStmt) (stmts : List TStmt) → more ≤ locals + declares (out-TStmt s) → HasRoom locals (s ∷ stmts) → HasRoom more stmts
HasRoom-rest locals more s stmts le h =
    let same = ap (λ (w : Weight). w.declares) (weight_out s) ∙ layer-declares (out-TStmt s) in
    record { room = omega (arith, h.room, same, le) }

-- the block of a statement has room
pub HasRoom-block : (locals : ℕ) (b : TBlock) → locals + (need_of_tblock b).locals ≤ 48 → HasRoom locals (out-TBlock b).stmts
HasRoom-block locals b room =
    let same = ap (λ (n : Need). n.locals) (need_out b) in
    record { room = omega (arith, room, same) }

-- a statement needs what it declares and what its blocks need
layer-inside : (x : TStmt-F TStmt TBlock) → declares x + blocks_need x ≤ (weight_of_tlayer (map-TStmt TStmt TBlock Weight Need weight_of_tstmt need_of_tblock x)).need.locals
layer-inside (tstmt.Let at e) = omega arith
layer-inside (tstmt.LetNew at kind) = omega arith
layer-inside (tstmt.Set at e) = omega arith
layer-inside (tstmt.SetNew at kind) = omega arith
layer-inside (tstmt.Store field e) = omega arith
layer-inside (tstmt.Free e) = omega arith
layer-inside (tstmt.If e block None) = omega arith
layer-inside (tstmt.If e block (Some other)) = omega arith
layer-inside (tstmt.While e block) = omega arith
layer-inside (tstmt.Break place) = omega arith
layer-inside (tstmt.Abort place) = omega arith
layer-inside (tstmt.Give place es) = omega arith

-- the block of a statement has room behind what the statement declares
pub HasRoom-inside : (locals more : ℕ) (s : TStmt) (stmts : List TStmt) (block : TBlock) → HasRoom locals (s ∷ stmts) → more ≤ locals + declares (out-TStmt s) → IsInside (out-TStmt s) block → more + (need_of_tblock block).locals ≤ 48
HasRoom-inside locals more s stmts block h le inside =
    let same = ap (λ (w : Weight). w.need.locals) (weight_out s) in
    omega (arith, h.room, same, le, inside.small, layer-inside (out-TStmt s))

-- the blocks of an `if` and of a `while`
pub inside_then : (e : Expr) (block : TBlock) (other : Option TBlock) → IsTrue (is_served_statement (tstmt.If e block other)) → IsInside (tstmt.If e block other) block
inside_then e block other served = record {
  served = (and_parts (is_served_expr e) (is_served_tblock block) (and_parts (is_served_expr e && is_served_tblock block) (if_some is_served_tblock other) served).0).1;
  small = omega arith;
}

pub inside_else : (e : Expr) (block other : TBlock) → IsTrue (is_served_statement (tstmt.If e block (Some other))) → IsInside (tstmt.If e block (Some other)) other
inside_else e block other served = record {
  served = (and_parts (is_served_expr e && is_served_tblock block) (is_served_tblock other) served).1;
  small = omega arith;
}

pub inside_while : (e : Expr) (block : TBlock) → IsTrue (is_served_statement (tstmt.While e block)) → IsInside (tstmt.While e block) block
inside_while e block served = record {
  served = (and_parts (is_served_expr e) (is_served_tblock block) served).1;
  small = omega arith;
}

pub ruleset inside_laws = (inside_then, inside_else, inside_while)
