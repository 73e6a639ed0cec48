-- What is served, by layers.
use Rattle.std.proofs.Common.{◌≡◌, ℕ, zero, suc, Bool, List, [], ◌∷◌, refl, sym, subst, ◌∙◌, Some, None}
use Rattle.std.specs.Prelude.{IsTrue}
use Rattle.std.specs.List.{list_all, slice_get}
use Rattle.std.proofs.lemmas.Bool.{and_parts}
use Rattle.std.proofs.lemmas.List.Folds.{list_all-map}
use Rattle.thread_tree.specs.declared.block.Block.{Block, out-Block, fold_out-Block}
use Rattle.thread_tree.specs.declared.block.Stmt.{Stmt, out-Stmt, fold_out-Stmt, map-Stmt}
use Rattle.thread_tree.specs.declared.block.Stmt.TheOpen.{Stmt-F, Block-F}
use Rattle.thread_tree.specs.declared.block.Stmt.TheOpen as stmt
use Rattle.thread_tree.specs.declared.transaction.TBlock.{TBlock, out-TBlock, fold_out-TBlock}
use Rattle.thread_tree.specs.declared.transaction.TStmt.{TStmt, out-TStmt, fold_out-TStmt, map-TStmt}
use Rattle.thread_tree.specs.declared.transaction.TStmt.TheOpen.{TStmt-F, TBlock-F}
use Rattle.thread_tree.specs.declared.transaction.TStmt.TheOpen as tstmt
use Rattle.served_program.specs.Served.{is_served_tlayer, is_served_tblock_layer, is_served_tstmt, is_served_tblock, is_served_layer, is_served_block_layer, is_served_stmt, is_served_block}

-- a block of an `atomic` block is served where its statements are
pub is_served_tblock_out : (b : TBlock) → is_served_tblock b ≡ list_all is_served_tstmt (out-TBlock b).stmts
unfolding is_served_tblock is_served_tstmt
is_served_tblock_out b =
    fold_out-TBlock Bool Bool (is_served_tlayer (λ served. served)) is_served_tblock_layer b
    ∙ list_all-map (λ served. served) is_served_tstmt (out-TBlock b).stmts

-- the blocks of a layer may be tested after or before
tlayer_read : (x : TStmt-F TStmt TBlock) → is_served_tlayer (λ served. served) (map-TStmt TStmt TBlock Bool Bool is_served_tstmt is_served_tblock x) ≡ is_served_tlayer is_served_tblock x
tlayer_read (tstmt.Let at e) = refl
tlayer_read (tstmt.LetNew at kind) = refl
tlayer_read (tstmt.Set at e) = refl
tlayer_read (tstmt.SetNew at kind) = refl
tlayer_read (tstmt.Store field e) = refl
tlayer_read (tstmt.Free e) = refl
tlayer_read (tstmt.If e then_block None) = refl
tlayer_read (tstmt.If e then_block (Some block)) = refl
tlayer_read (tstmt.While e body) = refl
tlayer_read (tstmt.Break place) = refl
tlayer_read (tstmt.Abort place) = refl
tlayer_read (tstmt.Give place es) = refl

-- a statement of an `atomic` block is served where its layer is
pub is_served_tstmt_out : (s : TStmt) → is_served_tstmt s ≡ is_served_tlayer is_served_tblock (out-TStmt s)
unfolding is_served_tblock is_served_tstmt
is_served_tstmt_out s =
    fold_out-TStmt Bool Bool (is_served_tlayer (λ served. served)) is_served_tblock_layer s ∙ tlayer_read (out-TStmt s)

-- a block of a body is served where its statements are
pub is_served_block_out : (b : Block) → is_served_block b ≡ list_all is_served_stmt (out-Block b).stmts
unfolding is_served_block is_served_stmt
is_served_block_out b =
    fold_out-Block Bool Bool (is_served_layer (λ served. served)) is_served_block_layer b
    ∙ list_all-map (λ served. served) is_served_stmt (out-Block b).stmts

-- the blocks of a layer may be tested after or before
layer_read : (x : Stmt-F Stmt Block) → is_served_layer (λ served. served) (map-Stmt Stmt Block Bool Bool is_served_stmt is_served_block x) ≡ is_served_layer is_served_block x
layer_read (stmt.Let at e) = refl
layer_read (stmt.Set at e) = refl
layer_read (stmt.Apply to callee arguments) = refl
layer_read (stmt.If e then_block None) = refl
layer_read (stmt.If e then_block (Some block)) = refl
layer_read (stmt.While e body) = refl
layer_read (stmt.Ploop place body) = refl
layer_read (stmt.Break place) = refl
layer_read (stmt.Return place value) = refl
layer_read (stmt.Atomic place to body) = refl
layer_read (stmt.Call place c to) = refl

-- a statement of a body is served where its layer is
pub is_served_stmt_out : (s : Stmt) → is_served_stmt s ≡ is_served_layer is_served_block (out-Stmt s)
unfolding is_served_block is_served_stmt
is_served_stmt_out s =
    fold_out-Stmt Bool Bool (is_served_layer (λ served. served)) is_served_block_layer s ∙ layer_read (out-Stmt s)

-- what stands at a place of a list that passes a test
pub passes_at : {X : Type 0} (test : X → Bool) (xs : List X) (i : ℕ) (x : X) → IsTrue (list_all test xs) → slice_get xs i ≡ Some x → IsTrue (test x)
passes_at test [] i x all there = cc
passes_at test (y ∷ xs) zero x all there = let same : y ≡ x = cc in subst (λ z. IsTrue (test z)) same (and_parts (test y) (list_all test xs) all).0
passes_at test (y ∷ xs) (suc i) x all there = passes_at test xs i x (and_parts (test y) (list_all test xs) all).1 there

-- the statements of a served block of a transaction
pub tstmts_served : (b : TBlock) → IsTrue (is_served_tblock b) → IsTrue (list_all is_served_tstmt (out-TBlock b).stmts)
tstmts_served b served = sym (is_served_tblock_out b) ∙ served

-- the statement at a place of served statements of a transaction
pub tstmt_served_at : (stmts : List TStmt) (i : ℕ) (s : TStmt) → IsTrue (list_all is_served_tstmt stmts) → slice_get stmts i ≡ Some s → IsTrue (is_served_tlayer is_served_tblock (out-TStmt s))
tstmt_served_at stmts i s all there = sym (is_served_tstmt_out s) ∙ passes_at is_served_tstmt stmts i s all there

-- the statements of a served block of a body
pub stmts_served : (b : Block) → IsTrue (is_served_block b) → IsTrue (list_all is_served_stmt (out-Block b).stmts)
stmts_served b served = sym (is_served_block_out b) ∙ served

-- the statement at a place of served statements of a body
pub stmt_served_at : (stmts : List Stmt) (i : ℕ) (s : Stmt) → IsTrue (list_all is_served_stmt stmts) → slice_get stmts i ≡ Some s → IsTrue (is_served_layer is_served_block (out-Stmt s))
stmt_served_at stmts i s all there = sym (is_served_stmt_out s) ∙ passes_at is_served_stmt stmts i s all there
