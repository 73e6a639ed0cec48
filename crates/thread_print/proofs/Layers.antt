-- The tokens of statements and blocks by layers.
use Rattle.std.proofs.Common.{◌≡◌, List, ◌++◌, Some, None, refl, sym, ap, ◌∙◌}
use Rattle.std.proofs.lemmas.List.Folds.{flat_map-map}
use Rattle.thread_tree.specs.declared.token.Token.{Token}
use Rattle.thread_tree.specs.declared.token.Mark.TheVariants.{OpenBrace, CloseBrace}
use Rattle.thread_tree.specs.declared.transaction.TBlock.{TBlock, out-TBlock, fold_out-TBlock}
use Rattle.thread_tree.specs.declared.transaction.TStmt.{TStmt, out-TStmt, fold_out-TStmt, map-TStmt}
use Rattle.thread_tree.specs.declared.transaction.TStmt.TheOpen.{TStmt-F, TBlock-F}
use Rattle.thread_tree.specs.declared.transaction.TStmt.TheOpen as tstmt
use Rattle.thread_tree.specs.declared.block.Block.{Block, out-Block, fold_out-Block}
use Rattle.thread_tree.specs.declared.block.Stmt.{Stmt, out-Stmt, fold_out-Stmt, map-Stmt}
use Rattle.thread_tree.specs.declared.block.Stmt.TheOpen.{Stmt-F, Block-F}
use Rattle.thread_tree.specs.declared.block.Stmt.TheOpen as stmt
use Rattle.thread_print.specs.Canonical.{mark, statement_layer, block_layer, statement, block, statement_parts, block_parts, tstatement_layer, tblock_layer, tstatement, tblock, tstatement_parts, tblock_parts}

-- a block is what its statements are, in braces
pub tblock_out : (b : TBlock) → tblock b ≡ tblock_parts (out-TBlock b)
unfolding tblock tstatement
tblock_out b = fold_out-TBlock (List Token) (List Token) (tstatement_layer (λ tokens. tokens)) tblock_layer b ∙ ap (λ ts. mark OpenBrace ++ ts ++ mark CloseBrace) (flat_map-map (λ tokens. tokens) tstatement (out-TBlock b).stmts)

-- the blocks of a layer may be taken apart after or before the layer is
tlayer_of_tokens : (stmt : TStmt-F TStmt TBlock) → tstatement_layer (λ tokens. tokens) (map-TStmt TStmt TBlock (List Token) (List Token) tstatement tblock stmt) ≡ tstatement_parts stmt
tlayer_of_tokens (tstmt.Let at e) = refl
tlayer_of_tokens (tstmt.LetNew at kind) = refl
tlayer_of_tokens (tstmt.Set at e) = refl
tlayer_of_tokens (tstmt.SetNew at kind) = refl
tlayer_of_tokens (tstmt.Store field e) = refl
tlayer_of_tokens (tstmt.Free e) = refl
tlayer_of_tokens (tstmt.If e then_block None) = refl
tlayer_of_tokens (tstmt.If e then_block (Some block)) = refl
tlayer_of_tokens (tstmt.While e body) = refl
tlayer_of_tokens (tstmt.Break place) = refl
tlayer_of_tokens (tstmt.Abort place) = refl
tlayer_of_tokens (tstmt.Give place es) = refl

pub tstatement_out : (s : TStmt) → tstatement s ≡ tstatement_parts (out-TStmt s)
unfolding tblock tstatement
tstatement_out s = fold_out-TStmt (List Token) (List Token) (tstatement_layer (λ tokens. tokens)) tblock_layer s ∙ tlayer_of_tokens (out-TStmt s)

-- the same outside of `atomic`
pub block_out : (b : Block) → block b ≡ block_parts (out-Block b)
unfolding block statement
block_out b = fold_out-Block (List Token) (List Token) (statement_layer (λ tokens. tokens)) block_layer b ∙ ap (λ ts. mark OpenBrace ++ ts ++ mark CloseBrace) (flat_map-map (λ tokens. tokens) statement (out-Block b).stmts)

layer_of_tokens : (s : Stmt-F Stmt Block) → statement_layer (λ tokens. tokens) (map-Stmt Stmt Block (List Token) (List Token) statement block s) ≡ statement_parts s
layer_of_tokens (stmt.Let at e) = refl
layer_of_tokens (stmt.Set at e) = refl
layer_of_tokens (stmt.Apply at function es) = refl
layer_of_tokens (stmt.If e then_block None) = refl
layer_of_tokens (stmt.If e then_block (Some other)) = refl
layer_of_tokens (stmt.While e body) = refl
layer_of_tokens (stmt.Ploop place body) = refl
layer_of_tokens (stmt.Break place) = refl
layer_of_tokens (stmt.Return place value) = refl
layer_of_tokens (stmt.Atomic place ats body) = refl
layer_of_tokens (stmt.Call place action ats) = refl

pub statement_out : (s : Stmt) → statement s ≡ statement_parts (out-Stmt s)
unfolding block statement
statement_out s = fold_out-Stmt (List Token) (List Token) (statement_layer (λ tokens. tokens)) block_layer s ∙ layer_of_tokens (out-Stmt s)

-- the tokens of a statement of which it is known what it is made of
pub tstated : (s : TStmt) {x : TStmt-F TStmt TBlock} → out-TStmt s ≡ x → tstatement_parts x ≡ tstatement s
tstated s {x} is = sym (tstatement_out s ∙ ap tstatement_parts is)

pub stated : (s : Stmt) {x : Stmt-F Stmt Block} → out-Stmt s ≡ x → statement_parts x ≡ statement s
stated s {x} is = sym (statement_out s ∙ ap statement_parts is)
