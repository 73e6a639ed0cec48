-- The rules of a transaction by layers.
use Rattle.std.proofs.Common.{◌≡◌, refl, ap, ◌∙◌, Some, None}
use Rattle.thread_tree.specs.declared.transaction.TBlock.{TBlock, out-TBlock, fold_out-TBlock}
use Rattle.thread_tree.specs.declared.transaction.TStmt.{TStmt, out-TStmt, fold_out-TStmt, map-TStmt}
use Rattle.thread_tree.specs.declared.transaction.TStmt.TheOpen.{TStmt-F, TBlock-F}
use Rattle.thread_tree.specs.declared.transaction.TStmt.TheOpen as tstmt
use Rattle.thread_check.specs.Scope.{Scope}
use Rattle.thread_check.specs.Blocks.{Rule}
use Rattle.thread_check.specs.Transactions.{Transaction, tstatement_layer, tblock_layer, tstatement_rule, tblock_rule, tstatement_parts, tblock_parts}

-- a block is the rule of its parts
pub tblock_rule_out : (t : Transaction) (b : TBlock) (scope : Scope) → tblock_rule t b scope ≡ tblock_parts t (out-TBlock b) scope
unfolding tblock_rule tstatement_rule
tblock_rule_out t b scope = ap (λ rule. rule scope) (fold_out-TBlock Rule Rule (tstatement_layer t (λ rule. rule)) tblock_layer b)

-- the blocks of a layer may be read after or before their rules are
layer_of_rules : (t : Transaction) (stmt : TStmt-F TStmt TBlock) → tstatement_layer t (λ rule. rule) (map-TStmt TStmt TBlock Rule Rule (tstatement_rule t) (tblock_rule t) stmt) ≡ tstatement_parts t stmt
layer_of_rules t (tstmt.Let at e) = refl
layer_of_rules t (tstmt.LetNew at kind) = refl
layer_of_rules t (tstmt.Set at e) = refl
layer_of_rules t (tstmt.SetNew at kind) = refl
layer_of_rules t (tstmt.Store field e) = refl
layer_of_rules t (tstmt.Free e) = refl
layer_of_rules t (tstmt.If e then_block None) = refl
layer_of_rules t (tstmt.If e then_block (Some block)) = refl
layer_of_rules t (tstmt.While e body) = refl
layer_of_rules t (tstmt.Break place) = refl
layer_of_rules t (tstmt.Abort place) = refl
layer_of_rules t (tstmt.Give place es) = refl

-- a statement is the rule of its parts
pub tstatement_rule_out : (t : Transaction) (s : TStmt) (scope : Scope) → tstatement_rule t s scope ≡ tstatement_parts t (out-TStmt s) scope
unfolding tblock_rule tstatement_rule
tstatement_rule_out t s scope =
    ap (λ rule. rule scope) (fold_out-TStmt Rule Rule (tstatement_layer t (λ rule. rule)) tblock_layer s ∙ layer_of_rules t (out-TStmt s))
