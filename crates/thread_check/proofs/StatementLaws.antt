-- The rules of a body by layers.
use Rattle.std.proofs.Common.{◌≡◌, refl, ap, ◌∙◌, Some, None}
use Rattle.thread_tree.specs.declared.block.Block.{Block, out-Block, fold_out-Block}
use Rattle.thread_tree.specs.declared.block.Stmt.{Stmt, out-Stmt, fold_out-Stmt, map-Stmt}
use Rattle.thread_tree.specs.declared.block.Stmt.TheOpen.{Stmt-F, Block-F}
use Rattle.thread_tree.specs.declared.block.Stmt.TheOpen as stmt
use Rattle.thread_check.specs.Scope.{Scope}
use Rattle.thread_check.specs.Names.{Names}
use Rattle.thread_check.specs.Blocks.{Rule}
use Rattle.thread_check.specs.Statements.{statement_layer, block_layer, statement_rule, block_rule, statement_parts, block_parts}

-- a block is the rule of its parts
pub block_rule_out : (names : Names) (b : Block) (scope : Scope) → block_rule names b scope ≡ block_parts names (out-Block b) scope
unfolding block_rule statement_rule
block_rule_out names b scope = ap (λ rule. rule scope) (fold_out-Block Rule Rule (statement_layer names (λ rule. rule)) block_layer b)

-- the blocks of a layer may be read after or before their rules are
layer_of_rules : (names : Names) (stmt : Stmt-F Stmt Block) → statement_layer names (λ rule. rule) (map-Stmt Stmt Block Rule Rule (statement_rule names) (block_rule names) stmt) ≡ statement_parts names stmt
layer_of_rules names (stmt.Let at e) = refl
layer_of_rules names (stmt.Set at e) = refl
layer_of_rules names (stmt.Apply to callee arguments) = refl
layer_of_rules names (stmt.If e then_block None) = refl
layer_of_rules names (stmt.If e then_block (Some block)) = refl
layer_of_rules names (stmt.While e body) = refl
layer_of_rules names (stmt.Ploop place body) = refl
layer_of_rules names (stmt.Break place) = refl
layer_of_rules names (stmt.Return place None) = refl
layer_of_rules names (stmt.Return place (Some e)) = refl
layer_of_rules names (stmt.Atomic place to body) = refl
layer_of_rules names (stmt.Call place call to) = refl

-- a statement is the rule of its parts
pub statement_rule_out : (names : Names) (s : Stmt) (scope : Scope) → statement_rule names s scope ≡ statement_parts names (out-Stmt s) scope
unfolding block_rule statement_rule
statement_rule_out names s scope =
    ap (λ rule. rule scope) (fold_out-Stmt Rule Rule (statement_layer names (λ rule. rule)) block_layer s ∙ layer_of_rules names (out-Stmt s))
