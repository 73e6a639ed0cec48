-- Statements and blocks whose layers are the same are the same.
use Rattle.std.proofs.Common.{◌≡◌, sym, ap, ◌∙◌}
use Rattle.thread_tree.specs.declared.block.Block.{Block, out-Block, roll-Block, roll-out-Block}
use Rattle.thread_tree.specs.declared.block.Stmt.{Stmt, out-Stmt, roll-Stmt, roll-out-Stmt}
use Rattle.thread_tree.specs.declared.block.Stmt.TheOpen.{Stmt-F}
use Rattle.thread_tree.specs.declared.transaction.TBlock.{TBlock, out-TBlock, roll-TBlock, roll-out-TBlock}
use Rattle.thread_tree.specs.declared.transaction.TStmt.{TStmt, out-TStmt, roll-TStmt, roll-out-TStmt}
use Rattle.thread_tree.specs.declared.transaction.TStmt.TheOpen.{TStmt-F}

pub same_tstmt : {s t : TStmt} {x y : TStmt-F TStmt TBlock} → out-TStmt s ≡ x → out-TStmt t ≡ y → x ≡ y → s ≡ t
same_tstmt {s} {t} h k e = sym (roll-out-TStmt s) ∙ (ap roll-TStmt (h ∙ (e ∙ sym k)) ∙ roll-out-TStmt t)

pub same_tblock : {b c : TBlock} → (out-TBlock b).place ≡ (out-TBlock c).place → (out-TBlock b).stmts ≡ (out-TBlock c).stmts → b ≡ c
same_tblock {b} {c} place stmts =
    sym (roll-out-TBlock b) ∙ (ap roll-TBlock (λ i. record { place = place i; stmts = stmts i }) ∙ roll-out-TBlock c)

pub same_stmt : {s t : Stmt} {x y : Stmt-F Stmt Block} → out-Stmt s ≡ x → out-Stmt t ≡ y → x ≡ y → s ≡ t
same_stmt {s} {t} h k e = sym (roll-out-Stmt s) ∙ (ap roll-Stmt (h ∙ (e ∙ sym k)) ∙ roll-out-Stmt t)

pub same_block : {b c : Block} → (out-Block b).place ≡ (out-Block c).place → (out-Block b).stmts ≡ (out-Block c).stmts → b ≡ c
same_block {b} {c} place stmts =
    sym (roll-out-Block b) ∙ (ap roll-Block (λ i. record { place = place i; stmts = stmts i }) ∙ roll-out-Block c)
