-- The loop is in one of the blocks of an `if`.
use Rattle.std.proofs.Common.{◌≡◌, ◌∙◌, ap, sym, arith}
use Rattle.thread_tree.specs.declared.block.Stmt.{out-Stmt, out-roll-Stmt}
use Rattle.thread_tree.specs.declared.block.Stmt.TheOpen as stmt
use Rattle.thread_tree.specs.declared.block.Stmt.TheVariants.{rolls-If}
use Rattle.thread_machine.proofs.InnerLemmas.{counted_first, counted_other}
use Rattle.thread_machine.proofs.seek.inner.Goals as goal

pub returns-then-left-count-clause-inner : goal.returns-then-left-count-clause-inner
returns-then-left-count-clause-inner c p =
    let layer : out-Stmt c.args.statement.now ≡ stmt.If c.in-If.field-0 c.in-If.block c.in-If.field-2 =
    ap out-Stmt (c.in-If.is ∙ sym (rolls-If c.in-If.field-0 c.in-If.block c.in-If.field-2)) ∙ out-roll-Stmt (stmt.If c.in-If.field-0 c.in-If.block c.in-If.field-2) in
    counted_first p c.args.statement.now c.in-If.field-0 c.in-If.block c.in-If.field-2 c.args.left c.loops_in-count.result layer c.requires.few c.loops_in-count.ensures.count c.if-left-count.true

pub returns-else-left-count-clause-inner : goal.returns-else-left-count-clause-inner
returns-else-left-count-clause-inner c p =
    let layer : out-Stmt c.args.statement.now ≡ stmt.If c.in-If.field-0 c.in-If.block c.in-If.field-2 =
    ap out-Stmt (c.in-If.is ∙ sym (rolls-If c.in-If.field-0 c.in-If.block c.in-If.field-2)) ∙ out-roll-Stmt (stmt.If c.in-If.field-0 c.in-If.block c.in-If.field-2) in
    counted_other p c.args.statement.now c.in-If.field-0 c.in-If.block c.in-If.field-2 c.args.left c.loops_in-count.result layer c.requires.few c.loops_in-count.ensures.count (omega (arith, c.if-left-count.false)) c.requires.inside
