use Rattle.std.proofs.Common.{◌∙◌, refl}
use Rattle.thread_tree.proofs.Callers.{binary_seen, prefix_seen}
use Rattle.thread_print.proofs.Loops.{wrote_operand}
use Rattle.thread_print.proofs.Writer.{wrote_two}
use Rattle.thread_print.proofs.printer.Printer.+expression.Goals as goal

pub returns-in-Prefix : goal.returns-in-Prefix
returns-in-Prefix t c =
    let inside = wrote_operand c.in-Prefix.operand c.deref.result.now c.deref-in-Prefix.result.now c.deref-in-Prefix-2.result.now c.deref.ensures.value c.deref-in-Prefix.ensures.value c.deref-in-Prefix-2.ensures.value c.is_compound.ensures c.is_compound-in-Prefix.ensures c.mark_if.ensures c.expression.ensures c.mark_if-in-Prefix.ensures in
    rw (c.in-Prefix.is ∙ prefix_seen _ _) (wrote_two c.operator.ensures inside refl)

pub returns-in-Binary : goal.returns-in-Binary
returns-in-Binary t c =
    let left = wrote_operand c.in-Binary.left c.deref-in-Binary.result.now c.deref-in-Binary-2.result.now c.deref-in-Binary-3.result.now c.deref-in-Binary.ensures.value c.deref-in-Binary-2.ensures.value c.deref-in-Binary-3.ensures.value c.is_compound-in-Binary.ensures c.is_compound-in-Binary-2.ensures c.mark_if-in-Binary.ensures c.expression-in-Binary.ensures c.mark_if-in-Binary-2.ensures in
    let right = wrote_operand c.in-Binary.right c.deref-in-Binary-4.result.now c.deref-in-Binary-5.result.now c.deref-in-Binary-6.result.now c.deref-in-Binary-4.ensures.value c.deref-in-Binary-5.ensures.value c.deref-in-Binary-6.ensures.value c.is_compound-in-Binary-3.ensures c.is_compound-in-Binary-4.ensures c.mark_if-in-Binary-3.ensures c.expression-in-Binary-2.ensures c.mark_if-in-Binary-4.ensures in
    rw (c.in-Binary.is ∙ binary_seen _ _ _) (wrote_two left (wrote_two c.operator-in-Binary.ensures right refl) refl)
