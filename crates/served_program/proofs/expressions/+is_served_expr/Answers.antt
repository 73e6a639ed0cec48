use Rattle.std.proofs.Common.{rules, ◌∙◌}
use Rattle.thread_tree.proofs.Callers.{prefix_seen, binary_seen}
use Rattle.served_program.proofs.expressions.+is_served_expr.Goals as goal

pub returns-in-Prefix : goal.returns-in-Prefix
returns-in-Prefix t c = rw (c.in-Prefix.is ∙ prefix_seen _ _) (search rules)

pub returns-then-is_served_expr : goal.returns-then-is_served_expr
returns-then-is_served_expr t c = rw (c.in-Binary.is ∙ binary_seen _ _ _) (search rules)

pub returns-else-is_served_expr : goal.returns-else-is_served_expr
returns-else-is_served_expr t c = rw (c.in-Binary.is ∙ binary_seen _ _ _) (search rules)
