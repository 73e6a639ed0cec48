use Rattle.std.proofs.Common.{rules, ◌∙◌}
use Rattle.thread_tree.proofs.Callers.{prefix_seen, binary_seen}
use Rattle.thread_check.proofs.names.Names.+expression.Goals as goal

pub returns-in-Prefix : goal.returns-in-Prefix
returns-in-Prefix t c = rw (c.in-Prefix.is ∙ prefix_seen _ _) (search rules)

pub returns-in_err-expression-in-Binary : goal.returns-in_err-expression-in-Binary
returns-in_err-expression-in-Binary t c = rw (c.in-Binary.is ∙ binary_seen _ _ _) (search rules)

pub returns-in_ok-expression-in-Binary : goal.returns-in_ok-expression-in-Binary
returns-in_ok-expression-in-Binary t c = rw (c.in-Binary.is ∙ binary_seen _ _ _) (search rules)
