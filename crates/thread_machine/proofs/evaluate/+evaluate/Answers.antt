use Rattle.std.proofs.Common.{rules, ◌∙◌}
use Rattle.thread_tree.proofs.Callers.{prefix_seen, binary_seen}
use Rattle.thread_machine.proofs.evaluate.+evaluate.Goals as goal

pub returns-in-Prefix : goal.returns-in-Prefix
returns-in-Prefix t c = rw (c.in-Prefix.is ∙ prefix_seen _ _) (search rules)

pub returns-in-Binary : goal.returns-in-Binary
returns-in-Binary t c = rw (c.in-Binary.is ∙ binary_seen _ _ _) (search rules)
