use Rattle.std.proofs.Common.{◌∙◌, refl}
use Rattle.thread_tree.proofs.Callers.{binary_seen, prefix_seen}
use Rattle.thread_print.proofs.expressions.is_compound.Goals as goal

pub returns-in-Prefix : goal.returns-in-Prefix
returns-in-Prefix c = rw (c.in-Prefix.is ∙ prefix_seen _ _) refl

pub returns-in-Binary : goal.returns-in-Binary
returns-in-Binary c = rw (c.in-Binary.is ∙ binary_seen _ _ _) refl
