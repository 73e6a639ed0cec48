use Rattle.std.proofs.Common.{rules, ◌∙◌}
use Rattle.thread_tree.proofs.Callers.{prefix_seen, binary_seen}
use Rattle.user_transactions.proofs.expressions.+read.Goals as goal

pub returns-in_err-x-in-Prefix-clause-read : goal.returns-in_err-x-in-Prefix-clause-read
returns-in_err-x-in-Prefix-clause-read g t c = rw (c.in-Prefix.is ∙ prefix_seen _ _) (search rules)

pub returns-in_ok-x-in-Prefix-clause-read : goal.returns-in_ok-x-in-Prefix-clause-read
returns-in_ok-x-in-Prefix-clause-read g t c = rw (c.in-Prefix.is ∙ prefix_seen _ _) (search rules)

pub returns-in_err-x-in-Binary-clause-read : goal.returns-in_err-x-in-Binary-clause-read
returns-in_err-x-in-Binary-clause-read g t c = rw (c.in-Binary.is ∙ binary_seen _ _ _) (search rules)

pub returns-in_err-y-in-Binary-clause-read : goal.returns-in_err-y-in-Binary-clause-read
returns-in_err-y-in-Binary-clause-read g t c = rw (c.in-Binary.is ∙ binary_seen _ _ _) (search rules)

pub returns-in_ok-y-in-Binary-clause-read : goal.returns-in_ok-y-in-Binary-clause-read
returns-in_ok-y-in-Binary-clause-read g t c = rw (c.in-Binary.is ∙ binary_seen _ _ _) (search rules)
