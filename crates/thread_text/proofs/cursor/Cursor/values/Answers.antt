use Rattle.std.proofs.Common.{rules}
use Rattle.thread_tree.specs.SpellingOfTransactions.{no_values, values}
use Rattle.thread_text.proofs.cursor.Cursor.values.Goals as goal

pub returns-then-eat-clause-tree : goal.returns-then-eat-clause-tree
returns-then-eat-clause-tree c = search (rules, no_values, c.eat.ensures.taken)

pub returns-clause-tree : goal.returns-clause-tree
returns-clause-tree c = search (rules, values)
