use Rattle.std.proofs.Common.{rules}
use Rattle.thread_tree.specs.SpellingOfCalls.{no_results, results}
use Rattle.thread_text.proofs.cursor.Cursor.results.Goals as goal

pub returns-then-not-eat-clause-tree : goal.returns-then-not-eat-clause-tree
returns-then-not-eat-clause-tree c = search (rules, no_results)

pub returns-clause-tree : goal.returns-clause-tree
returns-clause-tree c = search (rules, results, c.eat.ensures.taken)
