use Rattle.std.proofs.Common.{rules}
use Rattle.thread_tree.specs.SpellingOfBlocks.{no_given, given}
use Rattle.thread_text.proofs.cursor.Cursor.atomic_names.Goals as goal

pub returns-then-not-eat-clause-tree : goal.returns-then-not-eat-clause-tree
returns-then-not-eat-clause-tree c = search (rules, no_given)

pub returns-clause-tree : goal.returns-clause-tree
returns-clause-tree c = given (c.eat.ensures.taken (search rules)) c.in_ok-names.ensures.tree
