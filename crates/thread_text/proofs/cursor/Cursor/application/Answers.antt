use Rattle.thread_tree.specs.SpellingOfCalls.{applied_piece}
use Rattle.thread_text.proofs.cursor.Cursor.application.Goals as goal

pub returns-clause-tree : goal.returns-clause-tree
returns-clause-tree c = applied_piece c.in_ok-template.ensures.tree c.in_ok-expect.ensures.any c.in_ok-arguments.ensures.tree
