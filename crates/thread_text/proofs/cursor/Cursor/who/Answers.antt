use Rattle.std.proofs.Common.{rules}
use Rattle.thread_tree.specs.SpellingOfCalls.{own, of}
use Rattle.thread_text.proofs.cursor.Cursor.who.Goals as goal

pub returns-then-eat_word-clause-tree : goal.returns-then-eat_word-clause-tree
returns-then-eat_word-clause-tree c = search (rules, own, c.eat_word.ensures.taken)

pub returns-clause-tree : goal.returns-clause-tree
returns-clause-tree c = search (rules, of)
