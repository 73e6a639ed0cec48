use Rattle.std.proofs.Common.{rules}
use Rattle.thread_tree.specs.SpellingOfDeclarations.{no_channel, channel}
use Rattle.thread_text.proofs.cursor.Cursor.channel.Goals as goal

pub returns-then-not-eat_word-clause-tree : goal.returns-then-not-eat_word-clause-tree
returns-then-not-eat_word-clause-tree c = search (rules, no_channel)

pub returns-clause-tree : goal.returns-clause-tree
returns-clause-tree c = search (rules, channel, c.eat_word.ensures.taken)
