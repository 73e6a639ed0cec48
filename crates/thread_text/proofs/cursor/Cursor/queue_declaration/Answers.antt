use Rattle.thread_tree.specs.declared.token.Word.TheVariants as word
use Rattle.thread_tree.specs.SpellingOfDeclarations.{queue}
use Rattle.thread_text.proofs.cursor.Cursor.queue_declaration.Goals as goal

pub returns-clause-tree : goal.returns-clause-tree
returns-clause-tree c = queue (c.skip_word.ensures.any word.Queue c.requires.word) c.in_ok-name.ensures.tree c.in_ok-expect.ensures.any c.in_ok-capacity.ensures.tree c.in_ok-expect-2.ensures.any c.in_ok-channel.ensures.tree
