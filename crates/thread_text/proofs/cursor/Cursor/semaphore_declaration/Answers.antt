use Rattle.thread_tree.specs.declared.token.Word.TheVariants as word
use Rattle.thread_tree.specs.SpellingOfDeclarations.{semaphore}
use Rattle.thread_text.proofs.cursor.Cursor.semaphore_declaration.Goals as goal

pub returns-clause-tree : goal.returns-clause-tree
returns-clause-tree c = semaphore (c.skip_word.ensures.any word.Semaphore c.requires.word) c.in_ok-name.ensures.tree c.in_ok-expect.ensures.any c.in_ok-start.ensures.tree c.in_ok-expect_word.ensures.any c.in_ok-most.ensures.tree c.in_ok-expect-2.ensures.any
