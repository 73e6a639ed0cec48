use Rattle.thread_tree.specs.declared.token.Word.TheVariants as word
use Rattle.thread_tree.specs.SpellingOfDeclarations.{thread}
use Rattle.thread_text.proofs.cursor.Cursor.thread_declaration.Goals as goal

pub returns-clause-tree : goal.returns-clause-tree
returns-clause-tree c = thread (c.skip_word.ensures.any word.Thread c.requires.word) c.in_ok-name.ensures.tree c.in_ok-expect.ensures.any c.in_ok-parameters.ensures.tree c.in_ok-expect_word.ensures.any c.in_ok-priority.ensures.tree c.in_ok-body.ensures.tree
