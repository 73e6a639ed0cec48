use Rattle.thread_tree.specs.declared.token.Word.TheVariants as word
use Rattle.thread_tree.specs.SpellingOfDeclarations.{start}
use Rattle.thread_text.proofs.cursor.Cursor.start_declaration.Goals as goal

pub returns-clause-tree : goal.returns-clause-tree
returns-clause-tree c = start (c.skip_word-place.ensures.word word.Start c.requires.word) c.in_ok-thread.ensures.tree c.in_ok-expect.ensures.any c.in_ok-arguments.ensures.tree c.in_ok-expect-2.ensures.any
