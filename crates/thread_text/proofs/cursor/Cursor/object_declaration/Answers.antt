use Rattle.thread_tree.specs.declared.token.Word.TheVariants as word
use Rattle.thread_tree.specs.SpellingOfDeclarations.{object}
use Rattle.thread_text.proofs.cursor.Cursor.object_declaration.Goals as goal

pub returns-clause-tree : goal.returns-clause-tree
returns-clause-tree c = object (c.skip_word.ensures.any word.Object c.requires.word) c.in_ok-name.ensures.tree c.in_ok-expect.ensures.any c.in_ok-kind.ensures.tree c.in_ok-expect-2.ensures.any
