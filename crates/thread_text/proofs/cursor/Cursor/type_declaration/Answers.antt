use Rattle.thread_tree.specs.declared.token.Word.TheVariants as word
use Rattle.thread_tree.specs.SpellingOfDeclarations.{kind}
use Rattle.thread_text.proofs.cursor.Cursor.type_declaration.Goals as goal

pub returns-clause-tree : goal.returns-clause-tree
returns-clause-tree c = kind (c.skip_word.ensures.any word.Type c.requires.word) c.in_ok-name.ensures.tree c.in_ok-expect.ensures.any c.in_ok-fields.ensures.tree c.in_ok-expect-2.ensures.any
