use Rattle.thread_tree.specs.declared.token.Word.TheVariants as word
use Rattle.thread_tree.specs.SpellingOfBlocks.{let_to}
use Rattle.thread_text.proofs.Layers.{out_let}
use Rattle.thread_text.proofs.cursor.Cursor.let_statement.Goals as goal

pub returns-clause-tree : goal.returns-clause-tree
returns-clause-tree c = let_to (out_let c.in_ok-name.name c.in_ok-value.value) (c.skip_word.ensures.any word.Let c.requires.word) c.in_ok-name.ensures.tree c.in_ok-expect.ensures.any c.in_ok-value.ensures.tree c.in_ok-expect-2.ensures.any
