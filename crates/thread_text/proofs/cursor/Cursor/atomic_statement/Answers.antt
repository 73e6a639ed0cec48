use Rattle.thread_tree.specs.declared.token.Word.TheVariants as word
use Rattle.thread_tree.specs.SpellingOfBlocks.{atomic}
use Rattle.thread_text.proofs.Layers.{out_atomic}
use Rattle.thread_text.proofs.cursor.Cursor.atomic_statement.Goals as goal

pub returns-clause-tree : goal.returns-clause-tree
returns-clause-tree c = atomic (out_atomic c.skip_word-place.result c.in_ok-names.names c.in_ok-block.block) (c.skip_word-place.ensures.word word.Atomic c.requires.word) c.in_ok-names.ensures.tree c.in_ok-block.ensures.tree
