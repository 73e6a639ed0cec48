use Rattle.thread_tree.specs.declared.token.Word.TheVariants as word
use Rattle.thread_tree.specs.SpellingOfBlocks.{break_loop}
use Rattle.thread_text.proofs.Layers.{out_break}
use Rattle.thread_text.proofs.cursor.Cursor.break_statement.Goals as goal

pub returns-clause-tree : goal.returns-clause-tree
returns-clause-tree c = break_loop (out_break c.skip_word-place.result) (c.skip_word-place.ensures.word word.Break c.requires.word) c.in_ok-expect.ensures.any
