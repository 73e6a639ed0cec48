use Rattle.thread_tree.specs.declared.token.Word.TheVariants as word
use Rattle.thread_tree.specs.SpellingOfTransactions.{tbreak}
use Rattle.thread_text.proofs.Layers.{tout_break}
use Rattle.thread_text.proofs.cursor.Cursor.break_tstatement.Goals as goal

pub returns-clause-tree : goal.returns-clause-tree
returns-clause-tree c = tbreak (tout_break c.skip_word-place.result) (c.skip_word-place.ensures.word word.Break c.requires.word) c.in_ok-expect.ensures.any
