use Rattle.thread_tree.specs.declared.token.Word.TheVariants as word
use Rattle.thread_tree.specs.SpellingOfTransactions.{abort}
use Rattle.thread_text.proofs.Layers.{tout_abort}
use Rattle.thread_text.proofs.cursor.Cursor.abort_tstatement.Goals as goal

pub returns-clause-tree : goal.returns-clause-tree
returns-clause-tree c = abort (tout_abort c.skip_word-place.result) (c.skip_word-place.ensures.word word.Abort c.requires.word) c.in_ok-expect.ensures.any
