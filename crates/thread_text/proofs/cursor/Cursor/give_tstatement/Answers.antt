use Rattle.thread_tree.specs.declared.token.Word.TheVariants as word
use Rattle.thread_tree.specs.SpellingOfTransactions.{tgive}
use Rattle.thread_text.proofs.Layers.{tout_give}
use Rattle.thread_text.proofs.cursor.Cursor.give_tstatement.Goals as goal

pub returns-clause-tree : goal.returns-clause-tree
returns-clause-tree c = tgive (tout_give c.skip_word-place.result c.in_ok-values.values) (c.skip_word-place.ensures.word word.Give c.requires.word) c.in_ok-values.ensures.tree
