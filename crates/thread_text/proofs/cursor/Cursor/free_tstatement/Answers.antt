use Rattle.thread_tree.specs.declared.token.Word.TheVariants as word
use Rattle.thread_tree.specs.SpellingOfTransactions.{free}
use Rattle.thread_text.proofs.Layers.{tout_free}
use Rattle.thread_text.proofs.cursor.Cursor.free_tstatement.Goals as goal

pub returns-clause-tree : goal.returns-clause-tree
returns-clause-tree c = free (tout_free c.in_ok-object.object) (c.skip_word.ensures.any word.Free c.requires.word) c.in_ok-object.ensures.tree c.in_ok-expect.ensures.any
