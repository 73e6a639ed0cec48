use Rattle.std.proofs.Common.{rules}
use Rattle.thread_tree.specs.declared.token.Word.TheVariants as word
use Rattle.thread_tree.specs.SpellingOfTransactions.{tlet, tlet_new}
use Rattle.thread_text.proofs.Layers.{tout_let, tout_letnew}
use Rattle.thread_text.proofs.cursor.Cursor.let_tstatement.Goals as goal

pub returns-then-eat_word-clause-tree : goal.returns-then-eat_word-clause-tree
returns-then-eat_word-clause-tree c = tlet_new (tout_letnew c.in_ok-name.name c.in_ok-kind.kind) (c.skip_word.ensures.any word.Let c.requires.word) c.in_ok-name.ensures.tree c.in_ok-expect.ensures.any (c.eat_word.ensures.taken c.if-eat_word.true) c.in_ok-kind.ensures.tree c.in_ok-expect-2.ensures.any

pub returns-clause-tree : goal.returns-clause-tree
returns-clause-tree c = tlet (tout_let c.in_ok-name.name c.in_ok-value.value) (c.skip_word.ensures.any word.Let c.requires.word) c.in_ok-name.ensures.tree c.in_ok-expect.ensures.any (search rules) c.in_ok-expect-3.ensures.any
