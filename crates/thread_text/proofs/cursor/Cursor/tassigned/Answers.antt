use Rattle.std.proofs.Common.{rules}
use Rattle.thread_tree.specs.SpellingOfTransactions.{tset, tset_new}
use Rattle.thread_text.proofs.Layers.{tout_set, tout_setnew}
use Rattle.thread_text.proofs.cursor.Cursor.tassigned.Goals as goal

pub returns-then-eat_word-clause-tree : goal.returns-then-eat_word-clause-tree
returns-then-eat_word-clause-tree c = λ before middle h k. tset_new (tout_setnew c.args.name c.in_ok-kind.kind) h k (c.eat_word.ensures.taken c.if-eat_word.true) c.in_ok-kind.ensures.tree c.in_ok-expect.ensures.any

pub returns-clause-tree : goal.returns-clause-tree
returns-clause-tree c = λ before middle h k. tset (tout_set c.args.name c.in_ok-value.value) h k (search rules) c.in_ok-expect-2.ensures.any
