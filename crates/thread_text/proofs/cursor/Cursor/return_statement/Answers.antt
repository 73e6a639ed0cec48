use Rattle.std.proofs.Common.{Some, None, rules}
use Rattle.thread_tree.specs.declared.token.Word.TheVariants as word
use Rattle.thread_tree.specs.SpellingOfBlocks.{return_only, return_value}
use Rattle.thread_text.proofs.Layers.{out_return}
use Rattle.thread_text.proofs.cursor.Cursor.return_statement.Goals as goal

pub returns-then-eat-clause-tree : goal.returns-then-eat-clause-tree
returns-then-eat-clause-tree c = return_only (out_return c.skip_word-place.result None) (c.skip_word-place.ensures.word word.Return c.requires.word) (c.eat.ensures.taken c.if-eat.true)

pub returns-clause-tree : goal.returns-clause-tree
returns-clause-tree c = return_value (out_return c.skip_word-place.result (Some c.in_ok-value.value)) (c.skip_word-place.ensures.word word.Return c.requires.word) (search (rules, c.in_ok-value.ensures.tree)) c.in_ok-expect.ensures.any
