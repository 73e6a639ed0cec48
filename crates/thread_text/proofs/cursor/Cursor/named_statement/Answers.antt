use Rattle.std.proofs.Common.{None}
use Rattle.thread_tree.specs.SpellingOfBlocks.{apply}
use Rattle.thread_text.proofs.Layers.{out_apply}
use Rattle.thread_text.proofs.cursor.Cursor.named_statement.Goals as goal

pub returns-clause-tree : goal.returns-clause-tree
returns-clause-tree c = apply (out_apply None c.in_ok-name.name c.in_ok-arguments.arguments) c.in_ok-name.ensures.tree (c.eat.ensures.taken c.if-not-eat.false) c.in_ok-arguments.ensures.tree c.in_ok-expect-2.ensures.any
