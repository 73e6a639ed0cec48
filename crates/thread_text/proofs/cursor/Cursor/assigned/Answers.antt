use Rattle.std.proofs.Common.{Some, rules}
use Rattle.thread_tree.specs.SpellingOfBlocks.{set, apply_to}
use Rattle.thread_text.proofs.Layers.{out_set, out_apply}
use Rattle.thread_text.proofs.cursor.Cursor.assigned.Goals as goal

pub returns-then-not-sees_call-clause-tree : goal.returns-then-not-sees_call-clause-tree
returns-then-not-sees_call-clause-tree c = λ before middle h k. set (out_set c.args.name c.in_ok-value.value) h k c.in_ok-value.ensures.tree c.in_ok-expect.ensures.any

pub returns-clause-tree : goal.returns-clause-tree
returns-clause-tree c = λ before middle h k. apply_to (out_apply (Some c.args.name) c.in_ok-function.function c.in_ok-arguments.arguments) h k (search rules) c.in_ok-expect-2.ensures.any c.in_ok-arguments.ensures.tree c.in_ok-expect-3.ensures.any
