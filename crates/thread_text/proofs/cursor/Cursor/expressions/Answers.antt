use Rattle.std.proofs.Common.{rules, arith}
use Rattle.std.proofs.lemmas.Grind.{common_steps}
use Rattle.thread_tree.specs.Spelling.{one}
use Rattle.thread_text.proofs.ListRows.{expressions_more}
use Rattle.thread_text.proofs.Sequences.{separated_more}
use Rattle.thread_text.proofs.cursor.Cursor.expressions.Goals as goal

pub expressions-init : goal.expressions-init
expressions-init c = (search rules, search rules, search (rules, one))

pub expressions-preserved : goal.expressions-preserved
expressions-preserved c = (grind (arith, common_steps, expressions_more), search rules, search (rules, separated_more))
