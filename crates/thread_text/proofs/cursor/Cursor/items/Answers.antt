use Rattle.std.proofs.Common.{rules, arith}
use Rattle.std.proofs.lemmas.Grind.{common_steps}
use Rattle.thread_tree.specs.Spelling.{one}
use Rattle.thread_text.proofs.ListRows.{items_more}
use Rattle.thread_text.proofs.Sequences.{separated_more}
use Rattle.thread_text.proofs.cursor.Cursor.items.Goals as goal

pub items-init : goal.items-init
items-init c = (search rules, search rules, search (rules, one))

pub items-preserved : goal.items-preserved
items-preserved c = (grind (arith, common_steps, items_more), search rules, search (rules, separated_more))
