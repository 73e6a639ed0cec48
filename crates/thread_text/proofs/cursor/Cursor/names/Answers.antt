use Rattle.std.proofs.Common.{rules, arith}
use Rattle.std.proofs.lemmas.Grind.{common_steps}
use Rattle.thread_tree.specs.Spelling.{one}
use Rattle.thread_text.proofs.ListRows.{names_more}
use Rattle.thread_text.proofs.Sequences.{separated_more}
use Rattle.thread_text.proofs.cursor.Cursor.names.Goals as goal

pub names-init : goal.names-init
names-init c = (search rules, search rules, search (rules, one))

pub names-preserved : goal.names-preserved
names-preserved c = (grind (arith, common_steps, names_more), search rules, search (rules, separated_more))
