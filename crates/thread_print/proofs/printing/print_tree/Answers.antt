use Rattle.thread_print.proofs.TextLaws.{text_rescans}
use Rattle.thread_print.proofs.printing.print_tree.Goals as goal

pub returns-clause-scans : goal.returns-clause-scans
returns-clause-scans c = text_rescans c.args.tree.now c.in_ok-text.text.items c.in_ok-text.ensures
