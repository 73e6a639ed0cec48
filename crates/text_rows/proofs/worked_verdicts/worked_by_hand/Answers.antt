-- Each row computes to its answer.
use Rattle.std.proofs.Common.{refl}
use Rattle.thread_tree.specs.Grammar.{turn, operand, behind_name, declared, declared_by, statement, advance, is_mark, is_name, is_number, is_between, is_prefix, prefixes, mark_number}
use Rattle.thread_text.specs.Bounds.{counted, own_counts, operand_counts, open_counts, close_counts, one_operator, one_block, afresh}
use Rattle.thread_text.specs.Fate.{fate, step, judged}
use Rattle.thread_text.specs.Verdict.{verdict}
use Rattle.text_rows.proofs.worked_verdicts.worked_by_hand.Goals as goal

pub returns-clause-started : goal.returns-clause-started
unfolding verdict fate step judged turn advance declared declared_by is_mark mark_number is_name is_number counted
returns-clause-started c = refl

pub returns-clause-unfinished : goal.returns-clause-unfinished
unfolding verdict fate step judged turn advance declared declared_by is_mark mark_number is_name counted
returns-clause-unfinished c = refl

pub returns-clause-bad : goal.returns-clause-bad
unfolding verdict fate step judged turn advance declared declared_by is_mark mark_number is_name counted
returns-clause-bad c = refl

pub returns-clause-no_operand : goal.returns-clause-no_operand
unfolding verdict fate step judged turn advance declared declared_by statement operand behind_name is_mark mark_number is_name is_number is_prefix prefixes is_between counted own_counts operand_counts open_counts close_counts one_operator one_block afresh
returns-clause-no_operand c = refl
