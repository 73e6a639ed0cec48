-- The laws of who is served first.
use Rattle.std.proofs.Common.{ap, slice_get}
use Rattle.kernel_model.proofs.OrderLemmas.{head_of_line, empty_line}
use Rattle.kernel_model.proofs.OrderLaws as order
use Rattle.kernel_model.proofs.ShownLaws as shown
use Rattle.kernel_model.proofs.laws.order.Goals as goal

pub returns-clause-passes : goal.returns-clause-passes
returns-clause-passes c = head_of_line

pub returns-clause-none_before : goal.returns-clause-none_before
returns-clause-none_before c = order.none_before

pub returns-clause-is_first : goal.returns-clause-is_first
returns-clause-is_first c = order.is_first

pub returns-clause-none_passes : goal.returns-clause-none_passes
returns-clause-none_passes c = empty_line

pub returns-clause-chosen_first : goal.returns-clause-chosen_first
returns-clause-chosen_first c = shown.chosen_first

pub returns-clause-none_above : goal.returns-clause-none_above
returns-clause-none_above c = shown.none_above

pub returns-clause-none_ready : goal.returns-clause-none_ready
returns-clause-none_ready c = shown.none_ready

pub returns-clause-first_sender : goal.returns-clause-first_sender
returns-clause-first_sender c = shown.first_sender

pub returns-clause-first_receiver : goal.returns-clause-first_receiver
returns-clause-first_receiver c = shown.first_receiver

pub returns-clause-first_taker : goal.returns-clause-first_taker
returns-clause-first_taker c = shown.first_taker

pub returns-clause-none_first : goal.returns-clause-none_first
returns-clause-none_first c = λ test K none. ap (λ line. slice_get line 0) (order.no_line test K none)
