-- Each dump computes to its text.
use Rattle.std.proofs.Common.{refl}
use Rattle.std.specs.Fmt.{digits}
use Rattle.kernel_model.specs.Dump.{events_line, ticks_line, row_line, ready_line, timed_line, queue_line, senders_line, receivers_line, semaphore_line, takers_line, object_line, console_size_line, console_line}
use Rattle.kernel_rows.proofs.worked_dumps.worked_by_hand.Goals as goal

pub returns-clause-nothing_runs : goal.returns-clause-nothing_runs
unfolding digits events_line ticks_line console_size_line
returns-clause-nothing_runs c = refl

pub returns-clause-two_prints : goal.returns-clause-two_prints
unfolding digits events_line ticks_line row_line ready_line console_size_line console_line
returns-clause-two_prints c = refl

pub returns-clause-both_delayed : goal.returns-clause-both_delayed
unfolding digits events_line ticks_line row_line timed_line queue_line console_size_line console_line
returns-clause-both_delayed c = refl

pub returns-clause-urgent_first : goal.returns-clause-urgent_first
unfolding digits events_line ticks_line row_line ready_line queue_line console_size_line console_line
returns-clause-urgent_first c = refl

pub returns-clause-sent_too_late : goal.returns-clause-sent_too_late
unfolding digits events_line ticks_line row_line ready_line queue_line console_size_line console_line
returns-clause-sent_too_late c = refl

pub returns-clause-sensor_waits : goal.returns-clause-sensor_waits
unfolding digits events_line ticks_line row_line timed_line queue_line receivers_line semaphore_line takers_line object_line console_size_line
returns-clause-sensor_waits c = refl

pub returns-clause-mixed_kernel : goal.returns-clause-mixed_kernel
unfolding digits events_line ticks_line row_line ready_line timed_line queue_line senders_line semaphore_line takers_line object_line console_size_line console_line
returns-clause-mixed_kernel c = refl
