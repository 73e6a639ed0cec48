-- Each run computes to its text.
use Rattle.std.proofs.Common.{refl}
use Rattle.std.specs.Fmt.{digits}
use denote.Hole.Carrier.{out, shown, hidden}
use Rattle.thread_tree.specs.declared.block.Stmt.{out-Stmt}
use Rattle.thread_tree.specs.declared.block.Stmt.TheBlock.{shown-the_row-Stmt-0}
use Rattle.thread_tree.specs.declared.transaction.TStmt.{out-TStmt}
use Rattle.thread_tree.specs.declared.transaction.TStmt.TheBlock.{shown-the_row-TStmt-0}
use Rattle.thread_tree.specs.Ahead.{ahead_by}
use Rattle.kernel_model.specs.Order.{by_urgency}
use Rattle.kernel_model.specs.Objects.{static_objects}
use Rattle.kernel_model.specs.Transactions.{block_by}
use Rattle.kernel_model.specs.Run.{all_woken, initial, on}
use Rattle.kernel_model.specs.Show.{visible}
use Rattle.kernel_model.specs.Dump.{events_line, ticks_line, row_line, ready_line, timed_line, queue_line, senders_line, receivers_line, semaphore_line, takers_line, object_line, console_size_line, console_line}
use Rattle.kernel_rows.proofs.worked_runs.worked_by_hand.Goals as goal

pub returns-clause-two_prints : goal.returns-clause-two_prints
unfolding digits by_urgency static_objects ahead_by block_by all_woken initial on visible out-Stmt out-TStmt out shown hidden shown-the_row-Stmt-0 shown-the_row-TStmt-0 events_line ticks_line row_line ready_line timed_line queue_line senders_line receivers_line semaphore_line takers_line object_line console_size_line console_line
returns-clause-two_prints c = refl

pub returns-clause-nobody_ready : goal.returns-clause-nobody_ready
unfolding digits by_urgency static_objects ahead_by block_by all_woken initial on visible out-Stmt out-TStmt out shown hidden shown-the_row-Stmt-0 shown-the_row-TStmt-0 events_line ticks_line row_line ready_line timed_line queue_line senders_line receivers_line semaphore_line takers_line object_line console_size_line console_line
returns-clause-nobody_ready c = refl

pub returns-clause-one_tick : goal.returns-clause-one_tick
unfolding digits by_urgency static_objects ahead_by block_by all_woken initial on visible out-Stmt out-TStmt out shown hidden shown-the_row-Stmt-0 shown-the_row-TStmt-0 events_line ticks_line row_line ready_line timed_line queue_line senders_line receivers_line semaphore_line takers_line object_line console_size_line console_line
returns-clause-one_tick c = refl

pub returns-clause-no_event : goal.returns-clause-no_event
unfolding digits by_urgency static_objects ahead_by block_by all_woken initial on visible out-Stmt out-TStmt out shown hidden shown-the_row-Stmt-0 shown-the_row-TStmt-0 events_line ticks_line row_line ready_line timed_line queue_line senders_line receivers_line semaphore_line takers_line object_line console_size_line console_line
returns-clause-no_event c = refl

pub returns-clause-abort_and_give : goal.returns-clause-abort_and_give
unfolding digits by_urgency static_objects ahead_by block_by all_woken initial on visible out-Stmt out-TStmt out shown hidden shown-the_row-Stmt-0 shown-the_row-TStmt-0 events_line ticks_line row_line ready_line timed_line queue_line senders_line receivers_line semaphore_line takers_line object_line console_size_line console_line
returns-clause-abort_and_give c = refl

pub returns-clause-one_store_too_many : goal.returns-clause-one_store_too_many
unfolding digits by_urgency static_objects ahead_by block_by all_woken initial on visible out-Stmt out-TStmt out shown hidden shown-the_row-Stmt-0 shown-the_row-TStmt-0 events_line ticks_line row_line ready_line timed_line queue_line senders_line receivers_line semaphore_line takers_line object_line console_size_line console_line
returns-clause-one_store_too_many c = refl

pub returns-clause-as_many_stores_as_allowed : goal.returns-clause-as_many_stores_as_allowed
unfolding digits by_urgency static_objects ahead_by block_by all_woken initial on visible out-Stmt out-TStmt out shown hidden shown-the_row-Stmt-0 shown-the_row-TStmt-0 events_line ticks_line row_line ready_line timed_line queue_line senders_line receivers_line semaphore_line takers_line object_line console_size_line console_line
returns-clause-as_many_stores_as_allowed c = refl

pub returns-clause-endless_loop : goal.returns-clause-endless_loop
unfolding digits by_urgency static_objects ahead_by block_by all_woken initial on visible out-Stmt out-TStmt out shown hidden shown-the_row-Stmt-0 shown-the_row-TStmt-0 events_line ticks_line row_line ready_line timed_line queue_line senders_line receivers_line semaphore_line takers_line object_line console_size_line console_line
returns-clause-endless_loop c = refl

pub returns-clause-both_delayed : goal.returns-clause-both_delayed
unfolding digits by_urgency static_objects ahead_by block_by all_woken initial on visible out-Stmt out-TStmt out shown hidden shown-the_row-Stmt-0 shown-the_row-TStmt-0 events_line ticks_line row_line ready_line timed_line queue_line senders_line receivers_line semaphore_line takers_line object_line console_size_line console_line
returns-clause-both_delayed c = refl

pub returns-clause-urgent_first : goal.returns-clause-urgent_first
unfolding digits by_urgency static_objects ahead_by block_by all_woken initial on visible out-Stmt out-TStmt out shown hidden shown-the_row-Stmt-0 shown-the_row-TStmt-0 events_line ticks_line row_line ready_line timed_line queue_line senders_line receivers_line semaphore_line takers_line object_line console_size_line console_line
returns-clause-urgent_first c = refl

pub returns-clause-tick_before_send : goal.returns-clause-tick_before_send
unfolding digits by_urgency static_objects ahead_by block_by all_woken initial on visible out-Stmt out-TStmt out shown hidden shown-the_row-Stmt-0 shown-the_row-TStmt-0 events_line ticks_line row_line ready_line timed_line queue_line senders_line receivers_line semaphore_line takers_line object_line console_size_line console_line
returns-clause-tick_before_send c = refl

pub returns-clause-send_before_tick : goal.returns-clause-send_before_tick
unfolding digits by_urgency static_objects ahead_by block_by all_woken initial on visible out-Stmt out-TStmt out shown hidden shown-the_row-Stmt-0 shown-the_row-TStmt-0 events_line ticks_line row_line ready_line timed_line queue_line senders_line receivers_line semaphore_line takers_line object_line console_size_line console_line
returns-clause-send_before_tick c = refl

pub returns-clause-persistent_loop : goal.returns-clause-persistent_loop
unfolding digits by_urgency static_objects ahead_by block_by all_woken initial on visible out-Stmt out-TStmt out shown hidden shown-the_row-Stmt-0 shown-the_row-TStmt-0 events_line ticks_line row_line ready_line timed_line queue_line senders_line receivers_line semaphore_line takers_line object_line console_size_line console_line
returns-clause-persistent_loop c = refl

pub returns-clause-no_record_room : goal.returns-clause-no_record_room
unfolding digits by_urgency static_objects ahead_by block_by all_woken initial on visible out-Stmt out-TStmt out shown hidden shown-the_row-Stmt-0 shown-the_row-TStmt-0 events_line ticks_line row_line ready_line timed_line queue_line senders_line receivers_line semaphore_line takers_line object_line console_size_line console_line
returns-clause-no_record_room c = refl

pub returns-clause-turns_make_room : goal.returns-clause-turns_make_room
unfolding digits by_urgency static_objects ahead_by block_by all_woken initial on visible out-Stmt out-TStmt out shown hidden shown-the_row-Stmt-0 shown-the_row-TStmt-0 events_line ticks_line row_line ready_line timed_line queue_line senders_line receivers_line semaphore_line takers_line object_line console_size_line console_line
returns-clause-turns_make_room c = refl

pub returns-clause-row_used_again : goal.returns-clause-row_used_again
unfolding digits by_urgency static_objects ahead_by block_by all_woken initial on visible out-Stmt out-TStmt out shown hidden shown-the_row-Stmt-0 shown-the_row-TStmt-0 events_line ticks_line row_line ready_line timed_line queue_line senders_line receivers_line semaphore_line takers_line object_line console_size_line console_line
returns-clause-row_used_again c = refl

pub returns-clause-full_heap : goal.returns-clause-full_heap
unfolding digits by_urgency static_objects ahead_by block_by all_woken initial on visible out-Stmt out-TStmt out shown hidden shown-the_row-Stmt-0 shown-the_row-TStmt-0 events_line ticks_line row_line ready_line timed_line queue_line senders_line receivers_line semaphore_line takers_line object_line console_size_line console_line
returns-clause-full_heap c = refl

pub returns-clause-sensor : goal.returns-clause-sensor
unfolding digits by_urgency static_objects ahead_by block_by all_woken initial on visible out-Stmt out-TStmt out shown hidden shown-the_row-Stmt-0 shown-the_row-TStmt-0 events_line ticks_line row_line ready_line timed_line queue_line senders_line receivers_line semaphore_line takers_line object_line console_size_line console_line
returns-clause-sensor c = refl

pub returns-clause-slices : goal.returns-clause-slices
unfolding digits by_urgency static_objects ahead_by block_by all_woken initial on visible out-Stmt out-TStmt out shown hidden shown-the_row-Stmt-0 shown-the_row-TStmt-0 events_line ticks_line row_line ready_line timed_line queue_line senders_line receivers_line semaphore_line takers_line object_line console_size_line console_line
returns-clause-slices c = refl

pub returns-clause-greatest_count : goal.returns-clause-greatest_count
unfolding digits by_urgency static_objects ahead_by block_by all_woken initial on visible out-Stmt out-TStmt out shown hidden shown-the_row-Stmt-0 shown-the_row-TStmt-0 events_line ticks_line row_line ready_line timed_line queue_line senders_line receivers_line semaphore_line takers_line object_line console_size_line console_line
returns-clause-greatest_count c = refl

pub returns-clause-no_row_free : goal.returns-clause-no_row_free
unfolding digits by_urgency static_objects ahead_by block_by all_woken initial on visible out-Stmt out-TStmt out shown hidden shown-the_row-Stmt-0 shown-the_row-TStmt-0 events_line ticks_line row_line ready_line timed_line queue_line senders_line receivers_line semaphore_line takers_line object_line console_size_line console_line
returns-clause-no_row_free c = refl

pub returns-clause-arithmetic : goal.returns-clause-arithmetic
unfolding digits by_urgency static_objects ahead_by block_by all_woken initial on visible out-Stmt out-TStmt out shown hidden shown-the_row-Stmt-0 shown-the_row-TStmt-0 events_line ticks_line row_line ready_line timed_line queue_line senders_line receivers_line semaphore_line takers_line object_line console_size_line console_line
returns-clause-arithmetic c = refl

pub returns-clause-console_nearly_full : goal.returns-clause-console_nearly_full
unfolding digits by_urgency static_objects ahead_by block_by all_woken initial on visible out-Stmt out-TStmt out shown hidden shown-the_row-Stmt-0 shown-the_row-TStmt-0 events_line ticks_line row_line ready_line timed_line queue_line senders_line receivers_line semaphore_line takers_line object_line console_size_line console_line
returns-clause-console_nearly_full c = refl

pub returns-clause-console_full : goal.returns-clause-console_full
unfolding digits by_urgency static_objects ahead_by block_by all_woken initial on visible out-Stmt out-TStmt out shown hidden shown-the_row-Stmt-0 shown-the_row-TStmt-0 events_line ticks_line row_line ready_line timed_line queue_line senders_line receivers_line semaphore_line takers_line object_line console_size_line console_line
returns-clause-console_full c = refl

pub returns-clause-console_stays_full : goal.returns-clause-console_stays_full
unfolding digits by_urgency static_objects ahead_by block_by all_woken initial on visible out-Stmt out-TStmt out shown hidden shown-the_row-Stmt-0 shown-the_row-TStmt-0 events_line ticks_line row_line ready_line timed_line queue_line senders_line receivers_line semaphore_line takers_line object_line console_size_line console_line
returns-clause-console_stays_full c = refl

pub returns-clause-a_function : goal.returns-clause-a_function
unfolding digits by_urgency static_objects ahead_by block_by all_woken initial on visible out-Stmt out-TStmt out shown hidden shown-the_row-Stmt-0 shown-the_row-TStmt-0 events_line ticks_line row_line ready_line timed_line queue_line senders_line receivers_line semaphore_line takers_line object_line console_size_line console_line
returns-clause-a_function c = refl

pub returns-clause-static_stays : goal.returns-clause-static_stays
unfolding digits by_urgency static_objects ahead_by block_by all_woken initial on visible out-Stmt out-TStmt out shown hidden shown-the_row-Stmt-0 shown-the_row-TStmt-0 events_line ticks_line row_line ready_line timed_line queue_line senders_line receivers_line semaphore_line takers_line object_line console_size_line console_line
returns-clause-static_stays c = refl

pub returns-clause-priorities : goal.returns-clause-priorities
unfolding digits by_urgency static_objects ahead_by block_by all_woken initial on visible out-Stmt out-TStmt out shown hidden shown-the_row-Stmt-0 shown-the_row-TStmt-0 events_line ticks_line row_line ready_line timed_line queue_line senders_line receivers_line semaphore_line takers_line object_line console_size_line console_line
returns-clause-priorities c = refl

pub returns-clause-delays : goal.returns-clause-delays
unfolding digits by_urgency static_objects ahead_by block_by all_woken initial on visible out-Stmt out-TStmt out shown hidden shown-the_row-Stmt-0 shown-the_row-TStmt-0 events_line ticks_line row_line ready_line timed_line queue_line senders_line receivers_line semaphore_line takers_line object_line console_size_line console_line
returns-clause-delays c = refl

pub returns-clause-inputs : goal.returns-clause-inputs
unfolding digits by_urgency static_objects ahead_by block_by all_woken initial on visible out-Stmt out-TStmt out shown hidden shown-the_row-Stmt-0 shown-the_row-TStmt-0 events_line ticks_line row_line ready_line timed_line queue_line senders_line receivers_line semaphore_line takers_line object_line console_size_line console_line
returns-clause-inputs c = refl

pub returns-clause-senders_wait : goal.returns-clause-senders_wait
unfolding digits by_urgency static_objects ahead_by block_by all_woken initial on visible out-Stmt out-TStmt out shown hidden shown-the_row-Stmt-0 shown-the_row-TStmt-0 events_line ticks_line row_line ready_line timed_line queue_line senders_line receivers_line semaphore_line takers_line object_line console_size_line console_line
returns-clause-senders_wait c = refl

pub returns-clause-senders_served : goal.returns-clause-senders_served
unfolding digits by_urgency static_objects ahead_by block_by all_woken initial on visible out-Stmt out-TStmt out shown hidden shown-the_row-Stmt-0 shown-the_row-TStmt-0 events_line ticks_line row_line ready_line timed_line queue_line senders_line receivers_line semaphore_line takers_line object_line console_size_line console_line
returns-clause-senders_served c = refl

pub returns-clause-takers_wait : goal.returns-clause-takers_wait
unfolding digits by_urgency static_objects ahead_by block_by all_woken initial on visible out-Stmt out-TStmt out shown hidden shown-the_row-Stmt-0 shown-the_row-TStmt-0 events_line ticks_line row_line ready_line timed_line queue_line senders_line receivers_line semaphore_line takers_line object_line console_size_line console_line
returns-clause-takers_wait c = refl

pub returns-clause-takers_time_out : goal.returns-clause-takers_time_out
unfolding digits by_urgency static_objects ahead_by block_by all_woken initial on visible out-Stmt out-TStmt out shown hidden shown-the_row-Stmt-0 shown-the_row-TStmt-0 events_line ticks_line row_line ready_line timed_line queue_line senders_line receivers_line semaphore_line takers_line object_line console_size_line console_line
returns-clause-takers_time_out c = refl

pub returns-clause-operation_before_reference : goal.returns-clause-operation_before_reference
unfolding digits by_urgency static_objects ahead_by block_by all_woken initial on visible out-Stmt out-TStmt out shown hidden shown-the_row-Stmt-0 shown-the_row-TStmt-0 events_line ticks_line row_line ready_line timed_line queue_line senders_line receivers_line semaphore_line takers_line object_line console_size_line console_line
returns-clause-operation_before_reference c = refl

pub returns-clause-bad_reference : goal.returns-clause-bad_reference
unfolding digits by_urgency static_objects ahead_by block_by all_woken initial on visible out-Stmt out-TStmt out shown hidden shown-the_row-Stmt-0 shown-the_row-TStmt-0 events_line ticks_line row_line ready_line timed_line queue_line senders_line receivers_line semaphore_line takers_line object_line console_size_line console_line
returns-clause-bad_reference c = refl

pub returns-clause-as_many_moves_as_allowed : goal.returns-clause-as_many_moves_as_allowed
unfolding digits by_urgency static_objects ahead_by block_by all_woken initial on visible out-Stmt out-TStmt out shown hidden shown-the_row-Stmt-0 shown-the_row-TStmt-0 events_line ticks_line row_line ready_line timed_line queue_line senders_line receivers_line semaphore_line takers_line object_line console_size_line console_line
returns-clause-as_many_moves_as_allowed c = refl

pub returns-clause-one_move_too_many : goal.returns-clause-one_move_too_many
unfolding digits by_urgency static_objects ahead_by block_by all_woken initial on visible out-Stmt out-TStmt out shown hidden shown-the_row-Stmt-0 shown-the_row-TStmt-0 events_line ticks_line row_line ready_line timed_line queue_line senders_line receivers_line semaphore_line takers_line object_line console_size_line console_line
returns-clause-one_move_too_many c = refl

pub returns-clause-moves : goal.returns-clause-moves
unfolding digits by_urgency static_objects ahead_by block_by all_woken initial on visible out-Stmt out-TStmt out shown hidden shown-the_row-Stmt-0 shown-the_row-TStmt-0 events_line ticks_line row_line ready_line timed_line queue_line senders_line receivers_line semaphore_line takers_line object_line console_size_line console_line
returns-clause-moves c = refl

pub returns-clause-places : goal.returns-clause-places
unfolding digits by_urgency static_objects ahead_by block_by all_woken initial on visible out-Stmt out-TStmt out shown hidden shown-the_row-Stmt-0 shown-the_row-TStmt-0 events_line ticks_line row_line ready_line timed_line queue_line senders_line receivers_line semaphore_line takers_line object_line console_size_line console_line
returns-clause-places c = refl
