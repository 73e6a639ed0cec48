-- The laws of lists.
use Rattle.std.proofs.Common.{refl}
use Rattle.ready_delay_lists.proofs.LinkLaws.{listed_from}
use Rattle.ready_delay_lists.proofs.UnlistedLaws as kept
use Rattle.ready_delay_lists.proofs.laws.list_laws.Goals as goal

pub returns-clause-listed : goal.returns-clause-listed
returns-clause-listed c = listed_from

pub returns-clause-row : goal.returns-clause-row
returns-clause-row c = kept.row_kept

pub returns-clause-queue : goal.returns-clause-queue
returns-clause-queue c = kept.queue_kept

pub returns-clause-semaphore : goal.returns-clause-semaphore
returns-clause-semaphore c = kept.semaphore_kept

pub returns-clause-events : goal.returns-clause-events
returns-clause-events c = kept.events_kept

pub returns-clause-ticks : goal.returns-clause-ticks
returns-clause-ticks c = kept.ticks_kept

pub returns-clause-console_length : goal.returns-clause-console_length
returns-clause-console_length c = kept.console_length_kept

pub returns-clause-console : goal.returns-clause-console
returns-clause-console c = kept.console_kept

pub returns-clause-first_hole : goal.returns-clause-first_hole
returns-clause-first_hole c = kept.first_hole_kept

pub returns-clause-heap : goal.returns-clause-heap
returns-clause-heap c = kept.heap_kept

pub returns-clause-live : goal.returns-clause-live
returns-clause-live c = kept.live_kept

pub returns-clause-unread : goal.returns-clause-unread
returns-clause-unread c d e K L before after = kept.unread_kept d e before.links after.links

pub returns-clause-due_at : goal.returns-clause-due_at
returns-clause-due_at c thread K = refl

pub returns-clause-never_due : goal.returns-clause-never_due
returns-clause-never_due c thread wait K = refl
