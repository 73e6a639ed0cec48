-- What the crates above may cite of these proofs.
-- the rows of a sound kernel are well formed
pub use Rattle.ready_delay_lists.proofs.Agreeing.{sound_formed}
-- what an image keeps where the calls of lists change no more than they may
pub use Rattle.ready_delay_lists.proofs.UnlistedLaws.{row_kept, queue_kept, semaphore_kept, events_kept, ticks_kept, console_length_kept, console_kept, first_hole_kept, heap_kept, live_kept, unread_kept, unread_kept_row}
pub use Rattle.ready_delay_lists.proofs.LinkLaws.{listed_from}
