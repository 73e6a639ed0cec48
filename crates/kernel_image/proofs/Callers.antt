-- What the crates above may cite of these proofs: laws, and sets of laws for `using`.
pub use Rattle.kernel_image.proofs.StoreLaws.{row_at-decoded, decoded_of-console_word, decoded_of-console_length, row_at-with_row, with_row-again}
pub use Rattle.kernel_image.proofs.InitialRows.{initial-rows, initial-items, initial-semaphore}
pub use Rattle.kernel_image.proofs.InitialObjects.{initial-objects, initial-headers}
pub use Rattle.kernel_image.proofs.UnreadLaws.{unread-row, unread-queue, unread-semaphore}
-- the first values of a function, of which one changes, and choices by a test
pub use Rattle.kernel_image.proofs.Listed.{listed-set, listed-at, length-listed, listed-same}
pub use Rattle.kernel_image.proofs.CellLaws.{by_test}
-- static objects lie one after another
unfoldable pub use Rattle.kernel_image.proofs.Packed.{packed}
pub use Rattle.kernel_image.proofs.Packed.{static_at, size_of, static_objects-of, HasFewFields-within}
pub use Rattle.kernel_image.proofs.Lines.{rows-agree, ready_lists-agree, timed-agree, waiting-agree}
use Rattle.kernel_image.proofs.CellLaws.{address-plain, cell_of-address, cells-with_word, cells-written}
use Rattle.kernel_image.proofs.StoreLaws.{decoded_of-events, decoded_of-ticks, decoded_of-stamp, decoded_of-first_hole, decoded_of-timed_head, decoded_of-row_state, decoded_of-row_template, decoded_of-row_priority, decoded_of-row_code, decoded_of-row_wake, decoded_of-row_target, decoded_of-row_what, decoded_of-row_value, decoded_of-row_stamp, decoded_of-row_next, decoded_of-row_previous, decoded_of-row_timed_next, decoded_of-row_timed_previous, decoded_of-row_start, decoded_of-row_start_count, decoded_of-row_used, decoded_of-start_value, decoded_of-record_word, decoded_of-queue_count, decoded_of-queue_front, decoded_of-queue_senders_head, decoded_of-queue_receivers_head, decoded_of-queue_item, decoded_of-semaphore_count, decoded_of-semaphore_takers_head, decoded_of-heap_word, decoded_of-live_word, decoded_of-queue_padding, decoded_of-semaphore_third, decoded_of-semaphore_fourth, decoded_of-spare_header, decoded_of-spare, queue_at-decoded, semaphore_at-decoded}
pub use Rattle.kernel_image.proofs.Frames.{blanked-with_cell, blanked-cells, blanked-beside, decoded_of-of_heap}

-- a store to a cell as a change of the image, and one store after another in a row
pub ruleset store_laws = (decoded_of-events, decoded_of-ticks, decoded_of-stamp, decoded_of-console_length, decoded_of-first_hole, decoded_of-timed_head, decoded_of-row_state, decoded_of-row_template, decoded_of-row_priority, decoded_of-row_code, decoded_of-row_wake, decoded_of-row_target, decoded_of-row_what, decoded_of-row_value, decoded_of-row_stamp, decoded_of-row_next, decoded_of-row_previous, decoded_of-row_timed_next, decoded_of-row_timed_previous, decoded_of-row_start, decoded_of-row_start_count, decoded_of-row_used, decoded_of-start_value, decoded_of-record_word, decoded_of-queue_count, decoded_of-queue_front, decoded_of-queue_senders_head, decoded_of-queue_receivers_head, decoded_of-queue_item, decoded_of-semaphore_count, decoded_of-semaphore_takers_head, decoded_of-console_word, decoded_of-heap_word, decoded_of-live_word, decoded_of-queue_padding, decoded_of-semaphore_third, decoded_of-semaphore_fourth, decoded_of-spare_header, decoded_of-spare, row_at-with_row, with_row-again)

-- the rows, queues and semaphores of the image as their words
pub ruleset image_laws = (row_at-decoded, queue_at-decoded, semaphore_at-decoded)

-- cells and addresses
pub ruleset cell_laws = (address-plain, cell_of-address, cells-with_word, cells-written)

-- what a part of the cells leaves as it was
pub ruleset frame_laws = (blanked-with_cell, blanked-cells, blanked-beside, decoded_of-of_heap)

-- what rows show that stand for those of a kernel
pub ruleset agree_laws = (rows-agree, ready_lists-agree, timed-agree, waiting-agree)

-- the rows, items, counts and objects of the image that formatting writes
pub ruleset initial_laws = (initial-rows, initial-items, initial-semaphore, initial-objects, initial-headers)
