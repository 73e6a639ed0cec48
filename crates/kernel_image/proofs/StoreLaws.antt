-- A store to a cell is a change of one part of the image.
use Rattle.std.proofs.Common.{◌≡◌, ℕ, ◌<◌, ◌==◌, List, true, false, refl, ap, sym, ◌∙◌, arith, length, slice_set, if◌then◌else◌}
use Rattle.std.proofs.lemmas.Bool.Decides.{nat_tests}
use Rattle.std.proofs.lemmas.List.{get_or-set_same, set-set}
use Rattle.kernel_image.specs.declared.cell.Cell.{Cell}
use Rattle.kernel_image.specs.declared.cell.Cell.TheVariants.{Header, SpareHeader, QueueWord, QueueItem, QueueSpare, SemaphoreWord, RowWord, StartValue, RecordWord, ConsoleWord, HeapWord, LiveWord, Spare}
use Rattle.kernel_image.specs.Cells.{with_cell}
use Rattle.kernel_image.specs.Decoded.{Decoded, RowWords, QueueWords, SemaphoreWords, listed, row_of, queue_of, semaphore_of, decoded_of, row_at, with_row, queue_at, with_queue, semaphore_at, with_semaphore, blank_row, blank_queue, blank_semaphore}
use Rattle.kernel_image.proofs.Listed.{listed-set, listed-at, length-listed}

-- a number is itself
same : (n : ℕ) → (n == n) ≡ true
same n = grind (arith, nat_tests)

-- a list of words by their place, after a store to one of them
listed_words : (n : ℕ) (word : ℕ → ℕ) (i value : ℕ) → listed n (λ j. if j == i then value else word j) ≡ slice_set (listed n word) i value
listed_words n word i value = listed-set n word (λ j. if j == i then value else word j) i value (λ low. rw (same i) refl) (λ j other. rw other refl)

pub decoded_of-events : (word : Cell → ℕ) (value : ℕ) → decoded_of (with_cell word (Header 1) value) ≡ record (decoded_of word) { events = value }
unfolding decoded_of with_cell
decoded_of-events word value = refl

pub decoded_of-ticks : (word : Cell → ℕ) (value : ℕ) → decoded_of (with_cell word (Header 2) value) ≡ record (decoded_of word) { ticks = value }
unfolding decoded_of with_cell
decoded_of-ticks word value = refl

pub decoded_of-stamp : (word : Cell → ℕ) (value : ℕ) → decoded_of (with_cell word (Header 3) value) ≡ record (decoded_of word) { stamp = value }
unfolding decoded_of with_cell
decoded_of-stamp word value = refl

pub decoded_of-console_length : (word : Cell → ℕ) (value : ℕ) → decoded_of (with_cell word (Header 5) value) ≡ record (decoded_of word) { console_length = value }
unfolding decoded_of with_cell
decoded_of-console_length word value = refl

pub decoded_of-first_hole : (word : Cell → ℕ) (value : ℕ) → decoded_of (with_cell word (Header 6) value) ≡ record (decoded_of word) { first_hole = value }
unfolding decoded_of with_cell
decoded_of-first_hole word value = refl

pub decoded_of-timed_head : (word : Cell → ℕ) (value : ℕ) → decoded_of (with_cell word (Header 7) value) ≡ record (decoded_of word) { timed_head = value }
unfolding decoded_of with_cell
decoded_of-timed_head word value = refl

-- the row of a thread, the queue and the semaphore of a number in the image
pub row_at-decoded : (word : Cell → ℕ) (t : ℕ) → t < 16 → row_at (decoded_of word) t ≡ row_of word t
unfolding decoded_of
row_at-decoded word t low = listed-at 16 (row_of word) t blank_row low

pub queue_at-decoded : (word : Cell → ℕ) (q : ℕ) → q < 16 → queue_at (decoded_of word) q ≡ queue_of word q
unfolding decoded_of
queue_at-decoded word q low = listed-at 16 (queue_of word) q blank_queue low

pub semaphore_at-decoded : (word : Cell → ℕ) (s : ℕ) → s < 16 → semaphore_at (decoded_of word) s ≡ semaphore_of word s
unfolding decoded_of
semaphore_at-decoded word s low = listed-at 16 (semaphore_of word) s blank_semaphore low

-- words of which one row has changed
rows_are : (word later : Cell → ℕ) (t : ℕ) (change : RowWords → RowWords) → row_of later t ≡ change (row_of word t) → ((u : ℕ) → (u == t) ≡ false → row_of later u ≡ row_of word u) → listed 16 (row_of later) ≡ slice_set (listed 16 (row_of word)) t (change (row_at (decoded_of word) t))
rows_are word later t change here there = listed-set 16 (row_of word) (row_of later) t _ (λ low. here ∙ ap change (sym (row_at-decoded word t low))) there

pub decoded_of-row_state : (word : Cell → ℕ) (t value : ℕ) → decoded_of (with_cell word (RowWord t 0) value) ≡ with_row (decoded_of word) t (record (row_at (decoded_of word) t) { state = value })
unfolding decoded_of with_cell
decoded_of-row_state word t value =
    ap (λ (rows : List RowWords). record (decoded_of word) { rows = rows })
    (rows_are word (with_cell word (RowWord t 0) value) t (λ row. record row { state = value }) (rw (same t) refl) (λ u other. rw other refl))

pub decoded_of-row_template : (word : Cell → ℕ) (t value : ℕ) → decoded_of (with_cell word (RowWord t 1) value) ≡ with_row (decoded_of word) t (record (row_at (decoded_of word) t) { template = value })
unfolding decoded_of with_cell
decoded_of-row_template word t value =
    ap (λ (rows : List RowWords). record (decoded_of word) { rows = rows })
    (rows_are word (with_cell word (RowWord t 1) value) t (λ row. record row { template = value }) (rw (same t) refl) (λ u other. rw other refl))

pub decoded_of-row_priority : (word : Cell → ℕ) (t value : ℕ) → decoded_of (with_cell word (RowWord t 2) value) ≡ with_row (decoded_of word) t (record (row_at (decoded_of word) t) { priority = value })
unfolding decoded_of with_cell
decoded_of-row_priority word t value =
    ap (λ (rows : List RowWords). record (decoded_of word) { rows = rows })
    (rows_are word (with_cell word (RowWord t 2) value) t (λ row. record row { priority = value }) (rw (same t) refl) (λ u other. rw other refl))

pub decoded_of-row_code : (word : Cell → ℕ) (t value : ℕ) → decoded_of (with_cell word (RowWord t 3) value) ≡ with_row (decoded_of word) t (record (row_at (decoded_of word) t) { code = value })
unfolding decoded_of with_cell
decoded_of-row_code word t value =
    ap (λ (rows : List RowWords). record (decoded_of word) { rows = rows })
    (rows_are word (with_cell word (RowWord t 3) value) t (λ row. record row { code = value }) (rw (same t) refl) (λ u other. rw other refl))

pub decoded_of-row_wake : (word : Cell → ℕ) (t value : ℕ) → decoded_of (with_cell word (RowWord t 4) value) ≡ with_row (decoded_of word) t (record (row_at (decoded_of word) t) { wake = value })
unfolding decoded_of with_cell
decoded_of-row_wake word t value =
    ap (λ (rows : List RowWords). record (decoded_of word) { rows = rows })
    (rows_are word (with_cell word (RowWord t 4) value) t (λ row. record row { wake = value }) (rw (same t) refl) (λ u other. rw other refl))

pub decoded_of-row_target : (word : Cell → ℕ) (t value : ℕ) → decoded_of (with_cell word (RowWord t 5) value) ≡ with_row (decoded_of word) t (record (row_at (decoded_of word) t) { target = value })
unfolding decoded_of with_cell
decoded_of-row_target word t value =
    ap (λ (rows : List RowWords). record (decoded_of word) { rows = rows })
    (rows_are word (with_cell word (RowWord t 5) value) t (λ row. record row { target = value }) (rw (same t) refl) (λ u other. rw other refl))

pub decoded_of-row_what : (word : Cell → ℕ) (t value : ℕ) → decoded_of (with_cell word (RowWord t 6) value) ≡ with_row (decoded_of word) t (record (row_at (decoded_of word) t) { what = value })
unfolding decoded_of with_cell
decoded_of-row_what word t value =
    ap (λ (rows : List RowWords). record (decoded_of word) { rows = rows })
    (rows_are word (with_cell word (RowWord t 6) value) t (λ row. record row { what = value }) (rw (same t) refl) (λ u other. rw other refl))

pub decoded_of-row_value : (word : Cell → ℕ) (t value : ℕ) → decoded_of (with_cell word (RowWord t 7) value) ≡ with_row (decoded_of word) t (record (row_at (decoded_of word) t) { value = value })
unfolding decoded_of with_cell
decoded_of-row_value word t value =
    ap (λ (rows : List RowWords). record (decoded_of word) { rows = rows })
    (rows_are word (with_cell word (RowWord t 7) value) t (λ row. record row { value = value }) (rw (same t) refl) (λ u other. rw other refl))

pub decoded_of-row_stamp : (word : Cell → ℕ) (t value : ℕ) → decoded_of (with_cell word (RowWord t 8) value) ≡ with_row (decoded_of word) t (record (row_at (decoded_of word) t) { stamp = value })
unfolding decoded_of with_cell
decoded_of-row_stamp word t value =
    ap (λ (rows : List RowWords). record (decoded_of word) { rows = rows })
    (rows_are word (with_cell word (RowWord t 8) value) t (λ row. record row { stamp = value }) (rw (same t) refl) (λ u other. rw other refl))

pub decoded_of-row_next : (word : Cell → ℕ) (t value : ℕ) → decoded_of (with_cell word (RowWord t 9) value) ≡ with_row (decoded_of word) t (record (row_at (decoded_of word) t) { next = value })
unfolding decoded_of with_cell
decoded_of-row_next word t value =
    ap (λ (rows : List RowWords). record (decoded_of word) { rows = rows })
    (rows_are word (with_cell word (RowWord t 9) value) t (λ row. record row { next = value }) (rw (same t) refl) (λ u other. rw other refl))

pub decoded_of-row_previous : (word : Cell → ℕ) (t value : ℕ) → decoded_of (with_cell word (RowWord t 10) value) ≡ with_row (decoded_of word) t (record (row_at (decoded_of word) t) { previous = value })
unfolding decoded_of with_cell
decoded_of-row_previous word t value =
    ap (λ (rows : List RowWords). record (decoded_of word) { rows = rows })
    (rows_are word (with_cell word (RowWord t 10) value) t (λ row. record row { previous = value }) (rw (same t) refl) (λ u other. rw other refl))

pub decoded_of-row_timed_next : (word : Cell → ℕ) (t value : ℕ) → decoded_of (with_cell word (RowWord t 11) value) ≡ with_row (decoded_of word) t (record (row_at (decoded_of word) t) { timed_next = value })
unfolding decoded_of with_cell
decoded_of-row_timed_next word t value =
    ap (λ (rows : List RowWords). record (decoded_of word) { rows = rows })
    (rows_are word (with_cell word (RowWord t 11) value) t (λ row. record row { timed_next = value }) (rw (same t) refl) (λ u other. rw other refl))

pub decoded_of-row_timed_previous : (word : Cell → ℕ) (t value : ℕ) → decoded_of (with_cell word (RowWord t 12) value) ≡ with_row (decoded_of word) t (record (row_at (decoded_of word) t) { timed_previous = value })
unfolding decoded_of with_cell
decoded_of-row_timed_previous word t value =
    ap (λ (rows : List RowWords). record (decoded_of word) { rows = rows })
    (rows_are word (with_cell word (RowWord t 12) value) t (λ row. record row { timed_previous = value }) (rw (same t) refl) (λ u other. rw other refl))

pub decoded_of-row_start : (word : Cell → ℕ) (t value : ℕ) → decoded_of (with_cell word (RowWord t 13) value) ≡ with_row (decoded_of word) t (record (row_at (decoded_of word) t) { start = value })
unfolding decoded_of with_cell
decoded_of-row_start word t value =
    ap (λ (rows : List RowWords). record (decoded_of word) { rows = rows })
    (rows_are word (with_cell word (RowWord t 13) value) t (λ row. record row { start = value }) (rw (same t) refl) (λ u other. rw other refl))

pub decoded_of-row_start_count : (word : Cell → ℕ) (t value : ℕ) → decoded_of (with_cell word (RowWord t 14) value) ≡ with_row (decoded_of word) t (record (row_at (decoded_of word) t) { start_count = value })
unfolding decoded_of with_cell
decoded_of-row_start_count word t value =
    ap (λ (rows : List RowWords). record (decoded_of word) { rows = rows })
    (rows_are word (with_cell word (RowWord t 14) value) t (λ row. record row { start_count = value }) (rw (same t) refl) (λ u other. rw other refl))

pub decoded_of-row_used : (word : Cell → ℕ) (t value : ℕ) → decoded_of (with_cell word (RowWord t 15) value) ≡ with_row (decoded_of word) t (record (row_at (decoded_of word) t) { used = value })
unfolding decoded_of with_cell
decoded_of-row_used word t value =
    ap (λ (rows : List RowWords). record (decoded_of word) { rows = rows })
    (rows_are word (with_cell word (RowWord t 15) value) t (λ row. record row { used = value }) (rw (same t) refl) (λ u other. rw other refl))

pub decoded_of-start_value : (word : Cell → ℕ) (t i value : ℕ) → decoded_of (with_cell word (StartValue t i) value) ≡ with_row (decoded_of word) t (record (row_at (decoded_of word) t) { start_values = slice_set (row_at (decoded_of word) t).start_values i value })
unfolding decoded_of with_cell
decoded_of-start_value word t i value =
    let words = listed_words 16 (λ j. word (StartValue t j)) i value in
    ap (λ (rows : List RowWords). record (decoded_of word) { rows = rows })
    (rows_are word (with_cell word (StartValue t i) value) t (λ row. record row { start_values = slice_set row.start_values i value })
    (rw (same t) (ap (λ (ws : List ℕ). record (row_of word t) { start_values = ws }) words)) (λ u other. rw other refl))

pub decoded_of-record_word : (word : Cell → ℕ) (t i value : ℕ) → decoded_of (with_cell word (RecordWord t i) value) ≡ with_row (decoded_of word) t (record (row_at (decoded_of word) t) { records = slice_set (row_at (decoded_of word) t).records i value })
unfolding decoded_of with_cell
decoded_of-record_word word t i value =
    let words = listed_words 256 (λ j. word (RecordWord t j)) i value in
    ap (λ (rows : List RowWords). record (decoded_of word) { rows = rows })
    (rows_are word (with_cell word (RecordWord t i) value) t (λ row. record row { records = slice_set row.records i value })
    (rw (same t) (ap (λ (ws : List ℕ). record (row_of word t) { records = ws }) words)) (λ u other. rw other refl))

-- words of which one queue has changed
queues_are : (word later : Cell → ℕ) (q : ℕ) (change : QueueWords → QueueWords) → queue_of later q ≡ change (queue_of word q) → ((u : ℕ) → (u == q) ≡ false → queue_of later u ≡ queue_of word u) → listed 16 (queue_of later) ≡ slice_set (listed 16 (queue_of word)) q (change (queue_at (decoded_of word) q))
queues_are word later q change here there = listed-set 16 (queue_of word) (queue_of later) q _ (λ low. here ∙ ap change (sym (queue_at-decoded word q low))) there

pub decoded_of-queue_count : (word : Cell → ℕ) (q value : ℕ) → decoded_of (with_cell word (QueueWord q 0) value) ≡ with_queue (decoded_of word) q (record (queue_at (decoded_of word) q) { count = value })
unfolding decoded_of with_cell
decoded_of-queue_count word q value =
    ap (λ (queues : List QueueWords). record (decoded_of word) { queues = queues })
    (queues_are word (with_cell word (QueueWord q 0) value) q (λ queue. record queue { count = value }) (rw (same q) refl) (λ u other. rw other refl))

pub decoded_of-queue_front : (word : Cell → ℕ) (q value : ℕ) → decoded_of (with_cell word (QueueWord q 1) value) ≡ with_queue (decoded_of word) q (record (queue_at (decoded_of word) q) { front = value })
unfolding decoded_of with_cell
decoded_of-queue_front word q value =
    ap (λ (queues : List QueueWords). record (decoded_of word) { queues = queues })
    (queues_are word (with_cell word (QueueWord q 1) value) q (λ queue. record queue { front = value }) (rw (same q) refl) (λ u other. rw other refl))

pub decoded_of-queue_senders_head : (word : Cell → ℕ) (q value : ℕ) → decoded_of (with_cell word (QueueWord q 2) value) ≡ with_queue (decoded_of word) q (record (queue_at (decoded_of word) q) { senders_head = value })
unfolding decoded_of with_cell
decoded_of-queue_senders_head word q value =
    ap (λ (queues : List QueueWords). record (decoded_of word) { queues = queues })
    (queues_are word (with_cell word (QueueWord q 2) value) q (λ queue. record queue { senders_head = value }) (rw (same q) refl) (λ u other. rw other refl))

pub decoded_of-queue_receivers_head : (word : Cell → ℕ) (q value : ℕ) → decoded_of (with_cell word (QueueWord q 3) value) ≡ with_queue (decoded_of word) q (record (queue_at (decoded_of word) q) { receivers_head = value })
unfolding decoded_of with_cell
decoded_of-queue_receivers_head word q value =
    ap (λ (queues : List QueueWords). record (decoded_of word) { queues = queues })
    (queues_are word (with_cell word (QueueWord q 3) value) q (λ queue. record queue { receivers_head = value }) (rw (same q) refl) (λ u other. rw other refl))

pub decoded_of-queue_item : (word : Cell → ℕ) (q i value : ℕ) → decoded_of (with_cell word (QueueItem q i) value) ≡ with_queue (decoded_of word) q (record (queue_at (decoded_of word) q) { slots = slice_set (queue_at (decoded_of word) q).slots i value })
unfolding decoded_of with_cell
decoded_of-queue_item word q i value =
    let words = listed_words 48 (λ j. word (QueueItem q j)) i value in
    ap (λ (queues : List QueueWords). record (decoded_of word) { queues = queues })
    (queues_are word (with_cell word (QueueItem q i) value) q (λ queue. record queue { slots = slice_set queue.slots i value })
    (rw (same q) (ap (λ (ws : List ℕ). record (queue_of word q) { slots = ws }) words)) (λ u other. rw other refl))

pub decoded_of-queue_padding : (word : Cell → ℕ) (q i value : ℕ) → decoded_of (with_cell word (QueueSpare q i) value) ≡ with_queue (decoded_of word) q (record (queue_at (decoded_of word) q) { padding = slice_set (queue_at (decoded_of word) q).padding i value })
unfolding decoded_of with_cell
decoded_of-queue_padding word q i value =
    let words = listed_words 12 (λ j. word (QueueSpare q j)) i value in
    ap (λ (queues : List QueueWords). record (decoded_of word) { queues = queues })
    (queues_are word (with_cell word (QueueSpare q i) value) q (λ queue. record queue { padding = slice_set queue.padding i value })
    (rw (same q) (ap (λ (ws : List ℕ). record (queue_of word q) { padding = ws }) words)) (λ u other. rw other refl))

-- words of which one semaphore has changed
semaphores_are : (word later : Cell → ℕ) (s : ℕ) (change : SemaphoreWords → SemaphoreWords) → semaphore_of later s ≡ change (semaphore_of word s) → ((u : ℕ) → (u == s) ≡ false → semaphore_of later u ≡ semaphore_of word u) → listed 16 (semaphore_of later) ≡ slice_set (listed 16 (semaphore_of word)) s (change (semaphore_at (decoded_of word) s))
semaphores_are word later s change here there = listed-set 16 (semaphore_of word) (semaphore_of later) s _ (λ low. here ∙ ap change (sym (semaphore_at-decoded word s low))) there

pub decoded_of-semaphore_count : (word : Cell → ℕ) (s value : ℕ) → decoded_of (with_cell word (SemaphoreWord s 0) value) ≡ with_semaphore (decoded_of word) s (record (semaphore_at (decoded_of word) s) { count = value })
unfolding decoded_of with_cell
decoded_of-semaphore_count word s value =
    ap (λ (semaphores : List SemaphoreWords). record (decoded_of word) { semaphores = semaphores })
    (semaphores_are word (with_cell word (SemaphoreWord s 0) value) s (λ semaphore. record semaphore { count = value }) (rw (same s) refl) (λ u other. rw other refl))

pub decoded_of-semaphore_takers_head : (word : Cell → ℕ) (s value : ℕ) → decoded_of (with_cell word (SemaphoreWord s 1) value) ≡ with_semaphore (decoded_of word) s (record (semaphore_at (decoded_of word) s) { takers_head = value })
unfolding decoded_of with_cell
decoded_of-semaphore_takers_head word s value =
    ap (λ (semaphores : List SemaphoreWords). record (decoded_of word) { semaphores = semaphores })
    (semaphores_are word (with_cell word (SemaphoreWord s 1) value) s (λ semaphore. record semaphore { takers_head = value }) (rw (same s) refl) (λ u other. rw other refl))

pub decoded_of-semaphore_third : (word : Cell → ℕ) (s value : ℕ) → decoded_of (with_cell word (SemaphoreWord s 2) value) ≡ with_semaphore (decoded_of word) s (record (semaphore_at (decoded_of word) s) { third = value })
unfolding decoded_of with_cell
decoded_of-semaphore_third word s value =
    ap (λ (semaphores : List SemaphoreWords). record (decoded_of word) { semaphores = semaphores })
    (semaphores_are word (with_cell word (SemaphoreWord s 2) value) s (λ semaphore. record semaphore { third = value }) (rw (same s) refl) (λ u other. rw other refl))

pub decoded_of-semaphore_fourth : (word : Cell → ℕ) (s value : ℕ) → decoded_of (with_cell word (SemaphoreWord s 3) value) ≡ with_semaphore (decoded_of word) s (record (semaphore_at (decoded_of word) s) { fourth = value })
unfolding decoded_of with_cell
decoded_of-semaphore_fourth word s value =
    ap (λ (semaphores : List SemaphoreWords). record (decoded_of word) { semaphores = semaphores })
    (semaphores_are word (with_cell word (SemaphoreWord s 3) value) s (λ semaphore. record semaphore { fourth = value }) (rw (same s) refl) (λ u other. rw other refl))

pub decoded_of-console_word : (word : Cell → ℕ) (i value : ℕ) → decoded_of (with_cell word (ConsoleWord i) value) ≡ record (decoded_of word) { console = slice_set (decoded_of word).console i value }
unfolding decoded_of with_cell
decoded_of-console_word word i value =
    ap (λ (ws : List ℕ). record (decoded_of word) { console = ws }) (listed_words 2048 (λ j. word (ConsoleWord j)) i value)

pub decoded_of-heap_word : (word : Cell → ℕ) (i value : ℕ) → decoded_of (with_cell word (HeapWord i) value) ≡ record (decoded_of word) { heap = slice_set (decoded_of word).heap i value }
unfolding decoded_of with_cell
decoded_of-heap_word word i value =
    ap (λ (ws : List ℕ). record (decoded_of word) { heap = ws }) (listed_words 4096 (λ j. word (HeapWord j)) i value)

pub decoded_of-live_word : (word : Cell → ℕ) (i value : ℕ) → decoded_of (with_cell word (LiveWord i) value) ≡ record (decoded_of word) { live = slice_set (decoded_of word).live i value }
unfolding decoded_of with_cell
decoded_of-live_word word i value =
    ap (λ (ws : List ℕ). record (decoded_of word) { live = ws }) (listed_words 64 (λ j. word (LiveWord j)) i value)

pub decoded_of-spare_header : (word : Cell → ℕ) (i value : ℕ) → decoded_of (with_cell word (SpareHeader i) value) ≡ record (decoded_of word) { spare_header = slice_set (decoded_of word).spare_header i value }
unfolding decoded_of with_cell
decoded_of-spare_header word i value =
    ap (λ (ws : List ℕ). record (decoded_of word) { spare_header = ws }) (listed_words 48 (λ j. word (SpareHeader j)) i value)

pub decoded_of-spare : (word : Cell → ℕ) (i value : ℕ) → decoded_of (with_cell word (Spare i) value) ≡ record (decoded_of word) { spare = slice_set (decoded_of word).spare i value }
unfolding decoded_of with_cell
decoded_of-spare word i value =
    ap (λ (ws : List ℕ). record (decoded_of word) { spare = ws }) (listed_words 1856 (λ j. word (Spare j)) i value)

-- a row that was just put there, and one that is put there after another one
length_rows : (word : Cell → ℕ) → length (decoded_of word).rows ≡ 16
unfolding decoded_of
length_rows word = length-listed 16 (row_of word)

pub row_at-with_row : (word : Cell → ℕ) (t : ℕ) (row : RowWords) → t < 16 → row_at (with_row (decoded_of word) t row) t ≡ row
row_at-with_row word t row low = let long = length_rows word in get_or-set_same (decoded_of word).rows t row blank_row (omega (arith, low, long))

pub with_row-again : (d : Decoded) (t : ℕ) (row later : RowWords) → with_row (with_row d t row) t later ≡ with_row d t later
with_row-again d t row later = ap (λ (rows : List RowWords). record d { rows = rows }) (set-set d.rows t row later)
