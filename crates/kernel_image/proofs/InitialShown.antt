-- The image that formatting writes shows the kernel at the start.
use Rattle.std.proofs.Common.{◌≡◌, ℕ, suc, ◌+◌, ◌<◌, List, [], ◌∷◌, true, refl, ap, subst, ◌∙◌, arith}
use Rattle.std.proofs.lemmas.Bool.Decides.{nat_tests}
use Rattle.std.specs.Prelude.{map, nat_lt, ◌&&◌, slice_get, Some}
use Rattle.std.specs.List.{enumerate_from}
use Rattle.undo_journal.specs.Undo.{outside, IsAtRest}
use Rattle.undo_journal.proofs.Callers.{outside-plain}
use Rattle.kernel_model.specs.declared.what.What.TheVariants.{Send, Receive, Take}
use Rattle.kernel_model.specs.Run.{initial}
use Rattle.kernel_model.specs.Show as show
use Rattle.kernel_model.specs.Show.{visible}
use Rattle.thread_tree.specs.Program as program
use Rattle.thread_tree.specs.Program.{Program}
use Rattle.thread_tree.specs.Limits.{IsWithinLimits}
use Rattle.kernel_image.specs.declared.cell.Cell.{Cell}
use Rattle.kernel_image.specs.declared.cell.Cell.TheVariants.{Header, SpareHeader, QueueWord, QueueItem, QueueSpare, SemaphoreWord, RowWord, StartValue, RecordWord, ConsoleWord, HeapWord, LiveWord, Spare}
use Rattle.kernel_image.specs.Cells.{cell_of, address, is_cell, cells, present}
use Rattle.kernel_image.specs.Decoded.{decoded_of, image_in, listed, row_of, queue_of, semaphore_of, semaphore_at}
use Rattle.kernel_image.specs.Shown.{shown, shown_queue, shown_semaphore, byte_of}
use Rattle.kernel_image.specs.Initial.{initial_cell}
use Rattle.kernel_image.specs.Start.{IsFormatted, shown_in}
use Rattle.kernel_image.proofs.CellLaws.{address-plain, cell_of-address}
use Rattle.kernel_image.proofs.Listed.{listed-same}
use Rattle.kernel_image.proofs.InitialRows.{initial-rows, initial-items, initial-semaphore}
use Rattle.kernel_image.proofs.InitialObjects.{initial-objects}
use Rattle.kernel_image.proofs.Lines.{rows-agree, ready_lists-agree, timed-agree, waiting-agree}

-- words that agree at each cell
abbrev pub AgreeAtCells : (Cell → ℕ) → (Cell → ℕ) → Type 0
AgreeAtCells f g = (c : Cell) → is_cell c ≡ true → f c ≡ g c

-- two indexes within their bounds
both_low : (a b n m : ℕ) → a < n → b < m → (nat_lt a n && nat_lt b m) ≡ true
both_low a b n m low low' = grind (arith, nat_tests)

one_low : (a n : ℕ) → a < n → nat_lt a n ≡ true
one_low a n low = grind (arith, nat_tests)

row-same : (f g : Cell → ℕ) → AgreeAtCells f g → (t : ℕ) → t < 16 → row_of f t ≡ row_of g t
row-same f g agree t low =
    let a0 = agree (RowWord t 0) (both_low t 0 16 16 low (omega arith)) in
    let a1 = agree (RowWord t 1) (both_low t 1 16 16 low (omega arith)) in
    let a2 = agree (RowWord t 2) (both_low t 2 16 16 low (omega arith)) in
    let a3 = agree (RowWord t 3) (both_low t 3 16 16 low (omega arith)) in
    let a4 = agree (RowWord t 4) (both_low t 4 16 16 low (omega arith)) in
    let a5 = agree (RowWord t 5) (both_low t 5 16 16 low (omega arith)) in
    let a6 = agree (RowWord t 6) (both_low t 6 16 16 low (omega arith)) in
    let a7 = agree (RowWord t 7) (both_low t 7 16 16 low (omega arith)) in
    let a8 = agree (RowWord t 8) (both_low t 8 16 16 low (omega arith)) in
    let a9 = agree (RowWord t 9) (both_low t 9 16 16 low (omega arith)) in
    let a10 = agree (RowWord t 10) (both_low t 10 16 16 low (omega arith)) in
    let a11 = agree (RowWord t 11) (both_low t 11 16 16 low (omega arith)) in
    let a12 = agree (RowWord t 12) (both_low t 12 16 16 low (omega arith)) in
    let a13 = agree (RowWord t 13) (both_low t 13 16 16 low (omega arith)) in
    let a14 = agree (RowWord t 14) (both_low t 14 16 16 low (omega arith)) in
    let a15 = agree (RowWord t 15) (both_low t 15 16 16 low (omega arith)) in
    let starts = listed-same 16 (λ i. f (StartValue t i)) (λ i. g (StartValue t i)) (λ i within. agree (StartValue t i) (both_low t i 16 16 low within)) in
    let records = listed-same 256 (λ i. f (RecordWord t i)) (λ i. g (RecordWord t i)) (λ i within. agree (RecordWord t i) (both_low t i 16 256 low within)) in
    λ i. record {
      state = a0 i;
      template = a1 i;
      priority = a2 i;
      code = a3 i;
      wake = a4 i;
      target = a5 i;
      what = a6 i;
      value = a7 i;
      stamp = a8 i;
      next = a9 i;
      previous = a10 i;
      timed_next = a11 i;
      timed_previous = a12 i;
      start = a13 i;
      start_count = a14 i;
      used = a15 i;
      start_values = starts i;
      records = records i;
    }

queue-same : (f g : Cell → ℕ) → AgreeAtCells f g → (q : ℕ) → q < 16 → queue_of f q ≡ queue_of g q
queue-same f g agree q low =
    let a0 = agree (QueueWord q 0) (both_low q 0 16 4 low (omega arith)) in
    let a1 = agree (QueueWord q 1) (both_low q 1 16 4 low (omega arith)) in
    let a2 = agree (QueueWord q 2) (both_low q 2 16 4 low (omega arith)) in
    let a3 = agree (QueueWord q 3) (both_low q 3 16 4 low (omega arith)) in
    let slots = listed-same 48 (λ i. f (QueueItem q i)) (λ i. g (QueueItem q i)) (λ i within. agree (QueueItem q i) (both_low q i 16 48 low within)) in
    let padding = listed-same 12 (λ i. f (QueueSpare q i)) (λ i. g (QueueSpare q i)) (λ i within. agree (QueueSpare q i) (both_low q i 16 12 low within)) in
    λ i. record { count = a0 i; front = a1 i; senders_head = a2 i; receivers_head = a3 i; slots = slots i; padding = padding i }

semaphore-same : (f g : Cell → ℕ) → AgreeAtCells f g → (s : ℕ) → s < 16 → semaphore_of f s ≡ semaphore_of g s
semaphore-same f g agree s low =
    let a0 = agree (SemaphoreWord s 0) (both_low s 0 16 4 low (omega arith)) in
    let a1 = agree (SemaphoreWord s 1) (both_low s 1 16 4 low (omega arith)) in
    let a2 = agree (SemaphoreWord s 2) (both_low s 2 16 4 low (omega arith)) in
    let a3 = agree (SemaphoreWord s 3) (both_low s 3 16 4 low (omega arith)) in
    λ i. record { count = a0 i; takers_head = a1 i; third = a2 i; fourth = a3 i }

-- hold the same image
pub decoded_of-agree : (f g : Cell → ℕ) → AgreeAtCells f g → decoded_of f ≡ decoded_of g
unfolding decoded_of
decoded_of-agree f g agree =
    let h1 = agree (Header 1) refl in
    let h2 = agree (Header 2) refl in
    let h3 = agree (Header 3) refl in
    let h5 = agree (Header 5) refl in
    let h6 = agree (Header 6) refl in
    let h7 = agree (Header 7) refl in
    let h8 = agree (Header 8) refl in
    let h9 = agree (Header 9) refl in
    let h10 = agree (Header 10) refl in
    let h11 = agree (Header 11) refl in
    let h12 = agree (Header 12) refl in
    let h13 = agree (Header 13) refl in
    let h14 = agree (Header 14) refl in
    let h15 = agree (Header 15) refl in
    let rows = listed-same 16 (row_of f) (row_of g) (row-same f g agree) in
    let queues = listed-same 16 (queue_of f) (queue_of g) (queue-same f g agree) in
    let semaphores = listed-same 16 (semaphore_of f) (semaphore_of g) (semaphore-same f g agree) in
    let console = listed-same 2048 (λ i. f (ConsoleWord i)) (λ i. g (ConsoleWord i)) (λ i within. agree (ConsoleWord i) (one_low i 2048 within)) in
    let heap = listed-same 4096 (λ i. f (HeapWord i)) (λ i. g (HeapWord i)) (λ i within. agree (HeapWord i) (one_low i 4096 within)) in
    let live = listed-same 64 (λ i. f (LiveWord i)) (λ i. g (LiveWord i)) (λ i within. agree (LiveWord i) (one_low i 64 within)) in
    let spare_header = listed-same 48 (λ i. f (SpareHeader i)) (λ i. g (SpareHeader i)) (λ i within. agree (SpareHeader i) (one_low i 48 within)) in
    let spare = listed-same 1856 (λ i. f (Spare i)) (λ i. g (Spare i)) (λ i within. agree (Spare i) (one_low i 1856 within)) in
    λ i. record {
      events = h1 i;
      ticks = h2 i;
      stamp = h3 i;
      console_length = h5 i;
      first_hole = h6 i;
      timed_head = h7 i;
      ready_heads = h8 i ∷ h9 i ∷ h10 i ∷ h11 i ∷ h12 i ∷ h13 i ∷ h14 i ∷ h15 i ∷ [];
      rows = rows i;
      queues = queues i;
      semaphores = semaphores i;
      console = console i;
      heap = heap i;
      live = live i;
      spare_header = spare_header i;
      spare = spare i;
    }

-- formatted words hold the initial image
formatted-at : (p : Program) (words : List ℕ) → IsFormatted p words → (c : Cell) → is_cell c ≡ true → present words c ≡ initial_cell p c
unfolding cells
formatted-at p words formatted c is =
    let plain = address-plain c is in
    let here : present words c ≡ outside words (address c) = rw is refl in
    here ∙ outside-plain words (address c) plain ∙ formatted.each (address c) plain.within ∙ ap (initial_cell p) (cell_of-address c is)

pub formatted-image : (p : Program) (words : List ℕ) → IsFormatted p words → image_in words ≡ decoded_of (initial_cell p)
formatted-image p words formatted = decoded_of-agree (present words) (initial_cell p) (formatted-at p words formatted)

-- the queues at the start
queues-from : (p : Program) (n : ℕ) (queues : List program.Queue) → IsWithinLimits p → map (shown_queue (decoded_of (initial_cell p))) (enumerate_from n queues) ≡ map (show.shown_queue (initial p)) (enumerate_from n (map (λ (q : program.Queue). []) queues))
unfolding decoded_of initial
queues-from p n [] within = refl
queues-from p n (queue ∷ queues) within =
    let items = initial-items p n queue.capacity in
    let senders = waiting-agree (listed 16 (row_of (initial_cell p))) (initial p).rows (initial-rows p within) Send n in
    let receivers = waiting-agree (listed 16 (row_of (initial_cell p))) (initial p).rows (initial-rows p within) Receive n in
    let rest = queues-from p (n + 1) queues within in
    λ i. record { items = items i; senders = senders i; receivers = receivers i } ∷ rest i

-- the semaphores at the start
semaphores-from : (p : Program) (n : ℕ) (semaphores : List program.Semaphore) → IsWithinLimits p → ((i : ℕ) (s : program.Semaphore) → slice_get semaphores i ≡ Some s → (semaphore_at (decoded_of (initial_cell p)) (n + i)).count ≡ s.count) → map (shown_semaphore (decoded_of (initial_cell p))) (enumerate_from n semaphores) ≡ map (show.shown_semaphore (initial p)) (enumerate_from n (map (λ (s : program.Semaphore). s.count) semaphores))
unfolding decoded_of initial
semaphores-from p n [] within counts = refl
semaphores-from p n (semaphore ∷ semaphores) within counts =
    let count : (semaphore_at (decoded_of (initial_cell p)) n).count ≡ semaphore.count = subst (λ (m : ℕ). (semaphore_at (decoded_of (initial_cell p)) m).count ≡ semaphore.count) (omega arith) (counts 0 semaphore refl) in
    let takers = waiting-agree (listed 16 (row_of (initial_cell p))) (initial p).rows (initial-rows p within) Take n in
    let rest = semaphores-from p (n + 1) semaphores within (λ i s is. subst (λ (m : ℕ). (semaphore_at (decoded_of (initial_cell p)) m).count ≡ s.count) (omega arith) (counts (suc i) s is)) in
    λ i. record { count = count i; takers = takers i } ∷ rest i

-- nothing is printed at the start
no_bytes : (f : ℕ → ℕ) → listed 0 f ≡ []
unfolding listed
no_bytes f = refl

-- what the initial image shows
pub initial-shown : (p : Program) → IsWithinLimits p → shown p (decoded_of (initial_cell p)) ≡ visible p (initial p)
unfolding shown decoded_of initial_cell visible initial
initial-shown p within =
    let both = initial-rows p within in
    let rows = rows-agree _ _ both in
    let ready = ready_lists-agree _ _ both in
    let timed = timed-agree _ _ both in
    let queues = queues-from p 0 p.queues within in
    let semaphores = semaphores-from p 0 p.semaphores within (λ i s is. subst (λ (m : ℕ). (semaphore_at (decoded_of (initial_cell p)) m).count ≡ s.count) (omega arith) (initial-semaphore p i s within is)) in
    let objects = initial-objects p within in
    let console = no_bytes (byte_of (listed 2048 (λ i. 0))) in
    λ i. record {
      events = 0;
      ticks = 0;
      rows = rows i;
      ready = ready i;
      timed = timed i;
      queues = queues i;
      semaphores = semaphores i;
      objects = objects i;
      console = console i;
    }

-- formatted words are at rest
pub formatted-rests : (p : Program) (words : List ℕ) → IsFormatted p words → IsAtRest words
unfolding cell_of initial_cell
formatted-rests p words formatted = record { formatted = formatted.each 0 (omega arith); empty = formatted.each 4 (omega arith) }

-- and show the kernel at the start
pub formatted-shows : (p : Program) (words : List ℕ) → IsWithinLimits p → IsFormatted p words → shown_in p words ≡ visible p (initial p)
unfolding shown_in
formatted-shows p words within formatted =
    let first = (formatted-rests p words formatted).formatted in
    rw first (ap (shown p) (formatted-image p words formatted) ∙ initial-shown p within)
