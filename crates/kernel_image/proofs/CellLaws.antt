-- A cell and its address.
use Rattle.std.proofs.Common.{◌≡◌, ℕ, ◌+◌, ◌<◌, ◌==◌, List, Bool, true, false, refl, ap, sym, subst, ◌∙◌, arith}
use Rattle.std.proofs.Math.Path.{fun_ext}
use Rattle.std.proofs.lemmas.Bool.Decides.{nat_tests}
use Rattle.std.specs.Prelude.{slice_index, IsTrue}
use Rattle.std.proofs.lemmas.Bool.{false≢true}
use Rattle.undo_journal.proofs.Callers.{outside-plain}
use Rattle.undo_journal.specs.Undo.{outside, with_word, IsPlain}
use Rattle.kernel_image.specs.declared.cell.Cell.{Cell}
use Rattle.kernel_image.specs.declared.cell.Cell.TheVariants.{Header, SpareHeader, QueueWord, QueueItem, QueueSpare, SemaphoreWord, RowWord, StartValue, RecordWord, ConsoleWord, HeapWord, LiveWord, Spare}
use Rattle.kernel_image.specs.Cells.{address, is_cell, cell_eq, cell_of, cells, with_cell}

-- the cell at the address of a cell is that cell
pub cell_of-address : (c : Cell) → is_cell c ≡ true → cell_of (address c) ≡ c
unfolding cell_of
cell_of-address (Header at) h = grind (arith, nat_tests)
cell_of-address (SpareHeader i) h = grind (arith, nat_tests)
cell_of-address (QueueWord queue word) h = grind (arith, nat_tests)
cell_of-address (QueueItem queue slot) h = grind (arith, nat_tests)
cell_of-address (QueueSpare queue i) h = grind (arith, nat_tests)
cell_of-address (SemaphoreWord semaphore word) h = grind (arith, nat_tests)
cell_of-address (RowWord thread word) h = grind (arith, nat_tests)
cell_of-address (StartValue thread value) h = grind (arith, nat_tests)
cell_of-address (RecordWord thread word) h = grind (arith, nat_tests)
cell_of-address (ConsoleWord word) h = grind (arith, nat_tests)
cell_of-address (HeapWord place) h = grind (arith, nat_tests)
cell_of-address (LiveWord word) h = grind (arith, nat_tests)
cell_of-address (Spare i) h = grind (arith, nat_tests)

-- a word behind the header and before the journal may be kept by the journal
plain_between : (at : ℕ) → 63 < at → at < 11968 → IsPlain at
plain_between at low high = record { not_magic = omega arith; within = omega arith; not_count = omega arith; not_entry = λ entry. omega arith }

-- a word behind the journal may be kept too
plain_behind : (i : ℕ) → i < 1856 → IsPlain (14528 + i)
plain_behind i few = record { not_magic = omega arith; within = omega (arith, few); not_count = omega arith; not_entry = λ entry. omega arith }

-- a word of the header, but for the journal's and word 0
plain_header : (at : ℕ) → 0 < at → at < 64 → (at == 4) ≡ false → IsPlain at
plain_header at some low other = record { not_magic = some; within = omega arith; not_count = grind (arith, nat_tests); not_entry = λ entry. omega arith }

-- so may each cell
pub address-plain : (c : Cell) → IsTrue (is_cell c) → IsPlain (address c)
address-plain (Header at) h = plain_header at (grind (arith, nat_tests)) (grind (arith, nat_tests)) (grind (arith, nat_tests))
address-plain (SpareHeader i) h = plain_header (16 + i) (omega arith) (grind (arith, nat_tests)) (grind (arith, nat_tests))
address-plain (QueueWord queue word) h = plain_between _ (omega arith) (grind (arith, nat_tests))
address-plain (QueueItem queue slot) h = plain_between _ (omega arith) (grind (arith, nat_tests))
address-plain (QueueSpare queue i) h = plain_between _ (omega arith) (grind (arith, nat_tests))
address-plain (SemaphoreWord semaphore word) h = plain_between _ (omega arith) (grind (arith, nat_tests))
address-plain (RowWord thread word) h = plain_between _ (omega arith) (grind (arith, nat_tests))
address-plain (StartValue thread value) h = plain_between _ (omega arith) (grind (arith, nat_tests))
address-plain (RecordWord thread word) h = plain_between _ (omega arith) (grind (arith, nat_tests))
address-plain (ConsoleWord word) h = plain_between _ (omega arith) (grind (arith, nat_tests))
address-plain (HeapWord place) h = plain_between _ (omega arith) (grind (arith, nat_tests))
address-plain (LiveWord word) h = plain_between _ (omega arith) (grind (arith, nat_tests))
address-plain (Spare i) h = plain_behind i (grind (arith, nat_tests))

-- a cell is one with itself
pub cell_eq-same : (c : Cell) → cell_eq c c ≡ true
cell_eq-same (Header at) = grind (arith, nat_tests)
cell_eq-same (SpareHeader i) = grind (arith, nat_tests)
cell_eq-same (QueueWord queue word) = grind (arith, nat_tests)
cell_eq-same (QueueItem queue slot) = grind (arith, nat_tests)
cell_eq-same (QueueSpare queue i) = grind (arith, nat_tests)
cell_eq-same (SemaphoreWord semaphore word) = grind (arith, nat_tests)
cell_eq-same (RowWord thread word) = grind (arith, nat_tests)
cell_eq-same (StartValue thread value) = grind (arith, nat_tests)
cell_eq-same (RecordWord thread word) = grind (arith, nat_tests)
cell_eq-same (ConsoleWord word) = grind (arith, nat_tests)
cell_eq-same (HeapWord place) = grind (arith, nat_tests)
cell_eq-same (LiveWord word) = grind (arith, nat_tests)
cell_eq-same (Spare i) = grind (arith, nat_tests)

-- cells that are one are the same
pub cell_eq-is : (c d : Cell) → cell_eq c d ≡ true → c ≡ d
cell_eq-is (Header a) (Header b) h = grind (arith, nat_tests)
cell_eq-is (SpareHeader a) (SpareHeader b) h = grind (arith, nat_tests)
cell_eq-is (QueueWord q a) (QueueWord r b) h = grind (arith, nat_tests)
cell_eq-is (QueueItem q a) (QueueItem r b) h = grind (arith, nat_tests)
cell_eq-is (QueueSpare q a) (QueueSpare r b) h = grind (arith, nat_tests)
cell_eq-is (SemaphoreWord q a) (SemaphoreWord r b) h = grind (arith, nat_tests)
cell_eq-is (RowWord q a) (RowWord r b) h = grind (arith, nat_tests)
cell_eq-is (StartValue q a) (StartValue r b) h = grind (arith, nat_tests)
cell_eq-is (RecordWord q a) (RecordWord r b) h = grind (arith, nat_tests)
cell_eq-is (ConsoleWord a) (ConsoleWord b) h = grind (arith, nat_tests)
cell_eq-is (HeapWord a) (HeapWord b) h = grind (arith, nat_tests)
cell_eq-is (LiveWord a) (LiveWord b) h = grind (arith, nat_tests)
cell_eq-is (Spare a) (Spare b) h = grind (arith, nat_tests)
cell_eq-is c d h = absurd (false≢true h)

-- a choice by a test, in both of its cases
pub by_test : (b : Bool) (P : Type 0) → (b ≡ true → P) → (b ≡ false → P) → P
by_test true P holds fails = holds refl
by_test false P holds fails = fails refl

-- two cells have two addresses
pub address-other : (c d : Cell) → is_cell c ≡ true → is_cell d ≡ true → cell_eq d c ≡ false → (address d == address c) ≡ false
address-other c d is_c is_d other = by_test (address d == address c) _
    (λ same.
    let at : address d ≡ address c = grind (arith, nat_tests) in
    let one : d ≡ c = sym (cell_of-address d is_d) ∙ ap cell_of at ∙ cell_of-address c is_c in
    absurd (false≢true (sym other ∙ subst (λ (e : Cell). cell_eq e c ≡ true) (sym one) (cell_eq-same c))))
    (λ apart. apart)

-- at each cell the words with the word of a cell changed are the cells with that cell changed
cells-with_word-at : (words : ℕ → ℕ) (c : Cell) (value : ℕ) (d : Cell) → is_cell c ≡ true → cells (with_word words (address c) value) d ≡ with_cell (cells words) c value d
unfolding cells with_word with_cell
cells-with_word-at words c value d is_c = by_test (cell_eq d c) _
    (λ same.
    let one : d ≡ c = cell_eq-is d c same in
    let at : (address d == address c) ≡ true = rw one (grind (arith, nat_tests)) in
    let is_d : is_cell d ≡ true = rw one is_c in
    rw (same, is_d, at))
    (λ other. by_test (is_cell d) _
    (λ is_d. rw (other, is_d, address-other c d is_c is_d other))
    (λ none. rw (other, none)))

-- a store to a word of a cell changes that cell
pub cells-with_word : (words : ℕ → ℕ) (c : Cell) (value : ℕ) → IsTrue (is_cell c) → cells (with_word words (address c) value) ≡ with_cell (cells words) c value
cells-with_word words c value is_c = fun_ext (λ d. cells-with_word-at words c value d is_c)

-- the word at the address of a cell
pub cells-word : (words : List ℕ) (c : Cell) → IsTrue (is_cell c) → slice_index words (address c) ≡ cells (outside words) c
unfolding cells
cells-word words c is_c = let is : is_cell c ≡ true = is_c in rw is (sym (outside-plain words (address c) (address-plain c is_c)))

-- a write at the address of a cell is a store to that cell
pub cells-written : (old new : ℕ → ℕ) (c : Cell) (at value : ℕ) → new ≡ with_word old at value → IsTrue (is_cell c) → address c ≡ at → cells new ≡ with_cell (cells old) c value
cells-written old new c at value written is_c here =
    ap cells (written ∙ ap (λ (a : ℕ). with_word old a value) (sym here)) ∙ cells-with_word old c value is_c
