-- Frames: what a part of the cells leaves as it was.
use Rattle.std.proofs.Common.{◌≡◌, ℕ, Bool, true, false, refl, ap, sym, ◌∙◌}
use Rattle.std.proofs.Math.Path.{fun_ext}
use Rattle.kernel_image.specs.declared.cell.Cell.{Cell}
use Rattle.kernel_image.specs.Cells.{address, is_cell, cell_eq, cells, with_cell, blanked}
use Rattle.kernel_image.specs.Decoded.{decoded_of, of_heap, with_heap_of}
use Rattle.kernel_image.proofs.CellLaws.{by_test, cell_eq-is}

-- a store to a touched cell
pub blanked-with_cell : (touched : Cell → Bool) (word : Cell → ℕ) (c : Cell) (value : ℕ) → touched c ≡ true → blanked touched (with_cell word c value) ≡ blanked touched word
unfolding blanked with_cell
blanked-with_cell touched word c value is = fun_ext (λ d. by_test (cell_eq d c) _
    (λ same. let at : touched d ≡ true = rw (cell_eq-is d c same) is in rw at refl)
    (λ other. rw other refl))

-- words that agree at the addresses of all other cells
pub blanked-cells : (touched : Cell → Bool) (old new : ℕ → ℕ) → ((c : Cell) → is_cell c ≡ true → touched c ≡ false → new (address c) ≡ old (address c)) → blanked touched (cells new) ≡ blanked touched (cells old)
unfolding blanked cells
blanked-cells touched old new agree = fun_ext (λ c. by_test (touched c) _
    (λ is. rw is refl)
    (λ beside. by_test (is_cell c) _
    (λ is_c. rw (beside, is_c) (agree c is_c beside))
    (λ none. rw (beside, none) refl)))

-- a cell that isn't touched
pub blanked-beside : (touched : Cell → Bool) (old new : Cell → ℕ) (c : Cell) → blanked touched new ≡ blanked touched old → touched c ≡ false → new c ≡ old c
unfolding blanked
blanked-beside touched old new c same beside =
    let here : blanked touched new c ≡ new c = rw beside refl in
    let there : blanked touched old c ≡ old c = rw beside refl in
    sym here ∙ ap (λ (word : Cell → ℕ). word c) same ∙ there

-- words that differ in the heap alone
pub decoded_of-of_heap : (old new : Cell → ℕ) → blanked of_heap new ≡ blanked of_heap old → decoded_of new ≡ with_heap_of (decoded_of new) (decoded_of old)
unfolding blanked decoded_of
decoded_of-of_heap old new same = ap (λ (word : Cell → ℕ). with_heap_of (decoded_of new) (decoded_of word)) same
