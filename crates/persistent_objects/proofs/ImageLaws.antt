-- Words of the heap and of the live bits in an image.
use Rattle.std.proofs.Common.{◌≡◌, ℕ, ◌<◌, ◌≤◌, arith, length, slice_index}
use Rattle.std.proofs.Math.ListN.{get_or-eq_default}
use Rattle.kernel_image.specs.declared.cell.Cell.{Cell}
use Rattle.kernel_image.specs.declared.cell.Cell.TheVariants.{HeapWord, LiveWord}
use Rattle.kernel_image.specs.Decoded.{decoded_of}
use Rattle.kernel_image.proofs.Callers.{listed-at, length-listed}

pub heap_word_at : (word : Cell → ℕ) (at : ℕ) → at < 4096 → slice_index (decoded_of word).heap at ≡ word (HeapWord at)
unfolding decoded_of
heap_word_at word at low = listed-at 4096 (λ p. word (HeapWord p)) at 0 low

pub live_word_at : (word : Cell → ℕ) (at : ℕ) → at < 64 → slice_index (decoded_of word).live at ≡ word (LiveWord at)
unfolding decoded_of
live_word_at word at low = listed-at 64 (λ i. word (LiveWord i)) at 0 low

pub length_heap : (word : Cell → ℕ) → length (decoded_of word).heap ≡ 4096
unfolding decoded_of
length_heap word = length-listed 4096 (λ p. word (HeapWord p))

-- behind the last place there is none
pub heap_word_past : (word : Cell → ℕ) (at : ℕ) → 4096 ≤ at → slice_index (decoded_of word).heap at ≡ 0
heap_word_past word at past = let long = length_heap word in get_or-eq_default (decoded_of word).heap 0 {n = at} (omega (arith, long, past))
