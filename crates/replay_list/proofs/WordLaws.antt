-- The words of a row's records.
use Rattle.std.proofs.Common.{◌≡◌, ℕ, ◌+◌, ◌<◌, ◌++◌, List, [], ◌∷◌, ap, ◌∙◌, arith, length, take, drop, length-drop}
use Rattle.std.specs.Prelude.{slice_index}
use Rattle.std.proofs.lemmas.List.{take_more, get_or-drop}
use Rattle.std.proofs.lemmas.List.FromFn.{get_or-map-range_with_len, length-map-range_with_len}
use Rattle.kernel_image.specs.declared.cell.Cell.{Cell}
use Rattle.kernel_image.specs.declared.cell.Cell.TheVariants.{RecordWord}
use Rattle.kernel_image.specs.Decoded.{RowWords, listed, decoded_of, row_at}
use Rattle.kernel_image.proofs.Callers.{row_at-decoded}

-- a row has 256 of them, and each is the word of its cell
pub record_word_at : (word : Cell → ℕ) (t i : ℕ) → t < 16 → i < 256 → slice_index (row_at (decoded_of word) t).records i ≡ word (RecordWord t i)
unfolding listed
record_word_at word t i low few =
    ap (λ (row : RowWords). slice_index row.records i) (row_at-decoded word t low)
    ∙ get_or-map-range_with_len (λ i. word (RecordWord t i)) 0 256 i i 0 few (omega arith)

pub record_words_many : (word : Cell → ℕ) (t : ℕ) → t < 16 → length (row_at (decoded_of word) t).records ≡ 256
unfolding listed
record_words_many word t low =
    ap (λ (row : RowWords). length row.records) (row_at-decoded word t low) ∙ length-map-range_with_len (λ i. word (RecordWord t i)) 0 256

-- one word more
pub words_more : (xs : List ℕ) (from n : ℕ) → from + n < length xs → take (n + 1) (drop from xs) ≡ take n (drop from xs) ++ slice_index xs (from + n) ∷ []
words_more xs from n within =
    let many = length-drop from xs in
    take_more (drop from xs) n 0 (omega arith) ∙ ap (λ (x : ℕ). take n (drop from xs) ++ x ∷ []) (get_or-drop from xs n 0)
