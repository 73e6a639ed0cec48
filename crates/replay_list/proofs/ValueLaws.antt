-- The values with which the thread of a row starts.
use Rattle.std.proofs.Common.{◌≡◌, ℕ, ◌+◌, ◌<◌, List, [], ◌∷◌, ◌++◌, ap, sym, ◌∙◌, arith, length, take, slice_index, set, get_or}
use Rattle.std.proofs.lemmas.List.{take_more}
use Rattle.std.proofs.lemmas.List.Edits.{paste_more}
use Rattle.std.proofs.lemmas.List.FromFn.{get_or-map-range_with_len, length-map-range_with_len}
use Rattle.std.proofs.Math.Seq.{paste}
use Rattle.kernel_image.specs.declared.cell.Cell.{Cell}
use Rattle.kernel_image.specs.declared.cell.Cell.TheVariants.{StartValue}
use Rattle.kernel_image.specs.Decoded.{Decoded, RowWords, listed, decoded_of, row_at, with_row}
use Rattle.kernel_image.proofs.Callers.{row_at-decoded}
use Rattle.replay_list.proofs.AppendLaws.{changed_again}

-- a row has sixteen of them, and each is the word of its cell
values_many : (word : Cell → ℕ) (t : ℕ) → t < 16 → length (row_at (decoded_of word) t).start_values ≡ 16
unfolding listed
values_many word t low =
    ap (λ (row : RowWords). length row.start_values) (row_at-decoded word t low) ∙ length-map-range_with_len (λ i. word (StartValue t i)) 0 16

value_word_at : (word : Cell → ℕ) (t i : ℕ) → t < 16 → i < 16 → slice_index (row_at (decoded_of word) t).start_values i ≡ word (StartValue t i)
unfolding listed
value_word_at word t i low few =
    ap (λ (row : RowWords). slice_index row.start_values i) (row_at-decoded word t low)
    ∙ get_or-map-range_with_len (λ i. word (StartValue t i)) 0 16 i i 0 few (omega arith)

-- one value more
pub values_more : (word : Cell → ℕ) (t i : ℕ) → t < 16 → i < 16 → take (i + 1) (row_at (decoded_of word) t).start_values ≡ take i (row_at (decoded_of word) t).start_values ++ word (StartValue t i) ∷ []
values_more word t i low within =
    let xs = (row_at (decoded_of word) t).start_values in
    let sized = values_many word t low in
    take_more xs i 0 (omega (arith, within, sized))
    ∙ ap (λ (x : ℕ). take i xs ++ x ∷ []) (value_word_at word t i low within)

-- a row with other values
abbrev with_values : RowWords → List ℕ → RowWords
with_values row values = record row { start_values = values }

-- one value more is stored
pub values_pasted : (word : Cell → ℕ) (t i value : ℕ) (values : List ℕ) (now new : Decoded) → t < 16 → i < 16 → i < length values → value ≡ get_or values i 0 →
    now ≡ with_row (decoded_of word) t (record (row_at (decoded_of word) t) { start_values = paste (row_at (decoded_of word) t).start_values 0 values i }) →
    new ≡ with_row now t (record (row_at now t) { start_values = set (row_at now t).start_values i value }) →
    new ≡ with_row (decoded_of word) t (record (row_at (decoded_of word) t) { start_values = paste (row_at (decoded_of word) t).start_values 0 values (i + 1) })
values_pasted word t i value values now new low few within is first second =
    let row : RowWords = row_at (decoded_of word) t in
    let many = values_many word t low in
    let first_at : 0 + i ≡ i = omega arith in
    changed_again word t (λ row. record row { start_values = set row.start_values i value }) (with_values row (paste row.start_values 0 values i)) now new low first second
    ∙ ap (λ (ws : List ℕ). with_row (decoded_of word) t (with_values row ws))
    (ap (λ v. set (paste row.start_values 0 values i) i v) is ∙ ap (λ (k : ℕ). set (paste row.start_values 0 values i) k (get_or values i 0)) (sym first_at) ∙ paste_more row.start_values 0 values i 0 (omega (arith, few, many)) within)
