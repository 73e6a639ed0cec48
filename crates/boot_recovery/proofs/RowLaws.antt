-- The words of a thread's row, one by one.
use Rattle.std.proofs.Common.{◌≡◌, ◌≢◌, ℕ, ◌+◌, ◌-◌, ◌<◌, [], ◌∷◌, ◌++◌, true, false, refl, ap, ◌∙◌, arith, length, take, drop, slice_index, length-drop}
use Rattle.std.proofs.lemmas.Bool.Decides.{nat_tests}
use Rattle.std.proofs.lemmas.List.{take_more, get_or-drop}
use Rattle.std.proofs.lemmas.List.FromFn.{get_or-map-range_with_len, length-map-range_with_len}
use Rattle.std.specs.Prelude.{nat_lt, ◌&&◌, IsTrue}
use Rattle.kernel_model.specs.Kernel.{Activity}
use Rattle.kernel_model.specs.Kernel.Activity.{Ready, Delayed, Waiting}
use Rattle.kernel_model.specs.Relived.{is_open}
use Rattle.kernel_image.specs.declared.cell.Cell.{Cell}
use Rattle.kernel_image.specs.declared.cell.Cell.TheVariants.{RowWord, RecordWord}
use Rattle.kernel_image.specs.Agree.{Does}
use Rattle.kernel_image.specs.Decoded.{RowWords, decoded_of, listed, row_of, row_at}
use Rattle.kernel_image.proofs.Callers.{row_at-decoded}

listed_at : (n : ℕ) (f : ℕ → ℕ) (i : ℕ) → i < n → slice_index (listed n f) i ≡ f i
unfolding listed
listed_at n f i low = get_or-map-range_with_len f 0 n i i 0 low (omega arith)

length_listed : (n : ℕ) (f : ℕ → ℕ) → length (listed n f) ≡ n
unfolding listed
length_listed n f = length-map-range_with_len f 0 n

length_listed_rows : (n : ℕ) (f : ℕ → RowWords) → length (listed n f) ≡ n
unfolding listed
length_listed_rows n f = length-map-range_with_len f 0 n

pub length_rows : (word : Cell → ℕ) → length (decoded_of word).rows ≡ 16
unfolding decoded_of
length_rows word = length_listed_rows 16 (row_of word)

row_is : (word : Cell → ℕ) (t : ℕ) → t < 16 → row_at (decoded_of word) t ≡ row_of word t
row_is word t low = row_at-decoded word t (grind (arith, nat_tests))

pub records_sized : (word : Cell → ℕ) (t : ℕ) → t < 16 → length (row_at (decoded_of word) t).records ≡ 256
records_sized word t low = ap (λ (row : RowWords). length row.records) (row_is word t low) ∙ length_listed 256 _

pub record_word : (word : Cell → ℕ) (t i : ℕ) → t < 16 → i < 256 → slice_index (row_at (decoded_of word) t).records i ≡ word (RecordWord t i)
record_word word t i low within = ap (λ (row : RowWords). slice_index row.records i) (row_is word t low) ∙ listed_at 256 _ i within

-- one word more of a list that is read
pub words_more : (word : Cell → ℕ) (t from i : ℕ) → t < 16 → from + i < 256 → take (i + 1) (drop from (row_at (decoded_of word) t).records) ≡ take i (drop from (row_at (decoded_of word) t).records) ++ word (RecordWord t (from + i)) ∷ []
words_more word t from i low within =
    let xs = (row_at (decoded_of word) t).records in
    let long : length (drop from xs) ≡ length xs - from = length-drop from xs in
    let sized = records_sized word t low in
    take_more (drop from xs) i 0 (omega (arith, long, sized, within))
    ∙ ap (λ (x : ℕ). take i (drop from xs) ++ x ∷ []) (get_or-drop from xs i 0 ∙ record_word word t (from + i) low within)

-- the state of a row tells whether a call is open
pub ready_closed : (row : RowWords) (activity : Activity) → Does row activity → row.state ≡ 1 → is_open activity ≡ false
ready_closed row Ready does is = refl
ready_closed row (Delayed wake) does is = let at = does.0 in absurd (omega (arith, at, is))
ready_closed row (Waiting wait) does is = let at = does.0 in absurd (omega (arith, at, is))

pub other_open : (row : RowWords) (activity : Activity) → Does row activity → row.state ≢ 1 → is_open activity ≡ true
other_open row Ready does is = absurd (is does)
other_open row (Delayed wake) does is = refl
other_open row (Waiting wait) does is = refl

-- words of a row
pub row_word_0 : (word : Cell → ℕ) (t : ℕ) → t < 16 → (row_at (decoded_of word) t).state ≡ word (RowWord t 0)
row_word_0 word t low = ap (λ (row : RowWords). row.state) (row_is word t low)

pub row_word_1 : (word : Cell → ℕ) (t : ℕ) → t < 16 → (row_at (decoded_of word) t).template ≡ word (RowWord t 1)
row_word_1 word t low = ap (λ (row : RowWords). row.template) (row_is word t low)

pub row_word_13 : (word : Cell → ℕ) (t : ℕ) → t < 16 → (row_at (decoded_of word) t).start ≡ word (RowWord t 13)
row_word_13 word t low = ap (λ (row : RowWords). row.start) (row_is word t low)

pub row_word_14 : (word : Cell → ℕ) (t : ℕ) → t < 16 → (row_at (decoded_of word) t).start_count ≡ word (RowWord t 14)
row_word_14 word t low = ap (λ (row : RowWords). row.start_count) (row_is word t low)

pub row_word_15 : (word : Cell → ℕ) (t : ℕ) → t < 16 → (row_at (decoded_of word) t).used ≡ word (RowWord t 15)
row_word_15 word t low = ap (λ (row : RowWords). row.used) (row_is word t low)

-- the cell of a record word
pub record_cell : (t i : ℕ) → t < 16 → i < 256 → IsTrue (nat_lt t 16 && nat_lt i 256)
record_cell t i low within = grind (arith, nat_tests)
