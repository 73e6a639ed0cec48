-- The bytes of words, and a console with bytes behind its own.
use Rattle.std.proofs.Common.{◌≡◌, ℕ, zero, suc, ◌+◌, ◌*◌, ◌/◌, ◌%◌, ◌<◌, ◌≤◌, ◌≢◌, List, [], ◌∷◌, ◌++◌, true, false, length, slice_set, refl, sym, ◌∙◌, ap, arith, inl, inr, length-append}
use Rattle.std.proofs.Math.ListN.{get_or-append}
use Rattle.std.proofs.lemmas.List.{get_or-append_right, get_or-set_same, get_or-set_other, ext_get_or}
use Rattle.std.proofs.lemmas.List.FromFn.{get_or-map-range_with_len, length-map-range_with_len}
use Rattle.std.proofs.lemmas.Bool.{cases_lt}
use Rattle.std.proofs.lemmas.Bool.Decides.{nat_tests}
use Rattle.std.proofs.lemmas.Nat.{le_bytes_4}
use Rattle.std.specs.Prelude.{slice_index, nat_lt}
use Rattle.std.specs.Int.{w32, to_le_bytes, from_le_bytes}
use Rattle.kernel_image.specs.Decoded.{listed}
use Rattle.kernel_image.specs.Shown.{byte_of}
use Rattle.console_store.specs.Console.{byte_in_word, grown_byte}

-- one of the four bytes of a word
pub byte_of_four : (word k : ℕ) → k < 4 → slice_index (to_le_bytes w32 word) k ≡ byte_in_word word k
byte_of_four word zero few = omega arith
byte_of_four word (suc zero) few = omega arith
byte_of_four word (suc (suc zero)) few = omega arith
byte_of_four word (suc (suc (suc zero))) few = omega arith
byte_of_four word (suc (suc (suc (suc k)))) few = absurd (omega arith)

-- each of four bytes is one
four_fit : (a b c d : ℕ) → a < 256 → b < 256 → c < 256 → d < 256 → (k : ℕ) → slice_index (a ∷ b ∷ c ∷ d ∷ []) k < 256
four_fit a b c d fa fb fc fd zero = fa
four_fit a b c d fa fb fc fd (suc zero) = fb
four_fit a b c d fa fb fc fd (suc (suc zero)) = fc
four_fit a b c d fa fb fc fd (suc (suc (suc zero))) = fd
four_fit a b c d fa fb fc fd (suc (suc (suc (suc k)))) = omega arith

-- four values of a function in a row
four_at : (f : ℕ → ℕ) (at a b c d : ℕ) → a ≡ f at → b ≡ f (at + 1) → c ≡ f (at + 2) → d ≡ f (at + 3) → (k : ℕ) → k < 4 → slice_index (a ∷ b ∷ c ∷ d ∷ []) k ≡ f (at + k)
four_at f at a b c d ia ib ic id zero few = ia ∙ ap f (omega arith)
four_at f at a b c d ia ib ic id (suc zero) few = ib
four_at f at a b c d ia ib ic id (suc (suc zero)) few = ic
four_at f at a b c d ia ib ic id (suc (suc (suc zero))) few = id
four_at f at a b c d ia ib ic id (suc (suc (suc (suc k)))) few = absurd (omega arith)

-- the bytes of the word that four bytes make
pub word_of_four : (f : ℕ → ℕ) (at word a b c d : ℕ) → a < 256 → b < 256 → c < 256 → d < 256 → a ≡ f at → b ≡ f (at + 1) → c ≡ f (at + 2) → d ≡ f (at + 3) → word ≡ from_le_bytes w32 (a ∷ b ∷ c ∷ d ∷ []) → (k : ℕ) → k < 4 → byte_in_word word k ≡ f (at + k)
word_of_four f at word a b c d fa fb fc fd ia ib ic id is k few =
    sym (byte_of_four word k few)
    ∙ ap (λ (xs : List ℕ). slice_index xs k) (le_bytes_4 (a ∷ b ∷ c ∷ d ∷ []) word refl (four_fit a b c d fa fb fc fd) is)
    ∙ four_at f at a b c d ia ib ic id k few

-- the values of a listed function, and how many there are
listed_at : (n : ℕ) (f : ℕ → ℕ) (i : ℕ) → i < n → slice_index (listed n f) i ≡ f i
unfolding listed
listed_at n f i low = get_or-map-range_with_len f 0 n i i 0 low (omega arith)

length_listed : (n : ℕ) (f : ℕ → ℕ) → length (listed n f) ≡ n
unfolding listed
length_listed n f = length-map-range_with_len f 0 n

-- a listed function that is a list so far
listed_is : (n : ℕ) (f : ℕ → ℕ) (xs : List ℕ) → length xs ≡ n → ((i : ℕ) → i < n → f i ≡ slice_index xs i) → listed n f ≡ xs
listed_is n f xs long is =
    let count = length_listed n f in
    ext_get_or 0 (listed n f) xs (count ∙ sym long) (λ i low. let within : i < n = omega (arith, count) in listed_at n f i within ∙ is i within)

-- the bytes of a console, and bytes behind them
abbrev pub grown : List ℕ → ℕ → List ℕ → List ℕ
grown console len bytes = listed len (byte_of console) ++ bytes

-- before the length they are the old ones, and then the new ones
grown_at : (console : List ℕ) (len : ℕ) (bytes : List ℕ) (at word : ℕ) → word ≡ slice_index console (at / 4) → grown_byte word len bytes at ≡ slice_index (grown console len bytes) at
grown_at console len bytes at word is = elim (cases_lt at len) [
  | inl before ↦
      let low : nat_lt at len ≡ true = grind (arith, nat_tests) in
      let count = length_listed len (byte_of console) in
      let old = get_or-append (listed len (byte_of console)) bytes 0 at (omega (arith, count)) in
      rw low (ap (λ (w : ℕ). byte_in_word w (at % 4)) is ∙ sym (old ∙ listed_at len (byte_of console) at before))
  | inr behind ↦
      let high : nat_lt at len ≡ false = grind (arith, nat_tests) in
      rw high (sym (get_or-append_right (listed len (byte_of console)) bytes len at 0 (length_listed len (byte_of console)) behind))
]

-- the words before the i-th one are those of the console with bytes behind it, and the others are the old ones
pub record IsGrown (old : List ℕ) (len : ℕ) (bytes : List ℕ) (i : ℕ) (new : List ℕ) : Type 0 where
  pub before : (at : ℕ) → at < 4 * i → byte_of new at ≡ slice_index (grown old len bytes) at
  pub later : (j : ℕ) → i ≤ j → slice_index new j ≡ slice_index old j

-- the words that lie whole before the length
pub IsGrown-start : (old : List ℕ) (len : ℕ) (bytes : List ℕ) → IsGrown old len bytes (len / 4) old
IsGrown-start old len bytes = record {
  before = λ at low.
      let before : at < len = omega arith in
      let count = length_listed len (byte_of old) in
      sym (get_or-append (listed len (byte_of old)) bytes 0 at (omega (arith, count)) ∙ listed_at len (byte_of old) at before);
  later = λ j high. refl;
}

-- one word more
pub IsGrown-next : (old : List ℕ) (len : ℕ) (bytes : List ℕ) (i : ℕ) (new : List ℕ) (word value : ℕ) → IsGrown old len bytes i new → i < length new → word ≡ slice_index new i
    → ((k : ℕ) → k < 4 → byte_in_word value k ≡ grown_byte word len bytes (4 * i + k)) → IsGrown old len bytes (i + 1) (slice_set new i value)
IsGrown-next old len bytes i new word value so_far within is are = record {
  before = λ at low. elim (cases_lt at (4 * i)) [
    | inl before ↦
        let other : at / 4 ≢ i = omega arith in
        ap (λ (w : ℕ). byte_in_word w (at % 4)) (get_or-set_other new i (at / 4) value 0 other) ∙ so_far.before at before
    | inr here ↦
        let place : at / 4 ≡ i = omega arith in
        let whole : 4 * i + at % 4 ≡ at = omega arith in
        let few : at % 4 < 4 = omega arith in
        let stood : word ≡ slice_index old (at / 4) = is ∙ so_far.later i (omega arith) ∙ ap (slice_index old) (sym place) in
        ap (λ (j : ℕ). byte_in_word (slice_index (slice_set new i value) j) (at % 4)) place
        ∙ ap (λ (w : ℕ). byte_in_word w (at % 4)) (get_or-set_same new i value 0 within)
        ∙ are (at % 4) few
        ∙ ap (grown_byte word len bytes) whole
        ∙ grown_at old len bytes at word stood
  ];
  later = λ j high.
      let other : j ≢ i = omega arith in
      get_or-set_other new i j value 0 other ∙ so_far.later j (omega arith);
}

-- all bytes, where the words before the i-th one have them
pub bytes_grown : (old : List ℕ) (len n : ℕ) (bytes new : List ℕ) → n ≡ len + length bytes → ((at : ℕ) → at < n → byte_of new at ≡ slice_index (grown old len bytes) at) → listed n (byte_of new) ≡ grown old len bytes
bytes_grown old len n bytes new long are =
    let sum = length-append (listed len (byte_of old)) bytes in
    let count = length_listed len (byte_of old) in
    listed_is n (byte_of new) (grown old len bytes) (omega (arith, sum, count, long)) are
