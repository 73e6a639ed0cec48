-- The console in the image.
use Rattle.std.proofs.Common.{◌≡◌, ℕ, ◌+◌, ◌*◌, ◌<◌, List, [], ◌∷◌, ◌++◌, length, refl, sym, ◌∙◌, ap, subst, arith, append-nil}
use Rattle.std.proofs.lemmas.List.FromFn.{get_or-map-range_with_len, length-map-range_with_len}
use Rattle.std.specs.Prelude.{slice_index}
use Rattle.kernel_image.specs.declared.cell.Cell.{Cell}
use Rattle.kernel_image.specs.declared.cell.Cell.TheVariants.{Header, ConsoleWord}
use Rattle.kernel_image.specs.Cells.{with_cell}
use Rattle.kernel_image.specs.Decoded.{Decoded, decoded_of, listed}
use Rattle.kernel_image.proofs.Callers.{decoded_of-console_word, decoded_of-console_length}
use Rattle.kernel_image.specs.Shown.{byte_of}
use Rattle.console_store.proofs.Bytes.{IsGrown, IsGrown-next, bytes_grown}
use Rattle.console_store.specs.Console.{IsAppended, bytes_in, byte_in_word, grown_byte}

-- a word of the console
pub console_word : (word : Cell → ℕ) (i : ℕ) → i < 2048 → slice_index (decoded_of word).console i ≡ word (ConsoleWord i)
unfolding decoded_of listed
console_word word i low = get_or-map-range_with_len (λ j. word (ConsoleWord j)) 0 2048 i i 0 low (omega arith)

-- how many there are
pub console_words : (word : Cell → ℕ) → length (decoded_of word).console ≡ 2048
unfolding decoded_of listed
console_words word = length-map-range_with_len (λ j. word (ConsoleWord j)) 0 2048

-- a store to a word of the console leaves all else
pub rest_stored : (d : Decoded) (console : List ℕ) (word later : Cell → ℕ) (i value : ℕ) → later ≡ with_cell word (ConsoleWord i) value → record (decoded_of word) { console = console } ≡ d → record (decoded_of later) { console = console } ≡ d
rest_stored d console word later i value stored rest =
    ap (λ (f : Cell → ℕ). record (decoded_of f) { console = console }) stored
    ∙ ap (λ (e : Decoded). record e { console = console }) (decoded_of-console_word word i value)
    ∙ rest

-- and makes one word more of the longer console
pub grown_stored : (old : List ℕ) (len : ℕ) (bytes : List ℕ) (i : ℕ) (word later : Cell → ℕ) (read value : ℕ) → i < 2048 → later ≡ with_cell word (ConsoleWord i) value → read ≡ word (ConsoleWord i)
    → ((k : ℕ) → k < 4 → byte_in_word value k ≡ grown_byte read len bytes (4 * i + k)) → IsGrown old len bytes i (decoded_of word).console → IsGrown old len bytes (i + 1) (decoded_of later).console
grown_stored old len bytes i word later read value low stored is are so_far =
    let words = console_words word in
    subst (λ (xs : List ℕ). IsGrown old len bytes (i + 1) xs)
    (sym (ap (λ (f : Cell → ℕ). (decoded_of f).console) stored ∙ ap (λ (e : Decoded). e.console) (decoded_of-console_word word i value)))
    (IsGrown-next old len bytes i (decoded_of word).console read value so_far (omega (arith, words)) (is ∙ sym (console_word word i low)) are)

-- no bytes
pub IsAppended-none : (added : List ℕ) (d : Decoded) → length added ≡ 0 → IsAppended added d d
IsAppended-none [] d none = record { size = omega arith; bytes = sym (append-nil (bytes_in d)); rest = refl }
IsAppended-none (byte ∷ added) d none = absurd (omega arith)

-- the length of the longer console, after its words
IsAppended-of : (added : List ℕ) (d m later : Decoded) (n : ℕ) → later ≡ record m { console_length = n } → n ≡ d.console_length + length added → record m { console = d.console } ≡ d
    → ((at : ℕ) → at < n → byte_of m.console at ≡ slice_index (bytes_in d ++ added) at) → IsAppended added d later
IsAppended-of added d m later n is long rest are = record {
  size = ap (λ (e : Decoded). e.console_length) is ∙ long;
  bytes = ap bytes_in is ∙ bytes_grown d.console d.console_length n added m.console long are;
  rest = ap (λ (e : Decoded). record e { console_length = d.console_length; console = d.console }) is ∙ ap (λ (e : Decoded). record e { console_length = d.console_length }) rest;
}

pub appended : (added : List ℕ) (word middle later : Cell → ℕ) (len n : ℕ) → len ≡ (decoded_of word).console_length → n ≡ len + length added → record (decoded_of middle) { console = (decoded_of word).console } ≡ decoded_of word
    → ((at : ℕ) → at < len + length added → byte_of (decoded_of middle).console at ≡ slice_index (bytes_in (decoded_of word) ++ added) at) → later ≡ with_cell middle (Header 5) n → IsAppended added (decoded_of word) (decoded_of later)
appended added word middle later len n is long rest are stored =
    IsAppended-of added (decoded_of word) (decoded_of middle) (decoded_of later) n (ap decoded_of stored ∙ decoded_of-console_length middle n)
    (omega (arith, is, long)) rest (λ at low. are at (omega (arith, low, long)))
