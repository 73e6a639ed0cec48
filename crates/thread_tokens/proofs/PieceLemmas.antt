-- What stands at the head of a text, by its first byte.
use Rattle.std.proofs.Common.{◌≡◌, ℕ, zero, suc, ◌+◌, ◌<◌, ◌≤◌, ◌^◌, true, false, ◌==◌, not, nat_eq, codes, nat_lt, nat_le, List, [], ◌∷◌, length, take, drop, Option, Some, None, is_some, option_map, refl, sym, ap, subst, ◌∙◌, arith}
use Rattle.std.specs.List.{list_all, prefix_len, starts_with}
use Rattle.std.proofs.lemmas.List.Sums.{prefix_len-le-length}
use Rattle.std.specs.Option.{option_or}
use Rattle.std.specs.Char.{is_ascii_digit}
use Rattle.std.specs.Str.Parse.{digits_value}
use Rattle.std.proofs.lemmas.Bool.{false≢true}
use Rattle.std.proofs.lemmas.Bool.Decides.{nat_tests}
use Rattle.thread_tree.specs.declared.token.Token.{Token}
use Rattle.thread_tree.specs.declared.token.Token.TheVariants.{Word as word_token, Number as number_token}
use Rattle.thread_tree.specs.declared.token.Word.{Word}
use Rattle.thread_tokens.specs.declared.piece.Fault.TheVariants.{BadToken, NumberTooLarge}
use Rattle.thread_tokens.specs.declared.piece.Piece.{Piece}
use Rattle.thread_tokens.specs.declared.piece.Piece.TheVariants.{Blank, Token as token_piece, Wrong}
use Rattle.thread_tokens.specs.Form.{Form, Named, Counted, Quoted, Fixed, first_passes, begins_name, continues_name, is_printed, begins_symbol, word_of, symbol_of, two_bytes, form_of, longest}
use Rattle.thread_tokens.specs.Piece.{blank_length, checked, lexeme, piece, is_space, IsWithin}
use Rattle.thread_tokens.proofs.Lists.{by_test, list_all-prefix, prefix-passes, greatest-within}
use Rattle.thread_tokens.proofs.FormLemmas.{closes, continues-letter, form-letter, form-digit, form-closed, form-symbol, longest-letter, longest-digit, longest-closed, longest-open, longest-two, longest-one, longest-none}

-- where no bytes separate, the longest token counts
lexeme-is : (text : List ℕ) (n : ℕ) → blank_length text ≡ 0 → longest text ≡ n → piece text ≡ lexeme n (form_of (take n text))
unfolding piece
lexeme-is text n unseparated is = rw unseparated (rw is refl)

-- what the first bytes of a letter's text are
form-prefix : (first : ℕ) (rest : List ℕ) (n : ℕ) → begins_name first ≡ true → n ≡ prefix_len continues_name (first ∷ rest) → form_of (take n (first ∷ rest)) ≡ option_or (option_map (λ word. Fixed (word_token word)) (word_of (take n (first ∷ rest)))) (Some (Named (take n (first ∷ rest))))
form-prefix first rest zero letter is =
    let e : 0 ≡ suc (prefix_len continues_name rest) = is ∙ prefix-passes continues_name first rest (continues-letter first letter) in absurd (omega arith)
form-prefix first rest (suc n) letter is =
    let P : ℕ → Type 0 = λ m. list_all continues_name (take m (first ∷ rest)) ≡ true in
    let all = subst P (sym is) (list_all-prefix continues_name (first ∷ rest)) in
    form-letter first (take n rest) letter all

-- a text that begins with a letter, by the word that its longest token may be
abbrev letter_piece : ℕ → List ℕ → Option Word → Piece
letter_piece n bytes word = lexeme n (option_or (option_map (λ word. Fixed (word_token word)) word) (Some (Named bytes)))

piece-letter : (text : List ℕ) (n : ℕ) → blank_length text ≡ 0 → first_passes begins_name text ≡ true → n ≡ prefix_len continues_name text → piece text ≡ letter_piece n (take n text) (word_of (take n text))
piece-letter [] n unseparated letter is = absurd (false≢true letter)
piece-letter (first ∷ rest) n unseparated letter is =
    lexeme-is (first ∷ rest) n unseparated (longest-letter (first ∷ rest) letter ∙ sym is) ∙ ap (lexeme n) (form-prefix first rest n letter is)

pub piece_word : (text : List ℕ) (n : ℕ) (word : Word) → blank_length text ≡ 0 → first_passes begins_name text ≡ true → n ≡ prefix_len continues_name text → Some word ≡ word_of (take n text) → token_piece n (word_token word) ≡ piece text
piece_word text n word unseparated letter is found = sym (piece-letter text n unseparated letter is ∙ ap (letter_piece n (take n text)) (sym found))

pub piece_name : (text : List ℕ) (n : ℕ) → blank_length text ≡ 0 → first_passes begins_name text ≡ true → n ≡ prefix_len continues_name text → None ≡ word_of (take n text) → checked n (Named (take n text)) ≡ piece text
piece_name text n unseparated letter is absent = sym (piece-letter text n unseparated letter is ∙ ap (letter_piece n (take n text)) (sym absent))

-- digits are a number
form-digits : (first : ℕ) (rest : List ℕ) (n : ℕ) → is_ascii_digit first ≡ true → n ≡ prefix_len is_ascii_digit (first ∷ rest) → form_of (take n (first ∷ rest)) ≡ Some (Counted (digits_value 10 (take n (first ∷ rest))))
form-digits first rest zero digit is =
    let e : 0 ≡ suc (prefix_len is_ascii_digit rest) = is ∙ prefix-passes is_ascii_digit first rest digit in absurd (omega arith)
form-digits first rest (suc n) digit is =
    let P : ℕ → Type 0 = λ m. list_all is_ascii_digit (take m (first ∷ rest)) ≡ true in
    let all = subst P (sym is) (list_all-prefix is_ascii_digit (first ∷ rest)) in
    form-digit first (take n rest) digit all

-- a number
piece-digit : (text : List ℕ) (n : ℕ) → blank_length text ≡ 0 → first_passes is_ascii_digit text ≡ true → n ≡ prefix_len is_ascii_digit text → checked n (Counted (digits_value 10 (take n text))) ≡ piece text
piece-digit [] n unseparated digit is = absurd (false≢true digit)
piece-digit (first ∷ rest) n unseparated digit is =
    sym (lexeme-is (first ∷ rest) n unseparated (longest-digit (first ∷ rest) digit ∙ sym is) ∙ ap (lexeme n) (form-digits first rest n digit is))

pub digits_prefix : (text : List ℕ) (n : ℕ) → n ≡ prefix_len is_ascii_digit text → list_all is_ascii_digit (take n text) ≡ true
digits_prefix text n is = rw (is) (list_all-prefix is_ascii_digit text)

pub piece_number : (text : List ℕ) (n value : ℕ) → blank_length text ≡ 0 → first_passes is_ascii_digit text ≡ true → n ≡ prefix_len is_ascii_digit text → digits_value 10 (take n text) < 2 ^ 32 → value ≡ digits_value 10 (take n text) → token_piece n (number_token value) ≡ piece text
piece_number text n value unseparated digit is fits same =
    let e : nat_lt (digits_value 10 (take n text)) (2 ^ 32) ≡ true = grind (arith, nat_tests) in
    ap (λ v. token_piece n (number_token v)) same ∙ (let whole = piece-digit text n unseparated digit is in rw (e) at whole)

pub piece_large : (text : List ℕ) (n : ℕ) → blank_length text ≡ 0 → first_passes is_ascii_digit text ≡ true → n ≡ prefix_len is_ascii_digit text → (digits_value 10 (take n text) < 2 ^ 32 → ⊥) → Wrong NumberTooLarge ≡ piece text
piece_large text n unseparated digit is large =
    let e : nat_lt (digits_value 10 (take n text)) (2 ^ 32) ≡ false = grind (arith, nat_tests) in
    let whole = piece-digit text n unseparated digit is in rw (e) at whole

quote-first : (text : List ℕ) → first_passes (λ byte. byte == 34) text ≡ true → text ≡ 34 ∷ drop 1 text
quote-first [] quote = absurd (false≢true quote)
quote-first (first ∷ rest) quote = let e : first ≡ 34 = grind (arith, nat_tests) in ap (λ b. b ∷ rest) e

closed-at : (rest : List ℕ) → blank_length (34 ∷ rest) ≡ 0 → closes rest ≡ true → piece (34 ∷ rest) ≡ checked (prefix_len is_printed rest + 2) (Quoted (take (prefix_len is_printed rest) rest))
closed-at rest unseparated closed =
    lexeme-is (34 ∷ rest) (prefix_len is_printed rest + 2) unseparated (longest-closed rest closed) ∙ ap (lexeme (prefix_len is_printed rest + 2)) (form-closed rest closed)

open-at : (rest : List ℕ) → blank_length (34 ∷ rest) ≡ 0 → closes rest ≡ false → piece (34 ∷ rest) ≡ Wrong BadToken
unfolding form_of symbol_of
open-at rest unseparated open_end = lexeme-is (34 ∷ rest) 0 unseparated (longest-open rest open_end)

-- a string that is closed, and one that isn't
pub piece-closed : (text rest : List ℕ) (n : ℕ) → rest ≡ drop 1 text → blank_length text ≡ 0 → first_passes (λ byte. byte == 34) text ≡ true → n ≡ prefix_len is_printed rest → first_passes (λ byte. byte == 34) (drop n rest) ≡ true → checked (n + 2) (Quoted (take n rest)) ≡ piece text
piece-closed text rest n behind unseparated quote is closed =
    let e : text ≡ 34 ∷ rest = quote-first text quote ∙ ap (λ xs. 34 ∷ xs) (sym behind) in
    let closes_there : closes rest ≡ true = rw (is) at closed in
    rw (is) (sym (ap piece e ∙ closed-at rest (ap blank_length (sym e) ∙ unseparated) closes_there))

pub piece-open : (text rest : List ℕ) (n : ℕ) → rest ≡ drop 1 text → blank_length text ≡ 0 → first_passes (λ byte. byte == 34) text ≡ true → n ≡ prefix_len is_printed rest → first_passes (λ byte. byte == 34) (drop n rest) ≡ false → Wrong BadToken ≡ piece text
piece-open text rest n behind unseparated quote is open_end =
    let e : text ≡ 34 ∷ rest = quote-first text quote ∙ ap (λ xs. 34 ∷ xs) (sym behind) in
    let open_there : closes rest ≡ false = rw (is) at open_end in
    sym (ap piece e ∙ open-at rest (ap blank_length (sym e) ∙ unseparated) open_there)

-- a mark or an operator
not_both : (text : List ℕ) → None ≡ two_bytes text → 2 ≤ length text → is_some (symbol_of (take 2 text)) ≡ false
not_both text none two =
    let e : nat_le 2 (length text) ≡ true = grind (arith, nat_tests) in
    let absent : None ≡ symbol_of (take 2 text) = rw (e) at none in
    ap is_some (sym absent)

pub piece_two : (text : List ℕ) (token : Token) → blank_length text ≡ 0 → first_passes begins_symbol text ≡ true → Some token ≡ two_bytes text → token_piece 2 token ≡ piece text
piece_two [] token unseparated other found = absurd (false≢true other)
piece_two (a ∷ []) token unseparated other found = cc
piece_two (a ∷ b ∷ rest) token unseparated other found =
    let e : nat_le 2 (length (a ∷ b ∷ rest)) ≡ true = grind (arith, nat_tests) in
    let two : Some token ≡ symbol_of (a ∷ b ∷ []) = rw (e) at found in
    sym (lexeme-is (a ∷ b ∷ rest) 2 unseparated (longest-two a b rest other (ap is_some (sym two))) ∙ ap (lexeme 2) (form-symbol a (b ∷ []) other ∙ ap (option_map Fixed) (sym two)))

pub piece_one : (text : List ℕ) (token : Token) → blank_length text ≡ 0 → first_passes begins_symbol text ≡ true → None ≡ two_bytes text → Some token ≡ symbol_of (take 1 text) → token_piece 1 token ≡ piece text
piece_one [] token unseparated other not_two found = absurd (false≢true other)
piece_one (a ∷ rest) token unseparated other not_two found =
    sym (lexeme-is (a ∷ rest) 1 unseparated (longest-one a rest other (ap is_some (sym found)) (not_both (a ∷ rest) not_two)) ∙ ap (lexeme 1) (form-symbol a [] other ∙ ap (option_map Fixed) (sym found)))

pub piece_none : (text : List ℕ) → blank_length text ≡ 0 → first_passes begins_symbol text ≡ true → None ≡ two_bytes text → None ≡ symbol_of (take 1 text) → Wrong BadToken ≡ piece text
unfolding form_of symbol_of
piece_none [] unseparated other not_two absent = absurd (false≢true other)
piece_none (a ∷ rest) unseparated other not_two absent =
    sym (lexeme-is (a ∷ rest) 0 unseparated (longest-none a rest other (ap is_some (sym absent)) (not_both (a ∷ rest) not_two)))

-- what separates tokens
pub piece_blank : (text : List ℕ) (n : ℕ) → n ≡ blank_length text → 0 < n → Blank n ≡ piece text
unfolding piece
piece_blank text n is some = let e : nat_lt 0 (blank_length text) ≡ true = grind (arith, nat_tests) in rw (e) (ap Blank is)

longest-within : (text : List ℕ) → longest text ≤ length text
unfolding longest
longest-within text = greatest-within (λ n. is_some (form_of (take n text))) (length text)

-- a piece has at least one byte, and no more than the text
pub blank_within : (text : List ℕ) → blank_length text ≤ length text
unfolding blank_length
blank_within [] = omega arith
blank_within (first ∷ rest) = by_test (is_space first) _
    (λ space. rw space (omega arith))
    (λ other. rw other (by_test (starts_with nat_eq (first ∷ rest) (codes "//")) _ (λ comment. rw comment (prefix_len-le-length (λ byte. not (byte == 10)) (first ∷ rest))) (λ none. rw none (omega arith))))

checked-within : (n room : ℕ) (form : Form) → 0 < n → n ≤ room → IsWithin room (checked n form)
checked-within n room (Named bytes) some within = by_test (nat_le (length bytes) 24) _ (λ short. rw short (some, within)) (λ long. rw long tt)
checked-within n room (Counted value) some within = by_test (nat_lt value (2 ^ 32)) _ (λ short. rw short (some, within)) (λ long. rw long tt)
checked-within n room (Quoted bytes) some within = by_test (nat_le (length bytes) 64) _ (λ short. rw short (some, within)) (λ long. rw long tt)
checked-within n room (Fixed token) some within = (some, within)

lexeme-within : (n room : ℕ) (text : List ℕ) → n ≤ room → IsWithin room (lexeme n (form_of (take n text)))
unfolding form_of symbol_of
lexeme-within zero room text within = tt
lexeme-within (suc n) room text within = elim (form_of (take (suc n) text)) as (λ o. IsWithin room (lexeme (suc n) o)) [ None ↦ tt | Some form ↦ checked-within (suc n) room form (omega arith) within ]

pub piece_within : (text : List ℕ) → IsWithin (length text) (piece text)
unfolding piece
piece_within text = by_test (nat_lt 0 (blank_length text)) _
    (λ blank. let some : 0 < blank_length text = grind (arith, nat_tests) in rw blank (some, blank_within text))
    (λ none. rw none (lexeme-within (longest text) (length text) text (longest-within text)))
