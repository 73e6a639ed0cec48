-- Which texts are tokens, by their first byte.
use Rattle.std.proofs.Common.{◌≡◌, ℕ, zero, suc, ◌+◌, ◌<◌, ◌≤◌, Bool, true, false, ◌&&◌, ◌==◌, List, [], ◌∷◌, ◌++◌, length, take, drop, find, take_while, Option, Some, None, is_some, option_map, bytes_eq, nat_le, refl, ap, ◌∙◌, arith}
use Rattle.std.specs.List.{list_all, prefix_len}
use Rattle.std.specs.Option.{option_or}
use Rattle.std.specs.Char.{is_ascii_digit}
use Rattle.std.specs.Str.Parse.{digits_value}
use Rattle.std.proofs.lemmas.Bool.{false≢true}
use Rattle.std.proofs.lemmas.List.Sums.{prefix_len-le-length}
use Rattle.std.proofs.lemmas.Bool.Decides.{nat_tests}
use Rattle.thread_tree.specs.declared.token.Token.{Token}
use Rattle.thread_tree.specs.declared.token.Token.TheVariants.{Word as word_token}
use Rattle.thread_tokens.specs.Spelling.{word_text, mark_text, operator_text, words, marks, operators}
use Rattle.thread_tokens.specs.Form.{Named, Counted, Quoted, Fixed, first_passes, begins_name, continues_name, is_printed, begins_symbol, number_of, string_of, word_of, symbol_of, fixed_of, form_of, longest}
use Rattle.thread_tokens.proofs.Lists.{by_test, is_some-option_or, greatest-is, list_all-prefix, list_all-over, none_spelled, prefix-passes, prefix-fails}
use Rattle.thread_tokens.proofs.ByteLemmas.{digit-letter, quote-letter, quote-digit}

symbol-letter : (b : ℕ) → begins_name b ≡ true → begins_symbol b ≡ false
symbol-letter b h = rw h refl

symbol-digit : (b : ℕ) → is_ascii_digit b ≡ true → begins_symbol b ≡ false
symbol-digit b h = grind (arith, nat_tests)

-- no mark and no operator begins with another byte
no_mark : (bytes : List ℕ) → first_passes begins_symbol bytes ≡ false → find (λ mark. bytes_eq (mark_text mark) bytes) marks ≡ None
no_mark bytes fails = none_spelled mark_text marks (first_passes begins_symbol) bytes refl fails

no_operator : (bytes : List ℕ) → first_passes begins_symbol bytes ≡ false → find (λ operator. bytes_eq (operator_text operator) bytes) operators ≡ None
no_operator bytes fails = none_spelled operator_text operators (first_passes begins_symbol) bytes refl fails

-- no word has another byte, or begins with another
no_word : (bytes : List ℕ) → list_all continues_name bytes ≡ false → find (λ word. bytes_eq (word_text word) bytes) words ≡ None
no_word bytes fails = none_spelled word_text words (list_all continues_name) bytes refl fails

no_word_begins : (bytes : List ℕ) → first_passes begins_name bytes ≡ false → find (λ word. bytes_eq (word_text word) bytes) words ≡ None
no_word_begins bytes fails = none_spelled word_text words (first_passes begins_name) bytes refl fails

-- no mark and no operator begins so
pub no_symbol : (bytes : List ℕ) → first_passes begins_symbol bytes ≡ false → symbol_of bytes ≡ None
unfolding symbol_of
no_symbol bytes fails = rw (no_mark bytes fails) (rw (no_operator bytes fails) refl)

pub continues-letter : (b : ℕ) → begins_name b ≡ true → continues_name b ≡ true
continues-letter b h = rw h refl

letter-digit : (b : ℕ) → is_ascii_digit b ≡ true → begins_name b ≡ false
letter-digit b h = grind (arith, nat_tests)

-- what begins with a letter is a token exactly where all of it may be a name
pub token-letter : (first : ℕ) (rest : List ℕ) → begins_name first ≡ true → is_some (form_of (first ∷ rest)) ≡ list_all continues_name (first ∷ rest)
unfolding form_of
token-letter first rest letter = rw (continues-letter first letter)
    (by_test (list_all continues_name rest) _
    (λ yes. rw letter (rw yes (is_some-option_or (option_map Fixed (fixed_of (first ∷ rest))) (Named (first ∷ rest)) (option_or (number_of (first ∷ rest)) (string_of (first ∷ rest))))))
    (λ no.
    let other : list_all continues_name (first ∷ rest) ≡ false = rw (continues-letter first letter) no in
    rw (no_word (first ∷ rest) other) (rw (no_symbol (first ∷ rest) (symbol-letter first letter))
    (rw letter (rw no (rw (digit-letter first letter) (rw (quote-letter first letter) refl)))))))

-- and then a word or a name
pub form-letter : (first : ℕ) (rest : List ℕ) → begins_name first ≡ true → list_all continues_name (first ∷ rest) ≡ true → form_of (first ∷ rest) ≡ option_or (option_map (λ word. Fixed (word_token word)) (word_of (first ∷ rest))) (Some (Named (first ∷ rest)))
unfolding form_of
form-letter first rest letter all =
    let goes_on : list_all continues_name rest ≡ true = rw (continues-letter first letter) at all in
    rw (no_symbol (first ∷ rest) (symbol-letter first letter)) (rw letter (rw goes_on
    (elim (word_of (first ∷ rest)) as (λ o. option_or (option_map Fixed (option_or (option_map word_token o) None)) (option_or (Some (Named (first ∷ rest))) (option_or (number_of (first ∷ rest)) (string_of (first ∷ rest)))) ≡ option_or (option_map (λ word. Fixed (word_token word)) o) (Some (Named (first ∷ rest)))) [ None ↦ refl | Some w ↦ refl ])))

-- what begins with a digit is a token exactly where all of it are digits
pub token-digit : (first : ℕ) (rest : List ℕ) → is_ascii_digit first ≡ true → is_some (form_of (first ∷ rest)) ≡ list_all is_ascii_digit (first ∷ rest)
unfolding form_of
token-digit first rest digit =
    rw (no_word_begins (first ∷ rest) (letter-digit first digit)) (rw (no_symbol (first ∷ rest) (symbol-digit first digit))
    (rw (letter-digit first digit) (rw (quote-digit first digit)
    (by_test (list_all is_ascii_digit (first ∷ rest)) _ (λ yes. rw yes refl) (λ no. rw no refl)))))

-- and then a number
pub form-digit : (first : ℕ) (rest : List ℕ) → is_ascii_digit first ≡ true → list_all is_ascii_digit (first ∷ rest) ≡ true → form_of (first ∷ rest) ≡ Some (Counted (digits_value 10 (first ∷ rest)))
unfolding form_of
form-digit first rest digit all =
    rw (no_word_begins (first ∷ rest) (letter-digit first digit)) (rw (no_symbol (first ∷ rest) (symbol-digit first digit))
    (rw (letter-digit first digit) (rw all refl)))

-- what begins with a quote is a string or no token
pub form-quote : (rest : List ℕ) → form_of (34 ∷ rest) ≡ string_of (34 ∷ rest)
unfolding form_of
form-quote rest = rw (no_symbol (34 ∷ rest) refl) refl

letter-symbol : (b : ℕ) → begins_symbol b ≡ true → begins_name b ≡ false
letter-symbol b h = by_test (begins_name b) _ (λ yes. let wrong : false ≡ true = rw yes at h in absurd (false≢true wrong)) (λ no. no)

digit-symbol : (b : ℕ) → begins_symbol b ≡ true → is_ascii_digit b ≡ false
digit-symbol b h = grind (arith, nat_tests)

quote-symbol : (b : ℕ) → begins_symbol b ≡ true → (b == 34) ≡ false
quote-symbol b h = grind (arith, nat_tests)

-- what begins with another byte is a mark or an operator, or no token
pub form-symbol : (first : ℕ) (rest : List ℕ) → begins_symbol first ≡ true → form_of (first ∷ rest) ≡ option_map Fixed (symbol_of (first ∷ rest))
unfolding form_of
form-symbol first rest other =
    rw (no_word_begins (first ∷ rest) (letter-symbol first other)) (rw (letter-symbol first other) (rw (digit-symbol first other) (rw (quote-symbol first other)
    (elim (symbol_of (first ∷ rest)) as (λ o. option_or (option_map Fixed (option_or None o)) (option_or None (option_or None None)) ≡ option_map Fixed o) [ None ↦ refl | Some t ↦ refl ]))))

-- no mark and no operator has more than two bytes
abbrev at_most_two : List ℕ → Bool
at_most_two bytes = nat_le (length bytes) 2

pub symbol-long : (a b c : ℕ) (rest : List ℕ) → symbol_of (a ∷ b ∷ c ∷ rest) ≡ None
unfolding symbol_of
symbol-long a b c rest =
    let long : at_most_two (a ∷ b ∷ c ∷ rest) ≡ false = grind (arith, nat_tests) in
    rw (none_spelled mark_text marks at_most_two (a ∷ b ∷ c ∷ rest) refl long) (rw (none_spelled operator_text operators at_most_two (a ∷ b ∷ c ∷ rest) refl long) refl)

abbrev is_token : List ℕ → ℕ → Bool
is_token text n = is_some (form_of (take n text))

-- where a text is a token exactly if all of its bytes pass, the longest is made of those up to the first that fails
longest-class : (p : ℕ → Bool) (first : ℕ) (rest : List ℕ) → ((more : List ℕ) → is_some (form_of (first ∷ more)) ≡ list_all p (first ∷ more)) → longest (first ∷ rest) ≡ prefix_len p (first ∷ rest)
unfolding longest
longest-class p first rest same =
    let text = first ∷ rest in
    greatest-is (is_token text) (prefix_len p text) (length text) (prefix_len-le-length p text)
    (λ some. at_some (prefix_len p text) some (list_all-prefix p text))
    (λ n over within. over_all n over (list_all-over p text n over within))
  where
    at_some : (n : ℕ) → 0 < n → list_all p (take n (first ∷ rest)) ≡ true → is_token (first ∷ rest) n ≡ true
    at_some zero some all = absurd (omega arith)
    at_some (suc n) some all = same (take n rest) ∙ all

    over_all : (n : ℕ) → prefix_len p (first ∷ rest) < n → list_all p (take n (first ∷ rest)) ≡ false → is_token (first ∷ rest) n ≡ false
    over_all zero some all = absurd (omega arith)
    over_all (suc n) some all = same (take n rest) ∙ all

pub longest-letter : (text : List ℕ) → first_passes begins_name text ≡ true → longest text ≡ prefix_len continues_name text
longest-letter [] letter = absurd (false≢true letter)
longest-letter (first ∷ rest) letter = longest-class continues_name first rest (λ more. token-letter first more letter)

pub longest-digit : (text : List ℕ) → first_passes is_ascii_digit text ≡ true → longest text ≡ prefix_len is_ascii_digit text
longest-digit [] digit = absurd (false≢true digit)
longest-digit (first ∷ rest) digit = longest-class is_ascii_digit first rest (λ more. token-digit first more digit)

-- whether the first byte that no string may hold is a quote
abbrev pub closes : List ℕ → Bool
closes rest = first_passes (λ byte. byte == 34) (drop (prefix_len is_printed rest) rest)

-- whether these bytes are what a string has behind its first quote
abbrev is_closed : List ℕ → Bool
is_closed rest = bytes_eq rest (take_while is_printed rest ++ 34 ∷ [])

one_left : (b : Bool) (m : ℕ) (rest : List ℕ) → m ≤ length rest → (b && bytes_eq (take m rest) []) ≡ ((suc m == 1) && b)
one_left true zero rest within = refl
one_left false zero rest within = refl
one_left b (suc m) [] within = absurd (omega arith)
one_left true (suc m) (c ∷ rest) within = let e : (suc (suc m) == 1) ≡ false = grind (arith, nat_tests) in rw (e) refl
one_left false (suc m) (c ∷ rest) within = let e : (suc (suc m) == 1) ≡ false = grind (arith, nat_tests) in rw (e) refl

closed-take : (rest : List ℕ) (m : ℕ) → m ≤ length rest → is_closed (take m rest) ≡ ((m == prefix_len is_printed rest + 1) && closes rest)
closed-take [] m within = let e : m ≡ 0 = omega arith in rw (e) refl
closed-take (b ∷ rest) zero within = let e : (0 == prefix_len is_printed (b ∷ rest) + 1) ≡ false = grind (arith, nat_tests) in rw (e) refl
closed-take (b ∷ rest) (suc m) within = by_test (is_printed b) _
    (λ yes.
    let equal : (b == b) ≡ true = grind (arith, nat_tests) in
    let shift : (suc m == suc (prefix_len is_printed rest) + 1) ≡ (m == prefix_len is_printed rest + 1) = grind (arith, nat_tests) in
    rw (prefix-passes is_printed b rest yes) (rw (prefix-passes is_printed b (take m rest) yes) (rw (shift) (rw (equal) (closed-take rest m (omega arith))))))
    (λ no. rw (prefix-fails is_printed b rest no) (rw (prefix-fails is_printed b (take m rest) no) (one_left (b == 34) m rest (omega arith))))

-- the string inside of quotes
pub inside-take : (rest : List ℕ) (n : ℕ) → prefix_len is_printed rest ≤ n → take_while is_printed (take n rest) ≡ take (prefix_len is_printed rest) rest
inside-take [] zero within = refl
inside-take [] (suc n) within = refl
inside-take (b ∷ rest) zero within = let e : prefix_len is_printed (b ∷ rest) ≡ 0 = omega arith in rw (e) refl
inside-take (b ∷ rest) (suc n) within = by_test (is_printed b) _
    (λ yes.
    let e : prefix_len is_printed (b ∷ rest) ≡ suc (prefix_len is_printed rest) = prefix-passes is_printed b rest yes in
    rw (e) (rw (prefix-passes is_printed b (take n rest) yes) (ap (λ xs. b ∷ xs) (inside-take rest n (omega arith)))))
    (λ no. rw (prefix-fails is_printed b rest no) (rw (prefix-fails is_printed b (take n rest) no) refl))

-- a string that is closed
quoted-take : (rest : List ℕ) (m : ℕ) → m ≤ length rest → is_some (form_of (34 ∷ take m rest)) ≡ ((m == prefix_len is_printed rest + 1) && closes rest)
quoted-take rest m within = rw (form-quote (take m rest)) (rw (← closed-take rest m within) (by_test (is_closed (take m rest)) _ (λ yes. rw yes refl) (λ no. rw no refl)))

pub closes-within : (rest : List ℕ) → closes rest ≡ true → prefix_len is_printed rest < length rest
closes-within [] closed = absurd (false≢true closed)
closes-within (b ∷ rest) closed = by_test (is_printed b) _
    (λ yes.
    let e : prefix_len is_printed (b ∷ rest) ≡ suc (prefix_len is_printed rest) = prefix-passes is_printed b rest yes in
    let more : closes rest ≡ true = rw (e) at closed in
    rw (e) (omega (arith, closes-within rest more)))
    (λ no. rw (prefix-fails is_printed b rest no) (omega arith))

pub longest-closed : (rest : List ℕ) → closes rest ≡ true → longest (34 ∷ rest) ≡ prefix_len is_printed rest + 2
unfolding longest
longest-closed rest closed =
    greatest-is (is_token (34 ∷ rest)) (prefix_len is_printed rest + 2) (length (34 ∷ rest)) (omega (arith, closes-within rest closed))
    (λ some. there (prefix_len is_printed rest + 2) refl)
    (λ n over within. above n over within)
  where
    there : (n : ℕ) → n ≡ prefix_len is_printed rest + 2 → is_token (34 ∷ rest) n ≡ true
    there zero is = absurd (omega arith)
    there (suc m) is = quoted-take rest m (omega (arith, closes-within rest closed)) ∙ (let e : (m == prefix_len is_printed rest + 1) ≡ true = grind (arith, nat_tests) in rw (e) (rw closed refl))

    above : (n : ℕ) → prefix_len is_printed rest + 2 < n → n ≤ length (34 ∷ rest) → is_token (34 ∷ rest) n ≡ false
    above zero over within = absurd (omega arith)
    above (suc m) over within = quoted-take rest m (omega arith) ∙ (let e : (m == prefix_len is_printed rest + 1) ≡ false = grind (arith, nat_tests) in rw (e) refl)

pub longest-open : (rest : List ℕ) → closes rest ≡ false → longest (34 ∷ rest) ≡ 0
unfolding longest
longest-open rest open_end =
    greatest-is (is_token (34 ∷ rest)) 0 (length (34 ∷ rest)) (omega arith) (λ some. absurd (omega arith)) (λ n over within. above n over within)
  where
    above : (n : ℕ) → 0 < n → n ≤ length (34 ∷ rest) → is_token (34 ∷ rest) n ≡ false
    above zero over within = absurd (omega arith)
    above (suc m) over within = quoted-take rest m (omega arith) ∙ (rw open_end (elim (m == prefix_len is_printed rest + 1) as (λ b. (b && false) ≡ false) [ true ↦ refl | false ↦ refl ]))

pub form-closed : (rest : List ℕ) → closes rest ≡ true → form_of (take (prefix_len is_printed rest + 2) (34 ∷ rest)) ≡ Some (Quoted (take (prefix_len is_printed rest) rest))
form-closed rest closed = let e : prefix_len is_printed rest + 2 ≡ suc (prefix_len is_printed rest + 1) = omega arith in
    let m = prefix_len is_printed rest + 1 in
    let within : m ≤ length rest = omega (arith, closes-within rest closed) in
    let same : (m == prefix_len is_printed rest + 1) ≡ true = grind (arith, nat_tests) in
    let whole : is_closed (take m rest) ≡ true = closed-take rest m within ∙ rw (same) (rw closed refl) in
    rw (e) (rw (form-quote (take m rest)) (rw whole (ap (λ xs. Some (Quoted xs)) (inside-take rest m (omega arith)))))

some-map : (o : Option Token) → is_some (option_map Fixed o) ≡ is_some o
some-map None = refl
some-map (Some t) = refl

long : (a b : ℕ) (rest : List ℕ) → begins_symbol a ≡ true → (n : ℕ) → 2 < n → n ≤ length (a ∷ b ∷ rest) → is_token (a ∷ b ∷ rest) n ≡ false
long a b rest other zero over within = absurd (omega arith)
long a b rest other (suc zero) over within = absurd (omega arith)
long a b rest other (suc (suc zero)) over within = absurd (omega arith)
long a b [] other (suc (suc (suc n))) over within = absurd (omega arith)
long a b (c ∷ rest) other (suc (suc (suc n))) over within = rw (form-symbol a (b ∷ c ∷ take n rest) other) (rw (symbol-long a b c (take n rest)) refl)

-- a mark or an operator of two bytes is longer than one of one
pub longest-two : (a b : ℕ) (rest : List ℕ) → begins_symbol a ≡ true → is_some (symbol_of (a ∷ b ∷ [])) ≡ true → longest (a ∷ b ∷ rest) ≡ 2
unfolding longest
longest-two a b rest other two =
    greatest-is (is_token (a ∷ b ∷ rest)) 2 (length (a ∷ b ∷ rest)) (omega arith) (λ some. rw (form-symbol a (b ∷ []) other) (some-map (symbol_of (a ∷ b ∷ [])) ∙ two)) (λ n over within. long a b rest other n over within)

pub longest-one : (a : ℕ) (rest : List ℕ) → begins_symbol a ≡ true → is_some (symbol_of (a ∷ [])) ≡ true → (2 ≤ length (a ∷ rest) → is_some (symbol_of (take 2 (a ∷ rest))) ≡ false) → longest (a ∷ rest) ≡ 1
unfolding longest
longest-one a [] other one not_two = rw (form-symbol a [] other) (rw (some-map (symbol_of (a ∷ []))) (rw one refl))
longest-one a (b ∷ rest) other one not_two =
    greatest-is (is_token (a ∷ b ∷ rest)) 1 (length (a ∷ b ∷ rest)) (omega arith) (λ some. rw (form-symbol a [] other) (some-map (symbol_of (a ∷ [])) ∙ one)) (λ n over within. above n over within)
  where
    above : (n : ℕ) → 1 < n → n ≤ length (a ∷ b ∷ rest) → is_token (a ∷ b ∷ rest) n ≡ false
    above zero over within = absurd (omega arith)
    above (suc zero) over within = absurd (omega arith)
    above (suc (suc zero)) over within = rw (form-symbol a (b ∷ []) other) (some-map (symbol_of (a ∷ b ∷ [])) ∙ not_two (omega arith))
    above (suc (suc (suc n))) over within = long a b rest other (suc (suc (suc n))) (omega arith) within

pub longest-none : (a : ℕ) (rest : List ℕ) → begins_symbol a ≡ true → is_some (symbol_of (a ∷ [])) ≡ false → (2 ≤ length (a ∷ rest) → is_some (symbol_of (take 2 (a ∷ rest))) ≡ false) → longest (a ∷ rest) ≡ 0
unfolding longest
longest-none a [] other one not_two = rw (form-symbol a [] other) (rw (some-map (symbol_of (a ∷ []))) (rw one refl))
longest-none a (b ∷ rest) other one not_two =
    greatest-is (is_token (a ∷ b ∷ rest)) 0 (length (a ∷ b ∷ rest)) (omega arith) (λ some. absurd (omega arith)) (λ n over within. above n over within)
  where
    above : (n : ℕ) → 0 < n → n ≤ length (a ∷ b ∷ rest) → is_token (a ∷ b ∷ rest) n ≡ false
    above zero over within = absurd (omega arith)
    above (suc zero) over within = rw (form-symbol a [] other) (some-map (symbol_of (a ∷ [])) ∙ one)
    above (suc (suc zero)) over within = rw (form-symbol a (b ∷ []) other) (some-map (symbol_of (a ∷ b ∷ [])) ∙ not_two (omega arith))
    above (suc (suc (suc n))) over within = long a b rest other (suc (suc (suc n))) (omega arith) within
