-- Spelled tokens stand at the head of their text.
use Rattle.std.proofs.Common.{◌≡◌, ℕ, ◌+◌, ◌<◌, ◌≤◌, ◌^◌, Bool, true, false, ◌==◌, not, nat_eq, nat_le, List, [], ◌∷◌, ◌++◌, length, take, drop, Some, None, decimal, refl, sym, ap, ◌∙◌, append_assoc, length-append, arith}
use Rattle.std.specs.List.{list_all, prefix_len}
use Rattle.std.specs.Char.{is_ascii_digit}
use Rattle.std.specs.Str.Parse.{digits_value, AllDigits}
use Rattle.std.proofs.Math.Seq.{take-append_seam, drop-append_seam}
use Rattle.std.proofs.lemmas.Bool.{false≢true}
use Rattle.std.proofs.lemmas.Bool.Decides.{nat_tests}
use Rattle.std.proofs.lemmas.Fmt.{decimal_is_IsNumeral}
use Rattle.std.proofs.lemmas.Str.Parse.{digit_from_value}
use Rattle.thread_tree.specs.declared.name.Name.{Name}
use Rattle.thread_tree.specs.declared.token.Token.{Token}
use Rattle.thread_tree.specs.declared.token.Token.TheVariants as token
use Rattle.thread_tree.specs.declared.token.Word.{Word}
use Rattle.thread_tree.specs.declared.token.Word.TheVariants as word
use Rattle.thread_tree.specs.declared.token.Mark.{Mark}
use Rattle.thread_tree.specs.declared.token.Mark.TheVariants as mark
use Rattle.thread_tree.specs.declared.expr.Op.{Op}
use Rattle.thread_tree.specs.declared.expr.Op.TheVariants as op
use Rattle.thread_tokens.specs.declared.piece.Piece.{Piece}
use Rattle.thread_tokens.specs.declared.piece.Piece.TheVariants.{Blank, Name as name_piece, Token as token_piece}
use Rattle.thread_tokens.specs.Spelling.{word_text, mark_text, operator_text, marks, operators}
use Rattle.thread_tokens.specs.Form.{first_passes, begins_name, continues_name, begins_symbol, is_printed, word_of, symbol_of, two_bytes, Named, Quoted}
use Rattle.thread_tokens.specs.Piece.{blank_length, checked, is_space, name, piece}
use Rattle.thread_tokens.specs.Spelled.{AreNames, IsName, MayStand, name_text, token_text}
use Rattle.thread_tokens.proofs.Lists.{by_test, none_spelled}
use Rattle.thread_tokens.proofs.ByteLemmas.{space-letter, space-digit}
use Rattle.thread_tokens.proofs.PieceLemmas.{piece_blank, piece_word, piece_name, piece_number, piece-closed, piece_two, piece_one}

-- a byte that separates tokens is part of none
other_letter : (b : ℕ) → is_space b ≡ true → continues_name b ≡ false
other_letter b h = grind (arith, nat_tests)

other_digit : (b : ℕ) → is_space b ≡ true → is_ascii_digit b ≡ false
other_digit b h = grind (arith, nat_tests)

other_slash : (b : ℕ) → is_space b ≡ true → nat_eq 47 b ≡ false
other_slash b h = grind (arith, nat_tests)

-- nothing separates tokens here
no_blank : (first : ℕ) (rest : List ℕ) → is_space first ≡ false → nat_eq 47 first ≡ false → blank_length (first ∷ rest) ≡ 0
unfolding blank_length
no_blank first rest no_space no_slash = rw no_space (rw no_slash refl)

no_comment : (first second : ℕ) (rest : List ℕ) → is_space first ≡ false → nat_eq 47 second ≡ false → blank_length (first ∷ second ∷ rest) ≡ 0
unfolding blank_length
no_comment first second rest no_space no_slash = rw no_space (rw no_slash (by_test (nat_eq 47 first) _ (λ yes. rw yes refl) (λ no. rw no refl)))

-- all bytes before one that fails
prefix-all : {X : Type 0} (p : X → Bool) (xs : List X) (x : X) (rest : List X) → list_all p xs ≡ true → p x ≡ false → length xs ≡ prefix_len p (xs ++ (x ∷ rest))
prefix-all p [] x rest all fails = rw fails refl
prefix-all p (y ∷ xs) x rest all fails = by_test (p y) _
    (λ yes. let more : list_all p xs ≡ true = rw yes at all in rw yes (omega (arith, prefix-all p xs x rest more fails)))
    (λ no. let wrong : false ≡ true = rw no at all in absurd (false≢true wrong))

one : (b : ℕ) (rest : List ℕ) → is_space b ≡ true → 1 ≡ blank_length (b ∷ rest)
unfolding blank_length
one b rest space = rw space refl

-- a single byte that separates
pub separates : (b : ℕ) (rest : List ℕ) → is_space b ≡ true → Blank 1 ≡ piece (b ∷ rest)
separates b rest space = piece_blank (b ∷ rest) 1 (one b rest space) (omega arith)

-- a name
letter_begins : (bytes rest : List ℕ) → first_passes begins_name bytes ≡ true → first_passes begins_name (bytes ++ rest) ≡ true
letter_begins [] rest letter = absurd (false≢true letter)
letter_begins (first ∷ more) rest letter = letter

not_slash : (b : ℕ) → begins_name b ≡ true → nat_eq 47 b ≡ false
not_slash b h = grind (arith, nat_tests)

letter_unseparated : (bytes rest : List ℕ) → first_passes begins_name bytes ≡ true → blank_length (bytes ++ rest) ≡ 0
letter_unseparated [] rest letter = absurd (false≢true letter)
letter_unseparated (first ∷ more) rest letter = no_blank first (more ++ rest) (space-letter first letter) (not_slash first letter)

name_stands : (bytes : List ℕ) (b : ℕ) (rest : List ℕ) → IsName bytes → is_space b ≡ true → name_piece (length bytes) (name bytes) ≡ piece (bytes ++ (b ∷ rest))
name_stands bytes b rest is space =
    let text = bytes ++ (b ∷ rest) in
    let cut : take (length bytes) text ≡ bytes = take-append_seam bytes (b ∷ rest) in
    let stands = piece_name text (length bytes) (letter_unseparated bytes (b ∷ rest) is.begins) (letter_begins bytes (b ∷ rest) is.begins) (prefix-all continues_name bytes b rest is.goes_on (other_letter b space)) (sym (ap word_of cut ∙ is.no_word)) in
    let short : nat_le (length bytes) 24 ≡ true = (let few = is.short in grind (arith, nat_tests)) in
    let whole : checked (length bytes) (Named bytes) ≡ piece text = ap (λ bs. checked (length bytes) (Named bs)) (sym cut) ∙ stands in
    rw short at whole

-- a word
record IsWordText (w : Word) : Type 0 where
  begins : first_passes begins_name (word_text w) ≡ true
  goes_on : list_all continues_name (word_text w) ≡ true
  found : Some w ≡ word_of (word_text w)

word_is : (w : Word) → IsWordText w
word_is word.«Type» = record { begins = refl; goes_on = refl; found = refl }
word_is word.Object = record { begins = refl; goes_on = refl; found = refl }
word_is word.Queue = record { begins = refl; goes_on = refl; found = refl }
word_is word.Input = record { begins = refl; goes_on = refl; found = refl }
word_is word.Semaphore = record { begins = refl; goes_on = refl; found = refl }
word_is word.Max = record { begins = refl; goes_on = refl; found = refl }
word_is word.Fn = record { begins = refl; goes_on = refl; found = refl }
word_is word.Thread = record { begins = refl; goes_on = refl; found = refl }
word_is word.Priority = record { begins = refl; goes_on = refl; found = refl }
word_is word.Start = record { begins = refl; goes_on = refl; found = refl }
word_is word.Let = record { begins = refl; goes_on = refl; found = refl }
word_is word.If = record { begins = refl; goes_on = refl; found = refl }
word_is word.Else = record { begins = refl; goes_on = refl; found = refl }
word_is word.While = record { begins = refl; goes_on = refl; found = refl }
word_is word.Ploop = record { begins = refl; goes_on = refl; found = refl }
word_is word.Break = record { begins = refl; goes_on = refl; found = refl }
word_is word.Return = record { begins = refl; goes_on = refl; found = refl }
word_is word.Atomic = record { begins = refl; goes_on = refl; found = refl }
word_is word.Give = record { begins = refl; goes_on = refl; found = refl }
word_is word.Abort = record { begins = refl; goes_on = refl; found = refl }
word_is word.New = record { begins = refl; goes_on = refl; found = refl }
word_is word.Free = record { begins = refl; goes_on = refl; found = refl }
word_is word.Spawn = record { begins = refl; goes_on = refl; found = refl }
word_is word.Delete = record { begins = refl; goes_on = refl; found = refl }
word_is word.Delay = record { begins = refl; goes_on = refl; found = refl }
word_is word.Setprio = record { begins = refl; goes_on = refl; found = refl }
word_is word.Getprio = record { begins = refl; goes_on = refl; found = refl }
word_is word.Own = record { begins = refl; goes_on = refl; found = refl }
word_is word.Send = record { begins = refl; goes_on = refl; found = refl }
word_is word.Receive = record { begins = refl; goes_on = refl; found = refl }
word_is word.Take = record { begins = refl; goes_on = refl; found = refl }
word_is word.Print = record { begins = refl; goes_on = refl; found = refl }
word_is word.Now = record { begins = refl; goes_on = refl; found = refl }
word_is word.Yield = record { begins = refl; goes_on = refl; found = refl }
word_is word.Waiting = record { begins = refl; goes_on = refl; found = refl }

word_stands : (w : Word) (b : ℕ) (rest : List ℕ) → is_space b ≡ true → token_piece (length (word_text w)) (token.Word w) ≡ piece (word_text w ++ (b ∷ rest))
word_stands w b rest space =
    let is = word_is w in
    let bytes = word_text w in
    let cut : take (length bytes) (bytes ++ (b ∷ rest)) ≡ bytes = take-append_seam bytes (b ∷ rest) in
    piece_word (bytes ++ (b ∷ rest)) (length bytes) w (letter_unseparated bytes (b ∷ rest) is.begins) (letter_begins bytes (b ∷ rest) is.begins) (prefix-all continues_name bytes b rest is.goes_on (other_letter b space)) (is.found ∙ ap word_of (sym cut))

-- a number
digits-all : (ds : List ℕ) → AllDigits 10 ds → list_all is_ascii_digit ds ≡ true
digits-all [] all = refl
digits-all (d ∷ ds) all =
    let range = digit_from_value d all.0 in
    let low = range.0 in
    let high = range.1 in
    let digit : is_ascii_digit d ≡ true = grind (arith, nat_tests) in
    rw digit (digits-all ds all.1)

digit_begins : (ds rest : List ℕ) → 0 < length ds → list_all is_ascii_digit ds ≡ true → first_passes is_ascii_digit (ds ++ rest) ≡ true
digit_begins [] rest some all = absurd (omega arith)
digit_begins (d ∷ ds) rest some all = by_test (is_ascii_digit d) _ (λ yes. yes) (λ no. let wrong : false ≡ true = rw no at all in absurd (false≢true wrong))

digit_not_slash : (b : ℕ) → is_ascii_digit b ≡ true → nat_eq 47 b ≡ false
digit_not_slash b h = grind (arith, nat_tests)

digit_unseparated : (text : List ℕ) → first_passes is_ascii_digit text ≡ true → blank_length text ≡ 0
digit_unseparated [] digit = absurd (false≢true digit)
digit_unseparated (first ∷ rest) digit = no_blank first rest (space-digit first digit) (digit_not_slash first digit)

number_stands : (n b : ℕ) (rest : List ℕ) → n < 2 ^ 32 → is_space b ≡ true → token_piece (length (decimal n)) (token.Number n) ≡ piece (decimal n ++ (b ∷ rest))
number_stands n b rest fits space =
    let is = decimal_is_IsNumeral n (omega arith) in
    let ds = decimal n in
    let text = ds ++ (b ∷ rest) in
    let all = digits-all ds is.0.1 in
    let begins = digit_begins ds (b ∷ rest) is.0.0 all in
    let cut : take (length ds) text ≡ ds = take-append_seam ds (b ∷ rest) in
    let value : digits_value 10 (take (length ds) text) ≡ n = ap (digits_value 10) cut ∙ is.1 in
    piece_number text (length ds) n (digit_unseparated text begins) begins (prefix-all is_ascii_digit ds b rest all (other_digit b space)) (rw (value) fits) (sym value)

-- a string
string_stands : (bytes : List ℕ) (b : ℕ) (rest : List ℕ) → list_all is_printed bytes ≡ true → length bytes ≤ 64 → token_piece (length (34 ∷ (bytes ++ 34 ∷ []))) (token.Text (record { bytes = record { items = bytes } })) ≡ piece ((34 ∷ (bytes ++ 34 ∷ [])) ++ (b ∷ rest))
string_stands bytes b rest printed few =
    let rest_of = bytes ++ (34 ∷ b ∷ rest) in
    let text = 34 ∷ rest_of in
    let n = length bytes in
    let long : n ≡ prefix_len is_printed rest_of = prefix-all is_printed bytes 34 (b ∷ rest) printed refl in
    let closes : first_passes (λ byte. byte == 34) (drop n rest_of) ≡ true = ap (first_passes (λ byte. byte == 34)) (drop-append_seam bytes (34 ∷ b ∷ rest)) in
    let inside : take n rest_of ≡ bytes = take-append_seam bytes (34 ∷ b ∷ rest) in
    let stands : checked (n + 2) (Quoted bytes) ≡ piece text = ap (λ bs. checked (n + 2) (Quoted bs)) (sym inside) ∙ piece-closed text rest_of n refl (no_blank 34 rest_of refl refl) refl long closes in
    let short : nat_le n 64 ≡ true = grind (arith, nat_tests) in
    let whole : token_piece (n + 2) (token.Text (record { bytes = record { items = bytes } })) ≡ piece text = rw short at stands in
    let count : length (34 ∷ (bytes ++ 34 ∷ [])) ≡ n + 2 = omega (arith, length-append bytes (34 ∷ [])) in
    let same : text ≡ (34 ∷ (bytes ++ 34 ∷ [])) ++ (b ∷ rest) = ap (λ bs. 34 ∷ bs) (sym (append_assoc bytes (34 ∷ []) (b ∷ rest))) in
    ap (λ m. token_piece m (token.Text (record { bytes = record { items = bytes } }))) count ∙ (whole ∙ ap piece same)

-- a mark or an operator: none has a byte that separates tokens
abbrev unseparated : List ℕ → Bool
unseparated bytes = list_all (λ byte. not (is_space byte)) bytes

spaced_symbol : (a b : ℕ) → is_space b ≡ true → symbol_of (a ∷ b ∷ []) ≡ None
unfolding symbol_of
spaced_symbol a b space =
    let fails : unseparated (a ∷ b ∷ []) ≡ false = rw space (by_test (is_space a) _ (λ yes. rw yes refl) (λ no. rw no refl)) in
    rw (none_spelled mark_text marks unseparated (a ∷ b ∷ []) refl fails) (rw (none_spelled operator_text operators unseparated (a ∷ b ∷ []) refl fails) refl)

one_stands : (a : ℕ) (t : Token) (b : ℕ) (rest : List ℕ) → begins_symbol a ≡ true → is_space a ≡ false → Some t ≡ symbol_of (a ∷ []) → is_space b ≡ true → token_piece 1 t ≡ piece (a ∷ b ∷ rest)
one_stands a t b rest other no_space found space =
    let two : nat_le 2 (length (a ∷ b ∷ rest)) ≡ true = grind (arith, nat_tests) in
    let none : None ≡ two_bytes (a ∷ b ∷ rest) = rw two (sym (spaced_symbol a b space)) in
    piece_one (a ∷ b ∷ rest) t (no_comment a b rest no_space (other_slash b space)) other none found

two_stand : (a c : ℕ) (t : Token) (b : ℕ) (rest : List ℕ) → begins_symbol a ≡ true → is_space a ≡ false → nat_eq 47 c ≡ false → Some t ≡ symbol_of (a ∷ c ∷ []) → token_piece 2 t ≡ piece (a ∷ c ∷ b ∷ rest)
two_stand a c t b rest other no_space no_slash found =
    let two : nat_le 2 (length (a ∷ c ∷ b ∷ rest)) ≡ true = grind (arith, nat_tests) in
    let both : Some t ≡ two_bytes (a ∷ c ∷ b ∷ rest) = rw two found in
    piece_two (a ∷ c ∷ b ∷ rest) t (no_comment a c (b ∷ rest) no_space no_slash) other both

mark_stands : (m : Mark) (b : ℕ) (rest : List ℕ) → is_space b ≡ true → token_piece (length (mark_text m)) (token.Mark m) ≡ piece (mark_text m ++ (b ∷ rest))
unfolding symbol_of
mark_stands mark.OpenBrace b rest space = one_stands 123 (token.Mark mark.OpenBrace) b rest refl refl refl space
mark_stands mark.CloseBrace b rest space = one_stands 125 (token.Mark mark.CloseBrace) b rest refl refl refl space
mark_stands mark.OpenParenthesis b rest space = one_stands 40 (token.Mark mark.OpenParenthesis) b rest refl refl refl space
mark_stands mark.CloseParenthesis b rest space = one_stands 41 (token.Mark mark.CloseParenthesis) b rest refl refl refl space
mark_stands mark.OpenBracket b rest space = one_stands 91 (token.Mark mark.OpenBracket) b rest refl refl refl space
mark_stands mark.CloseBracket b rest space = one_stands 93 (token.Mark mark.CloseBracket) b rest refl refl refl space
mark_stands mark.Semicolon b rest space = one_stands 59 (token.Mark mark.Semicolon) b rest refl refl refl space
mark_stands mark.Comma b rest space = one_stands 44 (token.Mark mark.Comma) b rest refl refl refl space
mark_stands mark.Colon b rest space = one_stands 58 (token.Mark mark.Colon) b rest refl refl refl space
mark_stands mark.Dot b rest space = one_stands 46 (token.Mark mark.Dot) b rest refl refl refl space
mark_stands mark.Equals b rest space = one_stands 61 (token.Mark mark.Equals) b rest refl refl refl space
mark_stands mark.Arrow b rest space = two_stand 45 62 (token.Mark mark.Arrow) b rest refl refl refl refl

operator_stands : (o : Op) (b : ℕ) (rest : List ℕ) → is_space b ≡ true → token_piece (length (operator_text o)) (token.Operator o) ≡ piece (operator_text o ++ (b ∷ rest))
unfolding symbol_of
operator_stands op.Or b rest space = one_stands 124 (token.Operator op.Or) b rest refl refl refl space
operator_stands op.Xor b rest space = one_stands 94 (token.Operator op.Xor) b rest refl refl refl space
operator_stands op.And b rest space = one_stands 38 (token.Operator op.And) b rest refl refl refl space
operator_stands op.Same b rest space = two_stand 61 61 (token.Operator op.Same) b rest refl refl refl refl
operator_stands op.Other b rest space = two_stand 33 61 (token.Operator op.Other) b rest refl refl refl refl
operator_stands op.Less b rest space = one_stands 60 (token.Operator op.Less) b rest refl refl refl space
operator_stands op.AtMost b rest space = two_stand 60 61 (token.Operator op.AtMost) b rest refl refl refl refl
operator_stands op.More b rest space = one_stands 62 (token.Operator op.More) b rest refl refl refl space
operator_stands op.AtLeast b rest space = two_stand 62 61 (token.Operator op.AtLeast) b rest refl refl refl refl
operator_stands op.Left b rest space = two_stand 60 60 (token.Operator op.Left) b rest refl refl refl refl
operator_stands op.Right b rest space = two_stand 62 62 (token.Operator op.Right) b rest refl refl refl refl
operator_stands op.Plus b rest space = one_stands 43 (token.Operator op.Plus) b rest refl refl refl space
operator_stands op.Minus b rest space = one_stands 45 (token.Operator op.Minus) b rest refl refl refl space
operator_stands op.Times b rest space = one_stands 42 (token.Operator op.Times) b rest refl refl refl space
operator_stands op.Over b rest space = one_stands 47 (token.Operator op.Over) b rest refl refl refl space
operator_stands op.Rest b rest space = one_stands 37 (token.Operator op.Rest) b rest refl refl refl space
operator_stands op.Not b rest space = one_stands 33 (token.Operator op.Not) b rest refl refl refl space
operator_stands op.Flip b rest space = one_stands 126 (token.Operator op.Flip) b rest refl refl refl space

-- the piece that a token is
abbrev pub piece_of : List Name → Token → Piece
piece_of names (token.Name i) = name_piece (length (name_text names i)) (name (name_text names i))
piece_of names t = token_piece (length (token_text names t)) t

-- a token stands at the head of its text, if a byte that separates tokens is behind it
pub stands : (names : List Name) (t : Token) (b : ℕ) (rest : List ℕ) → AreNames names → MayStand names t → is_space b ≡ true → piece_of names t ≡ piece (token_text names t ++ (b ∷ rest))
unfolding token_text
stands names (token.Name i) b rest are may space = name_stands (name_text names i) b rest (are.each i may) space
stands names (token.Number n) b rest are may space = number_stands n b rest may space
stands names (token.Text text) b rest are may space = string_stands text.bytes.items b rest may.0 may.1
stands names (token.Word word) b rest are may space = word_stands word b rest space
stands names (token.Mark mark) b rest are may space = mark_stands mark b rest space
stands names (token.Operator operator) b rest are may space = operator_stands operator b rest space
