-- Which bytes are a token, and which token stands at the head of a text.
use Rattle.std.specs.Prelude.{ℕ, zero, suc, Bool, false, ◌&&◌, ◌||◌, ◌==◌, if◌then◌else◌, List, [], ◌∷◌, length, take, Option, Some, None, is_some, option_map, find, take_while, bytes_eq, nat_le, not, ◌++◌}
use Rattle.std.specs.Option.{option_or}
use Rattle.std.specs.List.{list_all}
use Rattle.std.specs.Char.{is_ascii_digit, is_ascii_alphabetic}
use Rattle.std.specs.Str.Parse.{digits_value}
use Rattle.thread_tree.specs.declared.token.Token.{Token}
use Rattle.thread_tree.specs.declared.token.Token.TheVariants.{Word as word_token, Mark as mark_token, Operator as operator_token}
use Rattle.thread_tree.specs.declared.token.Word.{Word}
use Rattle.thread_tokens.specs.Spelling.{word_text, mark_text, operator_text, words, marks, operators}

-- the form of a token, with what it says: a name, a number, a string, or a token that has one spelling
pub data Form : Type 0 where
  Named : List ℕ → Form
  Counted : ℕ → Form
  Quoted : List ℕ → Form
  Fixed : Token → Form

-- whether the first byte of a text passes a test
abbrev pub first_passes : (ℕ → Bool) → List ℕ → Bool
first_passes test [] = false
first_passes test (first ∷ rest) = test first

-- a name begins with a letter or `_`
abbrev pub begins_name : ℕ → Bool
begins_name byte = is_ascii_alphabetic byte || byte == 95

-- and goes on with letters, `_` and digits
abbrev pub continues_name : ℕ → Bool
continues_name byte = begins_name byte || is_ascii_digit byte

-- what begins with another byte is a mark or an operator, or no token
abbrev pub begins_symbol : ℕ → Bool
begins_symbol byte = not (begins_name byte) && not (is_ascii_digit byte) && not (byte == 34)

-- the name that these bytes are, which may be a word of the language
abbrev pub name_of : List ℕ → Option Form
name_of [] = None
name_of (first ∷ rest) = if begins_name first && list_all continues_name rest then Some (Named (first ∷ rest)) else None

-- the number that these bytes are
abbrev pub number_of : List ℕ → Option Form
number_of [] = None
number_of (first ∷ rest) = if list_all is_ascii_digit (first ∷ rest) then Some (Counted (digits_value 10 (first ∷ rest))) else None

-- a byte that a string may hold: 32 to 126, and not the quote
abbrev pub is_printed : ℕ → Bool
is_printed byte = nat_le 32 byte && nat_le byte 126 && not (byte == 34)

-- the string that these bytes are: a quote, bytes that a string may hold, and a quote
abbrev pub string_of : List ℕ → Option Form
string_of [] = None
string_of (first ∷ rest) =
    let inside = take_while is_printed rest in
    if first == 34 && bytes_eq rest (inside ++ 34 ∷ []) then Some (Quoted inside) else None

-- the word of the language that is spelled so
abbrev pub word_of : List ℕ → Option Word
word_of bytes = find (λ word. bytes_eq (word_text word) bytes) words

-- the mark or the operator that is spelled so
unfoldable pub symbol_of : List ℕ → Option Token
symbol_of bytes =
    option_or (option_map mark_token (find (λ mark. bytes_eq (mark_text mark) bytes) marks))
    (option_map operator_token (find (λ operator. bytes_eq (operator_text operator) bytes) operators))

-- and the one that the first two bytes of a text spell
abbrev pub two_bytes : List ℕ → Option Token
two_bytes text = if nat_le 2 (length text) then symbol_of (take 2 text) else None

-- the word, the mark or the operator that is spelled so
abbrev pub fixed_of : List ℕ → Option Token
fixed_of bytes = option_or (option_map word_token (word_of bytes)) (symbol_of bytes)

-- the form of the token that these bytes are, and none where they are no token
unfoldable pub form_of : List ℕ → Option Form
form_of bytes = option_or (option_map Fixed (fixed_of bytes)) (option_or (name_of bytes) (option_or (number_of bytes) (string_of bytes)))

-- the greatest number up to a bound that passes a test, and 0 where none above 0 does
abbrev pub greatest : (ℕ → Bool) → ℕ → ℕ
greatest test zero = 0
greatest test (suc n) = if test (suc n) then suc n else greatest test n

-- the length of the longest token at the head of a text, and 0 where no token begins there
unfoldable pub longest : List ℕ → ℕ
longest text = greatest (λ n. is_some (form_of (take n text))) (length text)
