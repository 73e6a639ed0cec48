-- What stands at the head of a text.
use Rattle.std.specs.Prelude.{ℕ, ◌<◌, ◌≤◌, ◌^◌, Bool, ◌==◌, if◌then◌else◌, List, [], ◌∷◌, length, take, Option, Some, None, not, nat_eq, nat_le, nat_lt, codes}
use Rattle.std.specs.List.{list_any, prefix_len, starts_with}
use Rattle.thread_tree.specs.declared.name.Name.{Name}
use Rattle.thread_tree.specs.declared.token.Token.TheVariants.{Number as number_token, Text as text_token}
use Rattle.thread_tokens.specs.declared.piece.Fault.TheVariants.{BadToken, NumberTooLarge, TooLong}
use Rattle.thread_tokens.specs.declared.piece.Piece.{Piece}
use Rattle.thread_tokens.specs.declared.piece.Piece.TheVariants.{Blank, Name as name_piece, Token as token_piece, Wrong}
use Rattle.thread_tokens.specs.Form.{Form, Named, Counted, Quoted, Fixed, first_passes, form_of, longest}

-- a space, a tab, a carriage return or a newline
abbrev pub is_space : ℕ → Bool
is_space byte = list_any (λ space. byte == space) (32 ∷ 9 ∷ 13 ∷ 10 ∷ [])

-- how many bytes at the head of a text separate tokens: such a byte, or a comment up to the next newline
unfoldable pub blank_length : List ℕ → ℕ
blank_length text =
    if first_passes is_space text then 1
    else (if starts_with nat_eq text (codes "//") then prefix_len (λ byte. not (byte == 10)) text else 0)

-- the name of these bytes
abbrev pub name : List ℕ → Name
name bytes = record { bytes = record { items = bytes } }

-- the piece that a token of n bytes is, where it passes no bound
abbrev pub checked : ℕ → Form → Piece
checked n (Named bytes) = if nat_le (length bytes) 24 then name_piece n (name bytes) else Wrong TooLong
checked n (Counted value) = if nat_lt value (2 ^ 32) then token_piece n (number_token value) else Wrong NumberTooLarge
checked n (Quoted bytes) = if nat_le (length bytes) 64 then token_piece n (text_token (record { bytes = record { items = bytes } })) else Wrong TooLong
checked n (Fixed token) = token_piece n token

-- the piece of the longest token, where a token begins
abbrev pub lexeme : ℕ → Option Form → Piece
lexeme n None = Wrong BadToken
lexeme n (Some form) = checked n form

-- what stands at the head of a text
unfoldable pub piece : List ℕ → Piece
piece text =
    if nat_lt 0 (blank_length text) then Blank (blank_length text)
    else lexeme (longest text) (form_of (take (longest text) text))

-- a piece that has at least one byte and stands in so many
abbrev pub IsWithin : ℕ → Piece → Type 0
IsWithin room (Blank n) = (0 < n) × (n ≤ room)
IsWithin room (name_piece n name) = (0 < n) × (n ≤ room)
IsWithin room (token_piece n token) = (0 < n) × (n ≤ room)
IsWithin room (Wrong fault) = Unit {0}
