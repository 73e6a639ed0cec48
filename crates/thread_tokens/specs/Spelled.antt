-- Tokens spelled one after another, each with a byte behind it that separates tokens.
use Rattle.std.specs.Prelude.{◌≡◌, ℕ, ◌+◌, ◌<◌, ◌≤◌, ◌^◌, ◌==◌, true, false, if◌then◌else◌, List, [], ◌∷◌, ◌++◌, length, map, decimal, bytes_eq, slice_index_or, None}
use Rattle.std.specs.List.{list_all}
use Rattle.thread_tree.specs.declared.name.Name.{Name}
use Rattle.thread_tree.specs.declared.token.Token.{Token}
use Rattle.thread_tree.specs.declared.token.Token.TheVariants as token
use Rattle.thread_tree.specs.declared.token.Placed.{Placed}
use Rattle.thread_tree.specs.declared.place.Place.{Place}
use Rattle.thread_tokens.specs.declared.ending.Ending.TheVariants.{End}
use Rattle.thread_tokens.specs.Scan.{Scan}
use Rattle.thread_tokens.specs.Spelling.{word_text, mark_text, operator_text}
use Rattle.thread_tokens.specs.Form.{first_passes, begins_name, continues_name, is_printed, word_of}
use Rattle.thread_tokens.specs.Piece.{name, is_space}

-- the bytes of the name at an index, and none where no name has it
abbrev pub name_text : List Name → ℕ → List ℕ
name_text names i = (slice_index_or names i (name [])).bytes.items

-- the bytes of a token, where a number has no leading zeros
unfoldable pub token_text : List Name → Token → List ℕ
token_text names (token.Name i) = name_text names i
token_text names (token.Number n) = decimal n
token_text names (token.Text text) = 34 ∷ (text.bytes.items ++ 34 ∷ [])
token_text names (token.Word word) = word_text word
token_text names (token.Mark mark) = mark_text mark
token_text names (token.Operator operator) = operator_text operator

-- a token with the byte behind it
pub record Part : Type 0 where
  pub token : Token
  pub separator : ℕ

-- the text of several
abbrev pub spelled : List Name → List Part → List ℕ
spelled names [] = []
spelled names (part ∷ parts) = token_text names part.token ++ (part.separator ∷ spelled names parts)

-- each byte behind a token separates tokens
abbrev pub AreSeparated : List Part → Type 0
AreSeparated [] = Unit {0}
AreSeparated (part ∷ parts) = (is_space part.separator ≡ true) × AreSeparated parts

-- these bytes are a name: a letter or `_`, then letters, digits and `_`, at most 24; not a word of the language
pub record IsName (bytes : List ℕ) : Type 0 where
  pub begins : first_passes begins_name bytes ≡ true
  pub goes_on : list_all continues_name bytes ≡ true
  pub no_word : word_of bytes ≡ None
  pub short : length bytes ≤ 24

-- names of a text: no two are the same
pub record AreNames (names : List Name) : Type 0 where
  pub each : (i : ℕ) → i < length names → IsName (name_text names i)
  pub distinct : (i j : ℕ) → i < length names → j < i → bytes_eq (name_text names i) (name_text names j) ≡ false

-- a token that may stand in a text with these names
abbrev pub MayStand : List Name → Token → Type 0
MayStand names (token.Name i) = i < length names
MayStand names (token.Number n) = n < 2 ^ 32
MayStand names (token.Text text) = (list_all is_printed text.bytes.items ≡ true) × (length text.bytes.items ≤ 64)
MayStand names (token.Word word) = Unit {0}
MayStand names (token.Mark mark) = Unit {0}
MayStand names (token.Operator operator) = Unit {0}

-- a name that is one of the first `count` or the next one, and how many there are with it
abbrev pub IsNext : ℕ → Token → Type 0
IsNext count (token.Name i) = i ≤ count
IsNext count _ = Unit {0}

abbrev pub with_it : ℕ → Token → ℕ
with_it count (token.Name i) = if i == count then count + 1 else count
with_it count _ = count

-- tokens with these names, which are in order of their first place: `count` stood before, and all stand at the end
abbrev pub AreTokens : List Name → ℕ → List Token → Type 0
AreTokens names count [] = count ≡ length names
AreTokens names count (t ∷ ts) = MayStand names t × IsNext count t × AreTokens names (with_it count t) ts

-- a scan has these tokens, wherever they stand, and these names, and ends at the end of its text
pub record Gives (tokens : List Token) (names : List Name) (end : Place) (scan : Scan) : Type 0 where
  pub same_tokens : map (λ placed. placed.token) scan.tokens ≡ tokens
  pub same_names : scan.names ≡ names
  pub same_ending : scan.ending ≡ End end

-- the names of a scan are names, and its tokens may stand with them, in order of their first place
pub record IsOrderly (names : List Name) (tokens : List Placed) : Type 0 where
  pub are_names : AreNames names
  pub are_tokens : AreTokens names 0 (map (λ placed. placed.token) tokens)
