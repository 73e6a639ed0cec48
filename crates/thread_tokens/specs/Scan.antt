-- The tokens of a text.
use Rattle.std.specs.Prelude.{ℕ, zero, suc, ◌+◌, ◌-◌, Bool, ◌==◌, if◌then◌else◌, List, [], ◌∷◌, ◌++◌, fold, bytes_eq}
use Rattle.std.specs.List.{list_any, position_or_len}
use Rattle.thread_tree.specs.declared.place.Place.{Place}
use Rattle.thread_tree.specs.declared.name.Name.{Name}
use Rattle.thread_tree.specs.declared.token.Token.{Token}
use Rattle.thread_tree.specs.declared.token.Token.TheVariants.{Name as name_token}
use Rattle.thread_tree.specs.declared.token.Placed.{Placed}
use Rattle.thread_tokens.specs.declared.ending.Ending.{Ending}
use Rattle.thread_tokens.specs.declared.ending.Ending.TheVariants.{End, BadToken, NumberTooLarge, TooLong}
use Rattle.thread_tokens.specs.declared.piece.Fault.{Fault}
use Rattle.thread_tokens.specs.declared.piece.Fault.TheVariants.{BadToken as bad_token, NumberTooLarge as number_too_large, TooLong as too_long}
use Rattle.thread_tokens.specs.declared.piece.Piece.{Piece}
use Rattle.thread_tokens.specs.declared.piece.Piece.TheVariants.{Blank, Name as name_piece, Token as token_piece, Wrong}
use Rattle.thread_tokens.specs.Piece.{piece}

-- the place behind a byte, and behind several
abbrev pub after_byte : Place → ℕ → Place
after_byte place byte =
    if byte == 10 then record { line = place.line + 1; column = 1 } else record place { column = place.column + 1 }

abbrev pub after : Place → List ℕ → Place
after place bytes = fold after_byte place bytes

-- where a text begins
abbrev pub beginning : Place
beginning = record { line = 1; column = 1 }

-- whether a name has the bytes of another
abbrev pub is_same : Name → Name → Bool
is_same name other = bytes_eq name.bytes.items other.bytes.items

-- the index of a name: its place among those before it, and the next one where it is new
abbrev pub index_of : Name → List Name → ℕ
index_of name names = position_or_len (is_same name) names

-- the names with this one, which goes last where it is new
abbrev pub with_name : Name → List Name → List Name
with_name name names = if list_any (is_same name) names then names else names ++ name ∷ []

-- how the tokens end at a fault
abbrev pub ending_at : Fault → Place → Ending
ending_at bad_token place = BadToken place
ending_at number_too_large place = NumberTooLarge place
ending_at too_long place = TooLong place

-- the tokens of a text, its distinct names in order of their first place, and how the tokens end
pub record Scan : Type 0 where
  pub tokens : List Placed
  pub names : List Name
  pub ending : Ending

-- the scan that ends so
abbrev pub ended : List Placed → List Name → Ending → Scan
ended tokens names ending = record { tokens = tokens; names = names; ending = ending }

-- with a token in front
abbrev pub with_token : Token → Place → Scan → Scan
with_token token place scan = record scan { tokens = record { token = token; place = place } ∷ scan.tokens }

-- a scan at a piece, where `rest n names` is the scan behind n bytes more, after these names
abbrev pub at_piece : Piece → Place → List Name → (ℕ → List Name → Scan) → Scan
at_piece (Blank n) place names rest = rest n names
at_piece (name_piece n name) place names rest = with_token (name_token (index_of name names)) place (rest n (with_name name names))
at_piece (token_piece n token) place names rest = with_token token place (rest n names)
at_piece (Wrong fault) place names rest = ended [] names (ending_at fault place)

-- the scan of a text from its byte `skip` on, where its head stands at this place, after these names
unfoldable pub scan_from : List ℕ → ℕ → Place → List Name → Scan
scan_from [] skip place names = ended [] names (End place)
scan_from (byte ∷ rest) (suc skip) place names = scan_from rest skip (after_byte place byte) names
scan_from (byte ∷ rest) zero place names =
    at_piece (piece (byte ∷ rest)) place names (λ n names. scan_from rest (n - 1) (after_byte place byte) names)

-- the scan of a whole text
unfoldable pub scan_of : List ℕ → Scan
scan_of text = scan_from text 0 beginning []
