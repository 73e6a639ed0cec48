-- The tokens of a scan stand one behind another.
use Rattle.std.proofs.Common.{ℕ, zero, suc, ◌+◌, ◌-◌, ◌==◌, Bool, true, false, cond, List, [], ◌∷◌, arith, refl}
use Rattle.thread_tree.specs.declared.place.Place.{Place}
use Rattle.thread_tree.specs.declared.name.Name.{Name}
use Rattle.thread_tokens.specs.declared.piece.Piece.{Piece}
use Rattle.thread_tokens.specs.declared.piece.Piece.TheVariants.{Blank, Name as name_piece, Token as token_piece, Wrong}
use Rattle.thread_tokens.specs.Piece.{piece}
use Rattle.thread_tokens.specs.Scan.{Scan, after_byte, at_piece, beginning, scan_from, scan_of, with_name}
use Rattle.fault_places.specs.Order.{IsBefore, on_earlier_line, on_its_line, AreBehind, no_more_behind, also_behind, IsRising, no_more_tokens, before_others}

before_trans : {p q r : Place} → IsBefore p q → IsBefore q r → IsBefore p r
before_trans (on_earlier_line a) (on_earlier_line b) = on_earlier_line (omega arith)
before_trans (on_earlier_line a) (on_its_line b c) = on_earlier_line (omega arith)
before_trans (on_its_line a c) (on_earlier_line b) = on_earlier_line (omega arith)
before_trans (on_its_line a c) (on_its_line b d) = on_its_line (omega arith) (omega arith)

-- a byte goes on
by_newline : (b : Bool) (place : Place) → IsBefore place (cond b (record { line = place.line + 1; column = 1 }) (record place { column = place.column + 1 }))
by_newline true place = on_earlier_line (omega arith)
by_newline false place = on_its_line refl (omega arith)

byte_behind : (place : Place) (byte : ℕ) → IsBefore place (after_byte place byte)
byte_behind place byte = by_newline (byte == 10) place

-- a piece's token stands behind what stands before the piece
piece_behind : (q : Place) (p : Piece) (place : Place) (names : List Name) (rest : ℕ → List Name → Scan) → IsBefore q place → ((n : ℕ) (others : List Name) → AreBehind q (rest n others).tokens) → AreBehind q (at_piece p place names rest).tokens
piece_behind q (Blank n) place names rest before each = each n names
piece_behind q (name_piece n name) place names rest before each = also_behind before (each n (with_name name names))
piece_behind q (token_piece n token) place names rest before each = also_behind before (each n names)
piece_behind q (Wrong fault) place names rest before each = no_more_behind

-- all tokens of a scan stand behind what stands before it
scan_behind : (text : List ℕ) (skip : ℕ) (place : Place) (names : List Name) (q : Place) → IsBefore q place → AreBehind q (scan_from text skip place names).tokens
unfolding scan_from
scan_behind [] skip place names q before = no_more_behind
scan_behind (byte ∷ rest) (suc skip) place names q before =
    scan_behind rest skip (after_byte place byte) names q (before_trans before (byte_behind place byte))
scan_behind (byte ∷ rest) zero place names q before =
    piece_behind q (piece (byte ∷ rest)) place names (λ n others. scan_from rest (n - 1) (after_byte place byte) others) before
    (λ n others. scan_behind rest (n - 1) (after_byte place byte) others q (before_trans before (byte_behind place byte)))

-- a piece's token stands before the others
piece_rises : (p : Piece) (place : Place) (names : List Name) (rest : ℕ → List Name → Scan) → ((n : ℕ) (others : List Name) → AreBehind place (rest n others).tokens) → ((n : ℕ) (others : List Name) → IsRising (rest n others).tokens) → IsRising (at_piece p place names rest).tokens
piece_rises (Blank n) place names rest behind each = each n names
piece_rises (name_piece n name) place names rest behind each = before_others (behind n (with_name name names)) (each n (with_name name names))
piece_rises (token_piece n token) place names rest behind each = before_others (behind n names) (each n names)
piece_rises (Wrong fault) place names rest behind each = no_more_tokens

-- the tokens of a scan from a byte on
scan_rises : (text : List ℕ) (skip : ℕ) (place : Place) (names : List Name) → IsRising (scan_from text skip place names).tokens
unfolding scan_from
scan_rises [] skip place names = no_more_tokens
scan_rises (byte ∷ rest) (suc skip) place names = scan_rises rest skip (after_byte place byte) names
scan_rises (byte ∷ rest) zero place names =
    piece_rises (piece (byte ∷ rest)) place names (λ n others. scan_from rest (n - 1) (after_byte place byte) others)
    (λ n others. scan_behind rest (n - 1) (after_byte place byte) others place (byte_behind place byte))
    (λ n others. scan_rises rest (n - 1) (after_byte place byte) others)

-- the tokens of a text
pub text_rises : (text : List ℕ) → IsRising (scan_of text).tokens
unfolding scan_of
text_rises text = scan_rises text 0 beginning []
