-- Texts that were taken apart by hand.
use Rattle.std.specs.Prelude.{◌≡◌, ℕ, List, [], ◌∷◌, map, codes}
use Rattle.thread_tree.specs.declared.place.Place.{Place}
use Rattle.thread_tree.specs.declared.token.Token.{Token}
use Rattle.thread_tree.specs.declared.token.Token.TheVariants.{Name, Number, Text, Word, Mark, Operator}
use Rattle.thread_tree.specs.declared.token.Placed.{Placed}
use Rattle.thread_tree.specs.declared.token.Word.TheVariants.{Print, Own}
use Rattle.thread_tree.specs.declared.token.Mark.TheVariants.{Arrow, Semicolon}
use Rattle.thread_tree.specs.declared.expr.Op.TheVariants.{Minus, AtMost, Less, Over}
use Rattle.thread_tokens.specs.declared.ending.Ending.{Ending}
use Rattle.thread_tokens.specs.declared.ending.Ending.TheVariants.{End, BadToken, NumberTooLarge, TooLong}
use Rattle.thread_tokens.specs.Piece.{name}
use Rattle.thread_tokens.specs.Scan.{Scan, scan_of}

abbrev pub place : ℕ → ℕ → Place
place line column = record { line = line; column = column }

-- a token of the first line
abbrev pub at : ℕ → Token → Placed
at column token = record { token = token; place = place 1 column }

-- the scan with these tokens, these names and this ending
abbrev pub scanned : List Placed → List (List ℕ) → Ending → Scan
scanned tokens names ending = record { tokens = tokens; names = map name names; ending = ending }

-- `1->a` is three tokens
abbrev pub ArrowIsOne : Type 0
ArrowIsOne =
    scan_of (codes "1->a")
    ≡ scanned (at 1 (Number 1) ∷ at 2 (Mark Arrow) ∷ at 4 (Name 0) ∷ []) (codes "a" ∷ []) (End (place 1 5))

-- `a-->b` is four
abbrev pub MinusThenArrow : Type 0
MinusThenArrow =
    scan_of (codes "a-->b")
    ≡ scanned (at 1 (Name 0) ∷ at 2 (Operator Minus) ∷ at 3 (Mark Arrow) ∷ at 5 (Name 1) ∷ []) (codes "a" ∷ codes "b" ∷ []) (End (place 1 6))

-- `8 //2` is a number and a comment
abbrev pub CommentAtTheEnd : Type 0
CommentAtTheEnd = scan_of (codes "8 //2") ≡ scanned (at 1 (Number 8) ∷ []) [] (End (place 1 6))

-- a comment ends before the newline, which is counted
abbrev pub CommentThenLine : Type 0
CommentThenLine =
    scan_of (codes "//2\n/ 2")
    ≡ scanned (record { token = Operator Over; place = place 2 1 } ∷ record { token = Number 2; place = place 2 3 } ∷ []) [] (End (place 2 4))

-- `12a` is a number and a name
abbrev pub NumberThenName : Type 0
NumberThenName = scan_of (codes "12a") ≡ scanned (at 1 (Number 12) ∷ at 3 (Name 0) ∷ []) (codes "a" ∷ []) (End (place 1 4))

-- a name that stands twice counts once, and a word of the language is no name
abbrev pub NamesOnce : Type 0
NamesOnce =
    scan_of (codes "b self b prints b")
    ≡ scanned (at 1 (Name 0) ∷ at 3 (Word Own) ∷ at 8 (Name 0) ∷ at 10 (Name 1) ∷ at 17 (Name 0) ∷ []) (codes "b" ∷ codes "prints" ∷ []) (End (place 1 18))

-- the longest mark is taken
abbrev pub LongestMark : Type 0
LongestMark = scan_of (codes "<=<") ≡ scanned (at 1 (Operator AtMost) ∷ at 3 (Operator Less) ∷ []) [] (End (place 1 4))

-- a string that isn't closed
abbrev pub NotClosed : Type 0
NotClosed = scan_of (codes "print \"ab;\n\"") ≡ scanned (at 1 (Word Print) ∷ []) [] (BadToken (place 1 7))

-- a closed one, and an empty one
abbrev pub Closed : Type 0
Closed =
    scan_of (codes "\"a//b\"\"\";")
    ≡ scanned (at 1 (Text (record { bytes = record { items = codes "a//b" } })) ∷ at 7 (Text (record { bytes = record { items = [] } })) ∷ at 9 (Mark Semicolon) ∷ []) [] (End (place 1 10))

-- a byte that no token begins with
abbrev pub NoToken : Type 0
NoToken = scan_of (codes "; @;") ≡ scanned (at 1 (Mark Semicolon) ∷ []) [] (BadToken (place 1 3))

-- the bound of a number, with leading zeros
abbrev pub NumberBound : Type 0
NumberBound =
    scan_of (codes "04294967295 4294967296")
    ≡ scanned (at 1 (Number 4294967295) ∷ []) [] (NumberTooLarge (place 1 13))

-- the bound of a name, 24 bytes
abbrev pub NameBound : Type 0
NameBound =
    scan_of (codes "abcdefghijklmnopqrstuvwx abcdefghijklmnopqrstuvwxy")
    ≡ scanned (at 1 (Name 0) ∷ []) (codes "abcdefghijklmnopqrstuvwx" ∷ []) (TooLong (place 1 26))

-- the end of a text is behind its last byte, blanks included
abbrev pub EndBehindBlanks : Type 0
EndBehindBlanks = scan_of (codes ";\n \n") ≡ scanned (at 1 (Mark Semicolon) ∷ []) [] (End (place 3 1))
