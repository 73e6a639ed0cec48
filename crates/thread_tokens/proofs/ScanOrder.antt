-- The tokens of a scan may stand in a text, and its names are in order of their first place.
use Rattle.std.proofs.Common.{◌≡◌, ℕ, zero, suc, ◌+◌, ◌-◌, ◌<◌, ◌≤◌, ◌^◌, Bool, true, false, ◌==◌, ◌&&◌, not, nat_lt, nat_le, List, [], ◌∷◌, ◌++◌, length, map, take, find, take_while, Option, Some, None, option_map, bytes_eq, append_assoc, append-nil, length-append, refl, sym, ap, subst, ◌∙◌, arith}
use Rattle.std.specs.List.{list_all, list_any, position_or_len}
use Rattle.std.specs.Option.{option_or}
use Rattle.std.specs.Char.{is_ascii_digit}
use Rattle.std.proofs.lemmas.Bool.{false≢true}
use Rattle.std.proofs.lemmas.Bool.Decides.{nat_tests}
use Rattle.std.proofs.lemmas.List.Folds.{list_any_at}
use Rattle.std.proofs.Math.Seq.{get_or-append_seam}
use Rattle.std.proofs.lemmas.List.{get_or_append_left}
use Rattle.std.proofs.lemmas.List.Sums.{prefix_len-le-length}
use Rattle.thread_tree.specs.declared.token.Word.{Word}
use Rattle.thread_tokens.specs.Spelling.{mark_text, operator_text, marks, operators}
use Rattle.thread_tree.specs.declared.place.Place.{Place}
use Rattle.thread_tree.specs.declared.name.Name.{Name}
use Rattle.thread_tree.specs.declared.token.Token.{Token}
use Rattle.thread_tree.specs.declared.token.Token.TheVariants as token
use Rattle.thread_tree.specs.declared.token.Placed.{Placed}
use Rattle.thread_tokens.specs.declared.piece.Piece.{Piece}
use Rattle.thread_tokens.specs.declared.piece.Piece.TheVariants.{Blank, Name as name_piece, Token as token_piece, Wrong}
use Rattle.thread_tokens.specs.Form.{Form, Named, Counted, Quoted, Fixed, first_passes, begins_name, continues_name, is_printed, name_of, number_of, string_of, word_of, symbol_of, form_of, longest}
use Rattle.thread_tokens.specs.Piece.{blank_length, checked, lexeme, name, piece}
use Rattle.thread_tokens.specs.Scan.{Scan, after_byte, at_piece, beginning, index_of, is_same, scan_from, scan_of, with_name, with_token}
use Rattle.thread_tokens.specs.Spelled.{AreNames, AreTokens, IsName, IsNext, IsOrderly, MayStand, name_text, with_it}
use Rattle.thread_tokens.proofs.Lists.{by_test, list_all-prefix}

-- what a form says of its bytes
IsSound : Option Form → Type 0
IsSound None = Unit {0}
IsSound (Some (Named bytes)) = (first_passes begins_name bytes ≡ true) × (list_all continues_name bytes ≡ true) × (word_of bytes ≡ None)
IsSound (Some (Counted value)) = Unit {0}
IsSound (Some (Quoted bytes)) = list_all is_printed bytes ≡ true
IsSound (Some (Fixed t)) = MayStand [] t

both : (a b : Bool) → (a && b) ≡ true → (a ≡ true) × (b ≡ true)
both true true h = (refl, refl)
both true false h = absurd (false≢true h)
both false b h = absurd (false≢true h)

continues : (b : ℕ) → begins_name b ≡ true → continues_name b ≡ true
continues b h = rw h refl

string_sound : (bytes : List ℕ) → IsSound (string_of bytes)
unfolding IsSound
string_sound [] = tt
string_sound (first ∷ rest) = by_test (first == 34 && bytes_eq rest (take_while is_printed rest ++ 34 ∷ [])) _
    (λ yes. rw yes (list_all-prefix is_printed rest))
    (λ no. rw no tt)

number_sound : (bytes : List ℕ) → IsSound (option_or (number_of bytes) (string_of bytes))
unfolding IsSound
number_sound [] = tt
number_sound (first ∷ rest) = by_test (list_all is_ascii_digit (first ∷ rest)) _
    (λ yes. rw yes tt)
    (λ no. rw no (string_sound (first ∷ rest)))

plain_sound : (bytes : List ℕ) → word_of bytes ≡ None → IsSound (option_or (name_of bytes) (option_or (number_of bytes) (string_of bytes)))
unfolding IsSound
plain_sound [] no_word = tt
plain_sound (first ∷ rest) no_word = by_test (begins_name first && list_all continues_name rest) _
    (λ yes.
    let parts = both (begins_name first) (list_all continues_name rest) yes in
    rw yes (parts.0, rw (continues first parts.0) parts.1, no_word))
    (λ no. rw no (number_sound (first ∷ rest)))

-- a word, a mark or an operator may stand anywhere
MayBe : Option Token → Type 0
MayBe None = Unit {0}
MayBe (Some t) = MayStand [] t

symbol_sound : (bytes : List ℕ) → MayBe (symbol_of bytes)
unfolding MayBe symbol_of
symbol_sound bytes = elim (find (λ mark. bytes_eq (mark_text mark) bytes) marks) as (λ o. MayBe (option_or (option_map token.Mark o) (option_map token.Operator (find (λ operator. bytes_eq (operator_text operator) bytes) operators)))) [
  | Some mark ↦ tt
  | None ↦ elim (find (λ operator. bytes_eq (operator_text operator) bytes) operators) as (λ o. MayBe (option_or None (option_map token.Operator o))) [ Some operator ↦ tt | None ↦ tt ]
]

-- by the word and the symbol that bytes may be
by_fixed : (word : Option Word) (symbol : Option Token) (other : Option Form) → MayBe symbol → (word ≡ None → IsSound other) → IsSound (option_or (option_map Fixed (option_or (option_map token.Word word) symbol)) other)
unfolding IsSound MayBe
by_fixed (Some word) symbol other may sound = tt
by_fixed None (Some t) other may sound = may
by_fixed None None other may sound = sound refl

form_sound : (bytes : List ℕ) → IsSound (form_of bytes)
unfolding form_of
form_sound bytes = by_fixed (word_of bytes) (symbol_of bytes) (option_or (name_of bytes) (option_or (number_of bytes) (string_of bytes))) (symbol_sound bytes) (plain_sound bytes)

-- the same of a piece
IsSoundPiece : Piece → Type 0
IsSoundPiece (Blank n) = Unit {0}
IsSoundPiece (name_piece n nm) = IsName nm.bytes.items
IsSoundPiece (token_piece n t) = MayStand [] t
IsSoundPiece (Wrong fault) = Unit {0}

checked_sound : (n : ℕ) (form : Form) → IsSound (Some form) → IsSoundPiece (checked n form)
unfolding IsSound IsSoundPiece
checked_sound n (Named bytes) sound = by_test (nat_le (length bytes) 24) _
    (λ yes. let short : length bytes ≤ 24 = grind (arith, nat_tests) in rw yes (record { begins = sound.0; goes_on = sound.1; no_word = sound.2; short = short }))
    (λ no. rw no tt)
checked_sound n (Counted value) sound = by_test (nat_lt value (2 ^ 32)) _
    (λ yes. let fits : value < 2 ^ 32 = grind (arith, nat_tests) in rw yes fits)
    (λ no. rw no tt)
checked_sound n (Quoted bytes) sound = by_test (nat_le (length bytes) 64) _
    (λ yes. let short : length bytes ≤ 64 = grind (arith, nat_tests) in rw yes (sound, short))
    (λ no. rw no tt)
checked_sound n (Fixed t) sound = sound

lexeme_sound : (n : ℕ) (form : Option Form) → IsSound form → IsSoundPiece (lexeme n form)
unfolding IsSoundPiece
lexeme_sound n None sound = tt
lexeme_sound n (Some form) sound = checked_sound n form sound

piece_sound : (text : List ℕ) → IsSoundPiece (piece text)
unfolding piece IsSoundPiece
piece_sound text = by_test (nat_lt 0 (blank_length text)) _
    (λ blank. rw blank tt)
    (λ none. rw none (lexeme_sound (longest text) (form_of (take (longest text) text)) (form_sound (take (longest text) text))))

-- a name is among others exactly where its index is below their number
any_position : {X : Type 0} (p : X → Bool) (xs : List X) → list_any p xs ≡ nat_lt (position_or_len p xs) (length xs)
any_position p [] = refl
any_position p (x ∷ xs) = by_test (p x) _
    (λ yes. let e : nat_lt 0 (suc (length xs)) ≡ true = grind (arith, nat_tests) in rw yes (sym e))
    (λ no. let e : nat_lt (1 + position_or_len p xs) (suc (length xs)) ≡ nat_lt (position_or_len p xs) (length xs) = grind (arith, nat_tests) in rw no (rw (e) (any_position p xs)))

-- with a new name
old_text : (names : List Name) (nm : Name) (i : ℕ) → i < length names → name_text (names ++ nm ∷ []) i ≡ name_text names i
old_text names nm i within = ap (λ (n : Name). n.bytes.items) (get_or_append_left names (nm ∷ []) (name []) i within)

new_text : (names : List Name) (nm : Name) → name_text (names ++ nm ∷ []) (length names) ≡ nm.bytes.items
new_text names nm = ap (λ (n : Name). n.bytes.items) (get_or-append_seam names nm [] (name []))

unlike : (names : List Name) (nm : Name) (j : ℕ) → list_any (is_same nm) names ≡ false → j < length names → bytes_eq nm.bytes.items (name_text names j) ≡ false
unlike names nm j none within = by_test (bytes_eq nm.bytes.items (name_text names j)) _
    (λ yes. absurd (false≢true (sym none ∙ list_any_at (is_same nm) names j (name []) within yes)))
    (λ no. no)

are_names-new : (names : List Name) (nm : Name) → AreNames names → IsName nm.bytes.items → list_any (is_same nm) names ≡ false → AreNames (names ++ nm ∷ [])
are_names-new names nm are is none = record { each = each_of; distinct = distinct_of } where
  count : length (names ++ nm ∷ []) ≡ length names + 1
  count = length-append names (nm ∷ [])

  each_of : (i : ℕ) → i < length (names ++ nm ∷ []) → IsName (name_text (names ++ nm ∷ []) i)
  each_of i within = by_test (nat_lt i (length names)) _
      (λ yes. let old : i < length names = grind (arith, nat_tests) in subst IsName (sym (old_text names nm i old)) (are.each i old))
      (λ no. let last : i ≡ length names = (let c = count in grind (arith, nat_tests)) in rw (last) (subst IsName (sym (new_text names nm)) is))

  distinct_of : (i j : ℕ) → i < length (names ++ nm ∷ []) → j < i → bytes_eq (name_text (names ++ nm ∷ []) i) (name_text (names ++ nm ∷ []) j) ≡ false
  distinct_of i j within below = by_test (nat_lt i (length names)) _
      (λ yes.
      let old : i < length names = grind (arith, nat_tests) in
      ap (λ text. bytes_eq text (name_text (names ++ nm ∷ []) j)) (old_text names nm i old) ∙ (ap (bytes_eq (name_text names i)) (old_text names nm j (omega arith)) ∙ are.distinct i j old below))
      (λ no.
      let last : i ≡ length names = (let c = count in grind (arith, nat_tests)) in
      let before : j < length names = omega arith in
      rw (last) (ap (λ text. bytes_eq text (name_text (names ++ nm ∷ []) j)) (new_text names nm) ∙ (ap (bytes_eq nm.bytes.items) (old_text names nm j before) ∙ unlike names nm j none before)))

are_names-with : (names : List Name) (nm : Name) → AreNames names → IsName nm.bytes.items → AreNames (with_name nm names)
are_names-with names nm are is = by_test (list_any (is_same nm) names) _
    (λ seen. rw seen are)
    (λ new. rw new (are_names-new names nm are is new))

-- a scan from some names on
record GoesOn (names : List Name) (scan : Scan) : Type 0 where
  are : AreNames scan.names
  tokens : AreTokens scan.names (length names) (map (λ placed. placed.token) scan.tokens)
  more : List Name
  grows : scan.names ≡ names ++ more

may_stand : (names : List Name) (t : Token) → MayStand [] t → MayStand names t
may_stand names (token.Name i) may = absurd (omega arith)
may_stand names (token.Number n) may = may
may_stand names (token.Text text) may = may
may_stand names (token.Word word) may = tt
may_stand names (token.Mark mark) may = tt
may_stand names (token.Operator operator) may = tt

no_name : (count : ℕ) (t : Token) → MayStand [] t → IsNext count t × (count ≡ with_it count t)
no_name count (token.Name i) may = absurd (omega arith)
no_name count (token.Number n) may = (tt, refl)
no_name count (token.Text text) may = (tt, refl)
no_name count (token.Word word) may = (tt, refl)
no_name count (token.Mark mark) may = (tt, refl)
no_name count (token.Operator operator) may = (tt, refl)

goes_on_token : (names : List Name) (t : Token) (place : Place) (scan : Scan) → MayStand [] t → GoesOn names scan → GoesOn names (with_token t place scan)
goes_on_token names t place scan may goes =
    let other = no_name (length names) t may in
    let P : ℕ → Type 0 = λ count. AreTokens scan.names count (map (λ placed. placed.token) scan.tokens) in
    record {
      are = goes.are;
      tokens = (may_stand scan.names t may, other.0, subst P other.1 goes.tokens);
      more = goes.more;
      grows = goes.grows;
    }

goes_on_seen : (names : List Name) (i : ℕ) (place : Place) (scan : Scan) → i < length names → GoesOn names scan → GoesOn names (with_token (token.Name i) place scan)
goes_on_seen names i place scan within goes =
    let room = ap length goes.grows in
    let other : (i == length names) ≡ false = grind (arith, nat_tests) in
    let P : ℕ → Type 0 = λ count. AreTokens scan.names count (map (λ placed. placed.token) scan.tokens) in
    record {
      are = goes.are;
      tokens = (omega (arith, length-append names goes.more), omega arith, rw other goes.tokens);
      more = goes.more;
      grows = goes.grows;
    }

goes_on_new : (names : List Name) (nm : Name) (i : ℕ) (place : Place) (scan : Scan) → i ≡ length names → GoesOn (names ++ nm ∷ []) scan → GoesOn names (with_token (token.Name i) place scan)
goes_on_new names nm i place scan last goes =
    let room = ap length goes.grows in
    let count = length-append names (nm ∷ []) in
    let same : (i == length names) ≡ true = grind (arith, nat_tests) in
    let P : ℕ → Type 0 = λ count. AreTokens scan.names count (map (λ placed. placed.token) scan.tokens) in
    record {
      are = goes.are;
      tokens = (omega (arith, length-append (names ++ nm ∷ []) goes.more), omega arith, rw same (subst P count goes.tokens));
      more = nm ∷ goes.more;
      grows = goes.grows ∙ append_assoc names (nm ∷ []) goes.more;
    }

goes_on_name : (names : List Name) (nm : Name) (place : Place) (scan : Scan) → GoesOn (with_name nm names) scan → GoesOn names (with_token (token.Name (index_of nm names)) place scan)
goes_on_name names nm place scan goes = by_test (list_any (is_same nm) names) _
    (λ seen.
    let here : GoesOn names scan = rw seen at goes in
    let within : nat_lt (index_of nm names) (length names) ≡ true = sym (any_position (is_same nm) names) ∙ seen in
    let below : index_of nm names < length names = grind (arith, nat_tests) in
    goes_on_seen names (index_of nm names) place scan below here)
    (λ new.
    let here : GoesOn (names ++ nm ∷ []) scan = rw new at goes in
    let over : nat_lt (index_of nm names) (length names) ≡ false = sym (any_position (is_same nm) names) ∙ new in
    let upto : index_of nm names ≤ length names = prefix_len-le-length (λ other. not (is_same nm other)) names in
    let last : index_of nm names ≡ length names = grind (arith, nat_tests) in
    goes_on_new names nm (index_of nm names) place scan last here)

goes_on_at : (p : Piece) (names : List Name) (place : Place) (rest : ℕ → List Name → Scan) → AreNames names → IsSoundPiece p → ((n : ℕ) (ns : List Name) → AreNames ns → GoesOn ns (rest n ns)) → GoesOn names (at_piece p place names rest)
unfolding IsSoundPiece
goes_on_at (Blank n) names place rest are sound go = go n names are
goes_on_at (name_piece n nm) names place rest are sound go = goes_on_name names nm place (rest n (with_name nm names)) (go n (with_name nm names) (are_names-with names nm are sound))
goes_on_at (token_piece n t) names place rest are sound go = goes_on_token names t place (rest n names) sound (go n names are)
goes_on_at (Wrong fault) names place rest are sound go = record { are = are; tokens = refl; more = []; grows = sym (append-nil names) }

goes_on : (text : List ℕ) (skip : ℕ) (place : Place) (names : List Name) → AreNames names → GoesOn names (scan_from text skip place names)
unfolding scan_from
goes_on [] skip place names are = record { are = are; tokens = refl; more = []; grows = sym (append-nil names) }
goes_on (byte ∷ text) (suc skip) place names are = goes_on text skip (after_byte place byte) names are
goes_on (byte ∷ text) zero place names are =
    goes_on_at (piece (byte ∷ text)) names place (λ n ns. scan_from text (n - 1) (after_byte place byte) ns) are (piece_sound (byte ∷ text)) (λ n ns ok. goes_on text (n - 1) (after_byte place byte) ns ok)

-- the names and tokens of a scan
pub scan_orderly : (text : List ℕ) → IsOrderly (scan_of text).names (scan_of text).tokens
unfolding scan_of
scan_orderly text =
    let whole = goes_on text 0 beginning [] (record { each = λ i within. absurd (omega arith); distinct = λ i j within below. absurd (omega arith) }) in
    record { are_names = whole.are; are_tokens = whole.tokens }

pub orderly : (text : List ℕ) (tokens : List Placed) (names : List Name) → tokens ≡ (scan_of text).tokens → names ≡ (scan_of text).names → IsOrderly names tokens
orderly text tokens names same_tokens same_names = rw (same_tokens) (rw (same_names) (scan_orderly text))
