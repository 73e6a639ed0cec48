-- A scan piece by piece.
use Rattle.std.proofs.Common.{◌≡◌, ℕ, zero, suc, ◌+◌, ◌-◌, ◌<◌, ◌≤◌, ◌^◌, ◌==◌, List, [], ◌∷◌, ◌++◌, length, take, drop, append_assoc, append-nil, length-append, length-drop, length-take-le, refl, sym, ap, ◌∙◌, arith}
use Rattle.std.specs.List.{list_any}
use Rattle.thread_tree.specs.declared.place.Place.{Place}
use Rattle.thread_tree.specs.declared.name.Name.{Name}
use Rattle.thread_tree.specs.declared.token.Token.{Token}
use Rattle.thread_tree.specs.declared.token.Token.TheVariants.{Name as name_token}
use Rattle.thread_tree.specs.declared.token.Placed.{Placed}
use Rattle.thread_tokens.specs.declared.ending.Ending.TheVariants.{End}
use Rattle.thread_tokens.specs.declared.piece.Fault.{Fault}
use Rattle.thread_tokens.specs.declared.piece.Piece.TheVariants.{Blank, Name as name_piece, Token as token_piece, Wrong}
use Rattle.thread_tokens.specs.Piece.{piece, IsWithin}
use Rattle.thread_tokens.specs.Scan.{Scan, after, after_byte, beginning, ended, ending_at, index_of, is_same, scan_from, scan_of, with_name, with_token}
use Rattle.thread_tokens.specs.Steps.{HasRoom, GoesOnBehind, going_on, prefixed}
use Rattle.thread_tokens.proofs.Lists.{by_test}

-- a scan from a byte on is the scan of what stands there
skips : (text : List ℕ) (n : ℕ) (place : Place) (names : List Name) → scan_from text n place names ≡ scan_from (drop n text) 0 (after place (take n text)) names
unfolding scan_from
skips [] zero place names = refl
skips [] (suc n) place names = refl
skips (byte ∷ text) zero place names = refl
skips (byte ∷ text) (suc n) place names = skips text n (after_byte place byte) names

-- a scan at a piece of some bytes
abbrev pub behind : List ℕ → Place → ℕ → List Name → Scan
behind text place n names = scan_from (drop n text) 0 (after place (take n text)) names

behind_is : (byte : ℕ) (text : List ℕ) (n : ℕ) (place : Place) (names : List Name) → 0 < n → scan_from text (n - 1) (after_byte place byte) names ≡ behind (byte ∷ text) place n names
behind_is byte text zero place names some = absurd (omega arith)
behind_is byte text (suc n) place names some =
    let e : suc n - 1 ≡ n = omega arith in rw (e) (skips text n (after_byte place byte) names)

pub at_blank : (text : List ℕ) (n : ℕ) (place : Place) (names : List Name) → 0 < length text → 0 < n → Blank n ≡ piece text → scan_from text 0 place names ≡ behind text place n names
unfolding scan_from
at_blank [] n place names more some is = absurd (omega arith)
at_blank (byte ∷ text) n place names more some is = rw (← is) (behind_is byte text n place names some)

pub at_token : (text : List ℕ) (n : ℕ) (token : Token) (place : Place) (names : List Name) → 0 < length text → 0 < n → token_piece n token ≡ piece text → scan_from text 0 place names ≡ with_token token place (behind text place n names)
unfolding scan_from
at_token [] n token place names more some is = absurd (omega arith)
at_token (byte ∷ text) n token place names more some is = rw (← is) (ap (with_token token place) (behind_is byte text n place names some))

pub at_name : (text : List ℕ) (n : ℕ) (name : Name) (place : Place) (names : List Name) → 0 < length text → 0 < n → name_piece n name ≡ piece text → scan_from text 0 place names ≡ with_token (name_token (index_of name names)) place (behind text place n (with_name name names))
unfolding scan_from
at_name [] n name place names more some is = absurd (omega arith)
at_name (byte ∷ text) n name place names more some is = rw (← is) (ap (with_token (name_token (index_of name names)) place) (behind_is byte text n place (with_name name names) some))

at_fault : (text : List ℕ) (fault : Fault) (place : Place) (names : List Name) → 0 < length text → Wrong fault ≡ piece text → scan_from text 0 place names ≡ ended [] names (ending_at fault place)
unfolding scan_from
at_fault [] fault place names more is = absurd (omega arith)
at_fault (byte ∷ text) fault place names more is = rw (← is) refl

-- how far a place goes
byte_line : (place : Place) (byte : ℕ) → (after_byte place byte).line ≤ place.line + 1
byte_line place byte = by_test (byte == 10) _ (λ newline. rw newline (omega arith)) (λ other. rw other (omega arith))

byte_column : (place : Place) (byte : ℕ) → (after_byte place byte).column ≤ place.column + 1
byte_column place byte = by_test (byte == 10) _ (λ newline. rw newline (omega arith)) (λ other. rw other (omega arith))

after_line : (place : Place) (bytes : List ℕ) → (after place bytes).line ≤ place.line + length bytes
after_line place [] = omega arith
after_line place (byte ∷ bytes) = omega (arith, after_line (after_byte place byte) bytes, byte_line place byte)

after_column : (place : Place) (bytes : List ℕ) → (after place bytes).column ≤ place.column + length bytes
after_column place [] = omega arith
after_column place (byte ∷ bytes) = omega (arith, after_column (after_byte place byte) bytes, byte_column place byte)

-- at most one name more
with_name-length : (name : Name) (names : List Name) → length (with_name name names) ≤ length names + 1
with_name-length name names = by_test (list_any (is_same name) names) _
    (λ seen. rw seen (omega arith))
    (λ new. rw new (omega (arith, length-append names (name ∷ []))))

room_behind : (old names : List Name) (place : Place) (rest : List ℕ) (n : ℕ) → HasRoom old place rest → 0 < n → n ≤ length rest → length names ≤ length old + 1 → HasRoom names (after place (take n rest)) (drop n rest)
room_behind old names place rest n room some within few =
    let dropped = length-drop n rest in
    let taken = length-take-le n rest within in
    let fits = room.names_fit in
    let lines = room.lines_fit in
    let columns = room.columns_fit in
    record {
      names_fit = omega arith;
      lines_fit = omega (arith, after_line place (take n rest));
      columns_fit = omega (arith, after_column place (take n rest));
    }

-- the steps of a scan
pub step_blank : (tokens : List Placed) (names : List Name) (place : Place) (rest : List ℕ) (n : ℕ) → 0 < length rest → IsWithin (length rest) (Blank n) → HasRoom names place rest → Blank n ≡ piece rest → GoesOnBehind (going_on tokens names place rest) tokens names (after place (take n rest)) rest n
step_blank tokens names place rest n more within room is = record {
  some = within.0;
  within = within.1;
  room = room_behind names names place rest n room within.0 within.1 (omega arith);
  same = ap (prefixed tokens) (at_blank rest n place names more within.0 is);
}

joined : (tokens : List Placed) (token : Token) (place : Place) (s : Scan) → prefixed tokens (with_token token place s) ≡ prefixed (tokens ++ record { token = token; place = place } ∷ []) s
joined tokens token place s = ap (λ ts. ended ts s.names s.ending) (sym (append_assoc tokens (record { token = token; place = place } ∷ []) s.tokens))

pub step_token : (tokens : List Placed) (names : List Name) (place : Place) (rest : List ℕ) (n : ℕ) (token : Token) → 0 < length rest → IsWithin (length rest) (token_piece n token) → HasRoom names place rest → token_piece n token ≡ piece rest → GoesOnBehind (going_on tokens names place rest) (tokens ++ record { token = token; place = place } ∷ []) names (after place (take n rest)) rest n
step_token tokens names place rest n token more within room is = record {
  some = within.0;
  within = within.1;
  room = room_behind names names place rest n room within.0 within.1 (omega arith);
  same = ap (prefixed tokens) (at_token rest n token place names more within.0 is) ∙ joined tokens token place (behind rest place n names);
}

pub step_name : (tokens : List Placed) (names : List Name) (place : Place) (rest : List ℕ) (n : ℕ) (name : Name) → 0 < length rest → IsWithin (length rest) (name_piece n name) → HasRoom names place rest → name_piece n name ≡ piece rest → GoesOnBehind (going_on tokens names place rest) (tokens ++ record { token = name_token (index_of name names); place = place } ∷ []) (with_name name names) (after place (take n rest)) rest n
step_name tokens names place rest n name more within room is = record {
  some = within.0;
  within = within.1;
  room = room_behind names (with_name name names) place rest n room within.0 within.1 (with_name-length name names);
  same = ap (prefixed tokens) (at_name rest n name place names more within.0 is) ∙ joined tokens (name_token (index_of name names)) place (behind rest place n (with_name name names));
}

pub step_fault : (tokens : List Placed) (names : List Name) (place : Place) (rest : List ℕ) (fault : Fault) → 0 < length rest → Wrong fault ≡ piece rest → going_on tokens names place rest ≡ ended tokens names (ending_at fault place)
step_fault tokens names place rest fault more is =
    ap (prefixed tokens) (at_fault rest fault place names more is) ∙ ap (λ ts. ended ts names (ending_at fault place)) (append-nil tokens)

pub step_end : (tokens : List Placed) (names : List Name) (place : Place) (rest : List ℕ) → length rest ≡ 0 → going_on tokens names place rest ≡ ended tokens names (End place)
unfolding scan_from
step_end tokens names place [] none = ap (λ ts. ended ts names (End place)) (append-nil tokens)
step_end tokens names place (byte ∷ rest) none = absurd (omega arith)

-- the same with what a step made of it
pub moved : (whole : Scan) (tokens tokens' : List Placed) (names names' : List Name) (place place' : Place) (rest : List ℕ) (n : ℕ) → GoesOnBehind whole tokens names place rest n → tokens' ≡ tokens → names' ≡ names → place' ≡ place → GoesOnBehind whole tokens' names' place' rest n
moved whole tokens tokens' names names' place place' rest n goes same_tokens same_names same_place =
    rw (same_tokens) (rw (same_names) (rw (same_place) goes))

-- a scan from the beginning
pub begins : (text : List ℕ) (tokens : List Placed) (names : List Name) (place : Place) → tokens ≡ [] → names ≡ [] → place ≡ beginning → scan_of text ≡ going_on tokens names place text
unfolding scan_of
begins text tokens names place no_tokens no_names is = rw (no_tokens) (rw (no_names) (rw (is) refl))

pub begins_with_room : (text : List ℕ) (names : List Name) (place : Place) → names ≡ [] → place ≡ beginning → length text < 2 ^ 32 - 1 → HasRoom names place text
begins_with_room text names place no_names is short = rw (no_names) (rw (is) (record { names_fit = omega arith; lines_fit = omega arith; columns_fit = omega arith }))
