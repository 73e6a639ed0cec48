-- The scan of spelled tokens gives them back.
use Rattle.std.proofs.Common.{◌≡◌, ℕ, zero, suc, ◌+◌, ◌<◌, ◌≤◌, true, false, ◌==◌, List, [], ◌∷◌, ◌++◌, length, map, take, get_or, bytes_eq, refl, sym, ap, subst, ◌∙◌, arith}
use Rattle.std.specs.List.{list_any}
use Rattle.std.proofs.Math.Seq.{take-append_seam, drop-append_seam}
use Rattle.std.proofs.lemmas.Bool.Decides.{nat_tests}
use Rattle.std.proofs.lemmas.List.{get_or-take, length-take-le, take_all, take_more}
use Rattle.std.proofs.lemmas.List.Folds.{list_any_at, list_any_more}
use Rattle.std.proofs.lemmas.List.Sums.{fold-append, position_or_len_is}
use Rattle.std.proofs.lemmas.Slice.Eq.{bytes_eq-Decides}
use Rattle.thread_tree.specs.declared.place.Place.{Place}
use Rattle.thread_tree.specs.declared.name.Name.{Name}
use Rattle.thread_tree.specs.declared.token.Token.{Token}
use Rattle.thread_tree.specs.declared.token.Token.TheVariants as token
use Rattle.thread_tokens.specs.declared.piece.Piece.{Piece}
use Rattle.thread_tokens.specs.declared.piece.Piece.TheVariants.{Name as name_piece, Token as token_piece}
use Rattle.thread_tokens.specs.Piece.{IsWithin, is_space, name, piece}
use Rattle.thread_tokens.specs.Scan.{Scan, after, after_byte, beginning, index_of, is_same, scan_from, scan_of, with_name, with_token}
use Rattle.thread_tokens.specs.Spelled.{AreNames, AreSeparated, AreTokens, Gives, IsNext, MayStand, Part, name_text, spelled, token_text, with_it}
use Rattle.thread_tokens.proofs.Lists.{by_test}
use Rattle.thread_tokens.proofs.PieceLemmas.{piece_within}
use Rattle.thread_tokens.proofs.ScanLemmas.{at_blank, at_name, at_token, behind}
use Rattle.thread_tokens.proofs.SpelledLemmas.{separates, stands}

-- the name at an index, and whether another has its bytes
abbrev nth : List Name → ℕ → Name
nth names i = get_or names i (name [])

other_name : (names : List Name) (i j k : ℕ) → AreNames names → i < length names → j < i → j < k → is_same (name (name_text names i)) (get_or (take k names) j (name [])) ≡ false
other_name names i j k are within below before =
    ap (λ (n : Name). bytes_eq (name_text names i) n.bytes.items) (get_or-take k names j (name []) before) ∙ are.distinct i j within below

same_name : (names : List Name) (i k : ℕ) → i < k → is_same (name (name_text names i)) (get_or (take k names) i (name [])) ≡ true
same_name names i k before =
    ap (λ (n : Name). bytes_eq (name_text names i) n.bytes.items) (get_or-take k names i (name []) before) ∙ (bytes_eq-Decides (name_text names i) (name_text names i)).1 refl

-- a name that stood before has its index
index_seen : (names : List Name) (i k : ℕ) → AreNames names → i < k → k ≤ length names → index_of (name (name_text names i)) (take k names) ≡ i
index_seen names i k are before within =
    let count = length-take-le k names within in
    position_or_len_is (is_same (name (name_text names i))) (take k names) i (name []) (omega arith)
    (λ j below. other_name names i j k are (omega arith) below (omega arith))
    (λ _. same_name names i k before)

-- and a new one the next
index_new : (names : List Name) (k : ℕ) → AreNames names → k < length names → index_of (name (name_text names k)) (take k names) ≡ k
index_new names k are within =
    let count = length-take-le k names (omega arith) in
    position_or_len_is (is_same (name (name_text names k))) (take k names) k (name []) (omega arith)
    (λ j below. other_name names k j k are within below below)
    (λ above. absurd (omega arith))

none_before : (names : List Name) (i k : ℕ) → AreNames names → i < length names → k ≤ i → list_any (is_same (name (name_text names i))) (take k names) ≡ false
none_before names i zero are within below = refl
none_before names i (suc k) are within below =
    let e : suc k ≡ k + 1 = omega arith in
    let p = is_same (name (name_text names i)) in
    rw (e) (list_any_more p names k (name []) (omega arith) ∙ (rw (none_before names i k are within (omega arith)) (are.distinct i k within (omega arith))))

-- the names with one that stood before, and with a new one
names_seen : (names : List Name) (i k : ℕ) → AreNames names → i < k → k ≤ length names → with_name (name (name_text names i)) (take k names) ≡ take k names
names_seen names i k are before within =
    let count = length-take-le k names within in
    rw (list_any_at (is_same (name (name_text names i))) (take k names) i (name []) (omega arith) (same_name names i k before)) refl

names_new : (names : List Name) (k : ℕ) → AreNames names → k < length names → with_name (name (name_text names k)) (take k names) ≡ take (k + 1) names
names_new names k are within =
    rw (none_before names k k are within (omega arith)) (sym (take_more names k (name []) within))

-- a scan behind a token and the byte after it
abbrev scan_behind : List Name → Token → ℕ → List ℕ → Place → List Name → Scan
scan_behind names t b rest place seen = scan_from rest 0 (after_byte (after place (token_text names t)) b) seen

goes_behind : (bytes : List ℕ) (b : ℕ) (rest : List ℕ) (place : Place) (seen : List Name) → is_space b ≡ true → behind (bytes ++ (b ∷ rest)) place (length bytes) seen ≡ scan_from rest 0 (after_byte (after place bytes) b) seen
goes_behind bytes b rest place seen space =
    ap (λ text. scan_from text 0 (after place (take (length bytes) (bytes ++ (b ∷ rest)))) seen) (drop-append_seam bytes (b ∷ rest))
    ∙ (ap (λ text. scan_from (b ∷ rest) 0 (after place text) seen) (take-append_seam bytes (b ∷ rest))
    ∙ at_blank (b ∷ rest) 1 (after place bytes) seen (omega arith) (omega arith) (separates b rest space))

some_text : (bytes : List ℕ) (b : ℕ) (rest : List ℕ) → 0 < length (bytes ++ (b ∷ rest))
some_text [] b rest = omega arith
some_text (first ∷ bytes) b rest = omega arith

-- one token that is no name
other_scanned : (names : List Name) (t : Token) (b : ℕ) (rest : List ℕ) (place : Place) (seen : List Name) → is_space b ≡ true → 0 < length (token_text names t) → token_piece (length (token_text names t)) t ≡ piece (token_text names t ++ (b ∷ rest)) → scan_from (token_text names t ++ (b ∷ rest)) 0 place seen ≡ with_token t place (scan_behind names t b rest place seen)
other_scanned names t b rest place seen space some is =
    at_token (token_text names t ++ (b ∷ rest)) (length (token_text names t)) t place seen (some_text (token_text names t) b rest) some is ∙ ap (with_token t place) (goes_behind (token_text names t) b rest place seen space)

-- a name, seen or new
index_known : (names : List Name) (i k : ℕ) → AreNames names → i < length names → i ≤ k → k ≤ length names → index_of (name (name_text names i)) (take k names) ≡ i
index_known names i k are within next few = by_test (i == k) _
    (λ last. let e : i ≡ k = grind (arith, nat_tests) in let P : ℕ → Type 0 = λ m. index_of (name (name_text names i)) (take m names) ≡ i in subst P e (index_new names i are within))
    (λ seen. let before : i < k = grind (arith, nat_tests) in index_seen names i k are before few)

names_known : (names : List Name) (i k : ℕ) → AreNames names → i < length names → i ≤ k → k ≤ length names → with_name (name (name_text names i)) (take k names) ≡ take (with_it k (token.Name i)) names
names_known names i k are within next few = by_test (i == k) _
    (λ last.
    let e : i ≡ k = grind (arith, nat_tests) in
    let P : ℕ → Type 0 = λ m. with_name (name (name_text names i)) (take m names) ≡ take (m + 1) names in
    rw last (subst P e (names_new names i are within)))
    (λ seen. let before : i < k = grind (arith, nat_tests) in rw seen (names_seen names i k are before few))

some_name : (n : ℕ) (nm : Name) (text : List ℕ) → name_piece n nm ≡ piece text → 0 < n
some_name n nm text is = let P : Piece → Type 0 = λ p. IsWithin (length text) p in (subst P (sym is) (piece_within text)).0

some_token : (n : ℕ) (t : Token) (text : List ℕ) → token_piece n t ≡ piece text → 0 < n
some_token n t text is = let P : Piece → Type 0 = λ p. IsWithin (length text) p in (subst P (sym is) (piece_within text)).0

name_scanned : (names : List Name) (i k b : ℕ) (rest : List ℕ) (place : Place) → AreNames names → i < length names → i ≤ k → k ≤ length names → is_space b ≡ true → name_piece (length (name_text names i)) (name (name_text names i)) ≡ piece (name_text names i ++ (b ∷ rest)) → scan_from (name_text names i ++ (b ∷ rest)) 0 place (take k names) ≡ with_token (token.Name i) place (scan_from rest 0 (after_byte (after place (name_text names i)) b) (take (with_it k (token.Name i)) names))
name_scanned names i k b rest place are within next few space is =
    let bytes = name_text names i in
    let text = bytes ++ (b ∷ rest) in
    let n = length bytes in
    at_name text n (name bytes) place (take k names) (some_text bytes b rest) (some_name n (name bytes) text is) is
    ∙ (ap (λ index. with_token (token.Name index) place (behind text place n (with_name (name bytes) (take k names)))) (index_known names i k are within next few)
    ∙ (ap (λ seen. with_token (token.Name i) place (behind text place n seen)) (names_known names i k are within next few)
    ∙ ap (with_token (token.Name i) place) (goes_behind bytes b rest place (take (with_it k (token.Name i)) names) space)))

-- any token
token_scanned : (names : List Name) (t : Token) (k b : ℕ) (rest : List ℕ) (place : Place) → AreNames names → MayStand names t → IsNext k t → k ≤ length names → is_space b ≡ true → scan_from (token_text names t ++ (b ∷ rest)) 0 place (take k names) ≡ with_token t place (scan_behind names t b rest place (take (with_it k t) names))
unfolding token_text
token_scanned names (token.Name i) k b rest place are may next few space = name_scanned names i k b rest place are may next few space (stands names (token.Name i) b rest are may space)
token_scanned names (token.Number n) k b rest place are may next few space =
    let is = stands names (token.Number n) b rest are may space in
    other_scanned names (token.Number n) b rest place (take k names) space (some_token _ (token.Number n) (token_text names (token.Number n) ++ (b ∷ rest)) is) is
token_scanned names (token.Text text) k b rest place are may next few space =
    let is = stands names (token.Text text) b rest are may space in
    other_scanned names (token.Text text) b rest place (take k names) space (some_token _ (token.Text text) (token_text names (token.Text text) ++ (b ∷ rest)) is) is
token_scanned names (token.Word word) k b rest place are may next few space =
    let is = stands names (token.Word word) b rest are may space in
    other_scanned names (token.Word word) b rest place (take k names) space (some_token _ (token.Word word) (token_text names (token.Word word) ++ (b ∷ rest)) is) is
token_scanned names (token.Mark mark) k b rest place are may next few space =
    let is = stands names (token.Mark mark) b rest are may space in
    other_scanned names (token.Mark mark) b rest place (take k names) space (some_token _ (token.Mark mark) (token_text names (token.Mark mark) ++ (b ∷ rest)) is) is
token_scanned names (token.Operator operator) k b rest place are may next few space =
    let is = stands names (token.Operator operator) b rest are may space in
    other_scanned names (token.Operator operator) b rest place (take k names) space (some_token _ (token.Operator operator) (token_text names (token.Operator operator) ++ (b ∷ rest)) is) is

with_it-within : (names : List Name) (t : Token) (k : ℕ) → MayStand names t → k ≤ length names → with_it k t ≤ length names
with_it-within names (token.Name i) k may few = by_test (i == k) _
    (λ last. let e : i ≡ k = grind (arith, nat_tests) in rw last (omega arith))
    (λ seen. rw seen few)
with_it-within names (token.Number n) k may few = few
with_it-within names (token.Text text) k may few = few
with_it-within names (token.Word word) k may few = few
with_it-within names (token.Mark mark) k may few = few
with_it-within names (token.Operator operator) k may few = few

with_first : (t : Token) (ts : List Token) (names : List Name) (place end : Place) (scan : Scan) → Gives ts names end scan → Gives (t ∷ ts) names end (with_token t place scan)
with_first t ts names place end scan gives = record {
  same_tokens = ap (λ tokens. t ∷ tokens) gives.same_tokens;
  same_names = gives.same_names;
  same_ending = gives.same_ending;
}

-- the scan of spelled tokens gives them back, with their names
pub rescans : (names : List Name) (parts : List Part) (k : ℕ) (place : Place) → AreNames names → AreTokens names k (map (λ part. part.token) parts) → AreSeparated parts → k ≤ length names → Gives (map (λ part. part.token) parts) names (after place (spelled names parts)) (scan_from (spelled names parts) 0 place (take k names))
unfolding scan_from
rescans names [] k place are tokens spaces few = record { same_tokens = refl; same_names = take_all k names (omega (arith, tokens)); same_ending = refl }
rescans names (part ∷ parts) k place are tokens spaces few =
    let t = part.token in
    let b = part.separator in
    let rest = spelled names parts in
    let behind_it = after_byte (after place (token_text names t)) b in
    let ts = map (λ (p : Part). p.token) parts in
    let first = token_scanned names t k b rest place are tokens.0 tokens.1 few spaces.0 in
    let others = rescans names parts (with_it k t) behind_it are tokens.2 spaces.1 (with_it-within names t k tokens.0 few) in
    let whole = with_first t ts names place (after behind_it rest) (scan_from rest 0 behind_it (take (with_it k t) names)) others in
    let end : after place (token_text names t ++ (b ∷ rest)) ≡ after behind_it rest = fold-append after_byte place (token_text names t) (b ∷ rest) in
    let Q : Scan → Type 0 = λ s. Gives (t ∷ ts) names (after behind_it rest) s in
    let R : Place → Type 0 = λ e. Gives (t ∷ ts) names e (scan_from (token_text names t ++ (b ∷ rest)) 0 place (take k names)) in
    subst R (sym end) (subst Q (sym first) whole)

-- the same from the beginning of a text
pub scans_back : (names : List Name) (parts : List Part) → AreNames names → AreTokens names 0 (map (λ part. part.token) parts) → AreSeparated parts → Gives (map (λ part. part.token) parts) names (after beginning (spelled names parts)) (scan_of (spelled names parts))
unfolding scan_of
scans_back names parts are tokens spaces = rescans names parts 0 beginning are tokens spaces (omega arith)
