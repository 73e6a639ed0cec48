-- A call is determined by its tokens and one token behind it.
use Rattle.std.proofs.Common.{◌≡◌, Bool, true, false, List, [], ◌∷◌, Some, sym, ap, ◌∙◌, refl}
use Rattle.std.specs.Prelude.{map}
use Rattle.thread_tree.specs.declared.action.Call.{Call}
use Rattle.thread_tree.specs.declared.action.Item.{Item}
use Rattle.thread_tree.specs.declared.action.Item.TheVariants as item
use Rattle.thread_tree.specs.declared.action.Who.{Who}
use Rattle.thread_tree.specs.declared.action.Who.TheVariants as who
use Rattle.thread_tree.specs.declared.expr.Expr.{Expr}
use Rattle.thread_tree.specs.declared.name.Text.{Text}
use Rattle.thread_tree.specs.declared.place.At.{At}
use Rattle.thread_tree.specs.declared.place.Place.{Place}
use Rattle.thread_tree.specs.declared.token.Placed.{Placed}
use Rattle.thread_tree.specs.declared.token.Token.TheVariants as token
use Rattle.thread_tree.specs.Spelling.{TakesAny, Separated, one, more, SpellsExpr}
use Rattle.thread_tree.specs.SpellingOfCalls.{BeginsAt, SpellsItem, text, value, SpellsWho, own, of, SpellsArguments, no_arguments, arguments, SpellsResults, no_results, results, SpellsPiece, name_piece, value_piece, whom_piece, items_piece, applied_piece, SpellsPieces, no_pieces, some_pieces, SpellsCall}
use Rattle.thread_tree.specs.Pieces.{Piece, named, valued, whom, itemized, applied, slot_of, word_of, pieces, shape, fit}
use Rattle.thread_tree.proofs.Callers.{has_shape, same_call}
use Rattle.thread_tree.specs.declared.slot.Slot.{Slot}
use Rattle.thread_tree.specs.declared.slot.Slot.TheVariants.{Name, Value, Whom, Items, Application}
use Rattle.accepted_program.proofs.Follows.{Followed, Closed, comma, semicolon, arrow, parenthesis, expr_before, expr_clash, starts}
use Rattle.accepted_program.proofs.Lists.{separated_one, names_one, exprs_one}
use Rattle.accepted_program.proofs.Takes.{any, takes_one, takes_any, clash, name_one}

text_same : {x y : Text} → token.Text x ≡ token.Text y → x ≡ y
text_same e = cc

-- an item of a `print`
begins_one : {x y : Place} {p q : List Placed} → p ≡ q → BeginsAt x p → BeginsAt y q → x ≡ y
begins_one e h k = (takes_one e h.first k.first).1

pub item_one : {p q a b : List Placed} {x y : Item} → p ≡ q → SpellsItem p a x → SpellsItem q b y → Followed a → Followed b → (a ≡ b) × (x ≡ y)
item_one e (text h) (text k) s r = let one = takes_one e h k in (one.2, λ i. item.Text (one.1 i) (text_same one.0 i))
item_one e (text h) (value b d) s r = absurd (expr_clash (sym e) d (any h) (unfold starts in refl))
item_one e (value b d) (text k) s r = absurd (expr_clash e d (any k) (unfold starts in refl))
item_one e (value b d) (value c f) s r = let one = expr_before e d f s r in (one.0, λ i. item.Value (begins_one e b c i) (one.1 i))

items_one : {p q a b : List Placed} {xs ys : List Item} → p ≡ q → Separated SpellsItem p a xs → Separated SpellsItem q b ys → Closed a → Closed b → (a ≡ b) × (xs ≡ ys)
items_one e d f s r = separated_one (λ p q a b x y e h k t u. item_one e h k t u) e d f s r

-- the thread that a call speaks of
who_one : {p q a b : List Placed} {x y : Who} → p ≡ q → SpellsWho p a x → SpellsWho q b y → Followed a → Followed b → (a ≡ b) × (x ≡ y)
who_one e (own h) (own k) s r = ((takes_any e h k).1, refl)
who_one e (own h) (of d) s r = absurd (expr_clash (sym e) d h (unfold starts in refl))
who_one e (of d) (own k) s r = absurd (expr_clash e d k (unfold starts in refl))
who_one e (of d) (of f) s r = let one = expr_before e d f s r in (one.0, λ i. who.Of (one.1 i))

-- what a list of expressions begins with
pub list_clash : {fields : Bool} {t : _} {p q a b : List Placed} {xs : List Expr} → p ≡ q → Separated (SpellsExpr fields) p a xs → TakesAny t q b → starts t ≡ false → ⊥
list_clash e (one d) h k = expr_clash e d h k
list_clash e (more d c rest) h k = expr_clash e d h k

-- arguments
pub arguments_one : {p q a b : List Placed} {xs ys : List Expr} → p ≡ q → SpellsArguments p a xs → SpellsArguments q b ys → (a ≡ b) × (xs ≡ ys)
arguments_one e (no_arguments h) (no_arguments k) = ((takes_any e h k).1, refl)
arguments_one e (no_arguments h) (arguments l k) = absurd (list_clash (sym e) l h (unfold starts in refl))
arguments_one e (arguments l h) (no_arguments k) = absurd (list_clash e l k (unfold starts in refl))
arguments_one e (arguments l h) (arguments m k) = let all = exprs_one e l m (parenthesis h) (parenthesis k) in ((takes_any all.0 h k).1, all.1)

-- the end of a call
pub results_one : {p q a b : List Placed} {xs ys : List At} → p ≡ q → SpellsResults p a xs → SpellsResults q b ys → (a ≡ b) × (xs ≡ ys)
results_one e (no_results h) (no_results k) = ((takes_any e h k).1, refl)
results_one e (no_results h) (results g l k) = absurd (clash e h g (λ x. cc))
results_one e (results g l h) (no_results k) = absurd (clash e g k (λ x. cc))
results_one e (results g l h) (results i m k) = let all = names_one (takes_any e g i).1 l m (semicolon h) (semicolon k) in ((takes_any all.0 h k).1, all.1)

pub results_close : {p a : List Placed} {xs : List At} → SpellsResults p a xs → Closed p
results_close (no_results h) = semicolon h
results_close (results g l h) = arrow g

-- A piece of a call by the place that it fills. One that goes on at a comma needs an end behind it that is none.
last_one : {p q a b : List Placed} {x y : Piece} → p ≡ q → SpellsPiece p a x → SpellsPiece q b y → slot_of x ≡ slot_of y → Closed a → Closed b → (a ≡ b) × (x ≡ y)
last_one e (name_piece {needed = n} h) (name_piece {needed = m} k) fills s r =
    let name = name_one e h k in
    let same : n ≡ m = cc in (name.0, λ i. named (same i) (name.1 i))
last_one e (value_piece d) (value_piece f) fills s r = let value = expr_before e d f s.followed r.followed in (value.0, λ i. valued (value.1 i))
last_one e (whom_piece d) (whom_piece f) fills s r = let who = who_one e d f s.followed r.followed in (who.0, λ i. whom (who.1 i))
last_one e (items_piece d) (items_piece f) fills s r = let all = items_one e d f s r in (all.0, λ i. itemized (all.1 i))
last_one e (applied_piece n o l) (applied_piece m u k) fills s r =
    let name = name_one e n m in
    let all = arguments_one (takes_any name.0 o u).1 l k in (all.0, λ i. applied (name.1 i) (all.1 i))
last_one e d f fills s r = absurd (cc)

-- whether a place may stand before others
abbrev goes_before : Slot → Bool
goes_before (Name n) = true
goes_before Value = true
goes_before Whom = true
goes_before Items = false
goes_before Application = false

inner_one : {p q a b : List Placed} {x y : Piece} → p ≡ q → SpellsPiece p a x → SpellsPiece q b y → slot_of x ≡ slot_of y → goes_before (slot_of x) ≡ true → Followed a → Followed b → (a ≡ b) × (x ≡ y)
inner_one e (name_piece {needed = n} h) (name_piece {needed = m} k) fills inner s r =
    let name = name_one e h k in
    let same : n ≡ m = cc in (name.0, λ i. named (same i) (name.1 i))
inner_one e (value_piece d) (value_piece f) fills inner s r = let value = expr_before e d f s r in (value.0, λ i. valued (value.1 i))
inner_one e (whom_piece d) (whom_piece f) fills inner s r = let who = who_one e d f s r in (who.0, λ i. whom (who.1 i))
inner_one e d f fills inner s r = absurd (cc)

fit_behind : (x y : Slot) (ys : List Slot) → fit (x ∷ y ∷ ys) ≡ true → (goes_before x ≡ true) × (fit (y ∷ ys) ≡ true)
fit_behind (Name n) y ys fits = (refl, fits)
fit_behind Value y ys fits = (refl, fits)
fit_behind Whom y ys fits = (refl, fits)
fit_behind Items y ys fits = absurd (cc)
fit_behind Application y ys fits = absurd (cc)

fit_more : {b q : List Placed} {xs : List Piece} (x : Slot) → Separated SpellsPiece b q xs → fit (x ∷ map slot_of xs) ≡ true → (goes_before x ≡ true) × (fit (map slot_of xs) ≡ true)
fit_more x (one g) fits = fit_behind x _ _ fits
fit_more x (more g o rest) fits = fit_behind x _ _ fits

pieces_one : {p q a b : List Placed} {xs ys : List Piece} → p ≡ q → Separated SpellsPiece p a xs → Separated SpellsPiece q b ys → map slot_of xs ≡ map slot_of ys → fit (map slot_of xs) ≡ true → Closed a → Closed b → (a ≡ b) × (xs ≡ ys)
pieces_one e (one d) (one f) fills fits s r =
    let piece = last_one e d f (cc) s r in (piece.0, λ i. piece.1 i ∷ [])
pieces_one e (one d) (more f c (one g)) fills fits s r = absurd (cc)
pieces_one e (one d) (more f c (more g o rest)) fills fits s r = absurd (cc)
pieces_one e (more d c (one g)) (one f) fills fits s r = absurd (cc)
pieces_one e (more d c (more g o rest)) (one f) fills fits s r = absurd (cc)
pieces_one e (more {x} d c rest) (more f o others) fills fits s r =
    let inside = fit_more (slot_of x) rest fits in
    let piece = inner_one e d f (cc) inside.0 (comma c) (comma o) in
    let further = pieces_one (takes_any piece.0 c o).1 rest others (cc) inside.1 s r in
    (further.0, λ i. piece.1 i ∷ further.1 i)

operands_one : {p q a b : List Placed} {xs ys : List Piece} → p ≡ q → SpellsPieces p a xs → SpellsPieces q b ys → map slot_of xs ≡ map slot_of ys → fit (map slot_of xs) ≡ true → Closed a → Closed b → (a ≡ b) × (xs ≡ ys)
operands_one e no_pieces no_pieces fills fits s r = (e, refl)
operands_one e no_pieces (some_pieces (one f)) fills fits s r = absurd (cc)
operands_one e no_pieces (some_pieces (more f o others)) fills fits s r = absurd (cc)
operands_one e (some_pieces (one d)) no_pieces fills fits s r = absurd (cc)
operands_one e (some_pieces (more d c rest)) no_pieces fills fits s r = absurd (cc)
operands_one e (some_pieces d) (some_pieces f) fills fits s r = pieces_one e d f fills fits s r

-- A call. Its word tells the places behind it.
pub call_one : {x y : Place} {p q a b : List Placed} {c d : Call} → p ≡ q → SpellsCall x p a c → SpellsCall y q b d → Closed a → Closed b → (x ≡ y) × (a ≡ b) × (c ≡ d)
call_one {c} {d} e h k s r =
    let head = takes_one e h.word k.word in
    let word : token.Word (word_of c) ≡ token.Word (word_of d) = head.0 in
    let words : word_of c ≡ word_of d = cc in
    let shapes : Some (map slot_of (pieces c)) ≡ Some (map slot_of (pieces d)) = sym (has_shape c).0 ∙ (ap shape words ∙ (has_shape d).0) in
    let operands = operands_one head.2 h.operands k.operands (cc) (has_shape c).1 s r in
    (head.1, operands.0, same_call c d words operands.1)
