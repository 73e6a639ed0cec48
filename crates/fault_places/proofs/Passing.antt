-- The places in a tree are passed along the tokens that spell it.
use Rattle.std.proofs.Common.{◌≡◌, ℕ, Bool, List, ◌∷◌, ◌++◌, append_assoc, append-nil, refl, ap, subst, ◌∙◌}
use Rattle.thread_tree.specs.declared.place.Place.{Place}
use Rattle.thread_tree.specs.declared.place.At.{At}
use Rattle.thread_tree.specs.declared.place.Num.{Num}
use Rattle.thread_tree.specs.declared.expr.Expr.{Expr}
use Rattle.thread_tree.specs.declared.expr.FieldOf.{FieldOf}
use Rattle.thread_tree.specs.declared.action.Call.{Call}
use Rattle.thread_tree.specs.declared.action.Item.{Item}
use Rattle.thread_tree.specs.declared.action.Who.{Who}
use Rattle.thread_tree.specs.declared.token.Placed.{Placed}
use Rattle.thread_tree.specs.declared.token.Token.{Token}
use Rattle.thread_tree.specs.Spelling.{Takes, TakesAny, SpellsNames, SpellsNumber, SpellsField, static, through, SpellsLevel, number, local, member, parenthesised, prefixed, binary, tighter, SpellsExpr, Separated, one, more}
use Rattle.thread_tree.specs.SpellingOfCalls.{BeginsAt, SpellsItem, text, value, SpellsWho, own, of, SpellsArguments, no_arguments, arguments, SpellsResults, no_results, results, SpellsPiece, name_piece, value_piece, whom_piece, items_piece, applied_piece, SpellsPieces, no_pieces, some_pieces, SpellsCall}
use Rattle.thread_tree.specs.Pieces.{Piece}
use Rattle.fault_places.specs.PlacesOf.{in_each, of_name, of_number, of_field, of_expression, of_item, of_who, of_piece, of_call}
use Rattle.fault_places.specs.Passed.{no_more_there, also_there, ArePassed, passed_none, passed_token}

-- a token with a place of the tree, and then a way
pub mark : {t : Token} {place : Place} {a b c : List Placed} {ps : List Place} → Takes t place a b → ArePassed b c ps → ArePassed a c (place ∷ ps)
mark takes way = rw (takes.first) (passed_token (also_there refl no_more_there) way refl)

-- a token with no place of the tree, and then a way
pub pass : {t : Token} {a b c : List Placed} {ps : List Place} → TakesAny t a b → ArePassed b c ps → ArePassed a c ps
pass takes way = rw (takes.first) (passed_token no_more_there way refl)

-- the same with a token that a relation places
pub pass_placed : {t : Token} {place : Place} {a b c : List Placed} {ps : List Place} → Takes t place a b → ArePassed b c ps → ArePassed a c ps
pass_placed takes way = rw (takes.first) (passed_token no_more_there way refl)

-- a way and then another
pub then_passed : {a b c : List Placed} {ps qs : List Place} → ArePassed a b ps → ArePassed b c qs → ArePassed a c (ps ++ qs)
then_passed passed_none way = way
then_passed {qs = qs} (passed_token {there} {further} here rest e) way =
    passed_token here (then_passed rest way) (ap (λ places. places ++ qs) e ∙ append_assoc there further qs)

-- a way, and then a token with no place of the tree
pub then_pass : {t : Token} {a b c : List Placed} {ps : List Place} → ArePassed a b ps → TakesAny t b c → ArePassed a c ps
then_pass {a = a} {c = c} {ps = ps} way takes = subst (λ places. ArePassed a c places) (append-nil ps) (then_passed way (pass takes passed_none))

-- things with commas between them
pub each_passed : {X : Type 0} {R : List Placed → List Placed → X → Type 0} {places : X → List Place} {a b : List Placed} {xs : List X} → ((a b : List Placed) (x : X) → R a b x → ArePassed a b (places x)) → Separated R a b xs → ArePassed a b (in_each places xs)
each_passed each (one d) = then_passed (each _ _ _ d) passed_none
each_passed each (more d c rest) = then_passed (each _ _ _ d) (pass c (each_passed each rest))

pub names_passed : {a b : List Placed} {ats : List At} → SpellsNames a b ats → ArePassed a b (in_each of_name ats)
names_passed l = each_passed {places = of_name} (λ a b x n. mark n passed_none) l

pub numbers_passed : {a b : List Placed} {ns : List Num} → Separated SpellsNumber a b ns → ArePassed a b (in_each of_number ns)
numbers_passed l = each_passed {places = of_number} (λ a b x n. mark n passed_none) l

-- a field, an expression
pub field_passed : {a b : List Placed} {f : FieldOf} → SpellsField a b f → ArePassed a b (of_field f)
field_passed (static o d m) = mark o (pass d (mark m passed_none))
field_passed (through o d k f m) = mark o (pass d (mark k (pass f (mark m passed_none))))

pub expression_passed : {fields : Bool} {level : ℕ} {a b : List Placed} {e : Expr} → SpellsLevel fields level a b e → ArePassed a b (of_expression e)
expression_passed (number n) = pass n passed_none
expression_passed (local n) = mark n passed_none
expression_passed (member may f) = field_passed f
expression_passed (parenthesised o d c) = pass o (then_pass (expression_passed d) c)
expression_passed (prefixed is o d) = pass o (expression_passed d)
expression_passed (binary is d o f) = then_passed (expression_passed d) (pass o (expression_passed f))
expression_passed (tighter d) = expression_passed d

-- an expression with the place of its first token
first_place : {a : List Placed} {t u : Placed} {r q : List Placed} → a ≡ t ∷ r → a ≡ u ∷ q → t.place ≡ u.place
first_place {t} {u} e f = let same : t ≡ u = cc in ap (λ x. x.place) same

with_first : {place : Place} {t : Placed} {a b c : List Placed} {ps : List Place} → BeginsAt place a → a ≡ t ∷ b → ArePassed b c ps → ArePassed a c (place ∷ ps)
with_first begins is way = let same = first_place begins.first.first is in rw is (passed_token (also_there same no_more_there) way refl)

with_own : {place own_place : Place} {t : Token} {a b c : List Placed} {ps : List Place} → BeginsAt place a → Takes t own_place a b → ArePassed b c ps → ArePassed a c (place ∷ own_place ∷ ps)
with_own begins takes way = let same = first_place begins.first.first takes.first in rw (takes.first) (passed_token (also_there same (also_there refl no_more_there)) way refl)

value_passed : {fields : Bool} {level : ℕ} {place : Place} {a b : List Placed} {e : Expr} → BeginsAt place a → SpellsLevel fields level a b e → ArePassed a b (place ∷ of_expression e)
value_passed begins (number n) = with_first begins n.first passed_none
value_passed begins (local n) = with_own begins n passed_none
value_passed begins (member may (static o d m)) = with_own begins o (pass d (mark m passed_none))
value_passed begins (member may (through o d k f m)) = with_own begins o (pass d (mark k (pass f (mark m passed_none))))
value_passed begins (parenthesised o d c) = with_first begins o.first (then_pass (expression_passed d) c)
value_passed begins (prefixed is o d) = with_first begins o.first (expression_passed d)
value_passed begins (binary is d o f) = then_passed (value_passed begins d) (pass o (expression_passed f))
value_passed begins (tighter d) = value_passed begins d

pub expressions_passed : {fields : Bool} {a b : List Placed} {es : List Expr} → Separated (SpellsExpr fields) a b es → ArePassed a b (in_each of_expression es)
expressions_passed l = each_passed {places = of_expression} (λ a b x d. expression_passed d) l

pub arguments_passed : {a b : List Placed} {es : List Expr} → SpellsArguments a b es → ArePassed a b (in_each of_expression es)
arguments_passed (no_arguments c) = pass c passed_none
arguments_passed (arguments l c) = then_pass (expressions_passed l) c

pub results_passed : {a b : List Placed} {ats : List At} → SpellsResults a b ats → ArePassed a b (in_each of_name ats)
results_passed (no_results m) = pass m passed_none
results_passed (results o l m) = pass o (then_pass (names_passed l) m)

item_passed : {a b : List Placed} {i : Item} → SpellsItem a b i → ArePassed a b (of_item i)
item_passed (text t) = mark t passed_none
item_passed (value begins d) = value_passed begins d

who_passed : {a b : List Placed} {w : Who} → SpellsWho a b w → ArePassed a b (of_who w)
who_passed (own w) = pass w passed_none
who_passed (of e) = expression_passed e

piece_passed : {a b : List Placed} {p : Piece} → SpellsPiece a b p → ArePassed a b (of_piece p)
piece_passed (name_piece n) = mark n passed_none
piece_passed (value_piece d) = expression_passed d
piece_passed (whom_piece w) = who_passed w
piece_passed (items_piece l) = each_passed {places = of_item} (λ a b x d. item_passed d) l
piece_passed (applied_piece n o l) = mark n (pass o (arguments_passed l))

pieces_passed : {a b : List Placed} {ps : List Piece} → SpellsPieces a b ps → ArePassed a b (in_each of_piece ps)
pieces_passed no_pieces = passed_none
pieces_passed (some_pieces l) = each_passed {places = of_piece} (λ a b p d. piece_passed d) l

-- a call, with the place of its word
pub call_passed : {place : Place} {a b : List Placed} {c : Call} → SpellsCall place a b c → ArePassed a b (place ∷ of_call c)
call_passed s = mark s.word (pieces_passed s.operands)
