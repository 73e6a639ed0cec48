-- The canonical tokens of lists, pieces and calls spell them again.
use Rattle.std.proofs.Common.{◌≡◌, ℕ, ◌+◌, Bool, false, List, [], ◌∷◌, ◌++◌, refl}
use Rattle.thread_tree.specs.declared.action.Call.{Call}
use Rattle.thread_tree.specs.declared.action.Item.{Item}
use Rattle.thread_tree.specs.declared.action.Who.{Who}
use Rattle.thread_tree.specs.declared.expr.Expr.{Expr}
use Rattle.thread_tree.specs.declared.expr.FieldOf.{FieldOf}
use Rattle.thread_tree.specs.declared.place.At.{At}
use Rattle.thread_tree.specs.declared.place.Num.{Num}
use Rattle.thread_tree.specs.declared.place.Place.{Place}
use Rattle.thread_tree.specs.declared.token.Mark.TheVariants as mark
use Rattle.thread_tree.specs.declared.token.Placed.{Placed}
use Rattle.thread_tree.specs.declared.token.Token.TheVariants as token
use Rattle.thread_tree.specs.Pieces.{Piece}
use Rattle.thread_tree.specs.Spelling as spelling
use Rattle.thread_tree.specs.Spelling.{Anywhere, SpellsExpr, SpellsExprBy, SpellsFieldBy, SpellsLevelBy, SpellsName, SpellsNameBy, SpellsNames, SpellsNamesBy, SpellsNumber, SpellsNumberBy, TakesAny, Separated, one, more}
use Rattle.thread_tree.specs.SpellingOfCalls as calls
use Rattle.thread_tree.specs.SpellingOfCalls.{BeginsBy, SpellsArguments, SpellsArgumentsBy, SpellsCall, SpellsCallBy, SpellsItem, SpellsItemBy, SpellsPiece, SpellsPieceBy, SpellsPieces, SpellsPiecesBy, SpellsResults, SpellsResultsBy, SpellsWho, SpellsWhoBy}
use Rattle.thread_print.specs.Canonical.{arguments, call_tokens, expression, expressions, item_tokens, name_of, names, numbered, numbers, piece_tokens, results, separated, to, who_tokens}
use Rattle.thread_print.proofs.Again.{Again, any, at, both, nothing, same_tokens, separated_again, turned}
use Rattle.thread_print.proofs.AgainExpressions.{expr_again}

-- names, numbers and expressions with commas between
pub names_again : {start end : List Placed} {ats : List At} → SpellsNames start end ats → Again (names ats) (λ b a. SpellsNamesBy Anywhere b a ats) start end
names_again {start} {end} {ats} spells = separated_again SpellsName (SpellsNameBy Anywhere) name_of (λ s e x takes. at takes) start end ats spells

pub numbers_again : {start end : List Placed} {ns : List Num} → Separated SpellsNumber start end ns → Again (numbers ns) (λ b a. Separated (SpellsNumberBy Anywhere) b a ns) start end
numbers_again {start} {end} {ns} spells = separated_again SpellsNumber (SpellsNumberBy Anywhere) numbered (λ s e x takes. at takes) start end ns spells

pub exprs_again : {fields : Bool} {start end : List Placed} {es : List Expr} → Separated (SpellsExpr fields) start end es → Again (expressions es) (λ b a. Separated (SpellsExprBy Anywhere fields) b a es) start end
exprs_again {fields} {start} {end} {es} spells = separated_again (SpellsExpr fields) (SpellsExprBy Anywhere fields) expression (λ s e x spelled. expr_again spelled) start end es spells

-- an expression begins at a token
begins_field : (place : Place) (start end : List Placed) (f : FieldOf) → SpellsFieldBy Anywhere start end f → BeginsBy Anywhere place start
begins_field place start end f (spelling.static object dot name) = record { token = _; after = _; first = object }
begins_field place start end f (spelling.through held dot kind dot2 name) = record { token = _; after = _; first = held }

begins : (fields : Bool) (level : ℕ) (place : Place) (start end : List Placed) (e : Expr) → SpellsLevelBy Anywhere fields level start end e → BeginsBy Anywhere place start
begins fields level place start end e (spelling.number {n = n} takes) = record { token = token.Number n; after = end; first = takes }
begins fields level place start end e (spelling.local {name = name} takes) = record { token = token.Name name.name; after = end; first = takes }
begins fields level place start end e (spelling.member {f = f} reads spells) = begins_field place start end f spells
begins fields level place start end e (spelling.parenthesised {a = m} opens inside closes) = record { token = token.Mark mark.OpenParenthesis; after = m; first = opens }
begins fields level place start end e (spelling.prefixed {a = m} {op = o} may takes inside) = record { token = token.Operator o; after = m; first = takes }
begins fields level place start end e (spelling.binary {a = m} {left = l} is left takes right) = begins fields level place start m l left
begins fields level place start end e (spelling.tighter inside) = begins fields (level + 1) place start end e inside

-- an item of a `print`
pub item_again : {start end : List Placed} {i : Item} → SpellsItem start end i → Again (item_tokens i) (λ b a. SpellsItemBy Anywhere b a i) start end
item_again (calls.text {place = place} {x = x} takes) = turned (at takes) (λ b a o. calls.text {place = place} {x = x} o)
item_again (calls.value {place = place} {e = e} begun spells) = turned (expr_again spells) (λ b a o. calls.value (begins false 1 place b a e o) o)

-- the thread that a call speaks of
pub who_again : {start end : List Placed} {w : Who} → SpellsWho start end w → Again (who_tokens w) (λ b a. SpellsWhoBy Anywhere b a w) start end
who_again (calls.own takes) = turned (any takes) (λ b a o. calls.own o)
who_again (calls.of spells) = turned (expr_again spells) (λ b a o. calls.of o)

-- arguments in parentheses
pub arguments_again : {start end : List Placed} {es : List Expr} → SpellsArguments start end es → Again (arguments es) (λ b a. SpellsArgumentsBy Anywhere b a es) start end
arguments_again (calls.no_arguments closes) = turned (any closes) (λ b a o. calls.no_arguments o)
arguments_again (calls.arguments spells closes) = turned (both (exprs_again spells) (any closes)) (λ b a o. calls.arguments o.first o.second)

-- names behind an arrow
pub arrow_is : {start end : List Placed} {ats : List At} → SpellsNames start end ats → (token.Mark mark.Arrow ∷ []) ++ names ats ≡ to ats
arrow_is (one takes) = refl
arrow_is (more takes comma others) = refl

-- the end of a call
pub results_again : {start end : List Placed} {ats : List At} → SpellsResults start end ats → Again (results ats) (λ b a. SpellsResultsBy Anywhere b a ats) start end
results_again (calls.no_results ends) = turned (any ends) (λ b a o. calls.no_results o)
results_again (calls.results arrow spells ends) =
    turned (both (same_tokens (arrow_is spells) (both (any arrow) (names_again spells))) (any ends)) (λ b a o. calls.results o.first.first o.first.second o.second)

-- a piece, pieces, a call
piece_again : {start end : List Placed} {p : Piece} → SpellsPiece start end p → Again (piece_tokens p) (λ b a. SpellsPieceBy Anywhere b a p) start end
piece_again (calls.name_piece {name = name} takes) = turned (at takes) (λ b a o. calls.name_piece {name = name} o)
piece_again (calls.value_piece spells) = turned (expr_again spells) (λ b a o. calls.value_piece o)
piece_again (calls.whom_piece spells) = turned (who_again spells) (λ b a o. calls.whom_piece o)
piece_again {start} {end} (calls.items_piece {items = items} spells) = turned (separated_again SpellsItem (SpellsItemBy Anywhere) item_tokens (λ s e x spelled. item_again spelled) start end items spells) (λ b a o. calls.items_piece o)
piece_again (calls.applied_piece {template = template} d0 d1 d2) = turned (both (at d0) (both (any d1) (arguments_again d2))) (λ b a o. calls.applied_piece {template = template} o.first o.second.first o.second.second)

pieces_again : {start end : List Placed} {ps : List Piece} → SpellsPieces start end ps → Again (separated piece_tokens ps) (λ b a. SpellsPiecesBy Anywhere b a ps) start end
pieces_again calls.no_pieces = nothing (λ b. calls.no_pieces)
pieces_again {start} {end} {ps} (calls.some_pieces spells) = turned (separated_again SpellsPiece (SpellsPieceBy Anywhere) piece_tokens (λ s e x spelled. piece_again spelled) start end ps spells) (λ b a o. calls.some_pieces o)

pub call_again : {place : Place} {start end : List Placed} {c : Call} → SpellsCall place start end c → Again (call_tokens c) (λ b a. SpellsCallBy Anywhere place b a c) start end
call_again spells = turned (both (at spells.word) (pieces_again spells.operands)) (λ b a o. record { behind = o.middle; word = o.first; operands = o.second })
