-- Tokens that the table takes whole spell a program.
use Rattle.std.proofs.Common.{◌≡◌, List, [], ◌∷◌, ◌++◌, Option, Some, None, refl, ap, append-nil}
use Rattle.std.proofs.lemmas.Option.{none-some, same_Some}
use Rattle.thread_tree.specs.declared.token.Placed.{Placed}
use Rattle.thread_tree.specs.declared.token.Token.{Token}
use Rattle.thread_tree.specs.Grammar.{turn, advance, declared, Spells, nothing, goes_on}
use Rattle.thread_tree.specs.Parts.{Part, TheMark, TheWord, AName, ANumber, MoreNames, Channel, Parameters, Numbers, MoreNumbers, ABlock, Statements, Otherwise, AfterName, Assigned, AfterAssigned, Returned, AtomicTo, To, AnItem, MoreItems, Arguments, MoreExpressions, AWho, ATBlock, TStatements, TOtherwise, AfterTName, TAssigned, MoreField, Values, Expression, Inner, After, Dots, MoreDots}
use Rattle.thread_tree.specs.SpellingOfDeclarations.{no_decls}
use Rattle.grammar_laws.specs.Open.{bare, owed, HasProgram, MayBecome}
use Rattle.grammar_laws.proofs.OpenSoFar.{open_so_far}
use Rattle.grammar_laws.proofs.Stuck.{bare_append, pays}
use Rattle.grammar_laws.proofs.Meaning.{Whole, Turned, Row}
use Rattle.grammar_laws.proofs.SoundExpressions.{operand_row, expression_row, after_row, dots_row, more_dots_row, more_expressions_row, arguments_row, values_row}
use Rattle.grammar_laws.proofs.SoundCalls.{more_names_row, to_row, item_row, more_items_row, who_row}
use Rattle.grammar_laws.proofs.SoundTransactions.{tblock_row, tstatements_row, totherwise_row, after_tname_row, tassigned_row, more_field_row}
use Rattle.grammar_laws.proofs.SoundBlocks.{block_row, statements_row, otherwise_row, after_name_row, assigned_row, after_assigned_row, returned_row, atomic_row}
use Rattle.grammar_laws.proofs.SoundDeclarations.{mark_row, a_word_row, name_row, number_row, channel_row, parameters_row, more_numbers_row, numbers_row, first_row}

-- whatever part is owed
row : (part : Part) (parts : List Part) (p : Placed) (rest : List Placed) → Row part parts p rest
row (TheMark m) parts p rest h = mark_row m parts p rest h
row (TheWord w) parts p rest h = a_word_row w parts p rest h
row AName parts p rest h = name_row parts p rest h
row ANumber parts p rest h = number_row parts p rest h
row (MoreNames next) parts p rest h = more_names_row next parts p rest (row next parts p rest) h
row Channel parts p rest h = channel_row parts p rest h
row Parameters parts p rest h = parameters_row parts p rest h
row Numbers parts p rest h = numbers_row parts p rest h
row MoreNumbers parts p rest h = more_numbers_row parts p rest h
row ABlock parts p rest h = block_row parts p rest h
row Statements parts p rest h = statements_row parts p rest h
row Otherwise parts p rest h = otherwise_row parts p rest h
row AfterName parts p rest h = after_name_row parts p rest h
row Assigned parts p rest h = assigned_row parts p rest h
row AfterAssigned parts p rest h = after_assigned_row parts p rest h
row Returned parts p rest h = returned_row parts p rest h
row AtomicTo parts p rest h = atomic_row parts p rest h
row To parts p rest h = to_row parts p rest h
row AnItem parts p rest h = item_row parts p rest h
row MoreItems parts p rest h = more_items_row parts p rest h
row Arguments parts p rest h = arguments_row parts p rest h
row (MoreExpressions fields next) parts p rest h = more_expressions_row fields next parts p rest (row next parts p rest) h
row (AWho next) parts p rest h = who_row next parts p rest h
row ATBlock parts p rest h = tblock_row parts p rest h
row TStatements parts p rest h = tstatements_row parts p rest h
row TOtherwise parts p rest h = totherwise_row parts p rest h
row AfterTName parts p rest h = after_tname_row parts p rest h
row TAssigned parts p rest h = tassigned_row parts p rest h
row MoreField parts p rest h = more_field_row parts p rest h
row Values parts p rest h = values_row parts p rest h
row (Expression fields next) parts p rest h = expression_row fields next parts p rest (unfold turn in h)
row (Inner fields next) parts p rest h = operand_row fields next parts p rest (unfold turn in h)
row (After fields next) parts p rest h = after_row fields next parts p rest (row next parts p rest) h
row (Dots next) parts p rest h = dots_row next parts p rest (row next parts p rest) h
row (MoreDots next) parts p rest h = more_dots_row next parts p rest (row next parts p rest) h

-- what a token leaves, where it may stand
left_whole : (found : Option (List Part)) (after : List Part) (rest : List Placed) → found ≡ Some after → Whole after rest → Turned found [] rest
left_whole found after rest e w = rw (e, append-nil) w

turned_whole : (found : Option (List Part)) (parts after : List Part) (rest : List Placed) → elim found [ Some first ↦ Some (first ++ parts) | None ↦ None ] ≡ Some after → Whole after rest → Turned found parts rest
turned_whole (Some first) parts after rest e w = rw (same_Some (first ++ parts) after e) w
turned_whole None parts after rest e w = absurd (none-some after e)

-- what the table takes where some parts are owed spells those, and then declarations
spelled : (parts : List Part) (tokens : List Placed) → Spells parts (bare tokens) → Whole parts tokens
unfolding advance
spelled [] [] s = ([], no_decls)
spelled (part ∷ parts) [] s = elim s [ ]
spelled [] (p ∷ ps) (goes_on {after = after} e s) = first_row p.token p.place ps (left_whole (declared p.token) after ps e (spelled after ps s))
spelled (part ∷ parts) (p ∷ ps) (goes_on {after = after} e s) = row part parts p ps (turned_whole (turn part p.token) parts after ps e (spelled after ps s))

-- whatever the table takes whole is a program, and so is what owes nothing
pub sound : (tokens : List Placed) → Spells [] (bare tokens) → HasProgram tokens
sound tokens s = spelled [] tokens s

pub owing_nothing : (tokens : List Placed) → owed [] (bare tokens) ≡ Some [] → HasProgram tokens
owing_nothing tokens h = sound tokens (rw (append-nil) at (pays [] [] (bare tokens) [] h nothing))

-- the tokens with a place, whatever it is
anywhere : List Token → List Placed
anywhere [] = []
anywhere (t ∷ ts) = record { token = t; place = record { line = 0; column = 0 } } ∷ anywhere ts

bare_anywhere : (ts : List Token) → bare (anywhere ts) ≡ ts
unfolding anywhere
bare_anywhere [] = refl
bare_anywhere (t ∷ ts) = ap (λ rest. t ∷ rest) (bare_anywhere ts)

-- what the table has taken can go on to a program
pub opened : (front : List Placed) (parts : List Part) → owed [] (bare front) ≡ Some parts → MayBecome front
opened front parts h =
    let more = open_so_far (bare front) parts h in
    (anywhere more.0, sound _ (rw (bare_append front (anywhere more.0), bare_anywhere more.0) more.1))
