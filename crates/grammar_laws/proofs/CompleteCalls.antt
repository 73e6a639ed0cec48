-- The table takes what spells a kernel call, and the lists in it.
use Rattle.std.proofs.Common.{◌≡◌, Bool, true, false, List, [], ◌∷◌, ◌++◌, map, Some, refl, append_assoc}
use Rattle.thread_tree.specs.declared.action.Call.{Call}
use Rattle.thread_tree.specs.declared.action.Item.{Item}
use Rattle.thread_tree.specs.declared.action.Who.{Who}
use Rattle.thread_tree.proofs.Callers.{has_shape}
use Rattle.thread_tree.specs.Pieces.{Piece, named, valued, whom, itemized, applied, slot_of, word_of, pieces, fit}
use Rattle.thread_tree.specs.declared.slot.Slot.{Slot}
use Rattle.thread_tree.specs.declared.expr.Expr.{Expr}
use Rattle.thread_tree.specs.declared.place.At.{At}
use Rattle.thread_tree.specs.declared.place.Place.{Place}
use Rattle.thread_tree.specs.declared.token.Mark.TheVariants as mark
use Rattle.thread_tree.specs.declared.token.Placed.{Placed}
use Rattle.thread_tree.specs.declared.token.Token.{Token}
use Rattle.thread_tree.specs.declared.token.Token.TheVariants as token
use Rattle.thread_tree.specs.declared.token.Word.TheVariants as word
use Rattle.thread_tree.specs.Grammar.{turn, Spells, is_mark, is_word, is_name, is_number, is_text, is_prefix, mark_number, word_number, operand, call_end, row, statement, stated_by}
use Rattle.grammar_laws.specs.Open.{bare}
use Rattle.thread_tree.specs.Parts.{Part, TheMark, AName, MoreNames, Statements, To, AnItem, MoreItems, Arguments, MoreExpressions, AWho, Inner}
use Rattle.thread_tree.specs.Spelling.{TakesMark, SpellsNames, SpellsExpr, Separated, one, more}
use Rattle.thread_tree.specs.SpellingOfCalls.{SpellsItem, text, value, SpellsWho, own, of, SpellsArguments, no_arguments, arguments, SpellsResults, no_results, results, SpellsPiece, name_piece, value_piece, whom_piece, items_piece, applied_piece, SpellsPieces, no_pieces, some_pieces, SpellsCall}
use Rattle.grammar_laws.specs.Shortest.{closes, follows}
use Rattle.grammar_laws.proofs.Table.{Wider, beyond, lift, takes_mark, takes_name, placed, go}
use Rattle.grammar_laws.proofs.Ends.{no_comma}
use Rattle.grammar_laws.proofs.Tags.{is_the_mark, is_the_word, is_the_text}
use Rattle.grammar_laws.proofs.CompleteExpressions.{as_inner, takes_inner, takes_expression}

-- where a list of names may end, and one of expressions
names_step : (next : Part) → closes next ≡ true → Wider next (MoreNames next)
unfolding turn
names_step next c t first e = beyond (is_mark mark.Comma t) _ _ (λ h. rw (is_the_mark mark.Comma t h) (no_comma next c)) e

pub names_end : {next : Part} {parts : List Part} {ts : List Token} → closes next ≡ true → Spells (next ∷ parts) ts → Spells (MoreNames next ∷ parts) ts
names_end {next = next} c s = lift (names_step next c) s

expressions_step : (fields : Bool) (next : Part) → closes next ≡ true → Wider next (MoreExpressions fields next)
unfolding turn
expressions_step fields next c t first e = beyond (is_mark mark.Comma t) _ _ (λ h. rw (is_the_mark mark.Comma t h) (no_comma next c)) e

pub expressions_end : {fields : Bool} {next : Part} {parts : List Part} {ts : List Token} → closes next ≡ true → Spells (next ∷ parts) ts → Spells (MoreExpressions fields next ∷ parts) ts
expressions_end {fields = fields} {next = next} c s = lift (expressions_step fields next c) s

-- lists with commas between their things
pub takes_names : {before after : List Placed} {names : List At} → SpellsNames before after names → (next : Part) (parts : List Part) → closes next ≡ true → Spells (next ∷ parts) (bare after) → Spells (AName ∷ MoreNames next ∷ parts) (bare before)
unfolding turn is_mark mark_number
takes_names (one n) next parts c s = takes_name n (names_end c s)
takes_names (more n comma rest) next parts c s = takes_name n (go refl comma (takes_names rest next parts c s))

pub takes_expressions : {fields : Bool} {before after : List Placed} {es : List Expr} → Separated (SpellsExpr fields) before after es → (next : Part) (parts : List Part) → closes next ≡ true → Spells (next ∷ parts) (bare after) → Spells (Inner fields (MoreExpressions fields next) ∷ parts) (bare before)
unfolding turn is_mark mark_number
takes_expressions {fields = fields} (one e) next parts c s = takes_inner e (MoreExpressions fields next) parts c (expressions_end c s)
takes_expressions {fields = fields} (more e comma rest) next parts c s = takes_inner e (MoreExpressions fields next) parts c (go refl comma (lift (as_inner fields (MoreExpressions fields next)) (takes_expressions rest next parts c s)))

-- arguments
arguments_step : Wider (Inner false (MoreExpressions false (TheMark mark.CloseParenthesis))) Arguments
unfolding turn operand is_mark mark_number is_number is_name is_prefix
arguments_step t first e = beyond (is_mark mark.CloseParenthesis t) _ _ (λ h. rw (is_the_mark mark.CloseParenthesis t h) refl) e

pub takes_arguments : {before after : List Placed} {es : List Expr} → SpellsArguments before after es → (parts : List Part) → Spells parts (bare after) → Spells (Arguments ∷ parts) (bare before)
unfolding turn is_mark mark_number
takes_arguments (no_arguments c) parts s = go refl c s
takes_arguments (arguments e c) parts s = lift arguments_step (takes_expressions e (TheMark mark.CloseParenthesis) parts refl (takes_mark c s))

-- the end of a call
pub takes_results : {before after : List Placed} {names : List At} → SpellsResults before after names → (parts : List Part) → Spells parts (bare after) → Spells (To ∷ parts) (bare before)
unfolding turn call_end is_mark mark_number
takes_results (no_results m) parts s = go refl m s
takes_results (results arrow names m) parts s = go refl arrow (takes_names names (TheMark mark.Semicolon) parts refl (takes_mark m s))

-- items of a `print`
item_step : Wider (Inner false MoreItems) AnItem
unfolding turn operand is_mark is_number is_name is_prefix
item_step t first e = beyond (is_text t) _ _ (λ h. rw ((is_the_text t h).1) refl) e

items_step : Wider To MoreItems
unfolding turn call_end is_mark mark_number
items_step t first e = beyond (is_mark mark.Comma t) _ _ (λ h. rw (is_the_mark mark.Comma t h) refl) e

takes_item : {before after : List Placed} {x : Item} → SpellsItem before after x → (parts : List Part) → Spells (MoreItems ∷ parts) (bare after) → Spells (AnItem ∷ parts) (bare before)
unfolding turn is_text
takes_item (text t) parts s = go refl (placed t) s
takes_item (value b v) parts s = lift item_step (takes_inner v MoreItems parts refl s)

takes_items : {before after : List Placed} {items : List Item} → Separated SpellsItem before after items → (parts : List Part) → Spells (To ∷ parts) (bare after) → Spells (AnItem ∷ parts) (bare before)
unfolding turn is_mark mark_number
takes_items (one i) parts s = takes_item i parts (lift items_step s)
takes_items (more i c rest) parts s = takes_item i parts (go refl c (takes_items rest parts s))

-- the thread that a call speaks of
who_step : (next : Part) → Wider (Inner false next) (AWho next)
unfolding turn operand is_mark is_number is_name is_prefix
who_step next t first e = beyond (is_word word.Own t) _ _ (λ h. rw (is_the_word word.Own t h) refl) e

takes_who : {before after : List Placed} {w : Who} → SpellsWho before after w → (next : Part) (parts : List Part) → follows next ≡ true → Spells (next ∷ parts) (bare after) → Spells (AWho next ∷ parts) (bare before)
unfolding turn is_word word_number
takes_who (own t) next parts f s = go refl t s
takes_who (of v) next parts f s = lift (who_step next) (takes_inner v next parts f s)

-- a piece of a call with nothing behind it, and with a comma
takes_last : {before after : List Placed} {p : Piece} → SpellsPiece before after p → (parts : List Part) → Spells (To ∷ parts) (bare after) → Spells (row (slot_of p ∷ []) ++ parts) (bare before)
takes_last (name_piece n) parts s = takes_name n s
takes_last (value_piece e) parts s = takes_expression e To parts refl s
takes_last (whom_piece w) parts s = takes_who w To parts refl s
takes_last (items_piece items) parts s = takes_items items parts s
takes_last (applied_piece n o es) parts s = takes_name n (takes_mark o (takes_arguments es (To ∷ parts) s))

takes_next : {before a b : List Placed} {p : Piece} → SpellsPiece before a p → TakesMark mark.Comma a b → (slot : Slot) (slots : List Slot) → fit (slot_of p ∷ slot ∷ slots) ≡ true → (parts : List Part) → Spells (row (slot ∷ slots) ++ parts) (bare b) → Spells (row (slot_of p ∷ slot ∷ slots) ++ parts) (bare before)
takes_next (name_piece n) c slot slots h parts s = takes_name n (takes_mark c s)
takes_next (value_piece e) c slot slots h parts s = takes_expression e (TheMark mark.Comma) _ refl (takes_mark c s)
takes_next (whom_piece w) c slot slots h parts s = takes_who w (TheMark mark.Comma) _ refl (takes_mark c s)
takes_next (items_piece items) c slot slots h parts s = absurd (cc)
takes_next (applied_piece n o es) c slot slots h parts s = absurd (cc)

-- what stands behind a piece fits as well
fit_rest : (p : Piece) (slot : Slot) (slots : List Slot) → fit (slot_of p ∷ slot ∷ slots) ≡ true → fit (slot ∷ slots) ≡ true
fit_rest (named needed name) slot slots h = h
fit_rest (valued e) slot slots h = h
fit_rest (whom w) slot slots h = h
fit_rest (itemized items) slot slots h = absurd (cc)
fit_rest (applied template es) slot slots h = absurd (cc)

takes_separated : {before after : List Placed} {ps : List Piece} → Separated SpellsPiece before after ps → fit (map slot_of ps) ≡ true → (parts : List Part) → Spells (To ∷ parts) (bare after) → Spells (row (map slot_of ps) ++ parts) (bare before)
takes_separated (one x) h parts s = takes_last x parts s
takes_separated (more {xs = []} x c rest) h parts s = absurd (elim rest [ ])
takes_separated (more {x = p} {xs = q ∷ qs} x c rest) h parts s = takes_next x c (slot_of q) (map slot_of qs) h parts (takes_separated rest (fit_rest p (slot_of q) (map slot_of qs) h) parts s)

takes_pieces : {before after : List Placed} {ps : List Piece} → SpellsPieces before after ps → fit (map slot_of ps) ≡ true → (parts : List Part) → Spells (To ∷ parts) (bare after) → Spells (row (map slot_of ps) ++ parts) (bare before)
takes_pieces no_pieces h parts s = s
takes_pieces (some_pieces ps) h parts s = takes_separated ps h parts s

-- a call in a body
call_turns : (c : Call) → turn Statements (token.Word (word_of c)) ≡ Some (row (map slot_of (pieces c)) ++ Statements ∷ [])
unfolding turn statement stated_by
call_turns c = rw ((has_shape c).0, stated_by) refl

pub takes_call : {place : Place} {before after : List Placed} {c : Call} → SpellsCall place before after c → (parts : List Part) → Spells (To ∷ Statements ∷ parts) (bare after) → Spells (Statements ∷ parts) (bare before)
takes_call {c = c} spelled parts s = go (call_turns c) (placed spelled.word) (rw (append_assoc (row (map slot_of (pieces c))) (Statements ∷ []) parts) (takes_pieces spelled.operands (has_shape c).1 (Statements ∷ parts) s))
