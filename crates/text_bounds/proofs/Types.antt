-- The declaration of a type, whose braces are no block, and the beginning of a declaration.
use Rattle.std.proofs.Common.{◌≡◌, Bool, true, false, if◌then◌else◌, List, [], ◌∷◌, Option, Some, refl}
use Rattle.thread_tree.specs.declared.token.Mark.TheVariants as mark
use Rattle.thread_tree.specs.declared.token.Token.{Token}
use Rattle.thread_tree.specs.declared.token.Token.TheVariants as token
use Rattle.thread_tree.specs.declared.token.Word.{Word}
use Rattle.thread_tree.specs.declared.token.Word.TheVariants as word
use Rattle.thread_tree.specs.Parts.{Part, TheMark, AName, MoreNames}
use Rattle.thread_tree.specs.Grammar.{turn, declared, declared_by, is_mark, is_name}
use Rattle.grammar_laws.proofs.Callers.{is_the_mark}
use Rattle.thread_text.specs.Bounds.{Counts, counted}
use Rattle.text_bounds.specs.Tally.{Tally, anew, marked, told}
use Rattle.text_bounds.proofs.Agreement.{Level, plain, type_name, type_open, type_field, type_more, Kept, none, on, level_named, level_anew, pick, pick_both, renewed}
use Rattle.text_bounds.proofs.Rows.{is_the_name}

typed : {ps : List Part} {x : Tally} {found : Option (List Part)} {o : Option Counts} (b : Bool) (y : Tally) → b ≡ true → Kept ps x found o → Kept ps (if b then x else y) found o
typed true y h k = k
typed false y h k = absurd (cc)

level_typing : {b : Bool} {c : Counts} {s : Tally} (x : Bool) → Level b c s → Level x c (record (anew s) { typing = x })
level_typing x l = record { same_blocks = l.same_blocks; few_operators = refl; few_parentheses = refl; few_blocks = l.few_blocks; type_declared = refl }

-- the name of the type, the brace, a name, and what follows it
pub name_row : (t : Token) (c : Counts) (s : Tally) → Level true c s → Kept (TheMark mark.OpenBrace ∷ AName ∷ MoreNames (TheMark mark.CloseBrace) ∷ []) (told t s) (turn AName t) (counted AName t c)
unfolding turn counted told
name_row t c s l = pick (is_name t) (λ x. rw ((is_the_name t x).1) (on (type_open (level_named true l)))) (λ x. none)

pub open_row : (t : Token) (c : Counts) (s : Tally) → Level true c s → Kept (AName ∷ MoreNames (TheMark mark.CloseBrace) ∷ []) (told t s) (turn (TheMark mark.OpenBrace) t) (counted (TheMark mark.OpenBrace) t c)
unfolding turn counted told marked
open_row t c s l = pick (is_mark mark.OpenBrace t) (λ x. rw (is_the_mark mark.OpenBrace t x) (typed s.typing _ l.type_declared (on (type_field (level_anew l))))) (λ x. none)

pub field_row : (t : Token) (c : Counts) (s : Tally) → Level true c s → Kept (MoreNames (TheMark mark.CloseBrace) ∷ []) (told t s) (turn AName t) (counted AName t c)
unfolding turn counted told
field_row t c s l = pick (is_name t) (λ x. rw ((is_the_name t x).1) (on (type_more (level_named true l)))) (λ x. none)

pub more_row : (t : Token) (c : Counts) (s : Tally) → Level true c s → Kept [] (told t s) (turn (MoreNames (TheMark mark.CloseBrace)) t) (counted (MoreNames (TheMark mark.CloseBrace)) t c)
unfolding turn counted told marked
more_row t c s l = pick_both (is_mark mark.Comma t) (λ x. rw (is_the_mark mark.Comma t x) (on (type_field (level_anew l)))) (λ y. pick (is_mark mark.CloseBrace t) (λ x. rw (is_the_mark mark.CloseBrace t x) (typed s.typing _ l.type_declared (on (plain refl tt (level_typing false l))))) (λ x. none))

declared_row : (w : Word) (c : Counts) (s : Tally) → Level false c s → Kept [] (told (token.Word w) s) (declared_by w) (Some c)
unfolding told declared_by
declared_row word.Type c s l = on (type_name (level_typing true l))
declared_row _ c s l = renewed true _ [] c s refl l

pub first_row : (t : Token) (c : Counts) (s : Tally) → Level false c s → Kept [] (told t s) (declared t) (Some c)
unfolding declared
first_row (token.Word w) c s l = declared_row w c s l
first_row _ c s l = none
