-- Each part of the table takes a token so that the counts and the tally go on agreeing.
use Rattle.std.proofs.Common.{◌≡◌, ℕ, Bool, true, false, List, [], ◌∷◌, Some, refl}
use Rattle.thread_tree.specs.declared.token.Mark.{Mark}
use Rattle.thread_tree.specs.declared.token.Mark.TheVariants as mark
use Rattle.thread_tree.specs.declared.token.Token.{Token}
use Rattle.thread_tree.specs.declared.token.Token.TheVariants as token
use Rattle.thread_tree.specs.declared.token.Word.{Word}
use Rattle.thread_tree.specs.declared.token.Word.TheVariants as word
use Rattle.thread_tree.specs.Parts.{Part, TheMark, TheWord, AName, ANumber, MoreNames, Channel, Parameters, Numbers, MoreNumbers, ABlock, Statements, Otherwise, AfterName, Assigned, AfterAssigned, Returned, AtomicTo, To, AnItem, MoreItems, Arguments, MoreExpressions, AWho, ATBlock, TStatements, TOtherwise, AfterTName, TAssigned, MoreField, Values, Expression, Inner, After, Dots, MoreDots}
use Rattle.thread_text.specs.Bounds.{Counts, counted, afresh, one_operator, own_counts, open_counts, close_counts}
use Rattle.text_bounds.specs.Tally.{Tally, anew, marked, told}
use Rattle.thread_tree.specs.Grammar.{turn, call_end, is_mark, is_word, is_name, is_number, is_text, is_between}
use Rattle.grammar_laws.proofs.Callers.{is_the_mark, is_the_word}
use Rattle.text_bounds.proofs.Agreement.{Need, Nothing, Named, Live, Has, need, need_of, passing, nothing, keeping, naming, ends, ends_by, ends_anew, closes, follows, stands, fits, Level, Agrees, plain, Kept, none, on, level_named, level_anew, pick, pick_both, renewed_agrees, renews_opens}
use Rattle.text_bounds.proofs.Expressions.{closes_stands, follows_stands, ends_next, through, anew_ends, operator_kept, operand_row, level_afresh, own_row}
use Rattle.text_bounds.proofs.Statements.{nothing_has, untyped, open_kept, statement_row, tstatement_row}
use Rattle.thread_tree.specs.declared.name.Text.{Text}
use Rattle.thread_tree.specs.declared.expr.Op.{Op}

-- what a test of a token tells of it
pub is_the_name : (t : Token) → is_name t ≡ true → (n : ℕ) × (t ≡ token.Name n)
unfolding is_name
is_the_name (token.Name n) h = (n, refl)
is_the_name _ h = absurd (cc)

is_the_number : (t : Token) → is_number t ≡ true → (n : ℕ) × (t ≡ token.Number n)
unfolding is_number
is_the_number (token.Number n) h = (n, refl)
is_the_number _ h = absurd (cc)

is_the_text : (t : Token) → is_text t ≡ true → (x : Text) × (t ≡ token.Text x)
unfolding is_text
is_the_text (token.Text x) h = (x, refl)
is_the_text _ h = absurd (cc)

is_the_operator : (t : Token) → is_between t ≡ true → (op : Op) × (t ≡ token.Operator op)
unfolding is_between
is_the_operator (token.Operator op) h = (op, refl)
is_the_operator _ h = absurd (cc)

-- the stack behind a part that gives nothing, at whatever tally is level
goes_on_level : (ps : List Part) (c : Counts) (s : Tally) → nothing (need_of ps) ≡ true → fits ps ≡ true → Level false c s → Agrees ps c s
goes_on_level ps c s e f l = plain f (nothing_has (need_of ps) c s e) l

name_has : (n : Need) (c : Counts) (s : Tally) → naming n ≡ true → Has (passing n) c s → Has n c (record s { named = true })
name_has Nothing c s e h = tt
name_has Named c s e h = refl
name_has Live c s e h = (h.0, h.1)
name_has _ c s e h = absurd (cc)

close_has : (n : Need) (c : Counts) (s : Tally) → keeping n ≡ true → Has (passing n) c s → Has n c (record s { named = false })
close_has Nothing c s e h = tt
close_has Live c s e h = (h.0, h.1)
close_has _ c s e h = absurd (cc)

-- behind a list nothing is needed
closes_ends : (next : Part) (n : Need) → closes next ≡ true → nothing n ≡ true → ends next n ≡ true
closes_ends (TheMark mark.Semicolon) n h e = e
closes_ends (TheMark mark.CloseParenthesis) Nothing h e = refl
closes_ends (TheMark mark.CloseParenthesis) _ h e = absurd (cc)
closes_ends ATBlock n h e = e
closes_ends _ n h e = absurd (cc)

closes_has : (next : Part) (n : Need) (c : Counts) (s : Tally) → closes next ≡ true → nothing n ≡ true → Has (need next n) c s
closes_has (TheMark mark.Semicolon) n c s h e = tt
closes_has (TheMark mark.CloseParenthesis) Nothing c s h e = tt
closes_has (TheMark mark.CloseParenthesis) _ c s h e = absurd (cc)
closes_has ATBlock n c s h e = tt
closes_has _ n c s h e = absurd (cc)

-- nor behind one whom a call speaks of
who_has : (next : Part) (n : Need) (c : Counts) (s : Tally) → follows next ≡ true → ends_anew next n ≡ true → Has (need next n) c s
who_has (TheMark mark.CloseParenthesis) Nothing c s h e = tt
who_has (TheMark mark.CloseParenthesis) _ c s h e = absurd (cc)
who_has (TheMark mark.Semicolon) n c s h e = tt
who_has (TheMark mark.Comma) n c s h e = tt
who_has ABlock n c s h e = tt
who_has ATBlock n c s h e = tt
who_has To n c s h e = tt
who_has MoreItems n c s h e = tt
who_has (MoreExpressions fields next) n c s h e = tt
who_has _ n c s h e = absurd (cc)

-- a mark that is owed
mark_row : (m : Mark) (t : Token) (ps : List Part) (c : Counts) (s : Tally) → stands (TheMark m) ≡ true → ends (TheMark m) (need_of ps) ≡ true → fits ps ≡ true → Level false c s → Has (need (TheMark m) (need_of ps)) c s → is_mark m t ≡ true → Kept ps (told t s) (Some []) (Some c)
unfolding told marked
mark_row mark.OpenParenthesis t ps c s st e f l h x = rw (is_the_mark mark.OpenParenthesis t x, h) (on (renewed_agrees ps c s (renews_opens ps e f) l))
mark_row mark.CloseParenthesis t ps c s st e f l h x = rw (is_the_mark mark.CloseParenthesis t x) (on (plain f (close_has (need_of ps) c s e h) (level_named false l)))
mark_row mark.Comma t ps c s st e f l h x = rw (is_the_mark mark.Comma t x) (on (renewed_agrees ps c s (renews_opens ps e f) l))
mark_row mark.Equals t ps c s st e f l h x = rw (is_the_mark mark.Equals t x) (on (renewed_agrees ps c s (renews_opens ps e f) l))
mark_row mark.Dot t ps c s st e f l h x = rw (is_the_mark mark.Dot t x) (on (goes_on_level ps c _ e f (level_named false l)))
mark_row mark.OpenBrace t ps c s st e f l h x = absurd (cc)
mark_row mark.CloseBrace t ps c s st e f l h x = absurd (cc)
mark_row mark.Semicolon t ps c s st e f l h x = rw (is_the_mark mark.Semicolon t x) (on (goes_on_level ps c _ e f (level_anew l)))
mark_row mark.Colon t ps c s st e f l h x = rw (is_the_mark mark.Colon t x) (on (goes_on_level ps c _ e f (level_anew l)))
mark_row mark.Arrow t ps c s st e f l h x = rw (is_the_mark mark.Arrow t x) (on (goes_on_level ps c _ e f (level_anew l)))
mark_row mark.OpenBracket t ps c s st e f l h x = rw (is_the_mark mark.OpenBracket t x) (on (goes_on_level ps c _ e f (level_anew l)))
mark_row mark.CloseBracket t ps c s st e f l h x = rw (is_the_mark mark.CloseBracket t x) (on (goes_on_level ps c _ e f (level_anew l)))

told_word : (w : Word) (s : Tally) → stands (TheWord w) ≡ true → told (token.Word w) s ≡ anew s
unfolding told
told_word word.Type s h = absurd (cc)
told_word _ s h = refl

-- the end of a call
end_row : (t : Token) (ps : List Part) (c : Counts) (s : Tally) → nothing (need_of ps) ≡ true → fits ps ≡ true → Level false c s → Kept ps (told t s) (call_end t) (Some c)
unfolding call_end told marked
end_row t ps c s e f l = pick (is_mark mark.Arrow t) (λ x. rw (is_the_mark mark.Arrow t x) (on (renewed_agrees (AName ∷ MoreNames (TheMark mark.Semicolon) ∷ ps) c s (rw (e, f) refl) l))) (λ y. pick (is_mark mark.Semicolon t) (λ x. rw (is_the_mark mark.Semicolon t x) (on (goes_on_level ps c _ e f (level_anew l)))) (λ z. none))

operator_row : (fields : Bool) (next : Part) (t : Token) (ps : List Part) (c : Counts) (s : Tally) → follows next ≡ true → ends_by next (need_of ps) ≡ true → fits ps ≡ true → Level false c s → Has Live c s → is_between t ≡ true → Kept ps (told t s) (Some (Inner fields next ∷ [])) (one_operator c)
unfolding told
operator_row fields next t ps c s h e f l has x = rw ((is_the_operator t x).1) (operator_kept fields next ps c s h e f l has)

-- the part on top takes a token
pub row : (part : Part) (t : Token) (ps : List Part) (c : Counts) (s : Tally) → stands part ≡ true → ends part (need_of ps) ≡ true → fits ps ≡ true → Level false c s → Has (need part (need_of ps)) c s → Kept ps (told t s) (turn part t) (counted part t c)
unfolding turn counted told marked own_counts open_counts close_counts is_between afresh
row (TheMark m) t ps c s st e f l h = pick (is_mark m t) (mark_row m t ps c s st e f l h) (λ x. none)
row (TheWord w) t ps c s st e f l h = pick (is_word w t) (λ x. rw (is_the_word w t x, told_word w s st) (on (goes_on_level ps c _ e f (level_anew l)))) (λ x. none)
row AName t ps c s st e f l h = pick (is_name t) (λ x. rw ((is_the_name t x).1) (on (plain f (name_has (need_of ps) c s e h) (level_named true l)))) (λ x. none)
row ANumber t ps c s st e f l h = pick (is_number t) (λ x. rw ((is_the_number t x).1) (on (goes_on_level ps c _ e f (level_named false l)))) (λ x. none)
row (MoreNames next) t ps c s st e f l h = pick_both (is_mark mark.Comma t) (λ x. rw (is_the_mark mark.Comma t x) (on (renewed_agrees (AName ∷ MoreNames next ∷ ps) c s (rw (st, e, f) refl) l))) (λ x. row next t ps c s (closes_stands next st) (closes_ends next (need_of ps) st e) f l (closes_has next (need_of ps) c s st e))
row Channel t ps c s st e f l h = pick (is_word word.Input t) (λ x. rw (is_the_word word.Input t x) (on (renewed_agrees (ANumber ∷ TheMark mark.Semicolon ∷ ps) c s (rw (e, f) refl) l))) (λ y. pick (is_mark mark.Semicolon t) (λ x. rw (is_the_mark mark.Semicolon t x) (on (goes_on_level ps c _ e f (level_anew l)))) (λ y. none))
row Parameters t ps c s st e f l h = pick (is_mark mark.CloseParenthesis t) (λ x. rw (is_the_mark mark.CloseParenthesis t x) (on (goes_on_level ps c _ e f (level_named false l)))) (λ y. pick (is_name t) (λ x. rw ((is_the_name t x).1) (on (plain {ps = MoreNames (TheMark mark.CloseParenthesis) ∷ ps} (rw (e, f) refl) tt (level_named true l)))) (λ x. none))
row Numbers t ps c s st e f l h = pick (is_mark mark.CloseParenthesis t) (λ x. rw (is_the_mark mark.CloseParenthesis t x) (on (goes_on_level ps c _ e f (level_named false l)))) (λ y. pick (is_number t) (λ x. rw ((is_the_number t x).1) (on (plain {ps = MoreNumbers ∷ ps} (rw (e, f) refl) tt (level_named false l)))) (λ x. none))
row MoreNumbers t ps c s st e f l h = pick (is_mark mark.Comma t) (λ x. rw (is_the_mark mark.Comma t x) (on (renewed_agrees (ANumber ∷ MoreNumbers ∷ ps) c s (rw (e, f) refl) l))) (λ y. pick (is_mark mark.CloseParenthesis t) (λ x. rw (is_the_mark mark.CloseParenthesis t x) (on (goes_on_level ps c _ e f (level_named false l)))) (λ y. none))
row ABlock t ps c s st e f l h = pick (is_mark mark.OpenBrace t) (λ x. rw (is_the_mark mark.OpenBrace t x) (untyped s.typing _ l.type_declared (open_kept Statements ps c s (rw (e, f) refl) l))) (λ y. none)
row Statements t ps c s st e f l h = statement_row t ps c s (rw (e, f) refl) l
row Otherwise t ps c s st e f l h = pick (is_word word.Else t) (λ x. rw (is_the_word word.Else t x) (on (renewed_agrees (ABlock ∷ Statements ∷ ps) c s (rw (e, f) refl) l))) (λ y. statement_row t ps c s (rw (e, f) refl) l)
row AfterName t ps c s st e f l h = pick (is_mark mark.OpenParenthesis t) (λ x. rw (is_the_mark mark.OpenParenthesis t x, h) (on (renewed_agrees (Arguments ∷ TheMark mark.Semicolon ∷ ps) c s (rw (e, f) refl) l))) (λ y. pick (is_mark mark.Equals t) (λ x. rw (is_the_mark mark.Equals t x) (on (renewed_agrees (Assigned ∷ ps) c s (rw (e, f) refl) l))) (λ y. none))
row Assigned t ps c s st e f l h = pick (is_name t) (λ x. rw ((is_the_name t x).1) (on (plain {ps = AfterAssigned ∷ ps} (rw (e, f) refl) (h.0, h.1, refl) (level_named true (level_afresh l))))) (λ y. own_row false (TheMark mark.Semicolon) t ps c s refl e f l h)
row AfterAssigned t ps c s st e f l h = pick (is_mark mark.OpenParenthesis t) (λ x. rw (is_the_mark mark.OpenParenthesis t x, h.2) (on (renewed_agrees (Arguments ∷ TheMark mark.Semicolon ∷ ps) c s (rw (e, f) refl) l))) (λ y. pick_both (is_between t) (operator_row false (TheMark mark.Semicolon) t ps c s refl e f l (h.0, h.1)) (λ z. pick (is_mark mark.Semicolon t) (λ x. rw (is_the_mark mark.Semicolon t x) (on (goes_on_level ps c _ e f (level_anew l)))) (λ y. none)))
row Returned t ps c s st e f l h = pick (is_mark mark.Semicolon t) (λ x. rw (is_the_mark mark.Semicolon t x) (on (goes_on_level ps c _ e f (level_anew l)))) (λ y. own_row false (TheMark mark.Semicolon) t ps c s refl e f l h)
row AtomicTo t ps c s st e f l h = pick (is_mark mark.Arrow t) (λ x. rw (is_the_mark mark.Arrow t x) (on (renewed_agrees (AName ∷ MoreNames ATBlock ∷ ps) c s (rw (e, f) refl) l))) (λ y. pick (is_mark mark.OpenBrace t) (λ x. rw (is_the_mark mark.OpenBrace t x) (untyped s.typing _ l.type_declared (open_kept TStatements ps c s (rw (e, f) refl) l))) (λ y. none))
row To t ps c s st e f l h = end_row t ps c s e f l
row AnItem t ps c s st e f l h = pick (is_text t) (λ x. rw ((is_the_text t x).1) (on (renewed_agrees (MoreItems ∷ ps) c s (rw (e, f) refl) l))) (λ y. own_row false MoreItems t ps c s refl e f l h)
row MoreItems t ps c s st e f l h = pick (is_mark mark.Comma t) (λ x. rw (is_the_mark mark.Comma t x) (on (renewed_agrees (AnItem ∷ ps) c s (rw (e, f) refl) l))) (λ y. end_row t ps c s e f l)
row Arguments t ps c s st e f l h = pick (is_mark mark.CloseParenthesis t) (λ x. rw (is_the_mark mark.CloseParenthesis t x) (on (goes_on_level ps c _ e f (level_named false l)))) (λ y. own_row false (MoreExpressions false (TheMark mark.CloseParenthesis)) t ps c s refl e f l h)
row (MoreExpressions fields next) t ps c s st e f l h = pick_both (is_mark mark.Comma t) (λ x. rw (is_the_mark mark.Comma t x) (on (renewed_agrees (Expression fields (MoreExpressions fields next) ∷ ps) c s (rw (st, e, f) refl) l))) (λ x. row next t ps c s (closes_stands next st) (closes_ends next (need_of ps) st e) f l (closes_has next (need_of ps) c s st e))
row (AWho next) t ps c s st e f l h = pick (is_word word.Own t) (λ x. rw (is_the_word word.Own t x) (on (plain {ps = next ∷ ps} (rw (follows_stands next st, ends_next next (need_of ps) st (anew_ends next (need_of ps) e), f) refl) (who_has next (need_of ps) c _ st e) (level_anew l)))) (λ y. own_row false next t ps c s st (anew_ends next (need_of ps) e) f l h)
row ATBlock t ps c s st e f l h = pick (is_mark mark.OpenBrace t) (λ x. rw (is_the_mark mark.OpenBrace t x) (untyped s.typing _ l.type_declared (open_kept TStatements ps c s (rw (e, f) refl) l))) (λ y. none)
row TStatements t ps c s st e f l h = tstatement_row t ps c s (rw (e, f) refl) l
row TOtherwise t ps c s st e f l h = pick (is_word word.Else t) (λ x. rw (is_the_word word.Else t x) (on (renewed_agrees (ATBlock ∷ TStatements ∷ ps) c s (rw (e, f) refl) l))) (λ y. tstatement_row t ps c s (rw (e, f) refl) l)
row AfterTName t ps c s st e f l h = pick (is_mark mark.Equals t) (λ x. rw (is_the_mark mark.Equals t x) (on (renewed_agrees (TAssigned ∷ ps) c s (rw (e, f) refl) l))) (λ y. pick (is_mark mark.Dot t) (λ x. rw (is_the_mark mark.Dot t x) (on (plain {ps = AName ∷ MoreField ∷ ps} (rw (e, f) refl) tt (level_named false l)))) (λ y. none))
row TAssigned t ps c s st e f l h = pick (is_word word.New t) (λ x. rw (is_the_word word.New t x) (on (renewed_agrees (AName ∷ TheMark mark.Semicolon ∷ ps) c s (rw (e, f) refl) l))) (λ y. own_row true (TheMark mark.Semicolon) t ps c s refl e f l h)
row MoreField t ps c s st e f l h = pick (is_mark mark.Dot t) (λ x. rw (is_the_mark mark.Dot t x) (on (plain {ps = AName ∷ TheMark mark.Equals ∷ Expression true (TheMark mark.Semicolon) ∷ ps} (rw (e, f) refl) tt (level_named false l)))) (λ y. pick (is_mark mark.Equals t) (λ x. rw (is_the_mark mark.Equals t x) (on (renewed_agrees (Expression true (TheMark mark.Semicolon) ∷ ps) c s (rw (e, f) refl) l))) (λ y. none))
row Values t ps c s st e f l h = pick (is_mark mark.Semicolon t) (λ x. rw (is_the_mark mark.Semicolon t x) (on (goes_on_level ps c _ e f (level_anew l)))) (λ y. own_row true (MoreExpressions true (TheMark mark.Semicolon)) t ps c s refl e f l h)
row (Expression fields next) t ps c s st e f l h = own_row fields next t ps c s st (anew_ends next (need_of ps) e) f l h
row (Inner fields next) t ps c s st e f l h = operand_row fields next t ps c s st e f l h
row (After fields next) t ps c s st e f l h = pick_both (is_between t) (operator_row fields next t ps c s st e f l h) (λ x. row next t ps c s (follows_stands next st) (ends_next next (need_of ps) st e) f l (through next (need_of ps) c s st h))
row (Dots next) t ps c s st e f l h = pick_both (is_mark mark.Dot t) (λ x. rw (is_the_mark mark.Dot t x) (on (plain {ps = AName ∷ MoreDots next ∷ ps} (rw (st, e, f) refl) (h.0, h.1) (level_named false l)))) (λ y. pick_both (is_between t) (operator_row true next t ps c s st e f l h) (λ x. row next t ps c s (follows_stands next st) (ends_next next (need_of ps) st e) f l (through next (need_of ps) c s st h)))
row (MoreDots next) t ps c s st e f l h = pick_both (is_mark mark.Dot t) (λ x. rw (is_the_mark mark.Dot t x) (on (plain {ps = AName ∷ After true next ∷ ps} (rw (st, e, f) refl) (h.0, h.1) (level_named false l)))) (λ y. pick_both (is_between t) (operator_row true next t ps c s st e f l h) (λ x. row next t ps c s (follows_stands next st) (ends_next next (need_of ps) st e) f l (through next (need_of ps) c s st h)))
