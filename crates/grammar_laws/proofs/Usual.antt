-- The table owes only usual parts.
use Rattle.std.proofs.Common.{◌≡◌, Bool, true, false, List, [], ◌∷◌, ◌++◌, Option, Some, None, refl, if◌then◌else◌}
use Rattle.std.proofs.lemmas.Option.{same_Some}
use Rattle.thread_tree.specs.declared.token.Mark.TheVariants as mark
use Rattle.thread_tree.specs.declared.token.Token.{Token}
use Rattle.thread_tree.specs.declared.token.Token.TheVariants as token
use Rattle.thread_tree.specs.declared.token.Word.{Word}
use Rattle.thread_tree.specs.declared.token.Word.TheVariants as word
use Rattle.thread_tree.specs.Grammar.{turn, advance, declared, declared_by, stated_by, plain_by, transacted_by, statement, tstatement, is_mark, is_word, is_name, is_number, is_text, is_prefix, is_between, operand, behind_name, call_end}
use Rattle.thread_tree.specs.Pieces.{shape}
use Rattle.grammar_laws.specs.Open.{owed}
use Rattle.thread_tree.specs.Parts.{Part, TheMark, TheWord, AName, ANumber, MoreNames, Channel, Parameters, Numbers, MoreNumbers, ABlock, Statements, Otherwise, AfterName, Assigned, AfterAssigned, Returned, AtomicTo, To, AnItem, MoreItems, Arguments, MoreExpressions, AWho, ATBlock, TStatements, TOtherwise, AfterTName, TAssigned, MoreField, Values, Expression, Inner, After, Dots, MoreDots}
use Rattle.grammar_laws.specs.Shortest.{follows, usual, all_usual}
use Rattle.grammar_laws.proofs.Stuck.{left}
use Rattle.grammar_laws.proofs.Paid.{both, closes_usual, follows_usual}

-- whether a turn of the table, if it is one, owes only usual parts
abbrev taken_usual : Option (List Part) → Bool
taken_usual None = true
taken_usual (Some parts) = all_usual parts

pick : (b : Bool) (x y : Option (List Part)) → taken_usual x ≡ true → taken_usual y ≡ true → taken_usual (if b then x else y) ≡ true
pick true x y p q = p
pick false x y p q = q

declared_usual : (w : Word) → taken_usual (declared_by w) ≡ true
unfolding declared_by
declared_usual word.Type = refl
declared_usual _ = refl

stated_usual : (w : Word) → taken_usual (stated_by w) ≡ true
unfolding stated_by plain_by shape
stated_usual word.Let = refl
stated_usual _ = refl

transacted_usual : (w : Word) → taken_usual (transacted_by w) ≡ true
unfolding transacted_by
transacted_usual word.Let = refl
transacted_usual _ = refl

statement_usual : (t : Token) → taken_usual (statement t) ≡ true
unfolding statement
statement_usual (token.Word w) = stated_usual w
statement_usual (token.Name _) = refl
statement_usual (token.Mark mark.CloseBrace) = refl
statement_usual _ = refl

tstatement_usual : (t : Token) → taken_usual (tstatement t) ≡ true
unfolding tstatement
tstatement_usual (token.Word w) = transacted_usual w
tstatement_usual (token.Name _) = refl
tstatement_usual (token.Mark mark.CloseBrace) = refl
tstatement_usual _ = refl

end_usual : (t : Token) → taken_usual (call_end t) ≡ true
unfolding call_end
end_usual t = pick (is_mark mark.Arrow t) _ _ refl (pick (is_mark mark.Semicolon t) _ _ refl refl)

one_usual : (part : Part) → usual part ≡ true → taken_usual (Some (part ∷ [])) ≡ true
one_usual part h = rw (h) refl

two_usual : (first second : Part) → usual first ≡ true → usual second ≡ true → taken_usual (Some (first ∷ second ∷ [])) ≡ true
two_usual first second h k = rw (h, k) refl

behind_usual : (fields : Bool) (next : Part) → follows next ≡ true → usual (behind_name fields next) ≡ true
unfolding behind_name
behind_usual true next h = h
behind_usual false next h = h

operand_usual : (fields : Bool) (next : Part) (t : Token) → follows next ≡ true → taken_usual (operand fields next t) ≡ true
unfolding operand
operand_usual fields next t h = pick (is_number t) _ _ (one_usual (After fields next) h) (pick (is_name t) _ _ (one_usual (behind_name fields next) (behind_usual fields next h)) (pick (is_mark mark.OpenParenthesis t) _ _ (two_usual (Inner fields (TheMark mark.CloseParenthesis)) (After fields next) refl h) (pick (is_prefix t) _ _ (one_usual (Inner fields next) h) refl)))

turn_usual : (part : Part) (t : Token) → usual part ≡ true → taken_usual (turn part t) ≡ true
unfolding turn
turn_usual (TheMark m) t h = pick (is_mark m t) _ _ refl refl
turn_usual (TheWord w) t h = pick (is_word w t) _ _ refl refl
turn_usual AName t h = pick (is_name t) _ _ refl refl
turn_usual ANumber t h = pick (is_number t) _ _ refl refl
turn_usual (MoreNames next) t h = pick (is_mark mark.Comma t) _ _ (two_usual AName (MoreNames next) refl h) (turn_usual next t (closes_usual next h))
turn_usual Channel t h = pick (is_word word.Input t) _ _ refl (pick (is_mark mark.Semicolon t) _ _ refl refl)
turn_usual Parameters t h = pick (is_mark mark.CloseParenthesis t) _ _ refl (pick (is_name t) _ _ refl refl)
turn_usual Numbers t h = pick (is_mark mark.CloseParenthesis t) _ _ refl (pick (is_number t) _ _ refl refl)
turn_usual MoreNumbers t h = pick (is_mark mark.Comma t) _ _ refl (pick (is_mark mark.CloseParenthesis t) _ _ refl refl)
turn_usual ABlock t h = pick (is_mark mark.OpenBrace t) _ _ refl refl
turn_usual Statements t h = statement_usual t
turn_usual Otherwise t h = pick (is_word word.Else t) _ _ refl (statement_usual t)
turn_usual AfterName t h = pick (is_mark mark.OpenParenthesis t) _ _ refl (pick (is_mark mark.Equals t) _ _ refl refl)
turn_usual Assigned t h = pick (is_name t) _ _ refl (operand_usual false (TheMark mark.Semicolon) t refl)
turn_usual AfterAssigned t h = pick (is_mark mark.OpenParenthesis t) _ _ refl (pick (is_between t) _ _ refl (pick (is_mark mark.Semicolon t) _ _ refl refl))
turn_usual Returned t h = pick (is_mark mark.Semicolon t) _ _ refl (operand_usual false (TheMark mark.Semicolon) t refl)
turn_usual AtomicTo t h = pick (is_mark mark.Arrow t) _ _ refl (pick (is_mark mark.OpenBrace t) _ _ refl refl)
turn_usual To t h = end_usual t
turn_usual AnItem t h = pick (is_text t) _ _ refl (operand_usual false MoreItems t refl)
turn_usual MoreItems t h = pick (is_mark mark.Comma t) _ _ refl (end_usual t)
turn_usual Arguments t h = pick (is_mark mark.CloseParenthesis t) _ _ refl (operand_usual false (MoreExpressions false (TheMark mark.CloseParenthesis)) t refl)
turn_usual (MoreExpressions fields next) t h = pick (is_mark mark.Comma t) _ _ (one_usual (Expression fields (MoreExpressions fields next)) h) (turn_usual next t (closes_usual next h))
turn_usual (AWho next) t h = pick (is_word word.Own t) _ _ (one_usual next (follows_usual next h)) (operand_usual false next t h)
turn_usual ATBlock t h = pick (is_mark mark.OpenBrace t) _ _ refl refl
turn_usual TStatements t h = tstatement_usual t
turn_usual TOtherwise t h = pick (is_word word.Else t) _ _ refl (tstatement_usual t)
turn_usual AfterTName t h = pick (is_mark mark.Equals t) _ _ refl (pick (is_mark mark.Dot t) _ _ refl refl)
turn_usual TAssigned t h = pick (is_word word.New t) _ _ refl (operand_usual true (TheMark mark.Semicolon) t refl)
turn_usual MoreField t h = pick (is_mark mark.Dot t) _ _ refl (pick (is_mark mark.Equals t) _ _ refl refl)
turn_usual Values t h = pick (is_mark mark.Semicolon t) _ _ refl (operand_usual true (MoreExpressions true (TheMark mark.Semicolon)) t refl)
turn_usual (Expression fields next) t h = operand_usual fields next t h
turn_usual (Inner fields next) t h = operand_usual fields next t h
turn_usual (After fields next) t h = pick (is_between t) _ _ (one_usual (Inner fields next) h) (turn_usual next t (follows_usual next h))
turn_usual (Dots next) t h = pick (is_mark mark.Dot t) _ _ (two_usual AName (MoreDots next) refl h) (pick (is_between t) _ _ (one_usual (Inner true next) h) (turn_usual next t (follows_usual next h)))
turn_usual (MoreDots next) t h = pick (is_mark mark.Dot t) _ _ (two_usual AName (After true next) refl h) (pick (is_between t) _ _ (one_usual (Inner true next) h) (turn_usual next t (follows_usual next h)))

append_usual : (a b : List Part) → all_usual a ≡ true → all_usual b ≡ true → all_usual (a ++ b) ≡ true
append_usual [] b h k = k
append_usual (p ∷ ps) b h k = let e = both (usual p) (all_usual ps) h in rw (e.0, append_usual ps b e.1 k) refl

then_usual : (found : Option (List Part)) (parts : List Part) → taken_usual found ≡ true → all_usual parts ≡ true → taken_usual (elim found [ Some first ↦ Some (first ++ parts) | None ↦ None ]) ≡ true
then_usual None parts h k = refl
then_usual (Some first) parts h k = append_usual first parts h k

first_usual : (t : Token) → taken_usual (declared t) ≡ true
unfolding declared
first_usual (token.Word w) = declared_usual w
first_usual _ = refl

advance_usual : (parts : List Part) (t : Token) → all_usual parts ≡ true → taken_usual (advance parts t) ≡ true
unfolding advance
advance_usual [] t h = first_usual t
advance_usual (p ∷ ps) t h = let e = both (usual p) (all_usual ps) h in then_usual (turn p t) ps (turn_usual p t e.0) e.1

-- whatever is owed is usual
pub owed_usual : (parts : List Part) (ts : List Token) (after : List Part) → all_usual parts ≡ true → owed parts ts ≡ Some after → all_usual after ≡ true
owed_usual parts [] after h e = rw (same_Some parts after e) at h
owed_usual parts (t ∷ ts) after h e =
    let l = left parts after t ts e in
    let k : all_usual l.middle ≡ true = rw (l.first) at (advance_usual parts t h) in
    owed_usual l.middle ts after k l.rest
