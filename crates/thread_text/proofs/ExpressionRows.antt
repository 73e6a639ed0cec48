-- The table's rows for expressions, as the parser's functions use them.
use Rattle.std.proofs.Common.{◌≡◌, ◌<◌, ◌≤◌, ◌+◌, ℕ, List, [], ◌∷◌, ◌++◌, Option, Some, None, refl, ap, ◌∙◌, sym, subst, Bool, true, false, cond, arith}
use Rattle.std.proofs.lemmas.Bool.Decides.{nat_tests}
use Rattle.std.specs.Prelude.{nat_lt}
use Rattle.thread_tree.specs.declared.expr.Op.TheVariants as op
use Rattle.thread_tree.specs.declared.token.Mark.{Mark}
use Rattle.thread_tree.specs.declared.token.Mark.TheVariants as mark
use Rattle.thread_tree.specs.declared.token.Token.{Token}
use Rattle.thread_tree.specs.declared.token.Token.TheVariants as token
use Rattle.thread_tree.specs.declared.token.Word.{Word}
use Rattle.thread_tree.specs.Grammar.{turn, operand, behind_name, is_mark, is_word, is_name, is_number, is_prefix, is_between, prefixes, mark_number}
use Rattle.thread_tree.specs.Levels.{level_of, binding}
use Rattle.thread_tree.specs.Parts.{Part, TheMark, AName, Expression, Inner, After, Dots, MoreDots}
use Rattle.thread_text.specs.Bounds.{Counts, counted, one_operator, one_parenthesis, afresh, own_counts, operand_counts}
use Rattle.thread_text.specs.Fate.{Reading, LongAt, judged, ahead, next, next_is, next_of, next_binding, sees, sees_word, skipped, counting, begun}
use Rattle.thread_text.specs.Kinds.{number_in, operator_in}
use Rattle.thread_text.proofs.Steps.{ahead_takes, ahead_long, ahead_alike, seen, unseen, of_next, not_next, counting_same}
use Rattle.grammar_laws.proofs.Callers.{is_the_mark, is_the_word}

-- a mark, or a word, that this part takes
pub mark_row : (part : Part) (parts first : List Part) (r : Reading) (m : Mark) (counts : Counts) → sees m r ≡ true → turn part (token.Mark m) ≡ Some first → counted part (token.Mark m) r.counts ≡ Some counts → ahead (part ∷ parts) r ≡ ahead (first ++ parts) (counting counts r)
mark_row part parts first r m counts h turns counting_ = let s = seen (is_mark m) r h in let e = is_the_mark m s.0 s.2 in ahead_takes part parts first r (token.Mark m) counts (s.1 ∙ ap (λ t. Some t) e) turns counting_

pub word_row : (part : Part) (parts first : List Part) (r : Reading) (w : Word) (counts : Counts) → sees_word w r ≡ true → turn part (token.Word w) ≡ Some first → counted part (token.Word w) r.counts ≡ Some counts → ahead (part ∷ parts) r ≡ ahead (first ++ parts) (counting counts r)
word_row part parts first r w counts h turns counting_ = let s = seen (is_word w) r h in let e = is_the_word w s.0 s.2 in ahead_takes part parts first r (token.Word w) counts (s.1 ∙ ap (λ t. Some t) e) turns counting_

-- where a part takes a token just as one that takes nothing but it
pub then_alike : (b : Bool) (first : List Part) (c : Option Counts) (parts : List Part) → judged (cond b (Some first) None) c parts ≡ judged (cond b (Some []) None) c (first ++ parts)
unfolding judged
then_alike true first (Some c) parts = refl
then_alike true first None parts = refl
then_alike false first (Some c) parts = refl
then_alike false first None parts = refl

-- an expression of its own begins as one inside, with fresh counts
own_alike : (fields : Bool) (next_ : Part) (parts : List Part) (c : Counts) (t : Token) → judged (operand fields next_ t) (own_counts t c) parts ≡ judged (operand fields next_ t) (operand_counts t (afresh c)) parts
unfolding judged operand own_counts operand_counts is_number is_name is_mark is_prefix mark_number
own_alike fields next_ parts c (token.Number _) = refl
own_alike fields next_ parts c (token.Name _) = refl
own_alike fields next_ parts c (token.Text _) = refl
own_alike fields next_ parts c (token.Word _) = refl
own_alike fields next_ parts c (token.Operator _) = refl
own_alike fields next_ parts c (token.Mark mark.OpenParenthesis) = refl
own_alike fields next_ parts c (token.Mark mark.OpenBrace) = refl
own_alike fields next_ parts c (token.Mark mark.CloseBrace) = refl
own_alike fields next_ parts c (token.Mark mark.CloseParenthesis) = refl
own_alike fields next_ parts c (token.Mark mark.OpenBracket) = refl
own_alike fields next_ parts c (token.Mark mark.CloseBracket) = refl
own_alike fields next_ parts c (token.Mark mark.Semicolon) = refl
own_alike fields next_ parts c (token.Mark mark.Comma) = refl
own_alike fields next_ parts c (token.Mark mark.Colon) = refl
own_alike fields next_ parts c (token.Mark mark.Dot) = refl
own_alike fields next_ parts c (token.Mark mark.Equals) = refl
own_alike fields next_ parts c (token.Mark mark.Arrow) = refl

pub expression_begins : (fields : Bool) (next_ : Part) (parts : List Part) (r : Reading) → ahead (Expression fields next_ ∷ parts) r ≡ ahead (Inner fields next_ ∷ parts) (begun r)
unfolding turn counted begun
expression_begins fields next_ parts r = ahead_alike _ _ parts parts r (afresh r.counts) (λ t e. own_alike fields next_ parts r.counts t)

-- no operator between two operands is next, so the expression is over
over_alike : (fields : Bool) (next_ : Part) (parts : List Part) (c : Counts) (t : Token) → is_between t ≡ false → judged (turn (After fields next_) t) (counted (After fields next_) t c) parts ≡ judged (turn next_ t) (counted next_ t c) parts
unfolding turn counted
over_alike fields next_ parts c t h = rw h refl

bound_between : (t : Token) → binding t < 1 → is_between t ≡ false
unfolding binding is_between prefixes level_of
bound_between (token.Number _) h = refl
bound_between (token.Name _) h = refl
bound_between (token.Text _) h = refl
bound_between (token.Word _) h = refl
bound_between (token.Mark _) h = refl
bound_between (token.Operator op.Not) h = refl
bound_between (token.Operator op.Flip) h = refl
bound_between (token.Operator _) h = absurd (omega arith)

next_bound : (r : Reading) (t : Token) → next r.left ≡ Some t → next_binding r ≡ binding t
unfolding next_binding
next_bound r t h = ap (λ o. elim o [ Some t ↦ binding t | None ↦ 0 ]) h

pub expression_ends : (fields : Bool) (next_ : Part) (parts : List Part) (r : Reading) → next_binding r < 1 → ahead (After fields next_ ∷ parts) r ≡ ahead (next_ ∷ parts) r
expression_ends fields next_ parts r h = ahead_alike _ _ parts parts r r.counts (λ t e. over_alike fields next_ parts r.counts t (bound_between t (subst (λ n. n < 1) (next_bound r t e) h)))

-- operators, prefixes and opening parentheses, which the bounds count
pub operator_taken : (fields : Bool) (next_ : Part) (parts : List Part) (r : Reading) → next_is is_between r ≡ true → r.counts.operators < 32 → ahead (After fields next_ ∷ parts) r ≡ ahead (Inner fields next_ ∷ parts) (counting (record r.counts { operators = r.counts.operators + 1 }) r)
unfolding turn counted one_operator
operator_taken fields next_ parts r h room =
    let s = seen is_between r h in
    let b : nat_lt r.counts.operators 32 ≡ true = grind (arith, nat_tests) in
    ahead_takes (After fields next_) parts (Inner fields next_ ∷ []) r s.0 (record r.counts { operators = r.counts.operators + 1 }) s.1 (rw s.2 refl) (rw (s.2, b) refl)

pub operator_long : (fields : Bool) (next_ : Part) (parts : List Part) (r : Reading) → next_is is_between r ≡ true → 32 ≤ r.counts.operators → ahead (After fields next_ ∷ parts) r ≡ LongAt r.left
unfolding turn counted one_operator
operator_long fields next_ parts r h full =
    let s = seen is_between r h in
    let b : nat_lt r.counts.operators 32 ≡ false = grind (arith, nat_tests) in
    ahead_long (After fields next_) parts (Inner fields next_ ∷ []) r s.0 s.1 (rw s.2 refl) (rw (s.2, b) refl)

prefix_operand : (fields : Bool) (next_ : Part) (t : Token) → is_prefix t ≡ true → operand fields next_ t ≡ Some (Inner fields next_ ∷ [])
unfolding operand is_prefix is_number is_name is_mark
prefix_operand fields next_ (token.Operator o) h = rw h refl
prefix_operand fields next_ (token.Number _) h = absurd (cc)
prefix_operand fields next_ (token.Name _) h = absurd (cc)
prefix_operand fields next_ (token.Text _) h = absurd (cc)
prefix_operand fields next_ (token.Word _) h = absurd (cc)
prefix_operand fields next_ (token.Mark _) h = absurd (cc)

one_more : (c : Counts) → c.operators < 32 → one_operator c ≡ Some (record c { operators = c.operators + 1 })
unfolding one_operator
one_more c room = let b : nat_lt c.operators 32 ≡ true = grind (arith, nat_tests) in rw b refl

none_more : (c : Counts) → 32 ≤ c.operators → one_operator c ≡ None
unfolding one_operator
none_more c full = let b : nat_lt c.operators 32 ≡ false = grind (arith, nat_tests) in rw b refl

prefix_counts : (t : Token) (c : Counts) → is_prefix t ≡ true → operand_counts t c ≡ one_operator c
unfolding operand_counts is_prefix
prefix_counts (token.Operator o) c h = refl
prefix_counts (token.Number _) c h = absurd (cc)
prefix_counts (token.Name _) c h = absurd (cc)
prefix_counts (token.Text _) c h = absurd (cc)
prefix_counts (token.Word _) c h = absurd (cc)
prefix_counts (token.Mark _) c h = absurd (cc)

pub prefix_taken : (fields : Bool) (next_ : Part) (parts : List Part) (r : Reading) → next_is is_prefix r ≡ true → r.counts.operators < 32 → ahead (Inner fields next_ ∷ parts) r ≡ ahead (Inner fields next_ ∷ parts) (counting (record r.counts { operators = r.counts.operators + 1 }) r)
unfolding turn counted
prefix_taken fields next_ parts r h room =
    let s = seen is_prefix r h in
    ahead_takes (Inner fields next_) parts (Inner fields next_ ∷ []) r s.0 (record r.counts { operators = r.counts.operators + 1 }) s.1 (prefix_operand fields next_ s.0 s.2) (prefix_counts s.0 r.counts s.2 ∙ one_more r.counts room)

pub prefix_long : (fields : Bool) (next_ : Part) (parts : List Part) (r : Reading) → next_is is_prefix r ≡ true → 32 ≤ r.counts.operators → ahead (Inner fields next_ ∷ parts) r ≡ LongAt r.left
unfolding turn counted
prefix_long fields next_ parts r h full =
    let s = seen is_prefix r h in
    ahead_long (Inner fields next_) parts (Inner fields next_ ∷ []) r s.0 s.1 (prefix_operand fields next_ s.0 s.2) (prefix_counts s.0 r.counts s.2 ∙ none_more r.counts full)

pub parenthesis_taken : (fields : Bool) (next_ : Part) (parts : List Part) (r : Reading) → sees mark.OpenParenthesis r ≡ true → r.counts.parentheses < 64 → ahead (Inner fields next_ ∷ parts) r ≡ ahead (Inner fields (TheMark mark.CloseParenthesis) ∷ After fields next_ ∷ parts) (counting (record r.counts { parentheses = r.counts.parentheses + 1 }) r)
unfolding turn counted operand operand_counts one_parenthesis is_number is_name is_mark mark_number
parenthesis_taken fields next_ parts r h room =
    let b : nat_lt r.counts.parentheses 64 ≡ true = grind (arith, nat_tests) in
    mark_row (Inner fields next_) parts _ r mark.OpenParenthesis _ h refl (rw b refl)

pub parenthesis_long : (fields : Bool) (next_ : Part) (parts : List Part) (r : Reading) → sees mark.OpenParenthesis r ≡ true → 64 ≤ r.counts.parentheses → ahead (Inner fields next_ ∷ parts) r ≡ LongAt r.left
unfolding turn counted operand operand_counts one_parenthesis is_number is_name is_mark mark_number
parenthesis_long fields next_ parts r h full =
    let b : nat_lt r.counts.parentheses 64 ≡ false = grind (arith, nat_tests) in
    let s = seen (is_mark mark.OpenParenthesis) r h in
    let e = is_the_mark mark.OpenParenthesis s.0 s.2 in
    ahead_long (Inner fields next_) parts _ r (token.Mark mark.OpenParenthesis) (s.1 ∙ ap (λ t. Some t) e) refl (rw b refl)

-- the other operands: a number; else a name, with fields behind it where they may be read
pub number_operand : (fields : Bool) (next_ : Part) (parts : List Part) (r : Reading) (n : ℕ) → next_of number_in r ≡ Some n → ahead (Inner fields next_ ∷ parts) r ≡ ahead (After fields next_ ∷ parts) (skipped r)
unfolding turn counted
number_operand fields next_ parts r n h = let s = of_next number_in r n h in ahead_takes (Inner fields next_) parts _ r s.0 r.counts s.1 (a_number s.0 s.2) (a_count s.0 s.2) ∙ ap (λ q. ahead (After fields next_ ∷ parts) q) (counting_same r) where
  a_number : (t : Token) → number_in t ≡ Some n → operand fields next_ t ≡ Some (After fields next_ ∷ [])
  a_number (token.Number _) e = unfold operand is_number in refl
  a_number (token.Name _) e = unfold number_in in absurd (cc)
  a_number (token.Text _) e = unfold number_in in absurd (cc)
  a_number (token.Word _) e = unfold number_in in absurd (cc)
  a_number (token.Mark _) e = unfold number_in in absurd (cc)
  a_number (token.Operator _) e = unfold number_in in absurd (cc)

  a_count : (t : Token) → number_in t ≡ Some n → operand_counts t r.counts ≡ Some r.counts
  a_count (token.Number _) e = unfold operand_counts in refl
  a_count (token.Name _) e = unfold number_in in absurd (cc)
  a_count (token.Text _) e = unfold number_in in absurd (cc)
  a_count (token.Word _) e = unfold number_in in absurd (cc)
  a_count (token.Mark _) e = unfold number_in in absurd (cc)
  a_count (token.Operator _) e = unfold number_in in absurd (cc)

name_alike : (fields : Bool) (next_ : Part) (parts : List Part) (c : Counts) (t : Token) → is_number t ≡ false → is_mark mark.OpenParenthesis t ≡ false → is_prefix t ≡ false → judged (operand fields next_ t) (operand_counts t c) parts ≡ judged (cond (is_name t) (Some []) None) (Some c) (behind_name fields next_ ∷ parts)
unfolding judged operand operand_counts is_name behind_name
name_alike true next_ parts c (token.Name _) a b d = unfold is_number in refl
name_alike false next_ parts c (token.Name _) a b d = unfold is_number in refl
name_alike fields next_ parts c (token.Number _) a b d = unfold is_number in absurd (cc)
name_alike fields next_ parts c (token.Text _) a b d = unfold is_number is_mark is_prefix in refl
name_alike fields next_ parts c (token.Word _) a b d = unfold is_number is_mark is_prefix in refl
name_alike fields next_ parts c (token.Mark m) a b d = unfold is_number is_prefix in rw b refl
name_alike fields next_ parts c (token.Operator _) a b d = unfold is_number is_mark in rw d refl

not_number : (t : Token) → number_in t ≡ None → is_number t ≡ false
unfolding number_in is_number
not_number (token.Number m) h = cc
not_number (token.Name _) h = refl
not_number (token.Text _) h = refl
not_number (token.Word _) h = refl
not_number (token.Mark _) h = refl
not_number (token.Operator _) h = refl

pub name_operand : (fields : Bool) (next_ : Part) (parts : List Part) (r : Reading) → next_of number_in r ≡ None → sees mark.OpenParenthesis r ≡ false → next_is is_prefix r ≡ false → ahead (Inner fields next_ ∷ parts) r ≡ ahead (AName ∷ behind_name fields next_ ∷ parts) r
unfolding turn counted
name_operand fields next_ parts r a b d = ahead_alike _ _ parts (behind_name fields next_ ∷ parts) r r.counts (λ t e. name_alike fields next_ parts r.counts t (not_number t (not_next number_in r t a e)) (unseen (is_mark mark.OpenParenthesis) r t b e) (unseen is_prefix r t d e))

-- the dots of a field
pub dot_taken : (next_ : Part) (parts : List Part) (r : Reading) → sees mark.Dot r ≡ true → ahead (Dots next_ ∷ parts) r ≡ ahead (AName ∷ MoreDots next_ ∷ parts) (skipped r)
unfolding turn counted is_mark mark_number
dot_taken next_ parts r h = mark_row (Dots next_) parts (AName ∷ MoreDots next_ ∷ []) r mark.Dot r.counts h refl refl ∙ ap (λ q. ahead (AName ∷ MoreDots next_ ∷ parts) q) (counting_same r)

pub dots_end : (next_ : Part) (parts : List Part) (r : Reading) → sees mark.Dot r ≡ false → ahead (Dots next_ ∷ parts) r ≡ ahead (After true next_ ∷ parts) r
unfolding turn counted
dots_end next_ parts r h = ahead_alike _ _ parts parts r r.counts (λ t e. let f = unseen (is_mark mark.Dot) r t h e in rw f refl)

pub more_dot_taken : (next_ : Part) (parts : List Part) (r : Reading) → sees mark.Dot r ≡ true → ahead (MoreDots next_ ∷ parts) r ≡ ahead (AName ∷ After true next_ ∷ parts) (skipped r)
unfolding turn counted is_mark mark_number
more_dot_taken next_ parts r h = mark_row (MoreDots next_) parts (AName ∷ After true next_ ∷ []) r mark.Dot r.counts h refl refl ∙ ap (λ q. ahead (AName ∷ After true next_ ∷ parts) q) (counting_same r)

pub more_dots_end : (next_ : Part) (parts : List Part) (r : Reading) → sees mark.Dot r ≡ false → ahead (MoreDots next_ ∷ parts) r ≡ ahead (After true next_ ∷ parts) r
unfolding turn counted
more_dots_end next_ parts r h = ahead_alike _ _ parts parts r r.counts (λ t e. let f = unseen (is_mark mark.Dot) r t h e in rw f refl)

-- an operator that is there
operator_held : (t : Token) → operator_in t ≡ None → (is_between t ≡ false) × (is_prefix t ≡ false)
unfolding operator_in is_between is_prefix
operator_held (token.Operator o) h = absurd (cc)
operator_held (token.Name _) h = (refl, refl)
operator_held (token.Number _) h = (refl, refl)
operator_held (token.Text _) h = (refl, refl)
operator_held (token.Word _) h = (refl, refl)
operator_held (token.Mark _) h = (refl, refl)

pub between_there : (r : Reading) → next_is is_between r ≡ true → next_of operator_in r ≡ None → ⊥
between_there r h n = let s = seen is_between r h in let f = (operator_held s.0 (not_next operator_in r s.0 n s.1)).0 in let e : true ≡ false = sym s.2 ∙ f in absurd (cc)

pub prefix_there : (r : Reading) → next_is is_prefix r ≡ true → next_of operator_in r ≡ None → ⊥
prefix_there r h n = let s = seen is_prefix r h in let f = (operator_held s.0 (not_next operator_in r s.0 n s.1)).1 in let e : true ≡ false = sym s.2 ∙ f in absurd (cc)

-- what binds is an operator between two operands, and no token binds tighter than 7
binds_between : (t : Token) → 1 ≤ binding t → is_between t ≡ true
unfolding binding is_between prefixes level_of
binds_between (token.Operator op.Not) h = absurd (omega arith)
binds_between (token.Operator op.Flip) h = absurd (omega arith)
binds_between (token.Operator _) h = refl
binds_between (token.Number _) h = absurd (omega arith)
binds_between (token.Name _) h = absurd (omega arith)
binds_between (token.Text _) h = absurd (omega arith)
binds_between (token.Word _) h = absurd (omega arith)
binds_between (token.Mark _) h = absurd (omega arith)

pub bound_is_between : (r : Reading) → 1 ≤ next_binding r → next_is is_between r ≡ true
unfolding next_binding next_is
bound_is_between r h = go (next r.left) h where
  go : (o : Option Token) → 1 ≤ (elim o [ Some t ↦ binding t | None ↦ 0 ]) → (elim o [ Some t ↦ is_between t | None ↦ false ]) ≡ true
  go (Some t) h = binds_between t h
  go None h = absurd (omega arith)

binding_below : (t : Token) → binding t < 8
unfolding binding level_of
binding_below (token.Operator op.Or) = omega arith
binding_below (token.Operator op.Xor) = omega arith
binding_below (token.Operator op.And) = omega arith
binding_below (token.Operator op.Same) = omega arith
binding_below (token.Operator op.Other) = omega arith
binding_below (token.Operator op.Less) = omega arith
binding_below (token.Operator op.AtMost) = omega arith
binding_below (token.Operator op.More) = omega arith
binding_below (token.Operator op.AtLeast) = omega arith
binding_below (token.Operator op.Left) = omega arith
binding_below (token.Operator op.Right) = omega arith
binding_below (token.Operator op.Plus) = omega arith
binding_below (token.Operator op.Minus) = omega arith
binding_below (token.Operator op.Times) = omega arith
binding_below (token.Operator op.Over) = omega arith
binding_below (token.Operator op.Rest) = omega arith
binding_below (token.Operator op.Not) = omega arith
binding_below (token.Operator op.Flip) = omega arith
binding_below (token.Number _) = omega arith
binding_below (token.Name _) = omega arith
binding_below (token.Text _) = omega arith
binding_below (token.Word _) = omega arith
binding_below (token.Mark _) = omega arith

pub bound_below : (r : Reading) → next_binding r < 8
unfolding next_binding
bound_below r = go (next r.left) where
  go : (o : Option Token) → (elim o [ Some t ↦ binding t | None ↦ 0 ]) < 8
  go (Some t) = binding_below t
  go None = omega arith

-- what stands behind a name, by whether fields may be read
pub behind_inside : (fields : Bool) (next_ : Part) (parts : List Part) (r : Reading) → fields ≡ true → ahead (behind_name fields next_ ∷ parts) r ≡ ahead (Dots next_ ∷ parts) r
unfolding behind_name
behind_inside true next_ parts r h = refl
behind_inside false next_ parts r h = absurd (cc)

pub after_inside : (fields : Bool) (next_ : Part) (parts : List Part) (r : Reading) → fields ≡ true → ahead (After fields next_ ∷ parts) r ≡ ahead (After true next_ ∷ parts) r
after_inside true next_ parts r h = refl
after_inside false next_ parts r h = absurd (cc)

pub behind_outside : (fields : Bool) (next_ : Part) (parts : List Part) (r : Reading) → fields ≡ false → ahead (behind_name fields next_ ∷ parts) r ≡ ahead (After fields next_ ∷ parts) r
unfolding behind_name
behind_outside false next_ parts r h = refl
behind_outside true next_ parts r h = absurd (cc)
