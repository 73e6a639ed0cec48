-- One token of an expression.
use Rattle.std.proofs.Common.{◌≡◌, ◌+◌, nat_le, nat_lt, Bool, true, false, if◌then◌else◌, List, [], ◌∷◌, Some, None, refl, ap, ◌∙◌}
use Rattle.thread_tree.specs.declared.token.Mark.TheVariants as mark
use Rattle.thread_tree.specs.declared.token.Token.{Token}
use Rattle.thread_tree.specs.declared.token.Token.TheVariants as token
use Rattle.thread_tree.specs.Parts.{Part, TheMark, ABlock, To, MoreItems, MoreExpressions, ATBlock, Inner, After}
use Rattle.thread_text.specs.Bounds.{Counts, afresh, one_operator, one_parenthesis, operand_counts, own_counts}
use Rattle.text_bounds.specs.Tally.{Tally, marked, told, within}
use Rattle.thread_tree.specs.Grammar.{operand, behind_name, is_mark, mark_number, is_name, is_number, is_prefix, prefixes}
use Rattle.text_bounds.proofs.Agreement.{Need, Nothing, Fresh, Live, Begun, Has, need, need_of, ends, ends_by, ends_anew, closes, follows, stands, fits, Level, plain, Kept, none, on, past, level_named, one_more, pick}

-- what stands behind an expression, or a list, is itself one of those parts
pub closes_stands : (next : Part) → closes next ≡ true → stands next ≡ true
closes_stands (TheMark mark.Semicolon) h = refl
closes_stands (TheMark mark.CloseParenthesis) h = refl
closes_stands ATBlock h = refl
closes_stands _ h = absurd (cc)

pub follows_stands : (next : Part) → follows next ≡ true → stands next ≡ true
follows_stands (TheMark mark.Semicolon) h = refl
follows_stands (TheMark mark.CloseParenthesis) h = refl
follows_stands (TheMark mark.Comma) h = refl
follows_stands ABlock h = refl
follows_stands ATBlock h = refl
follows_stands To h = refl
follows_stands MoreItems h = refl
follows_stands (MoreExpressions fields next) h = h
follows_stands _ h = absurd (cc)

-- and gives what the expression gives
pub ends_next : (next : Part) (n : Need) → follows next ≡ true → ends_by next n ≡ true → ends next n ≡ true
ends_next (TheMark mark.Semicolon) n h e = e
ends_next (TheMark mark.CloseParenthesis) n h e = e
ends_next (TheMark mark.Comma) n h e = e
ends_next ABlock n h e = e
ends_next ATBlock n h e = e
ends_next To n h e = e
ends_next MoreItems n h e = e
ends_next (MoreExpressions fields next) n h e = e
ends_next _ n h e = absurd (cc)

-- and needs no more than equal counts
pub through : (next : Part) (n : Need) (c : Counts) (s : Tally) → follows next ≡ true → Has Live c s → Has (need next n) c s
through (TheMark mark.CloseParenthesis) Live c s h l = l
through (TheMark mark.CloseParenthesis) _ c s h l = tt
through (TheMark mark.Semicolon) n c s h l = tt
through (TheMark mark.Comma) n c s h l = tt
through ABlock n c s h l = tt
through ATBlock n c s h l = tt
through To n c s h l = tt
through MoreItems n c s h l = tt
through (MoreExpressions fields next) n c s h l = tt
through _ n c s h l = absurd (cc)

pub anew_ends : (next : Part) (n : Need) → ends_anew next n ≡ true → ends_by next n ≡ true
anew_ends (TheMark mark.Comma) n e = e
anew_ends (TheMark mark.CloseParenthesis) Nothing e = refl
anew_ends (TheMark mark.CloseParenthesis) _ e = absurd (cc)
anew_ends _ n e = e

-- an operator more
abbrev pub operated : Tally → Tally
operated s = record s { operators = s.operators + 1; named = false }

operator_in : (s : Tally) (c : Counts) (b : Bool) → s.operators ≡ c.operators → nat_lt c.operators 32 ≡ b → nat_le (s.operators + 1) 32 ≡ b
operator_in s c b e h = one_more s.operators 32 ∙ (ap (λ n. nat_lt n 32) e ∙ h)

level_operated : {c : Counts} {s : Tally} → s.operators ≡ c.operators → nat_lt c.operators 32 ≡ true → Level false c s → Level false (record c { operators = c.operators + 1 }) (operated s)
level_operated {c} {s} e h l = record { same_blocks = l.same_blocks; few_operators = operator_in s c true e h; few_parentheses = l.few_parentheses; few_blocks = l.few_blocks; type_declared = l.type_declared }

past_operators : (c : Counts) (s : Tally) → s.operators ≡ c.operators → nat_lt c.operators 32 ≡ false → within (operated s) ≡ false
unfolding within
past_operators c s e h = rw (operator_in s c false e h) refl

pub operator_kept : (fields : Bool) (next : Part) (ps : List Part) (c : Counts) (s : Tally) → follows next ≡ true → ends_by next (need_of ps) ≡ true → fits ps ≡ true → Level false c s → Has Live c s → Kept ps (operated s) (Some (Inner fields next ∷ [])) (one_operator c)
unfolding one_operator
operator_kept fields next ps c s h e f l has = go (nat_lt c.operators 32) refl where
  go : (b : Bool) → nat_lt c.operators 32 ≡ b → Kept ps (operated s) (Some (Inner fields next ∷ [])) (if b then Some (record c { operators = c.operators + 1 }) else None)
  go true t = on (plain (rw (h, e, f) refl) (ap (λ n. n + 1) has.0, has.1, refl) (level_operated has.0 t l))
  go false t = past (past_operators c s has.0 t)

-- a parenthesis more
abbrev enclosed : Tally → Tally
enclosed s = record s { parentheses = s.parentheses + 1; named = false }

parenthesis_in : (s : Tally) (c : Counts) (b : Bool) → s.parentheses ≡ c.parentheses → nat_lt c.parentheses 64 ≡ b → nat_le (s.parentheses + 1) 64 ≡ b
parenthesis_in s c b e h = one_more s.parentheses 64 ∙ (ap (λ n. nat_lt n 64) e ∙ h)

level_enclosed : {c : Counts} {s : Tally} → s.parentheses ≡ c.parentheses → nat_lt c.parentheses 64 ≡ true → Level false c s → Level false (record c { parentheses = c.parentheses + 1 }) (enclosed s)
level_enclosed {c} {s} e h l = record { same_blocks = l.same_blocks; few_operators = l.few_operators; few_parentheses = parenthesis_in s c true e h; few_blocks = l.few_blocks; type_declared = l.type_declared }

past_parentheses : (c : Counts) (s : Tally) → s.parentheses ≡ c.parentheses → nat_lt c.parentheses 64 ≡ false → Level false c s → within (enclosed s) ≡ false
unfolding within
past_parentheses c s e h l = rw (l.few_operators, parenthesis_in s c false e h) refl

parenthesis_kept : (fields : Bool) (next : Part) (ps : List Part) (c : Counts) (s : Tally) → follows next ≡ true → ends_by next (need_of ps) ≡ true → fits ps ≡ true → Level false c s → Has Live c s → Kept ps (enclosed s) (Some (Inner fields (TheMark mark.CloseParenthesis) ∷ After fields next ∷ [])) (one_parenthesis c)
unfolding one_parenthesis
parenthesis_kept fields next ps c s h e f l has = go (nat_lt c.parentheses 64) refl where
  go : (b : Bool) → nat_lt c.parentheses 64 ≡ b → Kept ps (enclosed s) (Some (Inner fields (TheMark mark.CloseParenthesis) ∷ After fields next ∷ [])) (if b then Some (record c { parentheses = c.parentheses + 1 }) else None)
  go true t = on (plain (rw (h, e, f) refl) (has.0, ap (λ n. n + 1) has.1, refl) (level_enclosed has.1 t l))
  go false t = past (past_parentheses c s has.1 t l)

-- the first token of an operand
pub operand_row : (fields : Bool) (next : Part) (t : Token) (ps : List Part) (c : Counts) (s : Tally) → follows next ≡ true → ends_by next (need_of ps) ≡ true → fits ps ≡ true → Level false c s → Has Begun c s → Kept ps (told t s) (operand fields next t) (operand_counts t c)
unfolding operand behind_name operand_counts told marked is_number is_name is_mark mark_number is_prefix
operand_row fields next (token.Number v) ps c s h e f l b = on (plain (rw (h, e, f) refl) (b.0, b.1) (level_named false l))
operand_row true next (token.Name n) ps c s h e f l b = on (plain (rw (h, e, f) refl) (b.0, b.1) (level_named true l))
operand_row false next (token.Name n) ps c s h e f l b = on (plain (rw (h, e, f) refl) (b.0, b.1) (level_named true l))
operand_row fields next (token.Mark mark.OpenParenthesis) ps c s h e f l b = rw (b.2) (parenthesis_kept fields next ps c s h e f l (b.0, b.1))
operand_row fields next (token.Mark _) ps c s h e f l b = none
operand_row fields next (token.Operator op) ps c s h e f l b = pick (prefixes op) (λ p. operator_kept fields next ps c s h e f l (b.0, b.1)) (λ p. none)
operand_row fields next _ ps c s h e f l b = none

pub level_afresh : {c : Counts} {s : Tally} → Level false c s → Level false (afresh c) s
unfolding afresh
level_afresh l = record { same_blocks = l.same_blocks; few_operators = l.few_operators; few_parentheses = l.few_parentheses; few_blocks = l.few_blocks; type_declared = l.type_declared }

-- an expression of its own is an operand with new counts
as_operand : (fields : Bool) (next : Part) (u : Token) (ps : List Part) (c : Counts) (s : Tally) → Kept ps (told u s) (operand fields next u) (operand_counts u (afresh c)) → Kept ps (told u s) (operand fields next u) (own_counts u c)
unfolding operand_counts own_counts operand is_number is_name is_mark mark_number is_prefix
as_operand fields next (token.Number v) ps c s k = k
as_operand fields next (token.Name n) ps c s k = k
as_operand fields next (token.Mark mark.OpenParenthesis) ps c s k = k
as_operand fields next (token.Mark _) ps c s k = none
as_operand fields next (token.Operator op) ps c s k = k
as_operand fields next _ ps c s k = none

-- the first token of an expression of its own
pub own_row : (fields : Bool) (next : Part) (t : Token) (ps : List Part) (c : Counts) (s : Tally) → follows next ≡ true → ends_by next (need_of ps) ≡ true → fits ps ≡ true → Level false c s → Has Fresh c s → Kept ps (told t s) (operand fields next t) (own_counts t c)
unfolding afresh
own_row fields next t ps c s h e f l b = as_operand fields next t ps c s (operand_row fields next t ps (afresh c) s h e f (level_afresh l) (b.0, b.1, b.2))
