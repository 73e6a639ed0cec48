-- How the counts by the parts owed and those by the tokens agree.
use Rattle.std.proofs.Common.{◌≡◌, ℕ, ◌+◌, ◌-◌, nat_le, nat_lt, Bool, true, false, if◌then◌else◌, List, [], ◌∷◌, ◌++◌, Option, Some, None, refl, arith}
use Rattle.std.proofs.lemmas.Bool.Decides.{nat_tests}
use Rattle.thread_tree.specs.declared.token.Mark.TheVariants as mark
use Rattle.thread_tree.specs.declared.token.Word.TheVariants as word
use Rattle.thread_tree.specs.Parts.{Part, TheMark, TheWord, AName, MoreNames, ABlock, AfterName, Assigned, AfterAssigned, Returned, To, AnItem, MoreItems, Arguments, MoreExpressions, AWho, ATBlock, TAssigned, Values, Expression, Inner, After, Dots, MoreDots}
use Rattle.thread_text.specs.Bounds.{Counts}
use Rattle.text_bounds.specs.Tally.{Tally, anew, within}

-- what a part on top needs of the counts: nothing, a name before it, a new expression, equal counts, and these with
-- no name before it, and with one
pub data Need : Type 0 where
  Nothing : Need
  Named : Need
  Fresh : Need
  Live : Need
  Begun : Need
  Called : Need

abbrev pub Has : Need → Counts → Tally → Type 0
Has Nothing c s = Unit {0}
Has Named c s = s.named ≡ true
Has Fresh c s = (s.operators ≡ 0) × (s.parentheses ≡ 0) × (s.named ≡ false)
Has Live c s = (s.operators ≡ c.operators) × (s.parentheses ≡ c.parentheses)
Has Begun c s = (s.operators ≡ c.operators) × (s.parentheses ≡ c.parentheses) × (s.named ≡ false)
Has Called c s = (s.operators ≡ c.operators) × (s.parentheses ≡ c.parentheses) × (s.named ≡ true)

-- what is needed behind a name or a closing parenthesis is needed before it
abbrev pub passing : Need → Need
passing Live = Live
passing _ = Nothing

-- what a part on top needs, by what is needed behind it
abbrev pub need : Part → Need → Need
need AName n = passing n
need (TheMark mark.CloseParenthesis) n = passing n
need (TheMark mark.OpenParenthesis) n = Named
need AfterName n = Named
need Assigned n = Fresh
need AfterAssigned n = Called
need Returned n = Fresh
need AnItem n = Fresh
need Arguments n = Fresh
need (AWho next) n = Fresh
need TAssigned n = Fresh
need Values n = Fresh
need (Expression fields next) n = Fresh
need (Inner fields next) n = Begun
need (After fields next) n = Live
need (Dots next) n = Live
need (MoreDots next) n = Live
need _ n = Nothing

abbrev pub need_of : List Part → Need
need_of [] = Nothing
need_of (p ∷ ps) = need p (need_of ps)

-- what the last token of a part can give: nothing, a new expression, the expression at hand, a name
abbrev pub nothing : Need → Bool
nothing Nothing = true
nothing _ = false

abbrev pub renewing : Need → Bool
renewing Nothing = true
renewing Fresh = true
renewing _ = false

abbrev pub keeping : Need → Bool
keeping Nothing = true
keeping Live = true
keeping _ = false

abbrev pub naming : Need → Bool
naming Nothing = true
naming Named = true
naming Live = true
naming _ = false

-- the same of an expression that goes on, and of one that begins, by the part behind it
abbrev pub ends_by : Part → Need → Bool
ends_by (TheMark mark.Comma) n = renewing n
ends_by (TheMark mark.CloseParenthesis) n = keeping n
ends_by _ n = nothing n

abbrev pub ends_anew : Part → Need → Bool
ends_anew (TheMark mark.Comma) n = renewing n
ends_anew _ n = nothing n

-- whether what is needed behind a part is given by it
abbrev pub ends : Part → Need → Bool
ends AName n = naming n
ends (TheMark mark.Comma) n = renewing n
ends (TheMark mark.Equals) n = renewing n
ends (TheMark mark.OpenParenthesis) n = renewing n
ends (TheMark mark.CloseParenthesis) n = keeping n
ends (AWho next) n = ends_anew next n
ends (Expression fields next) n = ends_anew next n
ends (Inner fields next) n = ends_by next n
ends (After fields next) n = ends_by next n
ends (Dots next) n = ends_by next n
ends (MoreDots next) n = ends_by next n
ends _ n = nothing n

-- whether the part may stand behind a list, behind an expression
abbrev pub closes : Part → Bool
closes (TheMark mark.Semicolon) = true
closes (TheMark mark.CloseParenthesis) = true
closes ATBlock = true
closes _ = false

abbrev pub follows : Part → Bool
follows (TheMark mark.Semicolon) = true
follows (TheMark mark.CloseParenthesis) = true
follows (TheMark mark.Comma) = true
follows ABlock = true
follows ATBlock = true
follows To = true
follows MoreItems = true
follows (MoreExpressions fields next) = closes next
follows _ = false

-- whether the part is one of those outside of a type, with what may stand behind it
abbrev pub stands : Part → Bool
stands (TheMark mark.OpenBrace) = false
stands (TheMark mark.CloseBrace) = false
stands (TheWord word.Type) = false
stands (MoreNames next) = closes next
stands (MoreExpressions fields next) = closes next
stands (AWho next) = follows next
stands (Expression fields next) = follows next
stands (Inner fields next) = follows next
stands (After fields next) = follows next
stands (Dots next) = follows next
stands (MoreDots next) = follows next
stands _ = true

-- whether all parts are so
abbrev pub fits : List Part → Bool
fits [] = true
fits (p ∷ ps) = if stands p then (if ends p (need_of ps) then fits ps else false) else false

-- blocks agree, and the tally is within the bounds
pub record Level (typed : Bool) (c : Counts) (s : Tally) : Type 0 where
  pub same_blocks : s.blocks ≡ c.blocks
  pub few_operators : nat_le s.operators 32 ≡ true
  pub few_parentheses : nat_le s.parentheses 64 ≡ true
  pub few_blocks : nat_le s.blocks 24 ≡ true
  pub type_declared : s.typing ≡ typed

-- what is owed, the counts and the tally; the declaration of a type by its four places
pub data Agrees : List Part → Counts → Tally → Type 0 where
  plain : {ps : List Part} {c : Counts} {s : Tally} → fits ps ≡ true → Has (need_of ps) c s → Level false c s → Agrees ps c s
  type_name : {c : Counts} {s : Tally} → Level true c s → Agrees (AName ∷ TheMark mark.OpenBrace ∷ AName ∷ MoreNames (TheMark mark.CloseBrace) ∷ []) c s
  type_open : {c : Counts} {s : Tally} → Level true c s → Agrees (TheMark mark.OpenBrace ∷ AName ∷ MoreNames (TheMark mark.CloseBrace) ∷ []) c s
  type_field : {c : Counts} {s : Tally} → Level true c s → Agrees (AName ∷ MoreNames (TheMark mark.CloseBrace) ∷ []) c s
  type_more : {c : Counts} {s : Tally} → Level true c s → Agrees (MoreNames (TheMark mark.CloseBrace) ∷ []) c s

-- a token that can't stand, one with which both go on, and one that passes a bound in both
pub data Kept (ps : List Part) (s : Tally) : Option (List Part) → Option Counts → Type 0 where
  none : {o : Option Counts} → Kept ps s None o
  on : {first : List Part} {c : Counts} → Agrees (first ++ ps) c s → Kept ps s (Some first) (Some c)
  past : {first : List Part} → within s ≡ false → Kept ps s (Some first) None

pub level_within : {b : Bool} {c : Counts} {s : Tally} → Level b c s → within s ≡ true
unfolding within
level_within l = rw (l.few_operators, l.few_parentheses, l.few_blocks) refl

pub agrees_within : {ps : List Part} {c : Counts} {s : Tally} → Agrees ps c s → within s ≡ true
agrees_within (plain f h l) = level_within l
agrees_within (type_name l) = level_within l
agrees_within (type_open l) = level_within l
agrees_within (type_field l) = level_within l
agrees_within (type_more l) = level_within l

-- the levels of tallies that differ little
pub level_anew : {b : Bool} {c : Counts} {s : Tally} → Level b c s → Level b c (anew s)
level_anew l = record { same_blocks = l.same_blocks; few_operators = refl; few_parentheses = refl; few_blocks = l.few_blocks; type_declared = l.type_declared }

pub level_named : {b : Bool} {c : Counts} {s : Tally} (x : Bool) → Level b c s → Level b c (record s { named = x })
level_named x l = record { same_blocks = l.same_blocks; few_operators = l.few_operators; few_parentheses = l.few_parentheses; few_blocks = l.few_blocks; type_declared = l.type_declared }

-- one more is within a bound where it wasn't reached
pub one_more : (n m : ℕ) → nat_le (n + 1) m ≡ nat_lt n m
one_more n m = grind (arith, nat_tests)

pub one_less : (n : ℕ) → nat_le n 24 ≡ true → nat_le (n - 1) 24 ≡ true
one_less n h = grind (arith, nat_tests)

-- the halves of a test
pub halves : (a b : Bool) → (if a then b else false) ≡ true → (a ≡ true) × (b ≡ true)
halves true b h = (refl, h)
halves false b h = absurd (cc)

-- a test that the table and the counts share, and one of the table alone
pub pick_both : {ps : List Part} {s : Tally} (b : Bool) {x y : Option (List Part)} {o u : Option Counts} → (b ≡ true → Kept ps s x o) → (b ≡ false → Kept ps s y u) → Kept ps s (if b then x else y) (if b then o else u)
pick_both true f g = f refl
pick_both false f g = g refl

pub pick : {ps : List Part} {s : Tally} (b : Bool) {x y : Option (List Part)} {o : Option Counts} → (b ≡ true → Kept ps s x o) → (b ≡ false → Kept ps s y o) → Kept ps s (if b then x else y) o
pick true f g = f refl
pick false f g = g refl

-- behind a token that begins a new expression
abbrev pub opens : List Part → Bool
opens l = if renewing (need_of l) then fits l else false

pub fresh_has : (n : Need) (c : Counts) (s : Tally) → renewing n ≡ true → Has n c (anew s)
fresh_has Nothing c s h = tt
fresh_has Fresh c s h = (refl, refl, refl)
fresh_has _ c s h = absurd (cc)

pub renewed_agrees : (l : List Part) (c : Counts) (s : Tally) → opens l ≡ true → Level false c s → Agrees l c (anew s)
renewed_agrees l c s h k = let e = halves (renewing (need_of l)) (fits l) h in plain e.1 (fresh_has (need_of l) c s e.0) (level_anew k)

-- what opens so, or this where nothing can stand
abbrev pub opens_or : Bool → Option (List Part) → List Part → Bool
opens_or b (Some first) ps = opens (first ++ ps)
opens_or b None ps = b

pub renewed : (b : Bool) (found : Option (List Part)) (ps : List Part) (c : Counts) (s : Tally) → opens_or b found ps ≡ true → Level false c s → Kept ps (anew s) found (Some c)
renewed b (Some first) ps c s h l = on (renewed_agrees (first ++ ps) c s h l)
renewed b None ps c s h l = none

-- the parts behind one that gives nothing, or a new expression
pub nothing_opens : (ps : List Part) → nothing (need_of ps) ≡ true → fits ps ≡ true → opens ps ≡ true
nothing_opens ps h f = go (need_of ps) h where
  go : (n : Need) → nothing n ≡ true → (if renewing n then fits ps else false) ≡ true
  go Nothing h = f
  go _ h = absurd (cc)

pub nothing_renews : (n : Need) → nothing n ≡ true → renewing n ≡ true
nothing_renews Nothing h = refl
nothing_renews _ h = absurd (cc)

pub renews_opens : (ps : List Part) → renewing (need_of ps) ≡ true → fits ps ≡ true → opens ps ≡ true
renews_opens ps h f = rw (h, f) refl
