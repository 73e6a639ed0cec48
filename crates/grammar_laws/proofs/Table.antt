-- The table takes a token.
use Rattle.std.proofs.Common.{◌≡◌, ℕ, Bool, true, false, if◌then◌else◌, List, [], ◌∷◌, ◌++◌, Option, Some, None, refl, ◌==◌, arith}
use Rattle.std.proofs.lemmas.Bool.Decides.{nat_tests}
use Rattle.std.proofs.lemmas.Option.{none-some}
use Rattle.thread_tree.specs.declared.token.Mark.{Mark}
use Rattle.thread_tree.specs.declared.token.Placed.{Placed}
use Rattle.thread_tree.specs.declared.token.Token.{Token}
use Rattle.thread_tree.specs.declared.token.Token.TheVariants as token
use Rattle.thread_tree.specs.declared.token.Word.{Word}
use Rattle.thread_tree.specs.Grammar.{turn, advance, Spells, goes_on, is_mark, is_word, is_name, is_number, mark_number, word_number}
use Rattle.grammar_laws.specs.Open.{bare}
use Rattle.thread_tree.specs.Parts.{Part, TheMark, TheWord, AName, ANumber}
use Rattle.thread_tree.specs.Spelling.{Takes, TakesAny, TakesMark, SpellsName, SpellsNumber}

-- no token is both refused and taken
pub never : {A B : Type 0} {x : A} → None ≡ Some x → B
never {x = x} e = absurd (none-some x e)

-- what a taken token leaves
pub left_by : (part : Part) (t : Token) (first parts : List Part) → turn part t ≡ Some first → advance (part ∷ parts) t ≡ Some (first ++ parts)
unfolding advance
left_by part t first parts e = rw (e, advance)

-- a token at the beginning of a part
pub takes : (part : Part) (t : Token) (first parts : List Part) (before after : List Placed) → turn part t ≡ Some first → TakesAny t before after → Spells (first ++ parts) (bare after) → Spells (part ∷ parts) (bare before)
takes part t first parts before after e r s = rw (r.first) (goes_on (left_by part t first parts e) s)

same_number : (n : ℕ) → (n == n) ≡ true
same_number n = grind (arith, nat_tests)

pub mark_turns : (m : Mark) → turn (TheMark m) (token.Mark m) ≡ Some []
unfolding turn is_mark
mark_turns m = rw (same_number (mark_number m))

pub word_turns : (w : Word) → turn (TheWord w) (token.Word w) ≡ Some []
unfolding turn is_word
word_turns w = rw (same_number (word_number w))

pub takes_mark : {m : Mark} {parts : List Part} {before after : List Placed} → TakesMark m before after → Spells parts (bare after) → Spells (TheMark m ∷ parts) (bare before)
takes_mark {m = m} {parts = parts} {before = before} {after = after} r s = takes (TheMark m) (token.Mark m) [] parts before after (mark_turns m) r s

pub takes_word : {w : Word} {parts : List Part} {before after : List Placed} → TakesAny (token.Word w) before after → Spells parts (bare after) → Spells (TheWord w ∷ parts) (bare before)
takes_word {w = w} {parts = parts} {before = before} {after = after} r s = takes (TheWord w) (token.Word w) [] parts before after (word_turns w) r s

-- where the place is known
pub placed : {t : Token} {place : _} {before after : List Placed} → Takes t place before after → TakesAny t before after
placed {place = place} r = record { place = place; first = r.first }

pub takes_name : {name : _} {parts : List Part} {before after : List Placed} → SpellsName before after name → Spells parts (bare after) → Spells (AName ∷ parts) (bare before)
unfolding turn is_name
takes_name {name = name} {parts = parts} {before = before} {after = after} r s = takes AName (token.Name name.name) [] parts before after refl (placed r) s

pub takes_number : {number : _} {parts : List Part} {before after : List Placed} → SpellsNumber before after number → Spells parts (bare after) → Spells (ANumber ∷ parts) (bare before)
unfolding turn is_number
takes_number {number = number} {parts = parts} {before = before} {after = after} r s = takes ANumber (token.Number number.value) [] parts before after refl (placed r) s

-- a token at the beginning of a part, with what follows it read off the table
pub go : {part : Part} {t : Token} {first parts : List Part} {before after : List Placed} → turn part t ≡ Some first → TakesAny t before after → Spells (first ++ parts) (bare after) → Spells (part ∷ parts) (bare before)
go {part = part} {t = t} {first = first} {parts = parts} {before = before} {after = after} e r s = takes part t first parts before after e r s

-- a part that takes whatever another takes, in the same way
abbrev pub Wider : Part → Part → Type 0
Wider part other = (t : Token) (first : List Part) → turn part t ≡ Some first → turn other t ≡ Some first

-- a test before the rows of another part finds only what that part refuses
pub beyond : {first : List Part} (b : Bool) (x y : Option (List Part)) → (b ≡ true → y ≡ None) → y ≡ Some first → (if b then x else y) ≡ Some first
beyond true x y h e = never (rw (h refl) at e)
beyond false x y h e = e

lifted : (part other : Part) (parts after : List Part) (t : Token) → Wider part other → (found : Option (List Part)) → turn part t ≡ found → elim found [ Some first ↦ Some (first ++ parts) | None ↦ None ] ≡ Some after → advance (other ∷ parts) t ≡ Some after
unfolding advance
lifted part other parts after t wider (Some first) is e = rw (wider t first is, advance) e
lifted part other parts after t wider None is e = never e

pub lift : {part other : Part} {parts : List Part} {ts : List Token} → Wider part other → Spells (part ∷ parts) ts → Spells (other ∷ parts) ts
unfolding advance
lift {ts = []} wider s = elim s [ ]
lift {part = part} {other = other} {parts = parts} {ts = t ∷ ts} wider (goes_on {after = after} e s) = goes_on (lifted part other parts after t wider (turn part t) refl e) s
