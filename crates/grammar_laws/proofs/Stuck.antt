-- Where the table is stuck, no program goes on.
use Rattle.std.proofs.Common.{◌≡◌, List, [], ◌∷◌, ◌++◌, Option, Some, None, refl, sym, ap, append-nil}
use Rattle.std.proofs.lemmas.Option.{same_Some}
use Rattle.thread_tree.specs.declared.token.Placed.{Placed}
use Rattle.thread_tree.specs.declared.token.Token.{Token}
use Rattle.thread_tree.specs.Grammar.{advance, Spells, goes_on, IsProgram}
use Rattle.grammar_laws.specs.Open.{bare, owed, HasProgram, MayBecome}
use Rattle.thread_tree.specs.Parts.{Part}
use Rattle.grammar_laws.proofs.Table.{never}
use Rattle.grammar_laws.proofs.CompletePrograms.{complete}

-- places go with their tokens
pub bare_append : (front rest : List Placed) → bare (front ++ rest) ≡ bare front ++ bare rest
bare_append [] rest = refl
bare_append (p ∷ ps) rest = ap (λ ts. p.token ∷ ts) (bare_append ps rest)

-- what the first of some tokens left
pub record Left (parts : List Part) (t : Token) (ts : List Token) (after : List Part) : Type 0 where
  pub middle : List Part
  pub first : advance parts t ≡ Some middle
  pub rest : owed middle ts ≡ Some after

left_cases : (parts after : List Part) (t : Token) (ts : List Token) (found : Option (List Part)) → advance parts t ≡ found → elim found [ Some middle ↦ owed middle ts | None ↦ None ] ≡ Some after → Left parts t ts after
left_cases parts after t ts (Some middle) e h = record { middle = middle; first = e; rest = h }
left_cases parts after t ts None e h = never h

pub left : (parts after : List Part) (t : Token) (ts : List Token) → owed parts (t ∷ ts) ≡ Some after → Left parts t ts after
left parts after t ts h = left_cases parts after t ts (advance parts t) refl h

-- what is owed after the first tokens is what the rest pays
pub pays : (parts after : List Part) (front more : List Token) → owed parts front ≡ Some after → Spells after more → Spells parts (front ++ more)
pays parts after [] more h s = rw (same_Some parts after h) s
pays parts after (t ∷ ts) more h s = let l = left parts after t ts h in goes_on l.first (pays l.middle after ts more l.rest s)

pub pays_rest : (parts after : List Part) (front more : List Token) → owed parts front ≡ Some after → Spells parts (front ++ more) → Spells after more
pays_rest parts after [] more h s = rw (sym (same_Some parts after h)) s
pays_rest parts after (t ∷ ts) more h (goes_on {after = next} e s) =
    let l = left parts after t ts h in
    pays_rest l.middle after ts more l.rest (rw (same_Some l.middle next (cc (l.first, e))) s)

-- a token that can't stand
pub refused : (parts : List Part) (t : Token) (ts : List Token) → advance parts t ≡ None → Spells parts (t ∷ ts) → ⊥
refused parts t ts h (goes_on e s) = never (rw h at e)

-- an end before what is owed
pub unpaid : (part : Part) (parts : List Part) → Spells (part ∷ parts) [] → ⊥
unpaid part parts s = elim s [ ]

whole : (front rest : List Placed) (t : Placed) → bare ((front ++ t ∷ []) ++ rest) ≡ bare front ++ (t.token ∷ bare rest)
whole [] rest t = refl
whole (p ∷ ps) rest t = ap (λ ts. p.token ∷ ts) (whole ps rest t)

-- with the token at which the table is stuck no program begins
pub stuck_begins_none : (front : List Placed) (t : Placed) (parts : List Part) → owed [] (bare front) ≡ Some parts → advance parts t.token ≡ None → MayBecome (front ++ t ∷ []) → ⊥
stuck_begins_none front t parts h none (rest, (ds, program)) =
    let all : IsProgram (bare ((front ++ t ∷ []) ++ rest)) = complete _ _ program in
    let parted : IsProgram (bare front ++ (t.token ∷ bare rest)) = rw (whole front rest t) at all in
    refused parts t.token (bare rest) none (pays_rest [] parts (bare front) (t.token ∷ bare rest) h parted)

-- tokens that owe something are no program
pub owing_is_none : (tokens : List Placed) (part : Part) (parts : List Part) → owed [] (bare tokens) ≡ Some (part ∷ parts) → HasProgram tokens → ⊥
owing_is_none tokens part parts h (ds, program) =
    unpaid part parts (pays_rest [] (part ∷ parts) (bare tokens) [] h (rw (append-nil) (complete tokens _ program)))
