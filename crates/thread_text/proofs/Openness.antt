-- What the fate of tokens says of what the table owes.
use Rattle.std.proofs.Common.{◌≡◌, ◌∙◌, ap, sym, refl, List, [], ◌∷◌, ◌++◌, Option, Some, None, append-nil}
use Rattle.thread_tree.specs.declared.token.Placed.{Placed}
use Rattle.thread_tree.specs.declared.token.Token.{Token}
use Rattle.thread_tree.specs.Grammar.{turn, declared, advance}
use Rattle.thread_tree.specs.Parts.{Part}
use Rattle.grammar_laws.specs.Open.{bare, owed}
use Rattle.thread_text.specs.Bounds.{Counts, counted}
use Rattle.thread_text.specs.Fate.{Fate, Whole, StuckAt, LongAt, Step, Goes, Stuck, Long, judged, step, fate}

-- a step goes on just where the table does
judged_goes : (first : Option (List Part)) (c : Option Counts) (parts after : List Part) (c' : Counts) → judged first c parts ≡ Goes after c' → (elim first [ Some f ↦ Some (f ++ parts) | None ↦ None ]) ≡ Some after
unfolding judged
judged_goes (Some f) (Some c) parts after c' h = cc
judged_goes (Some f) None parts after c' h = cc
judged_goes None (Some c) parts after c' h = cc
judged_goes None None parts after c' h = cc

judged_stuck : (first : Option (List Part)) (c : Option Counts) (parts : List Part) → judged first c parts ≡ Stuck → first ≡ None
unfolding judged
judged_stuck (Some f) (Some c) parts h = cc
judged_stuck (Some f) None parts h = cc
judged_stuck None c parts h = refl

judged_long : (first : Option (List Part)) (c : Option Counts) (parts : List Part) → judged first c parts ≡ Long → (f : List Part) × (first ≡ Some f)
unfolding judged
judged_long (Some f) (Some c) parts h = absurd (cc)
judged_long (Some f) None parts h = (f, refl)
judged_long None (Some c) parts h = absurd (cc)
judged_long None None parts h = absurd (cc)

step_goes : (parts : List Part) (c : Counts) (t : Token) (after : List Part) (c' : Counts) → step parts c t ≡ Goes after c' → advance parts t ≡ Some after
unfolding step advance
step_goes [] c t after c' h = go (declared t) h where
  go : (o : Option (List Part)) → judged o (Some c) [] ≡ Goes after c' → o ≡ Some after
  go (Some f) e = ap (λ l. Some l) (sym (append-nil f)) ∙ judged_goes (Some f) (Some c) [] after c' e
  go None e = judged_goes None (Some c) [] after c' e
step_goes (part ∷ parts) c t after c' h = judged_goes (turn part t) (counted part t c) parts after c' h

step_stuck : (parts : List Part) (c : Counts) (t : Token) → step parts c t ≡ Stuck → advance parts t ≡ None
unfolding step advance
step_stuck [] c t h = judged_stuck (declared t) (Some c) [] h
step_stuck (part ∷ parts) c t h = ap (λ o. elim o [ Some f ↦ Some (f ++ parts) | None ↦ None ]) (judged_stuck (turn part t) (counted part t c) parts h)

step_long : (parts : List Part) (c : Counts) (t : Token) → step parts c t ≡ Long → (after : List Part) × (advance parts t ≡ Some after)
unfolding step advance
step_long [] c t h = judged_long (declared t) (Some c) [] h
step_long (part ∷ parts) c t h =
    let g = judged_long (turn part t) (counted part t c) parts h in
    (g.0 ++ parts, ap (λ (o : Option (List Part)). elim o as (λ x. Option (List Part)) [ Some f ↦ Some (f ++ parts) | None ↦ None ]) g.1)

-- what a step leads to
unfoldable stepped : Step → Placed → List Placed → Fate
stepped (Goes after counts) t ts = fate after counts ts
stepped Stuck t ts = StuckAt (t ∷ ts)
stepped Long t ts = LongAt (t ∷ ts)

fate_stepped : (parts : List Part) (c : Counts) (t : Placed) (ts : List Placed) → fate parts c (t ∷ ts) ≡ stepped (step parts c t.token) t ts
unfolding fate
fate_stepped [] c t ts = go (step [] c t.token) where
  go : (s : Step) → (elim s [ Goes after counts ↦ fate after counts ts | Stuck ↦ StuckAt (t ∷ ts) | Long ↦ LongAt (t ∷ ts) ]) ≡ stepped s t ts
  go (Goes after counts) = unfold stepped in refl
  go Stuck = unfold stepped in refl
  go Long = unfold stepped in refl
fate_stepped (part ∷ parts) c t ts = go (step (part ∷ parts) c t.token) where
  go : (s : Step) → (elim s [ Goes after counts ↦ fate after counts ts | Stuck ↦ StuckAt (t ∷ ts) | Long ↦ LongAt (t ∷ ts) ]) ≡ stepped s t ts
  go (Goes after counts) = unfold stepped in refl
  go Stuck = unfold stepped in refl
  go Long = unfold stepped in refl

-- how far tokens are read, and what is owed there
pub data Came (parts : List Part) (tokens : List Placed) : Fate → Type 0 where
  all_read : owed parts (bare tokens) ≡ Some [] → Came parts tokens Whole
  used_up : (part : Part) (rest : List Part) → owed parts (bare tokens) ≡ Some (part ∷ rest) → Came parts tokens (StuckAt [])
  stuck : (front : List Placed) (after : List Part) {behind : List Placed} {t : Placed} → tokens ≡ front ++ t ∷ behind → owed parts (bare front) ≡ Some after → advance after t.token ≡ None → Came parts tokens (StuckAt (t ∷ behind))
  long : (front : List Placed) (after : List Part) {behind : List Placed} {t : Placed} → tokens ≡ front ++ t ∷ behind → owed parts (bare (front ++ t ∷ [])) ≡ Some after → Came parts tokens (LongAt (t ∷ behind))

owed_on : (parts after : List Part) (t : Token) (ts : List Token) (o : Option (List Part)) → advance parts t ≡ Some after → owed after ts ≡ o → owed parts (t ∷ ts) ≡ o
owed_on parts after t ts o goes h = rw (goes, owed) h

went : {parts after : List Part} {t : Placed} {ts : List Placed} {f : Fate} → advance parts t.token ≡ Some after → Came after ts f → Came parts (t ∷ ts) f
went {parts} {after} {t} {ts} goes (all_read h) = all_read (owed_on parts after t.token (bare ts) _ goes h)
went {parts} {after} {t} {ts} goes (used_up part rest h) = used_up part rest (owed_on parts after t.token (bare ts) _ goes h)
went {parts} {after} {t} goes (stuck front left e h none) = stuck (t ∷ front) left (ap (λ l. t ∷ l) e) (owed_on parts after t.token (bare front) _ goes h) none
went {parts} {after} {t} goes (long front left {t = u} e h) = long (t ∷ front) left (ap (λ l. t ∷ l) e) (owed_on parts after t.token (bare (front ++ u ∷ [])) _ goes h)

by_step : (parts : List Part) (c : Counts) (t : Placed) (ts : List Placed) (s : Step) → step parts c t.token ≡ s → ((after : List Part) (counts : Counts) → Came after ts (fate after counts ts)) → Came parts (t ∷ ts) (stepped s t ts)
unfolding stepped
by_step parts c t ts (Goes after counts) e rest = went (step_goes parts c t.token after counts e) (rest after counts)
by_step parts c t ts Stuck e rest = stuck [] parts refl refl (step_stuck parts c t.token e)
by_step parts c t ts Long e rest = let g = step_long parts c t.token e in long [] g.0 refl (owed_on parts g.0 t.token [] _ g.1 refl)

none_left : (parts : List Part) (c : Counts) → Came parts [] (fate parts c [])
unfolding fate
none_left [] c = all_read refl
none_left (part ∷ parts) c = used_up part parts refl

pub came : (parts : List Part) (c : Counts) (tokens : List Placed) → Came parts tokens (fate parts c tokens)
came parts c [] = none_left parts c
came parts c (t ∷ ts) = rw (fate_stepped parts c t ts) (by_step parts c t ts (step parts c t.token) refl (λ after counts. came after counts ts))
