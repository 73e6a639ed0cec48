-- The first step of a way, over the first token, and the count of a print's items.
use Rattle.std.proofs.Common.{◌≡◌, ℕ, ◌==◌, ◌&&◌, arith, Bool, true, false, if◌then◌else◌, List, [], ◌∷◌, ◌++◌, Some, append_assoc, append-nil, refl, sym, ap, ◌∙◌, subst}
use Rattle.std.proofs.lemmas.Bool.Decides.{nat_tests}
use Rattle.thread_tree.specs.declared.place.Place.{Place}
use Rattle.thread_tree.specs.declared.token.Placed.{Placed}
use Rattle.thread_tree.specs.declared.token.Token.{Token}
use Rattle.thread_tree.specs.Spelling.{Takes}
use Rattle.thread_tree.specs.SpellingOfCalls.{BeginsAt}
use Rattle.thread_check.specs.declared.fault.CheckFault.{CheckFault}
use Rattle.thread_check.specs.declared.fault.CheckFault.TheVariants.{UnknownName, TwiceNamed, NotAllowedHere, WrongCount, OutOfRange, TooMany, NoMemory}
use Rattle.thread_check.specs.Verdict.{same_place, stands_at}
use Rattle.fault_places.specs.Order.{IsBefore, on_earlier_line, on_its_line, AreBehind, also_behind, IsRising, before_others, place_of}
use Rattle.fault_places.specs.OfCalls.{counted_faults}
use Rattle.fault_places.specs.Met.{AreAt, no_more_at, also_at, AreMet, arrived, at_token}
use Rattle.fault_places.proofs.Ways.{AreIn, in_none, in_also, raised, at_both, all_at, Meets, none_met, taken, then_way}

-- a way over a first token
pub record StepsFrom (before after : List Placed) (faults : List CheckFault) : Type 0 where
  pub first : Placed
  pub rest : List Placed
  pub begins : before ≡ first ∷ rest
  pub there : List CheckFault
  pub further : List CheckFault
  pub here : AreIn first.place 5 0 there
  pub way : Meets rest after further
  pub split : faults ≡ there ++ further

pub over : {t : Placed} {a b c : List Placed} {fs gs : List CheckFault} → a ≡ t ∷ b → AreIn t.place 5 0 fs → Meets b c gs → StepsFrom a c (fs ++ gs)
over {t} {b} {fs} {gs} begins here way = record { first = t; rest = b; begins = begins; there = fs; further = gs; here = here; way = way; split = refl }

pub first_step : {t : Token} {place : Place} {a b c : List Placed} {fs gs : List CheckFault} → Takes t place a b → AreIn place 2 0 fs → Meets b c gs → StepsFrom a c (fs ++ gs)
first_step takes here way = over takes.first (raised 5 (omega arith) here) way

pub last_step : {t : Token} {place : Place} {a b : List Placed} {fs : List CheckFault} → Takes t place a b → AreIn place 2 0 fs → StepsFrom a b fs
last_step {a} {b} {fs} takes here = subst (λ faults. StepsFrom a b faults) (append-nil fs) (first_step takes here none_met)

-- with a way behind it
pub step_then : {a b c : List Placed} {fs gs : List CheckFault} → StepsFrom a b fs → Meets b c gs → StepsFrom a c (fs ++ gs)
step_then {gs} s way = record {
  first = s.first;
  rest = s.rest;
  begins = s.begins;
  there = s.there;
  further = s.further ++ gs;
  here = s.here;
  way = then_way s.way way;
  split = ap (λ faults. faults ++ gs) s.split ∙ append_assoc s.there s.further gs;
}

-- faults that stand behind a place
pub data AreLater (place : Place) : List CheckFault → Type 0 where
  no_more_later : AreLater place []
  also_later : {q : Place} {fault : CheckFault} {rest : List CheckFault} → IsBefore place q → place_of fault ≡ Some q → AreLater place rest → AreLater place (fault ∷ rest)

later_both : {p : Place} {fs gs : List CheckFault} → AreLater p fs → AreLater p gs → AreLater p (fs ++ gs)
later_both no_more_later more = more
later_both (also_later before stands rest) more = also_later before stands (later_both rest more)

at_later : {p q : Place} {fs : List CheckFault} → IsBefore p q → AreAt q fs → AreLater p fs
at_later before no_more_at = no_more_later
at_later before (also_at stands first rest) = also_later before stands (at_later before rest)

-- faults that are met at tokens behind a place stand behind it
pub met_later : {p : Place} {a b : List Placed} {fs : List CheckFault} → AreBehind p a → AreMet a b fs → AreLater p fs
met_later behind arrived = no_more_later
met_later {p} (also_behind before more) (at_token {there} {further} here way e) =
    subst (λ faults. AreLater p faults) (sym e) (later_both (at_later before here) (met_later more way))

both_hold : (a b : Bool) → (a && b) ≡ true → (a ≡ true) × (b ≡ true)
both_hold true true h = (refl, refl)
both_hold true false h = absurd (let wrong : false ≡ true = h in cc)
both_hold false b h = absurd (let wrong : false ≡ true = h in cc)

-- a fault that stands at a place
same_test : (a b : Place) → same_place a b ≡ true → a ≡ b
same_test a b holds =
    let tests = both_hold (a.line == b.line) (a.column == b.column) holds in
    let first = tests.0 in
    let second = tests.1 in
    let line : a.line ≡ b.line = grind (arith, nat_tests) in
    let column : a.column ≡ b.column = grind (arith, nat_tests) in
    λ i. record { line = line i; column = column i }

there : (place : Place) (fault : CheckFault) → stands_at place fault ≡ true → place_of fault ≡ Some place
unfolding stands_at place_of
there place (UnknownName at) holds = ap Some (same_test at place holds)
there place (TwiceNamed at) holds = ap Some (same_test at place holds)
there place (NotAllowedHere at) holds = ap Some (same_test at place holds)
there place (WrongCount at) holds = ap Some (same_test at place holds)
there place (OutOfRange at number) holds = ap Some (same_test at place holds)
there place (TooMany at counted number) holds = ap Some (same_test at place holds)
there place NoMemory holds = absurd (let wrong : false ≡ true = holds in cc)

-- and the other way round
same_itself : (p : Place) → same_place p p ≡ true
same_itself p =
    let line : (p.line == p.line) ≡ true = grind (arith, nat_tests) in
    let column : (p.column == p.column) ≡ true = grind (arith, nat_tests) in
    rw (line, column) refl

at_same : (a place : Place) → Some a ≡ Some place → same_place a place ≡ true
at_same a place e = let is : a ≡ place = cc in rw is (same_itself place)

stands_there : (place : Place) (fault : CheckFault) → place_of fault ≡ Some place → stands_at place fault ≡ true
unfolding stands_at place_of
stands_there place (UnknownName at) e = at_same at place e
stands_there place (TwiceNamed at) e = at_same at place e
stands_there place (NotAllowedHere at) e = at_same at place e
stands_there place (WrongCount at) e = at_same at place e
stands_there place (OutOfRange at number) e = at_same at place e
stands_there place (TooMany at counted number) e = at_same at place e
stands_there place NoMemory e = absurd (cc)

apart : {p q : Place} → IsBefore p q → p ≡ q → ⊥
apart (on_earlier_line a) e = let line = ap (λ x. x.line) e in omega arith
apart (on_its_line a b) e = let column = ap (λ x. x.column) e in omega arith

by_choice : (b : Bool) (xs ys : List CheckFault) → (b ≡ true → ⊥) → (if b then xs else ys) ≡ ys
by_choice true xs ys never = absurd (never refl)
by_choice false xs ys never = refl

-- the fault of a count goes behind the faults at the first token
counted_is : (place : Place) {most least : ℕ} (limit : List CheckFault) {fs gs : List CheckFault} → AreIn place most least fs → AreLater place gs → counted_faults place limit (fs ++ gs) ≡ (fs ++ limit) ++ gs
counted_is place limit (in_none e) no_more_later = sym (append-nil limit)
counted_is place limit (in_none e) (also_later {q} {fault} {rest} before stands more) =
    by_choice (stands_at place fault) _ _ (λ here. apart before (the_place (sym (there place fault here) ∙ stands))) where
      the_place : {x y : Place} → Some x ≡ Some y → x ≡ y
      the_place same = cc
counted_is place limit (in_also {fault} {rest} stands e more) later =
    rw (stands_there place fault stands) (ap (λ faults. fault ∷ faults) (counted_is place limit more later))

-- the first tokens of one list
one_first : {a : List Placed} {t u : Placed} {r q : List Placed} → a ≡ t ∷ r → a ≡ u ∷ q → t.place ≡ u.place
one_first {t} {u} e f = let same : t ≡ u = cc in ap (λ x. x.place) same

-- an item with the count of items
pub counted_met : {a c : List Placed} (place : Place) (limit fs : List CheckFault) → AreIn place 5 5 limit → BeginsAt place a → StepsFrom a c fs → Meets a c (counted_faults place limit fs)
counted_met {a} {c} place limit fs here at s =
    let is = one_first s.begins at.first.first in
    let at_place = subst (λ p. AreIn p 5 0 s.there) is s.here in
    let group = subst (λ p. AreAt p (s.there ++ limit)) (sym is) (all_at (at_both at_place here)) in
    let whole = taken s.begins group s.way in
    record {
      way = λ r.
          let rising = subst IsRising s.begins r in
          let later = subst (λ p. AreLater p s.further) is (further_later rising s.way) in
          subst (λ faults. AreMet a c faults) (sym (ap (counted_faults place limit) s.split ∙ counted_is place limit at_place later)) (whole.way r);
      rises = whole.rises;
    } where
      further_later : {t : Placed} {rest b : List Placed} {gs : List CheckFault} → IsRising (t ∷ rest) → Meets rest b gs → AreLater t.place gs
      further_later (before_others behind rising) m = met_later behind (m.way rising)
