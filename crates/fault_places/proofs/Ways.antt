-- Ways along the tokens, one behind another.
use Rattle.std.proofs.Common.{◌≡◌, ℕ, ◌≤◌, Bool, true, false, if◌then◌else◌, List, [], ◌∷◌, ◌++◌, Some, Ok, Err, append_assoc, append-nil, subst, refl, sym, ap, arith, ◌∙◌}
use Rattle.thread_tree.specs.declared.place.Place.{Place}
use Rattle.thread_tree.specs.declared.token.Placed.{Placed}
use Rattle.thread_tree.specs.declared.token.Token.{Token}
use Rattle.thread_tree.specs.Spelling.{Takes, TakesAny}
use Rattle.thread_check.specs.declared.fault.CheckFault.{CheckFault}
use Rattle.thread_check.specs.Verdict.{Verdict, fine}
use Rattle.fault_places.specs.Order.{IsRising, before_others, place_of, rank_of, first_in_table, ComesFirst, before_none, before_one}
use Rattle.fault_places.specs.Met.{AreAt, no_more_at, also_at, AreMet, arrived, at_token}
use Rattle.fault_places.specs.Found.{found_by}

-- faults at one place in the order of the table, with ranks from the least to the most
pub data AreIn (place : Place) (most : ℕ) : ℕ → List CheckFault → Type 0 where
  in_none : {least : ℕ} → least ≤ most → AreIn place most least []
  in_also : {least : ℕ} {fault : CheckFault} {rest : List CheckFault} → place_of fault ≡ Some place → least ≤ rank_of fault → AreIn place most (rank_of fault) rest → AreIn place most least (fault ∷ rest)

lowered : {place : Place} {most : ℕ} (low least : ℕ) {fs : List CheckFault} → low ≤ least → AreIn place most least fs → AreIn place most low fs
lowered low least below (in_none e) = in_none (omega arith)
lowered low least below (in_also stands e rest) = in_also stands (omega arith) rest

pub raised : {place : Place} {most least : ℕ} (high : ℕ) {fs : List CheckFault} → most ≤ high → AreIn place most least fs → AreIn place high least fs
raised high above (in_none e) = in_none (omega arith)
raised high above (in_also stands e rest) = in_also stands e (raised high above rest)

-- faults at one place, and more there
pub at_both : {place : Place} {middle low high : ℕ} {fs gs : List CheckFault} → AreIn place middle low fs → AreIn place high middle gs → AreIn place high low (fs ++ gs)
at_both {middle} {low} (in_none e) more = lowered low middle e more
at_both (in_also stands e rest) more = in_also stands e (at_both rest more)

comes_first : {place : Place} {most : ℕ} (fault : CheckFault) (least : ℕ) {fs : List CheckFault} → place_of fault ≡ Some place → rank_of fault ≤ least → AreIn place most least fs → ComesFirst fault fs
comes_first fault least stands below (in_none e) = before_none
comes_first fault least stands below (in_also {fault = other} it e rest) =
    before_one (first_in_table stands it (omega arith)) (comes_first fault (rank_of other) stands (omega arith) rest)

pub all_at : {place : Place} {most least : ℕ} {fs : List CheckFault} → AreIn place most least fs → AreAt place fs
all_at (in_none e) = no_more_at
all_at (in_also {fault} stands e rest) = also_at stands (comes_first fault (rank_of fault) stands (omega arith) rest) (all_at rest)

-- a verdict's fault stands at a place and has a rank
abbrev pub GivesAt : Place → ℕ → ℕ → Verdict → Type 0
GivesAt place most least (Ok u) = least ≤ most
GivesAt place most least (Err fault) = (place_of fault ≡ Some place) × (least ≤ rank_of fault) × (rank_of fault ≤ most)

pub found_at : {place : Place} {most least : ℕ} (v : Verdict) → GivesAt place most least v → AreIn place most least (found_by v)
found_at (Ok u) stands = in_none stands
found_at (Err fault) stands = in_also stands.0 stands.1 (in_none stands.2)

pub if_not : {place : Place} {most least : ℕ} (b : Bool) (fault : CheckFault) → least ≤ most → GivesAt place most least (Err fault) → GivesAt place most least (if b then fine else Err fault)
if_not true fault span stands = span
if_not false fault span stands = stands

pub if_so : {place : Place} {most least : ℕ} (b : Bool) (fault : CheckFault) → least ≤ most → GivesAt place most least (Err fault) → GivesAt place most least (if b then Err fault else fine)
if_so true fault span stands = stands
if_so false fault span stands = span

-- along rising tokens these faults are met, and the tokens that are left rise
pub record Meets (before after : List Placed) (faults : List CheckFault) : Type 0 where
  pub way : IsRising before → AreMet before after faults
  pub rises : IsRising before → IsRising after

pub others_rise : {t : Placed} {rest : List Placed} → IsRising (t ∷ rest) → IsRising rest
others_rise (before_others behind rising) = rising

pub none_met : {here : List Placed} → Meets here here []
none_met = record { way = λ r. arrived; rises = λ r. r }

-- a token at which these faults stand, and then a way
pub taken : {t : Placed} {a b c : List Placed} {fs gs : List CheckFault} → a ≡ t ∷ b → AreAt t.place fs → Meets b c gs → Meets a c (fs ++ gs)
taken {t} {a} {b} {c} {fs} {gs} begins here m = record {
  way = λ r. subst (λ x. AreMet x c (fs ++ gs)) (sym begins) (at_token here (m.way (others_rise (subst IsRising begins r))) refl);
  rises = λ r. m.rises (others_rise (subst IsRising begins r));
}

-- a way and then another
joined_way : {a b c : List Placed} {fs gs : List CheckFault} → AreMet a b fs → AreMet b c gs → AreMet a c (fs ++ gs)
joined_way arrived way = way
joined_way {gs = gs} (at_token {there} {further} here rest e) way =
    at_token here (joined_way rest way) (ap (λ faults. faults ++ gs) e ∙ append_assoc there further gs)

pub then_way : {a b c : List Placed} {fs gs : List CheckFault} → Meets a b fs → Meets b c gs → Meets a c (fs ++ gs)
then_way m n = record { way = λ r. joined_way (m.way r) (n.way (m.rises r)); rises = λ r. n.rises (m.rises r) }

pub meet : {t : Token} {place : Place} {most least : ℕ} {a b c : List Placed} {fs gs : List CheckFault} → Takes t place a b → AreIn place most least fs → Meets b c gs → Meets a c (fs ++ gs)
meet takes here m = taken takes.first (all_at here) m

-- the same at the end of a part
pub meet_last : {t : Token} {place : Place} {most least : ℕ} {a b : List Placed} {fs : List CheckFault} → Takes t place a b → AreIn place most least fs → Meets a b fs
meet_last {a = a} {b = b} {fs = fs} takes here = subst (λ faults. Meets a b faults) (append-nil fs) (meet takes here none_met)

-- a token at which no fault stands, and then a way
pub skip : {t : Token} {a b c : List Placed} {fs : List CheckFault} → TakesAny t a b → Meets b c fs → Meets a c fs
skip takes m = taken takes.first no_more_at m

-- a token whose place no rule names
pub skip_placed : {t : Token} {place : Place} {a b c : List Placed} {fs : List CheckFault} → Takes t place a b → Meets b c fs → Meets a c fs
skip_placed takes m = taken takes.first no_more_at m

-- a way, and then a token at which no fault stands
pub then_last : {t : Token} {a b c : List Placed} {fs : List CheckFault} → Meets a b fs → TakesAny t b c → Meets a c fs
then_last {a = a} {c = c} {fs = fs} m takes = subst (λ faults. Meets a c faults) (append-nil fs) (then_way m (skip takes none_met))
