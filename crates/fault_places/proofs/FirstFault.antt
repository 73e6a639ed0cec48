-- The first fault of a program is the earliest.
use Rattle.std.proofs.Common.{◌≡◌, ℕ, List, [], ◌∷◌, ◌++◌, Some, None, refl, sym, ap, subst, arith, ◌∙◌}
use Rattle.thread_tree.specs.declared.place.Place.{Place}
use Rattle.thread_tree.specs.declared.token.Placed.{Placed}
use Rattle.thread_tree.specs.declared.tree.Tree.{Tree}
use Rattle.thread_tree.specs.SpellingOfDeclarations.{SpellsDecl, SpellsProgram}
use Rattle.thread_tree.specs.declared.tree.Decl.{Decl}
use Rattle.thread_tokens.specs.Scan.{scan_of}
use Rattle.thread_check.specs.declared.fault.CheckFault.{CheckFault}
use Rattle.thread_check.specs.declared.fault.CheckFault.TheVariants.{UnknownName, TwiceNamed, NotAllowedHere, WrongCount, OutOfRange, TooMany, NoMemory}
use Rattle.thread_check.specs.Names.{Names}
use Rattle.thread_check.specs.Faults.{no_names, fault_of, IsTold}
use Rattle.fault_places.specs.Order.{IsRising, before_others, place_of, stands_before, first_in_table, ComesFirst, before_none, before_one, AreInOrder, no_more_faults, in_order}
use Rattle.fault_places.specs.Met.{AreAt, no_more_at, also_at, AreMet, arrived, at_token}
use Rattle.fault_places.specs.Found.{first_of}
use Rattle.fault_places.specs.OfDeclarations.{declaration_walk, faults_of}
use Rattle.fault_places.specs.Earliest.{IsEarliest}
use Rattle.fault_places.proofs.Answers.{first_is}
use Rattle.fault_places.proofs.Steps.{AreLater, no_more_later, also_later, met_later}
use Rattle.fault_places.proofs.Declarations.{declaration_walked, declarations_give, declarations_met}
use Rattle.fault_places.proofs.Scanning.{text_rises}

-- the fault that is answered is the first of all
pub first_fault : (tokens : List Placed) (tree : Tree) → SpellsProgram tokens tree.decls → fault_of tree ≡ first_of (faults_of tree)
unfolding fault_of faults_of
first_fault tokens tree spelled = first_is (declarations_give spelled no_names 0)

-- all faults are met along the tokens
pub faults_met : (tokens : List Placed) (tree : Tree) → SpellsProgram tokens tree.decls → IsRising tokens → AreMet tokens [] (faults_of tree)
unfolding faults_of
faults_met tokens tree spelled rising = (declarations_met spelled no_names 0).way rising

-- the faults of a declaration, whatever names are in scope
pub one_declaration_met : (before after : List Placed) (d : Decl) (names : Names) (loops : ℕ) → SpellsDecl before after d → IsRising before → AreMet before after (declaration_walk names loops d).faults
one_declaration_met before after d names loops spelled rising = ((declaration_walked spelled).met names loops).way rising

-- a fault comes before those that stand behind its place
before_later : {p : Place} (fault : CheckFault) {gs : List CheckFault} → place_of fault ≡ Some p → AreLater p gs → ComesFirst fault gs
before_later fault stands no_more_later = before_none
before_later fault stands (also_later before it rest) = before_one (stands_before stands it before) (before_later fault stands rest)

first_of_both : (fault : CheckFault) {fs gs : List CheckFault} → ComesFirst fault fs → ComesFirst fault gs → ComesFirst fault (fs ++ gs)
first_of_both fault before_none more = more
first_of_both fault (before_one one rest) more = before_one one (first_of_both fault rest more)

-- faults at one place, and then faults behind it
then_later : {p : Place} {fs gs : List CheckFault} → AreAt p fs → AreLater p gs → AreInOrder gs → AreInOrder (fs ++ gs)
then_later no_more_at later order = order
then_later (also_at {fault} stands first rest) later order = in_order (first_of_both fault first (before_later fault stands later)) (then_later rest later order)

-- faults that are met along rising tokens are in order
pub met_in_order : {a b : List Placed} {fs : List CheckFault} → IsRising a → AreMet a b fs → AreInOrder fs
met_in_order rising arrived = no_more_faults
met_in_order (before_others behind rising) (at_token {there} {further} here way e) =
    subst AreInOrder (sym e) (then_later here (met_later behind way) (met_in_order rising way))

head_is : {x y : CheckFault} {xs ys : List CheckFault} → x ∷ xs ≡ y ∷ ys → x ≡ y
head_is e = cc

the_fault : {x y : CheckFault} → Some x ≡ Some y → x ≡ y
the_fault e = cc

-- each fault that is met stands somewhere
met_stands : {a b : List Placed} {fs : List CheckFault} (fault : CheckFault) (rest : List CheckFault) → fs ≡ fault ∷ rest → AreMet a b fs → (p : Place) × (place_of fault ≡ Some p)
met_stands fault rest is arrived = absurd (cc)
met_stands fault rest is (at_token no_more_at way e) = met_stands fault rest (sym e ∙ is) way
met_stands fault rest is (at_token {t} (also_at {fault = found} stands first more) way e) =
    let same : found ≡ fault = head_is (sym e ∙ is) in (t.place, ap place_of (sym same) ∙ stands)

-- the first of faults in order comes no later than any
earliest_of : (fault : CheckFault) (fs : List CheckFault) {a b : List Placed} → AreInOrder fs → AreMet a b fs → first_of fs ≡ Some fault → IsEarliest fault fs
earliest_of fault [] order met is = absurd (cc)
earliest_of fault (found ∷ rest) (in_order first order) met is =
    let same : found ≡ fault = the_fault is in
    let stands = met_stands fault rest (ap (λ f. f ∷ rest) same) met in
    record {
      place = stands.0;
      stands = stands.1;
      others = rest;
      is_first = ap (λ f. f ∷ rest) same;
      none_before = before_one (first_in_table stands.1 (ap place_of same ∙ stands.1) (rw same (omega arith))) (subst (λ f. ComesFirst f rest) same first);
    }

pub earliest_fault : (text : List ℕ) (tree : Tree) (fault : CheckFault) → SpellsProgram (scan_of text).tokens tree.decls → fault_of tree ≡ Some fault → IsEarliest fault (faults_of tree)
earliest_fault text tree fault spelled found =
    let met = faults_met _ tree spelled (text_rises text) in
    earliest_of fault (faults_of tree) (met_in_order (text_rises text) met) met (sym (first_fault _ tree spelled) ∙ found)

-- the faults of a text's program are in order
pub faults_in_order : (text : List ℕ) (tree : Tree) → SpellsProgram (scan_of text).tokens tree.decls → AreInOrder (faults_of tree)
faults_in_order text tree spelled = met_in_order (text_rises text) (faults_met _ tree spelled (text_rises text))

-- what is told of a program, and stands somewhere, is its earliest fault
pub told_fault : (text : List ℕ) (tree : Tree) (fault : CheckFault) (place : Place) → SpellsProgram (scan_of text).tokens tree.decls → IsTold (fault_of tree) fault → place_of fault ≡ Some place → IsEarliest fault (faults_of tree)
unfolding place_of
told_fault text tree (UnknownName at) place spelled told stands = earliest_fault text tree (UnknownName at) spelled told
told_fault text tree (TwiceNamed at) place spelled told stands = earliest_fault text tree (TwiceNamed at) spelled told
told_fault text tree (NotAllowedHere at) place spelled told stands = earliest_fault text tree (NotAllowedHere at) spelled told
told_fault text tree (WrongCount at) place spelled told stands = earliest_fault text tree (WrongCount at) spelled told
told_fault text tree (OutOfRange at number) place spelled told stands = earliest_fault text tree (OutOfRange at number) spelled told
told_fault text tree (TooMany at counted number) place spelled told stands = earliest_fault text tree (TooMany at counted number) spelled told
told_fault text tree NoMemory place spelled told stands = absurd (cc)

no_first : (fs : List CheckFault) → first_of fs ≡ None → fs ≡ []
no_first [] is = refl
no_first (fault ∷ rest) is = absurd (cc)

-- a program of which no fault is told has none
pub no_faults : (tokens : List Placed) (tree : Tree) → SpellsProgram tokens tree.decls → fault_of tree ≡ None → faults_of tree ≡ []
no_faults tokens tree spelled none_told = no_first (faults_of tree) (sym (first_fault tokens tree spelled) ∙ none_told)
