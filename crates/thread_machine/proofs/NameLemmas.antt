-- The names of locals: new values keep them, and a call declares those of its parameters.
use Rattle.std.proofs.Common.{◌≡◌, ℕ, ◌≤◌, List, [], ◌∷◌, ◌++◌, length, take, drop, Bool, true, false, Option, Some, None, refl, ap, sym, ◌∙◌, arith}
use Rattle.std.specs.Prelude.{◌==◌, if◌then◌else◌}
use Rattle.std.proofs.lemmas.List.{map-append, take-append-drop, take_all}
use Rattle.std.proofs.lemmas.Bool.Decides.{nat_tests}
use Rattle.thread_tree.specs.declared.local.Local.{Local}
use Rattle.thread_tree.specs.Actions.{names_in}
use Rattle.thread_tree.specs.LocalState.{named, with_value, with_values}
use Rattle.thread_machine.specs.Context.{given_slots}

names_either : (x : Local) (name value : ℕ) (xs ys : List Local) (b : Bool) → (x.name == name) ≡ b → names_in ys ≡ names_in xs → names_in (if b then record { name = name; value = value } ∷ xs else x ∷ ys) ≡ names_in (x ∷ xs)
names_either x name value xs ys true is same =
    let e : name ≡ x.name = grind (arith, nat_tests) in ap (λ n. n ∷ names_in xs) e
names_either x name value xs ys false is same = ap (λ ns. x.name ∷ ns) same

-- a write keeps the names
pub names_with_value : (locals : List Local) (name value : ℕ) → names_in (with_value locals name value) ≡ names_in locals
names_with_value [] name value = refl
names_with_value (x ∷ xs) name value =
    names_either x name value xs (with_value xs name value) (x.name == name) refl (names_with_value xs name value)

-- so do several
pub names_with_values : (locals : List Local) (names values : List ℕ) → names_in (with_values locals names values) ≡ names_in locals
names_with_values locals [] values = refl
names_with_values locals (name ∷ names) [] = refl
names_with_values locals (name ∷ names) (value ∷ values) =
    names_with_values (with_value locals name value) names values ∙ names_with_value locals name value

-- the slots where those from a base on have new values
pub names_behind : (base : ℕ) (slots own : List Local) → names_in own ≡ names_in (drop base slots) → names_in (take base slots ++ own) ≡ names_in slots
names_behind base slots own same =
    map-append (λ (local : Local). local.name) (take base slots) own
    ∙ ap (λ ns. names_in (take base slots) ++ ns) same
    ∙ sym (map-append (λ (local : Local). local.name) (take base slots) (drop base slots))
    ∙ ap names_in (take-append-drop base slots)

-- one of them was written
pub names_assigned : (base name value : ℕ) (slots : List Local) → names_in (take base slots ++ with_value (drop base slots) name value) ≡ names_in slots
names_assigned base name value slots =
    names_behind base slots (with_value (drop base slots) name value) (names_with_value (drop base slots) name value)

-- or one, if it is named
pub names_given : (name : Option ℕ) (base value : ℕ) (slots : List Local) → names_in (given_slots name base value slots) ≡ names_in slots
names_given None base value slots = refl
names_given (Some name) base value slots = names_assigned base name value slots

-- or several
pub names_bound : (base : ℕ) (slots : List Local) (names values : List ℕ) → names_in (take base slots ++ with_values (drop base slots) names values) ≡ names_in slots
names_bound base slots names values =
    names_behind base slots (with_values (drop base slots) names values) (names_with_values (drop base slots) names values)

-- as many names as there are values are declared
pub names_of_named : (names values : List ℕ) → names_in (named names values) ≡ take (length values) names
names_of_named [] [] = refl
names_of_named [] (value ∷ values) = refl
names_of_named (name ∷ names) [] = refl
names_of_named (name ∷ names) (value ∷ values) = ap (λ ns. name ∷ ns) (names_of_named names values)

-- where there are enough values, all names are
pub names_named : (names values : List ℕ) → length names ≤ length values → names_in (named names values) ≡ names
names_named names values le = names_of_named names values ∙ take_all (length values) names le
