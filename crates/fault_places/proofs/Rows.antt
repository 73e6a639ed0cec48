-- The worked rows hold.
use Rattle.std.proofs.Common.{◌≡◌, [], ◌∷◌, map, Some, arith, refl}
use Rattle.thread_tree.specs.declared.place.Place.{Place}
use Rattle.thread_tree.specs.declared.tree.Decl.TheVariants as decl
use Rattle.thread_check.specs.Scope.{Scope}
use Rattle.thread_check.specs.declared.fault.Kind.TheVariants as kind
use Rattle.thread_check.specs.declared.fault.CheckFault.TheVariants.{UnknownName, TooMany}
use Rattle.thread_check.specs.Verdict.{same_count, within_limit, stands_at}
use Rattle.thread_check.specs.Names.{Names, declares, sort_of_declaration, sort_of, arity_of_declaration, arity}
use Rattle.thread_check.specs.Uses.{same_sort, used, fresh}
use Rattle.thread_check.specs.Calls.{once}
use Rattle.thread_check.specs.Declarations.{count_of}
use Rattle.fault_places.specs.Order.{IsBefore, on_earlier_line, on_its_line, rank_of}
use Rattle.fault_places.specs.OfCalls.{counted_faults, further_taker_faults}
use Rattle.fault_places.specs.PlacesOf.{places_of}
use Rattle.fault_places.specs.OfDeclarations.{declaration_walk, faults_of}
use Rattle.fault_places.specs.Rows.{at_line, two_starts, two_starts_faults, two_starts_places, twice, twice_faults, nine, ninth_faults, named, taker_faults, table}

pub two_starts_row : faults_of two_starts ≡ two_starts_faults
unfolding faults_of declaration_walk same_count within_limit declares sort_of_declaration sort_of arity_of_declaration arity same_sort used fresh once count_of
two_starts_row = refl

pub places_row : places_of two_starts.decls ≡ two_starts_places
places_row = refl

pub twice_row : faults_of twice ≡ twice_faults
unfolding faults_of declaration_walk same_count within_limit declares sort_of_declaration sort_of arity_of_declaration arity same_sort used fresh once count_of
twice_row = refl

pub ninth_row : counted_faults nine (TooMany nine kind.Items 9 ∷ []) (UnknownName (at_line 3 20) ∷ UnknownName (at_line 3 24) ∷ []) ≡ ninth_faults
unfolding stands_at
ninth_row = refl

-- a name that is no local and stands twice
pub taker_row : (names : Names) (scope : Scope) (place : Place) → sort_of names scope 4 ≡ Some (sort_of_declaration (decl.Kind (named 4 place) [])) → further_taker_faults names scope (named 4 place ∷ []) (named 4 (at_line 5 9)) ≡ taker_faults
unfolding used once sort_of_declaration same_sort
taker_row names scope place sort = rw sort refl

-- the order of places
pub line_row : IsBefore (at_line 1 40) (at_line 2 1)
line_row = on_earlier_line (omega arith)

pub column_row : IsBefore (at_line 2 1) (at_line 2 2)
column_row = on_its_line refl (omega arith)

pub not_before_row : IsBefore (at_line 2 1) (at_line 1 40) → ⊥
not_before_row (on_earlier_line a) = omega arith
not_before_row (on_its_line a b) = omega arith

-- the order of the table
pub table_row : map rank_of (table (at_line 1 1)) ≡ 0 ∷ 1 ∷ 2 ∷ 3 ∷ 4 ∷ 5 ∷ []
unfolding rank_of
table_row = refl
