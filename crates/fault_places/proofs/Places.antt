-- Where each rule's fault stands.
use Rattle.std.proofs.Common.{ℕ, ◌==◌, ◌&&◌, nat_le, Bool, if◌then◌else◌, List, Option, Some, None, is_some, Ok, Err, refl, arith}
use Rattle.thread_tree.specs.declared.place.Place.{Place}
use Rattle.thread_tree.specs.declared.place.At.{At}
use Rattle.thread_tree.specs.declared.place.Num.{Num}
use Rattle.thread_check.specs.declared.fault.Kind.{Kind}
use Rattle.thread_check.specs.declared.fault.CheckFault.TheVariants.{UnknownName, TwiceNamed, NotAllowedHere, WrongCount, OutOfRange, TooMany}
use Rattle.thread_check.specs.Verdict.{same_count, in_range, within_limit}
use Rattle.thread_check.specs.Scope.{Scope}
use Rattle.thread_check.specs.Names.{Names, sort_of}
use Rattle.thread_check.specs.Uses.{same_sort, fitting, used, fresh}
use Rattle.thread_check.specs.Expressions.{known}
use Rattle.thread_check.specs.Calls.{once}
use Rattle.thread_check.specs.Names.{is_among}
use Rattle.thread_check.specs.Blocks.{allowed}
use Rattle.fault_places.specs.Order.{place_of, rank_of}
use Rattle.fault_places.specs.Found.{found_by}
use Rattle.fault_places.proofs.Ways.{AreIn, GivesAt, found_at, if_not, if_so}

-- a used name
pub used_at : (names : Names) (scope : Scope) (wanted : _) (at : At) → AreIn at.place 2 0 (found_by (used names scope wanted at))
unfolding used place_of rank_of
used_at names scope wanted at = found_at (fitting wanted at (sort_of names scope at.name)) (by_sort (sort_of names scope at.name)) where
  by_sort : (o : Option _) → GivesAt at.place 2 0 (fitting wanted at o)
  by_sort None = (refl, omega arith, omega arith)
  by_sort (Some found) = if_not (same_sort found wanted) (NotAllowedHere at.place) (omega arith) (refl, omega arith, omega arith)

-- a declared name
pub fresh_at : (names : Names) (scope : Scope) (at : At) → AreIn at.place 5 0 (found_by (fresh names scope at))
unfolding fresh place_of rank_of
fresh_at names scope at = found_at _ (if_so (is_some (sort_of names scope at.name)) (TwiceNamed at.place) (omega arith) (refl, omega arith, omega arith))

-- a name that stands among others
pub once_at : (before : List At) (at : At) → AreIn at.place 2 0 (found_by (once before at))
unfolding once place_of rank_of
once_at before at = found_at _ (if_so (is_among at.name before) (TwiceNamed at.place) (omega arith) (refl, omega arith, omega arith))

-- a field
pub known_at : (at : At) (found : Bool) → AreIn at.place 5 0 (found_by (known at found))
unfolding known place_of rank_of
known_at at found = found_at _ (if_not found (UnknownName at.place) (omega arith) (refl, omega arith, omega arith))

-- a count, a number in its range, a limit
pub count_at : (place : Place) (wanted count : ℕ) → AreIn place 5 2 (found_by (same_count place wanted count))
unfolding same_count place_of rank_of
count_at place wanted count = found_at _ (if_not (count == wanted) (WrongCount place) (omega arith) (refl, omega arith, omega arith))

pub range_at : (number : Num) (least most : ℕ) → AreIn number.place 5 2 (found_by (in_range number least most))
unfolding in_range place_of rank_of
range_at number least most =
    found_at _ (if_not (nat_le least number.value && nat_le number.value most) (OutOfRange number.place number.value) (omega arith) (refl, omega arith, omega arith))

pub limit_at : (place : Place) (counted : Kind) (limit count : ℕ) → AreIn place 5 5 (found_by (within_limit place counted limit count))
unfolding within_limit place_of rank_of
limit_at place counted limit count = found_at _ (if_not (nat_le count limit) (TooMany place counted count) (omega arith) (refl, omega arith, omega arith))

-- a word
pub allowed_at : (place : Place) (holds : Bool) → AreIn place 5 0 (found_by (allowed place holds))
unfolding allowed place_of rank_of
allowed_at place holds = found_at _ (if_not holds (NotAllowedHere place) (omega arith) (refl, omega arith, omega arith))

-- another number of names than is wanted, and a name that may not stand here, where a test says so
pub wrong_count_at : (place : Place) (fits : Bool) → AreIn place 5 2 (found_by (if fits then Ok tt else Err (WrongCount place)))
unfolding place_of rank_of
wrong_count_at place fits = found_at _ (if_not fits (WrongCount place) (omega arith) (refl, omega arith, omega arith))

pub not_allowed_at : (place : Place) (holds : Bool) → AreIn place 5 2 (found_by (if holds then Err (NotAllowedHere place) else Ok tt))
unfolding place_of rank_of
not_allowed_at place holds = found_at _ (if_so holds (NotAllowedHere place) (omega arith) (refl, omega arith, omega arith))

pub twice_at : (place : Place) (holds : Bool) → AreIn place 2 0 (found_by (if holds then Err (TwiceNamed place) else Ok tt))
unfolding place_of rank_of
twice_at place holds = found_at _ (if_so holds (TwiceNamed place) (omega arith) (refl, omega arith, omega arith))
