-- The fault that is answered is the earliest of all faults of a program.
use Rattle.std.specs.Prelude.{◌≡◌, List, ◌∷◌, Some}
use Rattle.thread_tree.specs.declared.place.Place.{Place}
use Rattle.thread_check.specs.declared.fault.CheckFault.{CheckFault}
use Rattle.fault_places.specs.Order.{place_of, ComesFirst}

-- a fault is one of these, and it comes no later than any of them
pub record IsEarliest (fault : CheckFault) (faults : List CheckFault) : Type 0 where
  pub place : Place
  pub stands : place_of fault ≡ Some place
  pub others : List CheckFault
  pub is_first : faults ≡ fault ∷ others
  pub none_before : ComesFirst fault faults
