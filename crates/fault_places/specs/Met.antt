-- The faults that are met on the way along the tokens of a text.
use Rattle.std.specs.Prelude.{◌≡◌, List, [], ◌∷◌, ◌++◌, Some}
use Rattle.thread_tree.specs.declared.place.Place.{Place}
use Rattle.thread_tree.specs.declared.token.Placed.{Placed}
use Rattle.thread_check.specs.declared.fault.CheckFault.{CheckFault}
use Rattle.fault_places.specs.Order.{place_of, ComesFirst}

-- each of these faults stands at this place, and they are in the order of the table
pub data AreAt (place : Place) : List CheckFault → Type 0 where
  no_more_at : AreAt place []
  also_at : {fault : CheckFault} {rest : List CheckFault} → place_of fault ≡ Some place → ComesFirst fault rest → AreAt place rest → AreAt place (fault ∷ rest)

-- On the way along the tokens from `before` to `after` these faults are met in this order, each at the token at
-- which it stands.
pub data AreMet : List Placed → List Placed → List CheckFault → Type 0 where
  arrived : {here : List Placed} → AreMet here here []
  at_token : {t : Placed} {rest after : List Placed} {there further faults : List CheckFault} → AreAt t.place there → AreMet rest after further → faults ≡ there ++ further → AreMet (t ∷ rest) after faults
