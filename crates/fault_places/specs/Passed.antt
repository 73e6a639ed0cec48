-- The places that are passed on the way along the tokens of a text.
use Rattle.std.specs.Prelude.{◌≡◌, List, [], ◌∷◌, ◌++◌}
use Rattle.thread_tree.specs.declared.place.Place.{Place}
use Rattle.thread_tree.specs.declared.token.Placed.{Placed}
use Rattle.fault_places.specs.Order.{IsBefore}

-- each of these places is this one
pub data AreThere (place : Place) : List Place → Type 0 where
  no_more_there : AreThere place []
  also_there : {p : Place} {rest : List Place} → p ≡ place → AreThere place rest → AreThere place (p ∷ rest)

-- on the way along the tokens from `before` to `after` these places are passed in this order, each as that of a token
pub data ArePassed : List Placed → List Placed → List Place → Type 0 where
  passed_none : {here : List Placed} → ArePassed here here []
  passed_token : {t : Placed} {rest after : List Placed} {there further places : List Place} → AreThere t.place there → ArePassed rest after further → places ≡ there ++ further → ArePassed (t ∷ rest) after places

-- a place is another, or stands before it
pub data IsAtOrBefore (p q : Place) : Type 0 where
  is_it : p ≡ q → IsAtOrBefore p q
  stands_earlier : IsBefore p q → IsAtOrBefore p q

-- a place stands behind none of these
pub data BehindNone (p : Place) : List Place → Type 0 where
  no_more_places : BehindNone p []
  not_behind : {q : Place} {rest : List Place} → IsAtOrBefore p q → BehindNone p rest → BehindNone p (q ∷ rest)

-- places that never fall
pub data NeverFall : List Place → Type 0 where
  no_place : NeverFall []
  then_no_earlier : {p : Place} {rest : List Place} → BehindNone p rest → NeverFall rest → NeverFall (p ∷ rest)
