-- The order of places in a text, and of tokens and faults by their places.
use Rattle.std.specs.Prelude.{◌≡◌, ℕ, ◌<◌, ◌≤◌, List, [], ◌∷◌, Option, Some, None}
use Rattle.thread_tree.specs.declared.place.Place.{Place}
use Rattle.thread_tree.specs.declared.token.Placed.{Placed}
use Rattle.thread_check.specs.declared.fault.CheckFault.{CheckFault}
use Rattle.thread_check.specs.declared.fault.CheckFault.TheVariants.{UnknownName, TwiceNamed, NotAllowedHere, WrongCount, OutOfRange, TooMany, NoMemory}

-- a place stands before another: on an earlier line, or earlier on its line
pub data IsBefore (p q : Place) : Type 0 where
  on_earlier_line : p.line < q.line → IsBefore p q
  on_its_line : p.line ≡ q.line → p.column < q.column → IsBefore p q

-- each of these tokens stands behind a place
pub data AreBehind (place : Place) : List Placed → Type 0 where
  no_more_behind : AreBehind place []
  also_behind : {t : Placed} {rest : List Placed} → IsBefore place t.place → AreBehind place rest → AreBehind place (t ∷ rest)

-- each of these tokens stands before all those behind it
pub data IsRising : List Placed → Type 0 where
  no_more_tokens : IsRising []
  before_others : {t : Placed} {rest : List Placed} → AreBehind t.place rest → IsRising rest → IsRising (t ∷ rest)

-- where a fault stands; want of memory stands nowhere
unfoldable pub place_of : CheckFault → Option Place
place_of (UnknownName at) = Some at
place_of (TwiceNamed at) = Some at
place_of (NotAllowedHere at) = Some at
place_of (WrongCount at) = Some at
place_of (OutOfRange at number) = Some at
place_of (TooMany at counted number) = Some at
place_of NoMemory = None

-- the place of a fault in the table, which decides at one place of a text
unfoldable pub rank_of : CheckFault → ℕ
rank_of (UnknownName at) = 0
rank_of (TwiceNamed at) = 1
rank_of (NotAllowedHere at) = 2
rank_of (WrongCount at) = 3
rank_of (OutOfRange at number) = 4
rank_of (TooMany at counted number) = 5
rank_of NoMemory = 6

-- a fault comes no later than another: it stands before it, or at the same place and not behind it in the table
pub data ComesNoLater (fault other : CheckFault) : Type 0 where
  stands_before : {p q : Place} → place_of fault ≡ Some p → place_of other ≡ Some q → IsBefore p q → ComesNoLater fault other
  first_in_table : {p : Place} → place_of fault ≡ Some p → place_of other ≡ Some p → rank_of fault ≤ rank_of other → ComesNoLater fault other

-- a fault comes no later than each of these
pub data ComesFirst (fault : CheckFault) : List CheckFault → Type 0 where
  before_none : ComesFirst fault []
  before_one : {other : CheckFault} {rest : List CheckFault} → ComesNoLater fault other → ComesFirst fault rest → ComesFirst fault (other ∷ rest)

-- each of these faults comes no later than those behind it
pub data AreInOrder : List CheckFault → Type 0 where
  no_more_faults : AreInOrder []
  in_order : {fault : CheckFault} {rest : List CheckFault} → ComesFirst fault rest → AreInOrder rest → AreInOrder (fault ∷ rest)
