-- The faults of calls and of the names that take their results.
use Rattle.std.specs.Prelude.{ℕ, ◌+◌, Bool, if◌then◌else◌, List, [], ◌∷◌, ◌++◌, length, is_some, Err}
use Rattle.thread_tree.specs.declared.place.Place.{Place}
use Rattle.thread_tree.specs.declared.place.At.{At}
use Rattle.thread_tree.specs.declared.action.Call.{Call}
use Rattle.thread_tree.specs.declared.action.Item.{Item}
use Rattle.thread_tree.specs.declared.action.Item.TheVariants as item
use Rattle.thread_tree.specs.declared.action.Who.{Who}
use Rattle.thread_tree.specs.declared.action.Who.TheVariants as who
use Rattle.thread_tree.specs.declared.needed.Needed.{Needed}
use Rattle.thread_tree.specs.declared.needed.Needed.TheVariants.{Queue, Semaphore}
use Rattle.thread_tree.specs.Pieces.{Piece, named, valued, whom, itemized, applied, pieces}
use Rattle.thread_check.specs.declared.fault.Kind.TheVariants as kind
use Rattle.thread_check.specs.declared.fault.CheckFault.{CheckFault}
use Rattle.thread_check.specs.declared.fault.CheckFault.TheVariants.{WrongCount}
use Rattle.thread_check.specs.Verdict.{fine, same_count, within_limit, stands_at}
use Rattle.thread_check.specs.Scope.{Scope}
use Rattle.thread_check.specs.Names.{Names, sort_of, arity}
use Rattle.thread_check.specs.Calls.{once}
use Rattle.fault_places.specs.Sorts.{used_as_local, used_as_queue, used_as_semaphore, used_as_thread}
use Rattle.fault_places.specs.Found.{found_by}
use Rattle.fault_places.specs.OfExpressions.{expression_faults, expressions_faults}

-- the faults of a name after `->` behind these, in the order of the table: where it is in scope, that it stands twice comes first
abbrev pub further_taker_faults : Names → Scope → List At → At → List CheckFault
further_taker_faults names scope before at =
    if is_some (sort_of names scope at.name) then found_by (once before at) ++ found_by (used_as_local names scope at)
    else found_by (used_as_local names scope at) ++ found_by (once before at)

-- the faults of names after `->` behind these
abbrev pub further_takers_faults : Names → Scope → List At → List At → List CheckFault
further_takers_faults names scope before [] = []
further_takers_faults names scope before (at ∷ ats) =
    further_taker_faults names scope before at ++ further_takers_faults names scope (before ++ at ∷ []) ats

-- the faults of a first name after `->`, which shows whether the names are as many as the results
abbrev pub first_taker_faults : Names → Scope → Bool → At → List CheckFault
first_taker_faults names scope fits at =
    found_by (used_as_local names scope at) ++ found_by (if fits then fine else Err (WrongCount at.place))

-- the faults of the names after `->`
abbrev pub takers_faults : Names → Scope → Bool → List At → List CheckFault
takers_faults names scope fits [] = []
takers_faults names scope fits (at ∷ ats) =
    first_taker_faults names scope fits at ++ further_takers_faults names scope (at ∷ []) ats

-- the faults of the thread that a call speaks of
unfoldable pub who_faults : Names → Scope → Who → List CheckFault
who_faults names scope who.Own = []
who_faults names scope (who.Of e) = expression_faults names scope e

-- an item's faults with that of the count of items, which comes behind those at the item's first byte
abbrev pub counted_faults : Place → List CheckFault → List CheckFault → List CheckFault
counted_faults place limit [] = limit
counted_faults place limit (fault ∷ rest) =
    if stands_at place fault then fault ∷ counted_faults place limit rest else limit ++ fault ∷ rest

-- the faults of an item of a print, which is the one of this count
unfoldable pub item_faults : Names → Scope → ℕ → Item → List CheckFault
item_faults names scope count (item.Text place text) = found_by (within_limit place kind.Items 8 count)
item_faults names scope count (item.Value place e) =
    counted_faults place (found_by (within_limit place kind.Items 8 count)) (expression_faults names scope e)

-- the faults of the items of a print behind so many
abbrev pub items_faults : Names → Scope → ℕ → List Item → List CheckFault
items_faults names scope before [] = []
items_faults names scope before (i ∷ is) = item_faults names scope (before + 1) i ++ items_faults names scope (before + 1) is

-- the faults of a callee's name with so many arguments
abbrev pub spawned_faults : Names → Scope → At → ℕ → List CheckFault
spawned_faults names scope thread count =
    found_by (used_as_thread names scope thread) ++ found_by (same_count thread.place (arity names thread.name) count)

-- the faults of a name that has to be declared so
abbrev pub needed_faults : Names → Scope → Needed → At → List CheckFault
needed_faults names scope Queue name = found_by (used_as_queue names scope name)
needed_faults names scope Semaphore name = found_by (used_as_semaphore names scope name)

-- the faults of a piece of a call
abbrev pub piece_faults : Names → Scope → Piece → List CheckFault
piece_faults names scope (named needed name) = needed_faults names scope needed name
piece_faults names scope (valued e) = expression_faults names scope e
piece_faults names scope (whom w) = who_faults names scope w
piece_faults names scope (itemized items) = items_faults names scope 0 items
piece_faults names scope (applied template arguments) =
    spawned_faults names scope template (length arguments) ++ expressions_faults names scope arguments

-- the faults of pieces one after another
abbrev pub pieces_faults : Names → Scope → List Piece → List CheckFault
pieces_faults names scope [] = []
pieces_faults names scope (p ∷ []) = piece_faults names scope p
pieces_faults names scope (p ∷ q ∷ ps) = piece_faults names scope p ++ pieces_faults names scope (q ∷ ps)

-- the faults of a call without the names that take its results
unfoldable pub call_faults : Names → Scope → Call → List CheckFault
call_faults names scope c = pieces_faults names scope (pieces c)
