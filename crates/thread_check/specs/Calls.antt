-- The rules for calls and for the names that take their results.
use Rattle.std.specs.Prelude.{ℕ, ◌+◌, Bool, if◌then◌else◌, List, [], ◌∷◌, ◌++◌, length, Ok, Err}
use Rattle.thread_tree.specs.declared.place.Place.{Place}
use Rattle.thread_tree.specs.declared.place.At.{At}
use Rattle.thread_tree.specs.declared.action.Call.{Call}
use Rattle.thread_tree.specs.declared.action.Item.{Item}
use Rattle.thread_tree.specs.declared.action.Item.TheVariants as item
use Rattle.thread_tree.specs.declared.action.Who.{Who}
use Rattle.thread_tree.specs.declared.action.Who.TheVariants as who
use Rattle.thread_tree.specs.declared.needed.Needed.{Needed}
use Rattle.thread_tree.specs.declared.needed.Needed.TheVariants.{Queue, Semaphore}
use Rattle.thread_tree.specs.Pieces.{Piece, named, valued, whom, itemized, applied, pieces}
use Rattle.thread_check.specs.declared.fault.Kind.TheVariants as kind
use Rattle.thread_check.specs.declared.fault.CheckFault.TheVariants.{TwiceNamed, WrongCount}
use Rattle.thread_check.specs.declared.sort.Sort.{Sort}
use Rattle.thread_check.specs.declared.sort.Sort.TheVariants as sort
use Rattle.thread_check.specs.Verdict.{Verdict, fine, ◌>>◌, same_count, within_limit, stands_at}
use Rattle.thread_check.specs.Scope.{Scope}
use Rattle.thread_check.specs.Names.{Names, arity, is_among}
use Rattle.thread_check.specs.Uses.{used}
use Rattle.thread_check.specs.Expressions.{expression, expressions}

-- a name that stands among those before it
unfoldable pub once : List At → At → Verdict
once before at = if is_among at.name before then Err (TwiceNamed at.place) else fine

-- a name after `->` behind these
unfoldable pub further_taker : Names → Scope → List At → At → Verdict
further_taker names scope before at = used names scope sort.Local at >> once before at

-- the names after `->` behind these: each is a local, and none stands twice
abbrev pub further_takers : Names → Scope → List At → List At → Verdict
further_takers names scope before [] = fine
further_takers names scope before (at ∷ ats) =
    further_taker names scope before at >> further_takers names scope (before ++ at ∷ []) ats

-- the names after `->`; whether they are as many as the results shows at the first
abbrev pub takers : Names → Scope → Bool → List At → Verdict
takers names scope fits [] = fine
takers names scope fits (at ∷ ats) =
    used names scope sort.Local at
    >> (if fits then fine else Err (WrongCount at.place))
    >> further_takers names scope (at ∷ []) ats

-- the thread that a call speaks of
unfoldable pub who_rule : Names → Scope → Who → Verdict
who_rule names scope who.Own = fine
who_rule names scope (who.Of e) = expression names scope e

-- an item that is one too many; a fault at its first byte comes before it
unfoldable pub counted_item : Place → ℕ → Verdict → Verdict
counted_item place count (Ok u) = within_limit place kind.Items 8 count
counted_item place count (Err fault) =
    if stands_at place fault then Err fault else within_limit place kind.Items 8 count >> Err fault

-- an item of a print, which is the one of this count
unfoldable pub item_rule : Names → Scope → ℕ → Item → Verdict
item_rule names scope count (item.Text place text) = within_limit place kind.Items 8 count
item_rule names scope count (item.Value place e) = counted_item place count (expression names scope e)

-- the items of a print behind so many
abbrev pub items_rule : Names → Scope → ℕ → List Item → Verdict
items_rule names scope before [] = fine
items_rule names scope before (i ∷ is) = item_rule names scope (before + 1) i >> items_rule names scope (before + 1) is

-- the sort of a name that has to be declared so
abbrev pub sort_of : Needed → Sort
sort_of Queue = sort.Queue
sort_of Semaphore = sort.Semaphore

-- a piece of a call
abbrev pub piece_rule : Names → Scope → Piece → Verdict
piece_rule names scope (named needed name) = used names scope (sort_of needed) name
piece_rule names scope (valued e) = expression names scope e
piece_rule names scope (whom w) = who_rule names scope w
piece_rule names scope (itemized items) = items_rule names scope 0 items
piece_rule names scope (applied template arguments) =
    used names scope sort.Thread template
    >> same_count template.place (arity names template.name) (length arguments)
    >> expressions names scope arguments

-- pieces one after another
abbrev pub pieces_rule : Names → Scope → List Piece → Verdict
pieces_rule names scope [] = fine
pieces_rule names scope (p ∷ []) = piece_rule names scope p
pieces_rule names scope (p ∷ q ∷ ps) = piece_rule names scope p >> pieces_rule names scope (q ∷ ps)

-- a call without the names that take its results
unfoldable pub call_rule : Names → Scope → Call → Verdict
call_rule names scope c = pieces_rule names scope (pieces c)
