-- Reliving a thread: from its start by the recorded results of its actions.
use Rattle.std.specs.Prelude.{ℕ, ◌+◌, ◌==◌, ◌&&◌, Bool, if◌then◌else◌, List, [], ◌∷◌, length, Option, Some, None, slice_get, option_and_then}
use Rattle.thread_tree.specs.Program.{Program}
use Rattle.thread_tree.specs.Kinds.{Action, action_of, kind_word, result_count}
use Rattle.thread_tree.specs.LocalState.{LocalState, birth, bind}
use Rattle.thread_tree.specs.Ahead.{Ahead, ahead}
use Rattle.thread_tree.specs.Ahead.Arrival.{AtAction, Finished, Watchdog}
use Rattle.thread_tree.specs.Actions.{loops, inside}

-- where a thread begins: at its birth, with a template's number and the arguments, or at the last
-- turn of a persistent loop, with the loop's number and the values of the locals in scope
pub data Start : Type 0 where
  Birth : ℕ → List ℕ → Start
  Loop : ℕ → List ℕ → Start

-- what was recorded of an action: its kind word and its results
pub record Record : Type 0 where
  pub kind : ℕ
  pub results : List ℕ

-- a thread relived so far: its local state, the moves made, and the records passed by
pub record Life : Type 0 where
  pub local : LocalState
  pub moves : ℕ
  pub passed : ℕ

-- a state, where it is given as many values as it has names
abbrev pub where_as_many : List ℕ → List ℕ → LocalState → Option LocalState
where_as_many names values s = if length names == length values then Some s else None

-- the state at a start, where there is such a template or loop with as many values
abbrev pub started : Program → Start → Option LocalState
started p (Birth template arguments) =
    option_and_then (λ t. where_as_many t.parameters arguments (birth t arguments)) (slice_get p.templates template)
started p (Loop loop values) =
    option_and_then (λ spot. where_as_many spot.scope values (inside spot values)) (slice_get (loops p) loop)

-- whether a record is one of an action
abbrev pub records : Action → Record → Bool
records action r = kind_word action.kind action.given == r.kind && result_count action.kind action.given == length r.results

-- a life that arrived at an action and passes it by with the recorded results
abbrev pub passed_by : Program → Record → Life → Ahead → Action → Option Life
passed_by p r life a action =
    if records action r
    then Some (record { local = bind p a.local r.results; moves = life.moves + a.moves; passed = life.passed + 1 })
    else None

-- a life with one record more
abbrev pub passed : Program → Record → Life → Option Life
passed p r life = let a = ahead p life.local in elim a.arrival [
  | AtAction statement ↦ option_and_then (λ action. passed_by p r life a action) (action_of p statement)
  | Finished ↦ None
  | Watchdog ↦ None
]

-- a life with all these records
abbrev pub relived : Program → List Record → Option Life → Option Life
relived p [] life = life
relived p (r ∷ rs) life = relived p rs (option_and_then (passed p r) life)

-- a life that goes on to the action that is still open
abbrev pub opened : Program → Life → Option Life
opened p life = let a = ahead p life.local in elim a.arrival [
  | AtAction statement ↦ Some (record life { local = a.local; moves = life.moves + a.moves })
  | Finished ↦ None
  | Watchdog ↦ None
]

-- a life that begins
abbrev pub begun : LocalState → Life
begun s = record { local = s; moves = 0; passed = 0 }

-- a thread relived from its start and its records, up to an action that is still open if it has one
abbrev pub relive : Program → Start → List Record → Bool → Option Life
relive p start rs is_open =
    let life = relived p rs (option_and_then (λ s. Some (begun s)) (started p start)) in
    if is_open then option_and_then (opened p) life else life
