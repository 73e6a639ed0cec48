-- Running ahead to the next action.
use Rattle.std.specs.Prelude.{ℕ, zero, suc, ◌+◌, Option, Some, None}
use Rattle.thread_tree.specs.declared.block.Stmt.{Stmt}
use Rattle.thread_tree.specs.Program.{Program}
use Rattle.thread_tree.specs.LocalState.{LocalState, move, next_statement}
use Rattle.thread_tree.specs.declared.limits.TheConstants.{MOVES}

-- how a thread that runs ahead arrives
pub data Arrival : Type 0 where
  -- at the action that this statement is
  AtAction : Stmt → Arrival
  -- at its end, where nothing is left to do
  Finished : Arrival
  -- at the bound of the moves of one step
  Watchdog : Arrival

-- where a thread arrives, its state then, and how many moves it made
pub record Ahead : Type 0 where
  pub arrival : Arrival
  pub local : LocalState
  pub moves : ℕ

-- where a thread stands that has no move
abbrev pub arrival_of : LocalState → Arrival
arrival_of s = elim (next_statement s.top.todo) [ None ↦ Finished | Some statement ↦ AtAction statement ]

-- a thread that makes no move
abbrev pub stays : Arrival → LocalState → Ahead
stays arrival s = record { arrival = arrival; local = s; moves = 0 }

-- a thread that has no move left by the bound: it stays where none is next
abbrev pub stops : LocalState → Option LocalState → Ahead
stops s None = stays (arrival_of s) s
stops s (Some next) = stays Watchdog s

-- a thread that makes its next move, if there is one, and goes on
abbrev pub goes_on : (LocalState → Ahead) → LocalState → Option LocalState → Ahead
goes_on go s None = stays (arrival_of s) s
goes_on go s (Some next) = let a = go next in record a { moves = a.moves + 1 }

-- at most so many moves
unfoldable pub ahead_by : Program → ℕ → LocalState → Ahead
ahead_by p zero s = stops s (move p s)
ahead_by p (suc n) s = goes_on (λ t. ahead_by p n t) s (move p s)

-- the greatest number of moves of one step
abbrev pub most_moves : ℕ
most_moves = MOVES

-- the moves of one step
abbrev pub ahead : Program → LocalState → Ahead
ahead p s = ahead_by p most_moves s
