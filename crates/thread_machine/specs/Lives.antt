-- The lives of a thread: what it does and what is recorded of it.
use Rattle.std.specs.Prelude.{◌≡◌, ◌+◌, List, [], ◌∷◌, ◌++◌, length, Some}
use Rattle.thread_tree.specs.declared.block.Stmt.{Stmt}
use Rattle.thread_tree.specs.Program.{Program}
use Rattle.thread_tree.specs.Kinds.{Action, action_of, kind_word, result_count}
use Rattle.thread_tree.specs.LocalState.{LocalState, bind}
use Rattle.thread_tree.specs.Ahead.{ahead}
use Rattle.thread_tree.specs.Ahead.Arrival.{AtAction}
use Rattle.thread_tree.specs.Relive.{Start, Record, Life, begun, started}

-- an action has these results, and this is its record
pub record IsRecordOf (action : Action) (r : Record) : Type 0 where
  pub kind : kind_word action.kind action.given ≡ r.kind
  pub results : result_count action.kind action.given ≡ length r.results

-- a life that passed an action by with the results of its record
abbrev pub passing : Program → Life → Record → Life
passing p life r = let a = ahead p life.local in record {
  local = bind p a.local r.results;
  moves = life.moves + a.moves;
  passed = life.passed + 1;
}

-- what a thread lives from a start: it begins, or it runs ahead to an action that has some results
pub data Lives : Program → Start → List Record → Life → Type 0 where
  Begins : (p : Program) (start : Start) (s : LocalState) → started p start ≡ Some s → Lives p start [] (begun s)
  Passes : (p : Program) (start : Start) (rs : List Record) (life : Life) (r : Record) (statement : Stmt) (action : Action)
      → Lives p start rs life → (ahead p life.local).arrival ≡ AtAction statement → action_of p statement ≡ Some action
      → IsRecordOf action r → Lives p start (rs ++ r ∷ []) (passing p life r)
