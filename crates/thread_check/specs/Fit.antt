-- What an accepted program promises of each of its actions.
use Rattle.std.specs.Prelude.{◌≡◌, ℕ, ◌-◌, ◌==◌, ◌≤◌, true, ⊤, List, length, Option, IsSome, IsSomeAnd, find}
use Rattle.std.specs.List.{AllByRecursion}
use Rattle.thread_tree.specs.declared.place.At.{At}
use Rattle.thread_tree.specs.declared.action.Call.{Call}
use Rattle.thread_tree.specs.declared.block.Block.{Block}
use Rattle.thread_tree.specs.declared.block.Stmt.{Stmt, out-Stmt}
use Rattle.thread_tree.specs.declared.block.Stmt.TheOpen.{Stmt-F}
use Rattle.thread_tree.specs.declared.block.Stmt.TheOpen as stmt
use Rattle.thread_tree.specs.declared.needed.Needed.{Needed}
use Rattle.thread_tree.specs.declared.needed.Needed.TheVariants as needed
use Rattle.thread_tree.specs.declared.transaction.TBlock.{TBlock}
use Rattle.thread_tree.specs.Kinds.{result_count, kind_of_call}
use Rattle.thread_tree.specs.Limits.{template_named}
use Rattle.thread_tree.specs.Pieces.{Piece, named, valued, whom, itemized, applied, pieces}
use Rattle.thread_tree.specs.Program.{Program, Queue, Semaphore}
use Rattle.thread_check.specs.Gives.{block_gives}

-- the queue of a name
abbrev pub queue_named : Program → ℕ → Option Queue
queue_named p name = find (λ queue. queue.name == name) p.queues

-- the semaphore of a name
abbrev pub semaphore_named : Program → ℕ → Option Semaphore
semaphore_named p name = find (λ semaphore. semaphore.name == name) p.semaphores

-- a name is declared as what it has to be
abbrev pub IsDeclared : Program → Needed → ℕ → Type 0
IsDeclared p needed.Queue name = IsSome (queue_named p name)
IsDeclared p needed.Semaphore name = IsSome (semaphore_named p name)

-- a piece of a call: a name is declared, a print has few items, and a template as many parameters as arguments
abbrev pub IsFitPiece : Program → Piece → Type 0
IsFitPiece p (named needed name) = IsDeclared p needed name.name
IsFitPiece p (valued e) = ⊤
IsFitPiece p (whom who) = ⊤
IsFitPiece p (itemized items) = length items ≤ 8
IsFitPiece p (applied template arguments) =
    IsSomeAnd (template_named p template.name) (λ t. length t.parameters ≡ length arguments)

-- a call with the names that take its results: each piece fits, and there are as many names as results, if any
pub record IsFitCall (p : Program) (call : Call) (to : List At) : Type 0 where
  pub pieces : AllByRecursion (IsFitPiece p) (pieces call)
  pub names : 1 ≤ length to → length to ≡ result_count (kind_of_call call) 0

-- an `atomic` block with few names, of which all but the first take what it gives
pub record IsFitBlock (to : List At) (body : TBlock) : Type 0 where
  pub few : length to ≤ 4
  pub gives : block_gives (length to - 1) body ≡ true

-- an action that fits, by its layer; a statement that is no action does
abbrev pub IsFitLayer : Program → Stmt-F Stmt Block → Type 0
IsFitLayer p (stmt.Let at e) = ⊤
IsFitLayer p (stmt.Set at e) = ⊤
IsFitLayer p (stmt.Apply to callee arguments) = ⊤
IsFitLayer p (stmt.If e block other) = ⊤
IsFitLayer p (stmt.While e block) = ⊤
IsFitLayer p (stmt.Ploop place block) = ⊤
IsFitLayer p (stmt.Break place) = ⊤
IsFitLayer p (stmt.Return place value) = ⊤
IsFitLayer p (stmt.Atomic place to body) = IsFitBlock to body
IsFitLayer p (stmt.Call place call to) = IsFitCall p call to

-- an action that fits its program
abbrev pub IsFitAction : Program → Stmt → Type 0
IsFitAction p s = IsFitLayer p (out-Stmt s)
