-- The faults of the statements of a body.
use Rattle.std.specs.Prelude.{ℕ, ◌+◌, ◌-◌, ◌==◌, nat_le, not, List, [], ◌++◌, length, Option, Some, None, false}
use Rattle.thread_tree.specs.declared.place.Place.{Place}
use Rattle.thread_tree.specs.declared.place.At.{At}
use Rattle.thread_tree.specs.declared.block.Block.{Block, fold-Block}
use Rattle.thread_tree.specs.declared.block.Stmt.{Stmt, fold-Stmt}
use Rattle.thread_tree.specs.declared.block.Stmt.TheOpen.{Stmt-F, Block-F}
use Rattle.thread_tree.specs.declared.block.Stmt.TheOpen as stmt
use Rattle.thread_tree.specs.declared.transaction.TBlock.{TBlock}
use Rattle.thread_tree.specs.Kinds.{result_count, kind_of_call}
use Rattle.thread_check.specs.declared.fault.CheckFault.{CheckFault}
use Rattle.thread_check.specs.declared.fault.Kind.TheVariants as kind
use Rattle.thread_check.specs.Verdict.{same_count, within_limit}
use Rattle.thread_check.specs.Scope.{Scope, with_local, ploop, closed, after_call}
use Rattle.thread_check.specs.Names.{Names, arity, peak_of}
use Rattle.thread_check.specs.Blocks.{allowed}
use Rattle.fault_places.specs.Sorts.{used_as_function, used_as_local}
use Rattle.fault_places.specs.Found.{leaves, found_by, ◌+>◌, ◌+>=◌}
use Rattle.fault_places.specs.OfExpressions.{expression_faults, expressions_faults}
use Rattle.fault_places.specs.OfCalls.{takers_faults, call_faults}
use Rattle.fault_places.specs.OfBlocks.{Walk, new_local_faults, walk_if_some, walk_block, walk_loop}
use Rattle.fault_places.specs.OfTransactions.{tblock_walk}
use Rattle.thread_tree.specs.declared.limits.TheConstants.{START_VALUES, LOCALS, BLOCKS, LOOPS}

-- the faults of a local that takes a result, if there is one
unfoldable pub taker_faults : Names → Scope → Option At → List CheckFault
taker_faults names scope None = []
taker_faults names scope (Some at) = found_by (used_as_local names scope at)

-- the faults of a callee that needs too many locals or blocks beside those in scope
abbrev pub room_faults : Names → Scope → At → List CheckFault
room_faults names scope callee =
    found_by (within_limit callee.place kind.Locals LOCALS (length scope.locals + (peak_of names callee.name).locals))
    ++ found_by (within_limit callee.place kind.Nesting BLOCKS (scope.blocks + (peak_of names callee.name).blocks))

-- the faults of a callee with so many arguments
abbrev pub callee_faults : Names → Scope → At → ℕ → List CheckFault
callee_faults names scope callee count =
    found_by (used_as_function names scope callee)
    ++ (found_by (same_count callee.place (arity names callee.name) count) ++ room_faults names scope callee)

-- the faults of the word `ploop`
abbrev pub ploop_faults : Names → Place → Scope → List CheckFault
ploop_faults names place scope =
    found_by (allowed place (not names.in_function))
    ++ (found_by (within_limit place kind.Loops LOOPS (scope.loops + 1)) ++ found_by (within_limit place kind.Scope START_VALUES (length scope.locals)))

-- the faults of an `atomic` block
unfoldable pub atomic_walk : Names → List At → TBlock → Walk
atomic_walk names to body scope =
    takers_faults names scope (nat_le (length to) 4) to
    +> (tblock_walk (record { names = names; outside = scope.locals; given = length to - 1 }) body (record scope { in_loop = false })
    +>= λ inner. leaves (record scope { peak = inner.peak }))

-- the faults of a statement, by its layer, where `walk` is the walk of the blocks in it
abbrev pub statement_steps : {S B : Type 0} → Names → (B → Walk) → Stmt-F S B → Walk
statement_steps names walk (stmt.Let at e) scope =
    new_local_faults names scope at +> expression_faults names scope e +> leaves (with_local at.name scope)
statement_steps names walk (stmt.Set at e) scope =
    found_by (used_as_local names scope at) +> expression_faults names scope e +> leaves scope
statement_steps names walk (stmt.Apply to callee arguments) scope =
    taker_faults names scope to
    +> callee_faults names scope callee (length arguments)
    +> expressions_faults names scope arguments
    +> leaves (after_call (peak_of names callee.name) scope)
statement_steps names walk (stmt.If e then_block else_block) scope =
    expression_faults names scope e +> (walk then_block scope +>= walk_if_some walk else_block)
statement_steps names walk (stmt.While e body) scope = expression_faults names scope e +> walk_loop walk body scope
statement_steps names walk (stmt.Ploop place body) scope =
    ploop_faults names place scope +> (walk body (ploop scope) +>= λ inner. leaves (closed scope inner))
statement_steps names walk (stmt.Break place) scope = found_by (allowed place scope.in_loop) +> leaves scope
statement_steps names walk (stmt.Return place None) scope = leaves scope
statement_steps names walk (stmt.Return place (Some e)) scope =
    found_by (allowed place names.in_function) +> expression_faults names scope e +> leaves scope
statement_steps names walk (stmt.Atomic place to body) scope = atomic_walk names to body scope
statement_steps names walk (stmt.Call place call to) scope =
    call_faults names scope call
    +> takers_faults names scope (length to == result_count (kind_of_call call) 0) to
    +> leaves scope

-- the faults of a block, by its layer
abbrev pub block_steps : {B : Type 0} → Block-F Walk B → Walk
block_steps block = walk_block block.place block.stmts

-- the faults of a statement of a body
unfoldable pub statement_walk : Names → Stmt → Walk
statement_walk names = fold-Stmt Walk Walk (statement_steps names (λ walk. walk)) block_steps

-- the faults of a block of a body
unfoldable pub block_walk : Names → Block → Walk
block_walk names = fold-Block Walk Walk (statement_steps names (λ walk. walk)) block_steps
