-- The rules for the statements of a body.
use Rattle.std.specs.Prelude.{ℕ, ◌+◌, ◌-◌, ◌==◌, nat_le, not, false, List, length, map, Option, Some, None, Ok}
use Rattle.thread_tree.specs.declared.place.At.{At}
use Rattle.thread_tree.specs.declared.block.Block.{Block, fold-Block}
use Rattle.thread_tree.specs.declared.block.Stmt.{Stmt, fold-Stmt}
use Rattle.thread_tree.specs.declared.block.Stmt.TheOpen.{Stmt-F, Block-F}
use Rattle.thread_tree.specs.declared.block.Stmt.TheOpen as stmt
use Rattle.thread_tree.specs.declared.transaction.TBlock.{TBlock}
use Rattle.thread_tree.specs.Kinds.{result_count, kind_of_call}
use Rattle.thread_check.specs.declared.fault.Kind.TheVariants as kind
use Rattle.thread_check.specs.declared.sort.Sort.TheVariants as sort
use Rattle.thread_check.specs.Verdict.{Verdict, fine, ◌>>=◌, ◌>>◌, same_count, within_limit}
use Rattle.thread_check.specs.Scope.{Scope, with_local, ploop, closed, after_call, room_for_call}
use Rattle.thread_check.specs.Names.{Names, arity, peak_of}
use Rattle.thread_check.specs.Uses.{used}
use Rattle.thread_check.specs.Expressions.{expression, expressions}
use Rattle.thread_check.specs.Calls.{takers, call_rule}
use Rattle.thread_check.specs.Blocks.{Rule, allowed, new_local, if_some, block_of, loop_of}
use Rattle.thread_check.specs.Transactions.{tblock_rule}
use Rattle.thread_tree.specs.declared.limits.TheConstants.{START_VALUES, LOOPS}

-- a local that takes a result, if there is one
unfoldable pub taker : Names → Scope → Option At → Verdict
taker names scope None = fine
taker names scope (Some at) = used names scope sort.Local at

-- a callee: a function with as many parameters, for which there is room
unfoldable pub callee_rule : Names → Scope → At → ℕ → Verdict
callee_rule names scope callee count =
    used names scope sort.Function callee
    >> same_count callee.place (arity names callee.name) count
    >> room_for_call callee.place (peak_of names callee.name) scope

-- an `atomic` block: it gives one word less than it has names, and no loop around it counts in it
unfoldable pub atomic_rule : Names → List At → TBlock → Rule
atomic_rule names to body scope =
    takers names scope (nat_le (length to) 4) to
    >> (tblock_rule (record { names = names; outside = scope.locals; given = length to - 1 }) body (record scope { in_loop = false })
    >>= λ inner. Ok (record scope { peak = inner.peak }))

-- a statement, by its layer, where `block` is the rule for the blocks in it
abbrev pub statement_layer : {S B : Type 0} → Names → (B → Rule) → Stmt-F S B → Rule
statement_layer names block (stmt.Let at e) scope =
    new_local names scope at >> expression names scope e >> Ok (with_local at.name scope)
statement_layer names block (stmt.Set at e) scope = used names scope sort.Local at >> expression names scope e >> Ok scope
statement_layer names block (stmt.Apply to callee arguments) scope =
    taker names scope to
    >> callee_rule names scope callee (length arguments)
    >> expressions names scope arguments
    >> Ok (after_call (peak_of names callee.name) scope)
statement_layer names block (stmt.If e then_block else_block) scope =
    expression names scope e >> (block then_block scope >>= if_some block else_block)
statement_layer names block (stmt.While e body) scope = expression names scope e >> loop_of block body scope
statement_layer names block (stmt.Ploop place body) scope =
    allowed place (not names.in_function)
    >> within_limit place kind.Loops LOOPS (scope.loops + 1)
    >> within_limit place kind.Scope START_VALUES (length scope.locals)
    >> (block body (ploop scope) >>= λ inner. Ok (closed scope inner))
statement_layer names block (stmt.Break place) scope = allowed place scope.in_loop >> Ok scope
statement_layer names block (stmt.Return place None) scope = Ok scope
statement_layer names block (stmt.Return place (Some e)) scope =
    allowed place names.in_function >> expression names scope e >> Ok scope
statement_layer names block (stmt.Atomic place to body) scope = atomic_rule names to body scope
statement_layer names block (stmt.Call place call to) scope =
    call_rule names scope call >> takers names scope (length to == result_count (kind_of_call call) 0) to >> Ok scope

-- a block, by its layer
abbrev pub block_layer : {B : Type 0} → Block-F Rule B → Rule
block_layer block = block_of block.place block.stmts

-- a statement of a body
unfoldable pub statement_rule : Names → Stmt → Rule
statement_rule names = fold-Stmt Rule Rule (statement_layer names (λ rule. rule)) block_layer

-- a block of a body
unfoldable pub block_rule : Names → Block → Rule
block_rule names = fold-Block Rule Rule (statement_layer names (λ rule. rule)) block_layer

-- a statement, by what it is made of
abbrev pub statement_parts : Names → Stmt-F Stmt Block → Rule
statement_parts names stmt = statement_layer names (block_rule names) stmt

-- a block, by what it is made of
abbrev pub block_parts : Names → Block-F Stmt Block → Rule
block_parts names block = block_of block.place (map (statement_rule names) block.stmts)
