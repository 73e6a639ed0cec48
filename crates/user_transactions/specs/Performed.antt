-- A statement `atomic`: its block, and how many values it has to give.
use Rattle.std.specs.Prelude.{ℕ, ◌-◌, length, Option, Some, None}
use Rattle.thread_tree.specs.declared.block.Block.{Block}
use Rattle.thread_tree.specs.declared.block.Stmt.{Stmt}
use Rattle.thread_tree.specs.declared.block.Stmt.TheOpen.{Stmt-F}
use Rattle.thread_tree.specs.declared.block.Stmt.TheOpen as stmt
use Rattle.thread_tree.specs.declared.transaction.TBlock.{TBlock}

-- the block, of a statement that is `atomic`
abbrev pub body_in : Stmt-F Stmt Block → Option TBlock
body_in (stmt.Let at e) = None
body_in (stmt.Set at e) = None
body_in (stmt.Apply to callee arguments) = None
body_in (stmt.If e block other) = None
body_in (stmt.While e block) = None
body_in (stmt.Ploop place block) = None
body_in (stmt.Break place) = None
body_in (stmt.Return place value) = None
body_in (stmt.Atomic place to body) = Some body
body_in (stmt.Call place call to) = None

-- how many values the block has to give: one for each name behind that of the outcome
abbrev pub given_in : Stmt-F Stmt Block → ℕ
given_in (stmt.Let at e) = 0
given_in (stmt.Set at e) = 0
given_in (stmt.Apply to callee arguments) = 0
given_in (stmt.If e block other) = 0
given_in (stmt.While e block) = 0
given_in (stmt.Ploop place block) = 0
given_in (stmt.Break place) = 0
given_in (stmt.Return place value) = 0
given_in (stmt.Atomic place to body) = length to - 1
given_in (stmt.Call place call to) = 0
