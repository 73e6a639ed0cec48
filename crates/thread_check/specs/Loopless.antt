-- The functions of an accepted program have no persistent loop.
use Rattle.std.specs.Prelude.{◌≡◌, None}
use Rattle.std.specs.List.{AllByRecursion}
use Rattle.thread_tree.specs.declared.block.Block.{Block}
use Rattle.thread_tree.specs.declared.block.Stmt.{Stmt, out-Stmt}
use Rattle.thread_tree.specs.LocalState.{loop_block}
use Rattle.thread_tree.specs.Program.{Program, Function}
use Rattle.thread_check.specs.ActionLists.{actions_in}

-- a statement that is no persistent loop
abbrev pub IsNoLoop : Stmt → Type 0
IsNoLoop s = loop_block (out-Stmt s) ≡ None

-- a block without a persistent loop among its actions
abbrev pub IsLoopless : Block → Type 0
IsLoopless block = AllByRecursion IsNoLoop (actions_in block)

-- no function has a persistent loop
abbrev pub AreLooplessFunctions : Program → Type 0
AreLooplessFunctions p = AllByRecursion (λ (function : Function). IsLoopless function.body) p.functions
