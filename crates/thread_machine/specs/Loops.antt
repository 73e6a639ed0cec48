-- How many persistent loops a block has.
use Rattle.std.specs.Prelude.{ℕ, suc, ◌+◌, List, [], ◌∷◌, Option, Some, None}
use Rattle.thread_tree.specs.declared.block.Block.{Block, fold-Block}
use Rattle.thread_tree.specs.declared.block.Stmt.{Stmt, out-Stmt}
use Rattle.thread_tree.specs.declared.block.Stmt.TheOpen.{Stmt-F, Block-F}
use Rattle.thread_tree.specs.declared.block.Stmt.TheOpen as stmt

-- those of a block that may be left out
abbrev pub loops_if_some : Option ℕ → ℕ
loops_if_some None = 0
loops_if_some (Some loops) = loops

-- those of a statement, by its layer
abbrev pub loops_of_layer : Stmt-F ℕ ℕ → ℕ
loops_of_layer (stmt.Let at e) = 0
loops_of_layer (stmt.Set at e) = 0
loops_of_layer (stmt.Apply to callee arguments) = 0
loops_of_layer (stmt.If e block other) = block + loops_if_some other
loops_of_layer (stmt.While e block) = block
loops_of_layer (stmt.Ploop place block) = suc block
loops_of_layer (stmt.Break place) = 0
loops_of_layer (stmt.Return place value) = 0
loops_of_layer (stmt.Atomic place to block) = 0
loops_of_layer (stmt.Call place call to) = 0

-- those of statements one after another
abbrev pub loops_in_turn : List ℕ → ℕ
loops_in_turn [] = 0
loops_in_turn (loops ∷ rest) = loops + loops_in_turn rest

-- those of a block, by its layer
abbrev pub loops_in_layer : Block-F ℕ ℕ → ℕ
loops_in_layer block = loops_in_turn block.stmts

-- those of a block
unfoldable pub loops_in : Block → ℕ
loops_in = fold-Block ℕ ℕ loops_of_layer loops_in_layer

-- those of a statement, by its parts
abbrev pub loops_of : Stmt-F Stmt Block → ℕ
loops_of (stmt.Let at e) = 0
loops_of (stmt.Set at e) = 0
loops_of (stmt.Apply to callee arguments) = 0
loops_of (stmt.If e block None) = loops_in block
loops_of (stmt.If e block (Some other)) = loops_in block + loops_in other
loops_of (stmt.While e block) = loops_in block
loops_of (stmt.Ploop place block) = suc (loops_in block)
loops_of (stmt.Break place) = 0
loops_of (stmt.Return place value) = 0
loops_of (stmt.Atomic place to block) = 0
loops_of (stmt.Call place call to) = 0

-- those of statements one after another
abbrev pub loops_from : List Stmt → ℕ
loops_from [] = 0
loops_from (s ∷ ss) = loops_of (out-Stmt s) + loops_from ss
