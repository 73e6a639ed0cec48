-- How many values an `atomic` block gives.
use Rattle.std.specs.Prelude.{ℕ, ◌==◌, ◌&&◌, Bool, true, List, [], ◌∷◌, length, map, Option, Some, None}
use Rattle.thread_tree.specs.declared.transaction.TBlock.{TBlock, fold-TBlock}
use Rattle.thread_tree.specs.declared.transaction.TStmt.{TStmt, fold-TStmt}
use Rattle.thread_tree.specs.declared.transaction.TStmt.TheOpen.{TStmt-F, TBlock-F}
use Rattle.thread_tree.specs.declared.transaction.TStmt.TheOpen as tstmt

-- whether all of these hold
abbrev pub all_hold : List Bool → Bool
all_hold [] = true
all_hold (b ∷ bs) = b && all_hold bs

-- whether a block that may be left out passes a test
abbrev pub holds_if_some : {B : Type 0} → (B → Bool) → Option B → Bool
holds_if_some test None = true
holds_if_some test (Some block) = test block

-- whether a statement gives so many values wherever it gives, by its layer, where `block` is the test
-- of the blocks in it
abbrev pub gives_layer : {S B : Type 0} → ℕ → (B → Bool) → TStmt-F S B → Bool
gives_layer given block (tstmt.Let at e) = true
gives_layer given block (tstmt.LetNew at kind) = true
gives_layer given block (tstmt.Set at e) = true
gives_layer given block (tstmt.SetNew at kind) = true
gives_layer given block (tstmt.Store field e) = true
gives_layer given block (tstmt.Free e) = true
gives_layer given block (tstmt.If e then_block else_block) = block then_block && holds_if_some block else_block
gives_layer given block (tstmt.While e body) = block body
gives_layer given block (tstmt.Break place) = true
gives_layer given block (tstmt.Abort place) = true
gives_layer given block (tstmt.Give place es) = length es == given

-- whether a block does, by its layer
abbrev pub gives_block_layer : {B : Type 0} → TBlock-F Bool B → Bool
gives_block_layer block = all_hold block.stmts

-- whether a statement gives so many values wherever it gives
unfoldable pub statement_gives : ℕ → TStmt → Bool
statement_gives given = fold-TStmt Bool Bool (gives_layer given (λ test. test)) gives_block_layer

-- whether a block does
unfoldable pub block_gives : ℕ → TBlock → Bool
block_gives given = fold-TBlock Bool Bool (gives_layer given (λ test. test)) gives_block_layer

-- whether a statement does, by what it is made of
abbrev pub statement_parts_give : ℕ → TStmt-F TStmt TBlock → Bool
statement_parts_give given s = gives_layer given (block_gives given) s

-- whether a block does, by what it is made of
abbrev pub block_parts_give : ℕ → TBlock-F TStmt TBlock → Bool
block_parts_give given block = all_hold (map (statement_gives given) block.stmts)
