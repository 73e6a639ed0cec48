-- The rules for the statements of an `atomic` block.
use Rattle.std.specs.Prelude.{ℕ, if◌then◌else◌, List, length, map, Ok, Err}
use Rattle.thread_tree.specs.declared.place.At.{At}
use Rattle.thread_tree.specs.declared.transaction.TBlock.{TBlock, fold-TBlock}
use Rattle.thread_tree.specs.declared.transaction.TStmt.{TStmt, fold-TStmt}
use Rattle.thread_tree.specs.declared.transaction.TStmt.TheOpen.{TStmt-F, TBlock-F}
use Rattle.thread_tree.specs.declared.transaction.TStmt.TheOpen as tstmt
use Rattle.thread_check.specs.declared.fault.CheckFault.TheVariants.{NotAllowedHere}
use Rattle.thread_check.specs.declared.sort.Sort.TheVariants as sort
use Rattle.thread_check.specs.Verdict.{Verdict, fine, ◌>>=◌, ◌>>◌, same_count}
use Rattle.thread_check.specs.Scope.{Scope, is_local, with_local}
use Rattle.thread_check.specs.Names.{Names}
use Rattle.thread_check.specs.Uses.{used}
use Rattle.thread_check.specs.Expressions.{field_rule, expression, expressions}
use Rattle.thread_check.specs.Blocks.{Rule, allowed, new_local, if_some, block_of, loop_of}

-- an `atomic` block: the names in scope, the locals from outside, and how many words it gives
pub record Transaction : Type 0 where
  pub names : Names
  pub outside : List ℕ
  pub given : ℕ

-- a local that the block assigns to: not one from outside
unfoldable pub own_local : Transaction → Scope → At → Verdict
own_local t scope at = used t.names scope sort.Local at >> (if is_local t.outside at.name then Err (NotAllowedHere at.place) else fine)

-- a statement, by its layer, where `block` is the rule for the blocks in it
abbrev pub tstatement_layer : {S B : Type 0} → Transaction → (B → Rule) → TStmt-F S B → Rule
tstatement_layer t block (tstmt.Let at e) scope =
    new_local t.names scope at >> expression t.names scope e >> Ok (with_local at.name scope)
tstatement_layer t block (tstmt.LetNew at kind) scope =
    new_local t.names scope at >> used t.names scope sort.Kind kind >> Ok (with_local at.name scope)
tstatement_layer t block (tstmt.Set at e) scope = own_local t scope at >> expression t.names scope e >> Ok scope
tstatement_layer t block (tstmt.SetNew at kind) scope = own_local t scope at >> used t.names scope sort.Kind kind >> Ok scope
tstatement_layer t block (tstmt.Store field e) scope = field_rule t.names scope field >> expression t.names scope e >> Ok scope
tstatement_layer t block (tstmt.Free e) scope = expression t.names scope e >> Ok scope
tstatement_layer t block (tstmt.If e then_block else_block) scope =
    expression t.names scope e >> (block then_block scope >>= if_some block else_block)
tstatement_layer t block (tstmt.While e body) scope = expression t.names scope e >> loop_of block body scope
tstatement_layer t block (tstmt.Break place) scope = allowed place scope.in_loop >> Ok scope
tstatement_layer t block (tstmt.Abort place) scope = Ok scope
tstatement_layer t block (tstmt.Give place es) scope = same_count place t.given (length es) >> expressions t.names scope es >> Ok scope

-- a block, by its layer
abbrev pub tblock_layer : {B : Type 0} → TBlock-F Rule B → Rule
tblock_layer block = block_of block.place block.stmts

-- a statement of a transaction
unfoldable pub tstatement_rule : Transaction → TStmt → Rule
tstatement_rule t = fold-TStmt Rule Rule (tstatement_layer t (λ rule. rule)) tblock_layer

-- a block of a transaction
unfoldable pub tblock_rule : Transaction → TBlock → Rule
tblock_rule t = fold-TBlock Rule Rule (tstatement_layer t (λ rule. rule)) tblock_layer

-- a statement, by what it is made of
abbrev pub tstatement_parts : Transaction → TStmt-F TStmt TBlock → Rule
tstatement_parts t stmt = tstatement_layer t (tblock_rule t) stmt

-- a block, by what it is made of
abbrev pub tblock_parts : Transaction → TBlock-F TStmt TBlock → Rule
tblock_parts t block = block_of block.place (map (tstatement_rule t) block.stmts)
