-- The faults of an `atomic` block.
use Rattle.std.specs.Prelude.{if◌then◌else◌, List, ◌++◌, length, Err}
use Rattle.thread_tree.specs.declared.place.At.{At}
use Rattle.thread_tree.specs.declared.transaction.TBlock.{TBlock, fold-TBlock}
use Rattle.thread_tree.specs.declared.transaction.TStmt.{TStmt, fold-TStmt}
use Rattle.thread_tree.specs.declared.transaction.TStmt.TheOpen.{TStmt-F, TBlock-F}
use Rattle.thread_tree.specs.declared.transaction.TStmt.TheOpen as tstmt
use Rattle.thread_check.specs.declared.fault.CheckFault.{CheckFault}
use Rattle.thread_check.specs.declared.fault.CheckFault.TheVariants.{NotAllowedHere}
use Rattle.thread_check.specs.Verdict.{fine, same_count}
use Rattle.thread_check.specs.Scope.{Scope, is_local, with_local}
use Rattle.thread_check.specs.Blocks.{allowed}
use Rattle.thread_check.specs.Transactions.{Transaction}
use Rattle.fault_places.specs.Sorts.{used_as_kind, used_as_local}
use Rattle.fault_places.specs.Found.{leaves, found_by, ◌+>◌, ◌+>=◌}
use Rattle.fault_places.specs.OfExpressions.{field_faults, expression_faults, expressions_faults}
use Rattle.fault_places.specs.OfBlocks.{Walk, new_local_faults, walk_if_some, walk_block, walk_loop}

-- the faults of a local that the block assigns to
abbrev pub own_local_faults : Transaction → Scope → At → List CheckFault
own_local_faults t scope at =
    found_by (used_as_local t.names scope at) ++ found_by (if is_local t.outside at.name then Err (NotAllowedHere at.place) else fine)

-- the faults of a statement, by its layer, where `walk` is the walk of the blocks in it
abbrev pub tstatement_steps : {S B : Type 0} → Transaction → (B → Walk) → TStmt-F S B → Walk
tstatement_steps t walk (tstmt.Let at e) scope =
    new_local_faults t.names scope at +> expression_faults t.names scope e +> leaves (with_local at.name scope)
tstatement_steps t walk (tstmt.LetNew at kind) scope =
    new_local_faults t.names scope at +> found_by (used_as_kind t.names scope kind) +> leaves (with_local at.name scope)
tstatement_steps t walk (tstmt.Set at e) scope = own_local_faults t scope at +> expression_faults t.names scope e +> leaves scope
tstatement_steps t walk (tstmt.SetNew at kind) scope =
    own_local_faults t scope at +> found_by (used_as_kind t.names scope kind) +> leaves scope
tstatement_steps t walk (tstmt.Store field e) scope =
    field_faults t.names scope field +> expression_faults t.names scope e +> leaves scope
tstatement_steps t walk (tstmt.Free e) scope = expression_faults t.names scope e +> leaves scope
tstatement_steps t walk (tstmt.If e then_block else_block) scope =
    expression_faults t.names scope e +> (walk then_block scope +>= walk_if_some walk else_block)
tstatement_steps t walk (tstmt.While e body) scope = expression_faults t.names scope e +> walk_loop walk body scope
tstatement_steps t walk (tstmt.Break place) scope = found_by (allowed place scope.in_loop) +> leaves scope
tstatement_steps t walk (tstmt.Abort place) scope = leaves scope
tstatement_steps t walk (tstmt.Give place es) scope =
    found_by (same_count place t.given (length es)) +> expressions_faults t.names scope es +> leaves scope

-- the faults of a block, by its layer
abbrev pub tblock_steps : {B : Type 0} → TBlock-F Walk B → Walk
tblock_steps block = walk_block block.place block.stmts

-- the faults of a statement of a transaction
unfoldable pub tstatement_walk : Transaction → TStmt → Walk
tstatement_walk t = fold-TStmt Walk Walk (tstatement_steps t (λ walk. walk)) tblock_steps

-- the faults of a block of a transaction
unfoldable pub tblock_walk : Transaction → TBlock → Walk
tblock_walk t = fold-TBlock Walk Walk (tstatement_steps t (λ walk. walk)) tblock_steps
