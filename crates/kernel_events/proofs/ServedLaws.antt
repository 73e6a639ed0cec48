-- The statements of served actions.
use Rattle.std.proofs.Common.{◌≡◌, ◌-◌, ◌≤◌, List, length, Some, None, true, ap, subst}
use Rattle.std.specs.Prelude.{IsTrue}
use Rattle.thread_tree.specs.declared.action.Call.{Call}
use Rattle.thread_tree.specs.declared.action.Call.TheVariants as call
use Rattle.thread_tree.specs.declared.action.Item.{Item}
use Rattle.thread_tree.specs.declared.block.Block.{Block}
use Rattle.thread_tree.specs.declared.block.Stmt.{Stmt}
use Rattle.thread_tree.specs.declared.block.Stmt.TheOpen.{Stmt-F}
use Rattle.thread_tree.specs.declared.block.Stmt.TheOpen as stmt
use Rattle.thread_tree.specs.declared.place.At.{At}
use Rattle.thread_tree.specs.declared.place.Place.{Place}
use Rattle.thread_tree.specs.declared.transaction.TBlock.{TBlock}
use Rattle.thread_tree.specs.Program.{Program}
use Rattle.served_program.specs.Served.{is_served_action, is_served_call, is_served_tblock}
use Rattle.thread_check.specs.Fit.{IsFitLayer}
use Rattle.thread_check.specs.Gives.{block_gives}
use Rattle.kernel_events.specs.Actions.{printed_by, printed_items, block_names}

-- a statement that prints these items
pub record IsPrintOf (layer : Stmt-F Stmt Block) (items : List Item) : Type 0 where
  pub place : Place
  pub to : List At
  pub is : layer ≡ stmt.Call place (call.Print items) to

-- a statement that is a block, whose results these names take
pub record IsBlockOf (layer : Stmt-F Stmt Block) (to : List At) : Type 0 where
  pub place : Place
  pub body : TBlock
  pub is : layer ≡ stmt.Atomic place to body

print-call : (c : Call) (items : List Item) → printed_by c ≡ Some items → c ≡ call.Print items
print-call (call.Print these) items is = let same : these ≡ items = cc in ap call.Print same
print-call c items is = cc

pub print-of : (layer : Stmt-F Stmt Block) (items : List Item) → printed_items layer ≡ Some items → IsPrintOf layer items
print-of (stmt.Let at e) items is = cc
print-of (stmt.Set at e) items is = cc
print-of (stmt.Apply to callee arguments) items is = cc
print-of (stmt.If e block other) items is = cc
print-of (stmt.While e block) items is = cc
print-of (stmt.Ploop place block) items is = cc
print-of (stmt.Break place) items is = cc
print-of (stmt.Return place value) items is = cc
print-of (stmt.Atomic place to block) items is = cc
print-of (stmt.Call place c to) items is = record { place = place; to = to; is = ap (λ c. stmt.Call place c to) (print-call c items is) }

pub block-of : (layer : Stmt-F Stmt Block) (to : List At) → block_names layer ≡ Some to → IsBlockOf layer to
block-of (stmt.Let at e) to is = cc
block-of (stmt.Set at e) to is = cc
block-of (stmt.Apply these callee arguments) to is = cc
block-of (stmt.If e block other) to is = cc
block-of (stmt.While e block) to is = cc
block-of (stmt.Ploop place block) to is = cc
block-of (stmt.Break place) to is = cc
block-of (stmt.Return place value) to is = cc
block-of (stmt.Atomic place these body) to is = let same : these ≡ to = cc in record { place = place; body = body; is = ap (λ to. stmt.Atomic place to body) same }
block-of (stmt.Call place c these) to is = cc

one-call : (c : Call) → IsTrue (is_served_call c) → printed_by c ≡ None → ⊥
one-call (call.Print items) served none = cc
one-call c served none = cc

-- a served action is one of the two
pub one-of : (layer : Stmt-F Stmt Block) → IsTrue (is_served_action layer) → printed_items layer ≡ None → block_names layer ≡ None → ⊥
one-of (stmt.Let at e) served none names = cc
one-of (stmt.Set at e) served none names = cc
one-of (stmt.Apply to callee arguments) served none names = cc
one-of (stmt.If e block other) served none names = cc
one-of (stmt.While e block) served none names = cc
one-of (stmt.Ploop place block) served none names = cc
one-of (stmt.Break place) served none names = cc
one-of (stmt.Return place value) served none names = cc
one-of (stmt.Atomic place to block) served none names = cc
one-of (stmt.Call place c to) served none names = one-call c served none

-- a print that fits has few items
pub few-items : (p : Program) (layer : Stmt-F Stmt Block) (items : List Item) → printed_items layer ≡ Some items → IsFitLayer p layer → length items ≤ 8
few-items p layer items found fit =
    let is = print-of layer items found in
    let call : IsFitLayer p (stmt.Call is.place (call.Print items) is.to) = subst (λ layer. IsFitLayer p layer) is.is fit in call.pieces.0

-- a block that fits has few names
pub few-names : (p : Program) (layer : Stmt-F Stmt Block) (to : List At) → block_names layer ≡ Some to → IsFitLayer p layer → length to ≤ 4
few-names p layer to found fit =
    let is = block-of layer to found in
    let block : IsFitLayer p (stmt.Atomic is.place to is.body) = subst (λ layer. IsFitLayer p layer) is.is fit in block.few

-- a served block
pub served-block : (layer : Stmt-F Stmt Block) (to : List At) (is : IsBlockOf layer to) → IsTrue (is_served_action layer) → IsTrue (is_served_tblock is.body)
served-block layer to is served = subst (λ (layer : Stmt-F Stmt Block). IsTrue (is_served_action layer)) is.is served

-- a block that fits gives as many values as it has to
pub fit-gives : (p : Program) (layer : Stmt-F Stmt Block) (to : List At) (is : IsBlockOf layer to) → IsFitLayer p layer → block_gives (length to - 1) is.body ≡ true
fit-gives p layer to is fit =
    let block : IsFitLayer p (stmt.Atomic is.place to is.body) = subst (λ layer. IsFitLayer p layer) is.is fit in block.gives
