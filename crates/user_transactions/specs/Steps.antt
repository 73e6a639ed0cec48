-- What a move of a block made of it.
use Rattle.std.specs.Prelude.{◌≡◌, ℕ, ◌≤◌, IsTrue, max, Bool, true, false, List, ◌∷◌, ◌++◌, length, option_copied, Result, Ok, Err, Option, Some, None}
use Rattle.kernel_image.specs.Decoded.{Decoded}
use Rattle.kernel_model.specs.Transactions as model
use Rattle.kernel_model.specs.Transactions.{Thing, ended_by, moved_by, things, broken_off}
use Rattle.kernel_model.specs.Transactions.Thing.{Do, End, Test}
use Rattle.thread_tree.specs.declared.expr.Expr.{Expr}
use Rattle.thread_tree.specs.declared.transaction.TBlock.{TBlock}
use Rattle.thread_tree.specs.declared.transaction.TStmt.{TStmt}
use Rattle.thread_tree.specs.declared.transaction.TStmt.TheOpen.{TStmt-F}
use Rattle.thread_tree.specs.declared.transaction.TStmt.TheOpen as tstmt
use Rattle.thread_tree.specs.Program.{Program}
use Rattle.thread_tree.specs.Need.{need_of_tblock}
use Rattle.served_program.specs.Served.{is_served_tlayer, is_served_tblock}
use Rattle.user_transactions.specs.declared.step.Step.{Step}
use Rattle.user_transactions.specs.declared.step.Step.TheVariants.{Went, Broke, Entered, Ended}
use Rattle.user_transactions.specs.declared.tx_end.TxEnd.{TxEnd}
use Rattle.user_transactions.specs.declared.tx_end.TxEnd.TheVariants as tx_end
use Rattle.user_transactions.specs.declared.work.Work.{Work}
use Rattle.user_transactions.specs.Works.{work_of, IsEnd}

-- what follows a block that was entered: its end, and the test of its loop if it is one's
abbrev pub behind : Option Expr → TBlock → ℕ → List Thing → List Thing
behind None block keep rest = End keep ∷ rest
behind (Some e) block keep rest = End keep ∷ Test e block ∷ rest

-- the move ended the block, which only a fault does
abbrev pub IsFault : TxEnd → Option (Result model.Work ℕ) → Type 0
IsFault (tx_end.Gave values) move = ⊥
IsFault tx_end.Aborted move = ⊥
IsFault (tx_end.Fault fault) move = move ≡ Some (Err fault)

-- the statement's move
abbrev pub Stepped : Program → Decoded → Work → Decoded → Work → TStmt-F TStmt TBlock → Step → Type 0
Stepped p d w e v layer Went = (todo rest : List Thing) → moved_by p (work_of p d w todo) rest layer ≡ Some (Ok (work_of p e v rest))
Stepped p d w e v layer Broke = (todo rest : List Thing) → moved_by p (work_of p d w todo) rest layer ≡ Some (Ok (broken_off (work_of p e v rest) rest))
Stepped p d w e v layer (Entered block test) = (todo rest : List Thing) → moved_by p (work_of p d w todo) rest layer
    ≡ Some (Ok (work_of p e v (things block.now ++ behind (option_copied test) block.now (length v.locals.items) rest)))
Stepped p d w e v layer (Ended end) = (todo rest : List Thing) → IsFault end (moved_by p (work_of p d w todo) rest layer)

-- whether a statement is no move
abbrev pub ends : TStmt-F TStmt TBlock → Bool
ends (tstmt.Let at e) = false
ends (tstmt.LetNew at kind) = false
ends (tstmt.Set at e) = false
ends (tstmt.SetNew at kind) = false
ends (tstmt.Store field e) = false
ends (tstmt.Free e) = false
ends (tstmt.If e block other) = false
ends (tstmt.While e block) = false
ends (tstmt.Break place) = false
ends (tstmt.Abort place) = true
ends (tstmt.Give place es) = true

-- how many locals it declares
abbrev pub declares : TStmt-F TStmt TBlock → ℕ
declares (tstmt.Let at e) = 1
declares (tstmt.LetNew at kind) = 1
declares (tstmt.Set at e) = 0
declares (tstmt.SetNew at kind) = 0
declares (tstmt.Store field e) = 0
declares (tstmt.Free e) = 0
declares (tstmt.If e block other) = 0
declares (tstmt.While e block) = 0
declares (tstmt.Break place) = 0
declares (tstmt.Abort place) = 0
declares (tstmt.Give place es) = 0

-- the statement ends the block, and how; or it is a move
abbrev pub IsEnding : Program → Decoded → Work → TStmt-F TStmt TBlock → Option TxEnd → Type 0
IsEnding p d w layer None = ends layer ≡ false
IsEnding p d w layer (Some end) = (ends layer ≡ true) × ((todo : List Thing) → IsEnd p end d (ended_by p (work_of p d w todo) layer))

-- whether a statement is served
abbrev pub is_served_statement : TStmt-F TStmt TBlock → Bool
is_served_statement layer = is_served_tlayer is_served_tblock layer

-- how many locals a block needs that may be left out
abbrev pub need_if_some : Option TBlock → ℕ
need_if_some None = 0
need_if_some (Some block) = (need_of_tblock block).locals

-- how many locals the blocks in a statement need
abbrev pub blocks_need : TStmt-F TStmt TBlock → ℕ
blocks_need (tstmt.Let at e) = 0
blocks_need (tstmt.LetNew at kind) = 0
blocks_need (tstmt.Set at e) = 0
blocks_need (tstmt.SetNew at kind) = 0
blocks_need (tstmt.Store field e) = 0
blocks_need (tstmt.Free e) = 0
blocks_need (tstmt.If e block other) = max (need_of_tblock block).locals (need_if_some other)
blocks_need (tstmt.While e block) = (need_of_tblock block).locals
blocks_need (tstmt.Break place) = 0
blocks_need (tstmt.Abort place) = 0
blocks_need (tstmt.Give place es) = 0

-- a block of a statement: it is served, and needs no more locals than the statement's blocks do
pub record IsInside (layer : TStmt-F TStmt TBlock) (block : TBlock) : Type 0 where
  pub served : IsTrue (is_served_tblock block)
  pub small : (need_of_tblock block).locals ≤ blocks_need layer

-- a block that was entered is one of the statement
abbrev pub Enters : TStmt-F TStmt TBlock → Step → Type 0
Enters layer Went = Unit {0}
Enters layer Broke = Unit {0}
Enters layer (Entered block test) = IsInside layer block.now
Enters layer (Ended end) = Unit {0}
