-- A block at work, and what the code has done of it.
use Rattle.std.specs.Prelude.{◌≡◌, ℕ, List, take, Result, Ok, Err, Option, Some, None}
use Rattle.nv_memory.specs.declared.nv.Nv.{Ghosts}
use Rattle.undo_journal.specs.Lending.{IsLent, IsWithin}
use Rattle.kernel_image.specs.Decoded.{Decoded, image_in}
use Rattle.kernel_model.specs.Sound.{AreSoundObjects}
use Rattle.kernel_model.specs.Transactions as model
use Rattle.kernel_model.specs.Transactions.{Thing, BlockEnd, block_by, moved_by}
use Rattle.thread_tree.specs.declared.transaction.TBlock.{TBlock}
use Rattle.thread_tree.specs.declared.transaction.TStmt.{TStmt}
use Rattle.thread_tree.specs.declared.transaction.TStmt.TheOpen.{TStmt-F}
use Rattle.kernel_model.specs.Transactions.Thing.{Do, End, Test}
use Rattle.persistent_objects.specs.Layout.{KeepsLayout}
use Rattle.persistent_objects.specs.Objects.{objects_of}
use Rattle.thread_tree.specs.declared.expr.FieldOf.{FieldOf}
use Rattle.thread_tree.specs.Program.{Program}
use Rattle.user_transactions.specs.declared.work.Work.{Work}
use Rattle.user_transactions.specs.declared.tx_end.TxEnd.{TxEnd}
use Rattle.user_transactions.specs.declared.tx_end.TxEnd.TheVariants as tx_end

-- the block at work, with these things to do
abbrev pub work_of : Program → Decoded → Work → List Thing → model.Work
work_of p d w todo = record { objects = objects_of p d; locals = w.locals.items; operations = w.operations; todo = todo }

-- how the block ends from here
abbrev pub end_from : Program → ℕ → Decoded → Work → List Thing → BlockEnd
end_from p given d w todo = block_by p given w.moves (work_of p d w todo)

-- the end of a block is this one: the objects and the first three values that it gives, an abort, or a fault
abbrev pub IsEnd : Program → TxEnd → Decoded → BlockEnd → Type 0
IsEnd p (tx_end.Gave values) d (model.Gave objects given) = (objects ≡ objects_of p d) × (values.items ≡ take 3 given)
IsEnd p (tx_end.Gave values) d model.Aborted = ⊥
IsEnd p (tx_end.Gave values) d (model.Fault code) = ⊥
IsEnd p tx_end.Aborted d (model.Gave objects given) = ⊥
IsEnd p tx_end.Aborted d model.Aborted = Unit {0}
IsEnd p tx_end.Aborted d (model.Fault code) = ⊥
IsEnd p (tx_end.Fault fault) d (model.Gave objects given) = ⊥
IsEnd p (tx_end.Fault fault) d model.Aborted = ⊥
IsEnd p (tx_end.Fault fault) d (model.Fault code) = fault ≡ code

-- what the words keep while a block makes so many operations more
pub record Keeps {N : Type 0} (g : Ghosts N) (p : Program) (old new : N) (more : ℕ) : Type 0 where
  pub frame : image_in (g.words new) ≡ record (image_in (g.words old)) { heap = (image_in (g.words new)).heap }
  pub sound : AreSoundObjects p (objects_of p (image_in (g.words new)))
  pub layout : KeepsLayout p (image_in (g.words old)) (image_in (g.words new))
  pub lent : IsLent g old new
  pub within : IsWithin g old new more

-- what a value that was read leaves of the work, or the fault of a field
abbrev pub IsRead : Result model.Read ℕ → Work → Result ℕ ℕ → Type 0
IsRead found w (Ok value) = found ≡ Ok (record { value = value; operations = w.operations })
IsRead found w (Err fault) = found ≡ Err fault

-- what a move that goes on with what follows makes of the work, or its fault
abbrev pub Moved : {T : Type 0} → Program → Decoded → Work → Decoded → Work → TStmt-F TStmt TBlock → Result T ℕ → Type 0
Moved p d w e v layer (Ok x) = (todo rest : List Thing) → moved_by p (work_of p d w todo) rest layer ≡ Some (Ok (work_of p e v rest))
Moved p d w e v layer (Err fault) = (todo rest : List Thing) → moved_by p (work_of p d w todo) rest layer ≡ Some (Err fault)

-- what a store to a field makes of the work, or its fault
abbrev pub Stored : Program → Decoded → Work → Decoded → Work → FieldOf → ℕ → Option ℕ → Type 0
Stored p d w e v field value None = (todo rest : List Thing) → model.stored p (work_of p d w todo) rest field value ≡ Ok (work_of p e v rest)
Stored p d w e v field value (Some fault) = (todo rest : List Thing) → model.stored p (work_of p d w todo) rest field value ≡ Err fault
