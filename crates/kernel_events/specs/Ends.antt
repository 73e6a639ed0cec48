-- How the transaction of an event ends.
use Rattle.std.specs.Prelude.{◌≡◌, ℕ, Some}
use Rattle.nv_memory.specs.declared.nv.Nv.{Ghosts}
use Rattle.nv_memory.specs.Budget.{IsShort}
use Rattle.undo_journal.specs.Undo.{durable, IsAtRest, IsJournalled}
use Rattle.undo_journal.specs.Lending.{FellWithin}
use Rattle.kernel_image.specs.Cells.{FellAtLeast}

-- it was committed, with at least and at most so many writes
pub record IsCommitted {N : Type 0} (g : Ghosts N) (least most : ℕ) (old new : N) : Type 0 where
  pub at_rest : IsAtRest (g.words new)
  pub at_least : FellAtLeast least (g.left old) (g.left new)
  pub left : FellWithin most (g.left old) (g.left new)
  pub to_come : g.to_come new ≡ g.to_come old
  pub ends : g.ends new ≡ g.ends old

-- it was cut, since fewer writes were left; the undone words are as before
pub record IsLost {N : Type 0} (g : Ghosts N) (writes : ℕ) (old new : N) : Type 0 where
  pub short : IsShort (g.left old) writes
  pub dark : g.left new ≡ Some 0
  pub undone : durable (g.words new) ≡ durable (g.words old)
  pub journalled : IsJournalled (g.words new)
  pub to_come : g.to_come new ≡ g.to_come old
  pub ends : g.ends new ≡ g.ends old
