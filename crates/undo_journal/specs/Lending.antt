-- What each call keeps that writes through an open transaction which it is lent.
use Rattle.std.specs.Prelude.{◌≡◌, ℕ, ◌+◌, ◌*◌, ◌≤◌, Option, Some, None}
use Rattle.nv_memory.specs.declared.nv.Nv.{Ghosts}
use Rattle.undo_journal.specs.Undo.{durable, room_of}

-- the undone words, the budgets to come and the ends are as before
pub record IsLent {N : Type 0} (g : Ghosts N) (old new : N) : Type 0 where
  pub undone : durable (g.words new) ≡ durable (g.words old)
  pub to_come : g.to_come new ≡ g.to_come old
  pub ends : g.ends new ≡ g.ends old

-- the writes that are left fell by at most n; mains stay mains
abbrev pub FellWithin : ℕ → Option ℕ → Option ℕ → Type 0
FellWithin n None None = Unit {0}
FellWithin n (Some old) (Some new) = (new ≤ old) × (old ≤ new + n)
FellWithin n None (Some new) = ⊥
FellWithin n (Some old) None = ⊥

-- room fell by at most r entries, and the writes left by at most four for each
pub record IsWithin {N : Type 0} (g : Ghosts N) (old new : N) (r : ℕ) : Type 0 where
  pub room : room_of (g.words old) ≤ room_of (g.words new) + r
  pub left : FellWithin (4 * r) (g.left old) (g.left new)
