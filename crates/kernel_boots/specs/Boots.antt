-- What a part of a boot leaves of the budgets.
use Rattle.std.specs.Prelude.{◌≡◌, ℕ, ◌≤◌, Option, Some, None}
use Rattle.nv_memory.specs.declared.nv.Nv.{Ghosts}

-- the writes that are left didn't rise, and mains stay mains
abbrev pub DidNotRise : Option ℕ → Option ℕ → Type 0
DidNotRise None None = Unit {0}
DidNotRise (Some old) (Some new) = new ≤ old
DidNotRise None (Some new) = ⊥
DidNotRise (Some old) None = ⊥

-- the budgets to come and the ends are as before, and the writes left didn't rise
pub record IsSpent {N : Type 0} (g : Ghosts N) (old new : N) : Type 0 where
  pub left : DidNotRise (g.left old) (g.left new)
  pub to_come : g.to_come new ≡ g.to_come old
  pub ends : g.ends new ≡ g.ends old
