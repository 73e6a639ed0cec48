-- What calls keep one after another.
use Rattle.std.proofs.Common.{◌≡◌, ℕ, ◌+◌, ◌*◌, ◌≤◌, Option, Some, None, refl, arith, ◌∙◌}
use Rattle.nv_memory.specs.Budget.{IsShort}
use Rattle.nv_memory.specs.declared.nv.Nv.{Ghosts}
use Rattle.undo_journal.specs.Lending.{IsLent, IsWithin, FellWithin}

pub FellWithin-zero : (left : Option ℕ) → FellWithin 0 left left
FellWithin-zero None = tt
FellWithin-zero (Some left) = (omega arith, omega arith)

pub FellWithin-then : (n m : ℕ) (first second third : Option ℕ) → FellWithin n first second → FellWithin m second third → FellWithin (n + m) first third
FellWithin-then n m None None None a b = tt
FellWithin-then n m None None (Some z) a b = b
FellWithin-then n m None (Some y) third a b = absurd a
FellWithin-then n m (Some x) None third a b = absurd a
FellWithin-then n m (Some x) (Some y) None a b = b
FellWithin-then n m (Some x) (Some y) (Some z) a b = (omega arith, omega arith)

-- what is short of some writes, or fell by some, is so of more
pub IsShort-more : (left : Option ℕ) (n m : ℕ) → n ≤ m → IsShort left n → IsShort left m
IsShort-more None n m le short = short
IsShort-more (Some left) n m le short = omega arith

pub FellWithin-more : (n m : ℕ) (old new : Option ℕ) → n ≤ m → FellWithin n old new → FellWithin m old new
FellWithin-more n m None None le fell = fell
FellWithin-more n m None (Some new) le fell = fell
FellWithin-more n m (Some old) None le fell = fell
FellWithin-more n m (Some old) (Some new) le fell = (fell.0, omega (arith, fell.1))

pub IsShort-FellWithin : (n m : ℕ) (old new : Option ℕ) → FellWithin n old new → IsShort new m → IsShort old (n + m)
IsShort-FellWithin n m None None fell short = absurd short
IsShort-FellWithin n m None (Some y) fell short = absurd fell
IsShort-FellWithin n m (Some x) None fell short = absurd short
IsShort-FellWithin n m (Some x) (Some y) fell short = omega arith

module _ {N : Type 0} (g : Ghosts N) where
  -- nothing that was kept is within no room
  pub IsWithin-same : (nv : N) → IsWithin g nv nv 0
  IsWithin-same nv = record { room = omega arith; left = FellWithin-zero (g.left nv) }

  -- within r, and then within s, is within r + s
  pub IsWithin-then : (first second third : N) (r s : ℕ) → IsWithin g first second r → IsWithin g second third s → IsWithin g first third (r + s)
  IsWithin-then first second third r s a b = record {
    room = omega (arith, a.room, b.room);
    left =
        let sum : 4 * r + 4 * s ≡ 4 * (r + s) = omega arith in
        rw sum at (FellWithin-then (4 * r) (4 * s) (g.left first) (g.left second) (g.left third) a.left b.left);
  }

  -- within r is within more
  pub IsWithin-more : (old new : N) (r s : ℕ) → r ≤ s → IsWithin g old new r → IsWithin g old new s
  IsWithin-more old new r s le within = record {
    room = omega (arith, within.room);
    left = FellWithin-more (4 * r) (4 * s) (g.left old) (g.left new) (omega arith) within.left;
  }

  -- a call that changes nothing is within any room
  pub IsWithin-none : (nv : N) (r : ℕ) → IsWithin g nv nv r
  IsWithin-none nv r = IsWithin-more nv nv 0 r (omega arith) (IsWithin-same nv)

  -- within r, and then within s, is within what is at least their sum
  pub IsWithin-at_most : (first second third : N) (r s t : ℕ) → r + s ≤ t → IsWithin g first second r → IsWithin g second third s → IsWithin g first third t
  IsWithin-at_most first second third r s t le a b = IsWithin-more first third (r + s) t le (IsWithin-then first second third r s a b)

  -- within r, and then short of s more, was short of r + s before
  pub IsShort-IsWithin : (first second : N) (r s : ℕ) → IsWithin g first second r → IsShort (g.left second) (4 * s) → IsShort (g.left first) (4 * (r + s))
  IsShort-IsWithin first second r s a short =
      let sum : 4 * r + 4 * s ≡ 4 * (r + s) = omega arith in
      rw sum at (IsShort-FellWithin (4 * r) (4 * s) (g.left first) (g.left second) a.left short)

  pub IsLent-same : (nv : N) → IsLent g nv nv
  IsLent-same nv = record { undone = refl; to_come = refl; ends = refl }

  pub IsLent-then : (first second third : N) → IsLent g first second → IsLent g second third → IsLent g first third
  IsLent-then first second third a b = record { undone = b.undone ∙ a.undone; to_come = b.to_come ∙ a.to_come; ends = b.ends ∙ a.ends }
