-- Ends of transactions, one after another.
use Rattle.std.proofs.Common.{◌≡◌, ℕ, zero, suc, ◌+◌, ◌*◌, ◌≤◌, Option, Some, None, List, refl, ap, arith, ◌∙◌}
use Rattle.nv_memory.specs.Budget.{spent, IsShort}
use Rattle.nv_memory.specs.declared.nv.Nv.{Ghosts}
use Rattle.undo_journal.specs.Undo.{outside, IsJournalled}
use Rattle.undo_journal.specs.Lending.{IsLent, IsWithin, FellWithin}
use Rattle.kernel_image.specs.Decoded.{decoded_of, image_in}
use Rattle.kernel_image.specs.Cells.{cells, FellAtLeast}
use Rattle.kernel_events.specs.Ends.{IsCommitted, IsLost}

-- what is spent fell by as much
pub fell_spent : (n : ℕ) (left : Option ℕ) → FellWithin n left (spent left n)
fell_spent n None = tt
fell_spent n (Some left) = (omega arith, omega arith)

pub least_none : (n : ℕ) (left : Option ℕ) → FellAtLeast 0 left (spent left n)
least_none n None = tt
least_none n (Some left) = omega arith

-- where a write is left, it is spent
pub least_spent : (left : Option ℕ) → (left ≡ Some 0 → ⊥) → FellAtLeast 1 left (spent left 1)
least_spent None some = tt
least_spent (Some zero) some = absurd (some refl)
least_spent (Some (suc left)) some = omega arith

-- words that are the same outside the journal have one image
pub image_outside : (old new : List ℕ) → outside new ≡ outside old → image_in new ≡ image_in old
image_outside old new same = ap (λ words. decoded_of (cells words)) same

pub fell-then : (n m : ℕ) (first second third : Option ℕ) → FellWithin n first second → FellWithin m second third → FellWithin (n + m) first third
fell-then n m None None None a b = tt
fell-then n m None None (Some z) a b = b
fell-then n m None (Some y) third a b = absurd a
fell-then n m (Some x) None third a b = absurd a
fell-then n m (Some x) (Some y) None a b = b
fell-then n m (Some x) (Some y) (Some z) a b = (omega arith, omega arith)

-- what fell by at least so much, before or behind what fell
pub least-then : (n m : ℕ) (first second third : Option ℕ) → FellAtLeast n first second → FellWithin m second third → FellAtLeast n first third
least-then n m None None None a b = tt
least-then n m None None (Some z) a b = b
least-then n m None (Some y) third a b = absurd a
least-then n m (Some x) None third a b = absurd a
least-then n m (Some x) (Some y) None a b = b
least-then n m (Some x) (Some y) (Some z) a b = omega (arith, a, b.0)

pub least-behind : (n m : ℕ) (first second third : Option ℕ) → FellWithin m first second → FellAtLeast n second third → FellAtLeast n first third
least-behind n m None None None a b = tt
least-behind n m None None (Some z) a b = b
least-behind n m None (Some y) third a b = absurd a
least-behind n m (Some x) None third a b = absurd a
least-behind n m (Some x) (Some y) None a b = b
least-behind n m (Some x) (Some y) (Some z) a b = omega (arith, a.0, b)

fell-more : (n m : ℕ) (old new : Option ℕ) → n ≤ m → FellWithin n old new → FellWithin m old new
fell-more n m None None le fell = fell
fell-more n m None (Some new) le fell = fell
fell-more n m (Some old) None le fell = fell
fell-more n m (Some old) (Some new) le fell = (fell.0, omega (arith, fell.1))

short-more : (left : Option ℕ) (n m : ℕ) → n ≤ m → IsShort left n → IsShort left m
short-more None n m le short = short
short-more (Some left) n m le short = omega arith

pub short-fell : (n m : ℕ) (old new : Option ℕ) → FellWithin n old new → IsShort new m → IsShort old (n + m)
short-fell n m None None fell short = absurd short
short-fell n m None (Some y) fell short = absurd fell
short-fell n m (Some x) None fell short = absurd short
short-fell n m (Some x) (Some y) fell short = omega arith

module _ {N : Type 0} (g : Ghosts N) where
  -- a cut in a call that was lent the transaction
  pub lost-now : (writes : ℕ) (old new : N) → IsLent g old new → IsShort (g.left old) writes → g.left new ≡ Some 0 → IsJournalled (g.words new) → IsLost g writes old new
  lost-now writes old new lent short dark journalled = record {
    short = short;
    dark = dark;
    undone = lent.undone;
    journalled = journalled;
    to_come = lent.to_come;
    ends = lent.ends;
  }

  -- an end behind a call that was lent the transaction
  pub committed-then : (n r m writes : ℕ) (old now new : N) → 4 * r + m ≤ writes → IsLent g old now → IsWithin g old now r → IsCommitted g n m now new → IsCommitted g n writes old new
  committed-then n r m writes old now new fits lent within done = record {
    at_rest = done.at_rest;
    at_least = least-behind n (4 * r) (g.left old) (g.left now) (g.left new) within.left done.at_least;
    left = fell-more (4 * r + m) writes (g.left old) (g.left new) fits (fell-then (4 * r) m (g.left old) (g.left now) (g.left new) within.left done.left);
    to_come = done.to_come ∙ lent.to_come;
    ends = done.ends ∙ lent.ends;
  }

  pub lost-then : (r m writes : ℕ) (old now new : N) → 4 * r + m ≤ writes → IsLent g old now → IsWithin g old now r → IsLost g m now new → IsLost g writes old new
  lost-then r m writes old now new fits lent within lost = record {
    short = short-more (g.left old) (4 * r + m) writes fits (short-fell (4 * r) m (g.left old) (g.left now) within.left lost.short);
    dark = lost.dark;
    undone = lost.undone ∙ lent.undone;
    journalled = lost.journalled;
    to_come = lost.to_come ∙ lent.to_come;
    ends = lost.ends ∙ lent.ends;
  }

  -- more writes than were made
  pub committed-more : (least n writes : ℕ) (old new : N) → n ≤ writes → IsCommitted g least n old new → IsCommitted g least writes old new
  committed-more least n writes old new fits done = record {
    at_rest = done.at_rest;
    at_least = done.at_least;
    left = fell-more n writes (g.left old) (g.left new) fits done.left;
    to_come = done.to_come;
    ends = done.ends;
  }

  pub lost-more : (n writes : ℕ) (old new : N) → n ≤ writes → IsLost g n old new → IsLost g writes old new
  lost-more n writes old new fits lost = record {
    short = short-more (g.left old) n writes fits lost.short;
    dark = lost.dark;
    undone = lost.undone;
    journalled = lost.journalled;
    to_come = lost.to_come;
    ends = lost.ends;
  }
