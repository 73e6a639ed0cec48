-- Writes that are left, and didn't rise.
use Rattle.std.proofs.Common.{◌≡◌, ℕ, ◌+◌, ◌≤◌, Option, Some, None, sym, subst, arith}
use Rattle.nv_memory.specs.Budget.{IsShort, spent}
use Rattle.kernel_boots.specs.Boots.{DidNotRise}

-- writes that were spent are no more than there were
pub DidNotRise-spent : (n : ℕ) (a : Option ℕ) → DidNotRise a (spent a n)
DidNotRise-spent n None = tt
DidNotRise-spent n (Some a) = omega arith

-- where few writes are left there is a number of them, and it may become none
pub DidNotRise-short : (n : ℕ) (a b : Option ℕ) → IsShort a n → b ≡ Some 0 → DidNotRise a b
DidNotRise-short n None b short is = absurd short
DidNotRise-short n (Some a) b short is = let least : 0 ≤ a = omega arith in subst (λ (o : Option ℕ). DidNotRise (Some a) o) (sym is) least

-- where few were left behind what was spent, few were left before
pub short-spent : (n m : ℕ) (a : Option ℕ) → IsShort (spent a n) m → IsShort a (n + m)
short-spent n m None short = absurd short
short-spent n m (Some a) short = omega (arith, short)
