-- What the parts of a boot leave of its budget.
use Rattle.std.proofs.Common.{ℕ, ◌+◌, ◌≤◌, Option, Some, None, arith}
use Rattle.nv_memory.specs.Budget.{IsShort}
use Rattle.undo_journal.specs.Lending.{FellWithin}
use Rattle.kernel_boots.specs.Boots.{DidNotRise}

pub fell-at-most : (n : ℕ) (old new : Option ℕ) → FellWithin n old new → DidNotRise old new
fell-at-most n None None fell = tt
fell-at-most n None (Some new) fell = fell
fell-at-most n (Some old) None fell = fell
fell-at-most n (Some old) (Some new) fell = fell.0

pub at-most-then : (first second third : Option ℕ) → DidNotRise first second → DidNotRise second third → DidNotRise first third
at-most-then None None None a b = tt
at-most-then None None (Some z) a b = b
at-most-then None (Some y) third a b = absurd a
at-most-then (Some x) None third a b = absurd a
at-most-then (Some x) (Some y) None a b = b
at-most-then (Some x) (Some y) (Some z) a b = omega arith

pub at-most-same : (left : Option ℕ) → DidNotRise left left
at-most-same None = tt
at-most-same (Some left) = omega arith

-- the writes left fell by so many, and then by so many more
pub fell-then : (many n total : ℕ) (first second third : Option ℕ) → FellWithin many first second → FellWithin n second third → many + n ≤ total → FellWithin total first third
fell-then many n total None None None a b enough = tt
fell-then many n total None None (Some z) a b enough = b
fell-then many n total None (Some y) third a b enough = absurd a
fell-then many n total (Some x) None third a b enough = absurd a
fell-then many n total (Some x) (Some y) None a b enough = b
fell-then many n total (Some x) (Some y) (Some z) a b enough = (omega (arith, a.0, b.0), omega (arith, a.1, b.1, enough))

-- the writes left fell by so many, and then they were too few
pub short-then : (many n total : ℕ) (first second : Option ℕ) → FellWithin many first second → IsShort second n → many + n ≤ total → IsShort first total
short-then many n total None None a short enough = short
short-then many n total None (Some y) a short enough = a
short-then many n total (Some x) None a short enough = absurd a
short-then many n total (Some x) (Some y) a short enough = omega (arith, a.1, short, enough)
