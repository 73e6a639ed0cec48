-- A rule is kept, or gives a fault. Of several rules the first fault counts.
use Rattle.std.specs.Prelude.{ℕ, ◌==◌, ◌&&◌, nat_le, Bool, false, if◌then◌else◌, Result, Ok, Err}
use Rattle.thread_tree.specs.declared.place.Place.{Place}
use Rattle.thread_tree.specs.declared.place.Num.{Num}
use Rattle.thread_check.specs.declared.fault.Kind.{Kind}
use Rattle.thread_check.specs.declared.fault.CheckFault.{CheckFault}
use Rattle.thread_check.specs.declared.fault.CheckFault.TheVariants.{UnknownName, TwiceNamed, NotAllowedHere, WrongCount, OutOfRange, TooMany, NoMemory}

-- a rule's answer with what it leaves
abbrev pub Answer : Type 0 → Type 0
Answer A = Result A CheckFault

-- a rule's answer
abbrev pub Verdict : Type 0
Verdict = Answer (Unit {0})

-- no fault
abbrev pub fine : Verdict
fine = Ok tt

infixl 10 ◌>>=◌
-- the second rule, with what the first leaves, where the first gives no fault
abbrev pub ◌>>=◌ : {A B : Type 0} → Answer A → (A → Answer B) → Answer B
Ok a >>= rest = rest a
Err fault >>= rest = Err fault

infixr 10 ◌>>◌
-- the second rule, where the first gives no fault
abbrev pub ◌>>◌ : {A : Type 0} → Verdict → Answer A → Answer A
Ok u >> rest = rest
Err fault >> rest = Err fault

-- a count that isn't the wanted one
unfoldable pub same_count : Place → ℕ → ℕ → Verdict
same_count place wanted count = if count == wanted then fine else Err (WrongCount place)

-- a number that isn't in its range
unfoldable pub in_range : Num → ℕ → ℕ → Verdict
in_range number least most =
    if nat_le least number.value && nat_le number.value most then fine else Err (OutOfRange number.place number.value)

-- a count that passes its limit
unfoldable pub within_limit : Place → Kind → ℕ → ℕ → Verdict
within_limit place kind limit count = if nat_le count limit then fine else Err (TooMany place kind count)

-- whether two places are one
abbrev pub same_place : Place → Place → Bool
same_place a b = a.line == b.line && a.column == b.column

-- whether a fault stands at a place
unfoldable pub stands_at : Place → CheckFault → Bool
stands_at place (UnknownName at) = same_place at place
stands_at place (TwiceNamed at) = same_place at place
stands_at place (NotAllowedHere at) = same_place at place
stands_at place (WrongCount at) = same_place at place
stands_at place (OutOfRange at number) = same_place at place
stands_at place (TooMany at kind count) = same_place at place
stands_at place NoMemory = false
