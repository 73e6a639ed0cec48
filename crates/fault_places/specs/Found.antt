-- All the faults that rules find one after another. A rule behind a fault is asked as if there had been none.
use Rattle.std.specs.Prelude.{List, [], ◌∷◌, ◌++◌, Option, Some, None, Ok, Err}
use Rattle.thread_check.specs.declared.fault.CheckFault.{CheckFault}
use Rattle.thread_check.specs.Verdict.{Verdict, Answer}

-- what rules find, and what they leave to the rules behind them
pub record Found (A : Type 0) : Type 0 where
  pub faults : List CheckFault
  pub left : A

-- no fault
abbrev pub leaves : {A : Type 0} → A → Found A
leaves a = record { faults = []; left = a }

-- the fault of one rule, if it gives one
abbrev pub found_by : Verdict → List CheckFault
found_by (Ok u) = []
found_by (Err fault) = fault ∷ []

infixr 10 ◌+>◌
-- the faults of a rule that leaves nothing, and then those of the next
abbrev pub ◌+>◌ : {A : Type 0} → List CheckFault → Found A → Found A
faults +> next = record next { faults = faults ++ next.faults }

infixl 10 ◌+>=◌
-- the faults of a rule, and then those of the next with what the first leaves
abbrev pub ◌+>=◌ : {A B : Type 0} → Found A → (A → Found B) → Found B
first +>= next = let further = next first.left in record further { faults = first.faults ++ further.faults }

-- the answer of rules of which the first fault counts
abbrev pub answer_of : {A : Type 0} → List CheckFault → A → Answer A
answer_of [] a = Ok a
answer_of (fault ∷ rest) a = Err fault

abbrev pub answer : {A : Type 0} → Found A → Answer A
answer found = answer_of found.faults found.left

-- the first of these faults
abbrev pub first_of : List CheckFault → Option CheckFault
first_of [] = None
first_of (fault ∷ rest) = Some fault
