-- What a run over boots that budgets cut leaves.
use Rattle.std.specs.Prelude.{◌≡◌, ℕ, ◌+◌, ◌-◌, ◌*◌, ◌<◌, ◌≤◌, true, false, List, [], ◌∷◌, Option}
use Rattle.nv_memory.specs.Budget.{first_budget, later_budgets, IsShort}
use Rattle.replay_list.specs.Kept.{counter_of, recovering}
use Rattle.kernel_boots.specs.Courses.{Course, last, IsUnderWay}
use Rattle.intos_run.specs.Report.{goes_dark}
use Rattle.kernel_events.specs.declared.writes.TheConstants.{EVENT_WRITES}

-- the words that a boot left are kept for the kernel of the course that counts as many events as they do: no fewer than
-- the words before, and at most all of them
pub record IsLater (c : Course) (before left : List ℕ) : Type 0 where
  pub under_way : IsUnderWay c left
  pub later : counter_of before ≤ counter_of left

-- a boot that was cut: it didn't come to the last event, unless it went dark in its recovery, and then it committed
-- nothing; and its budget was less than what its recovery needs and 6,400 writes for each event that it committed and
-- for one more
pub record IsCutBoot (c : Course) (budget : Option ℕ) (before left : List ℕ) : Type 0 where
  pub images : IsLater c before left
  pub cause : goes_dark budget before ≡ false → counter_of left < last c
  pub nothing : goes_dark budget before ≡ true → counter_of left ≡ counter_of before
  pub progress : IsShort budget (recovering before + EVENT_WRITES * (counter_of left + 1 - counter_of before))

-- a relation holds of each boot that was cut: its number, its budget, the words before and the words that it left
abbrev pub EachBoot : (ℕ → Option ℕ → List ℕ → List ℕ → Type 0) → ℕ → List ℕ → List ℕ → List (List ℕ) → Type 0
EachBoot R number cuts before [] = Unit {0}
EachBoot R number cuts before (left ∷ ends) =
    R number (first_budget cuts) before left × EachBoot R (number + 1) (later_budgets cuts) left ends
