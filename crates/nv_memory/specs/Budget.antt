-- Budgets of word writes: how many writes are left, or none on mains.
use Rattle.std.specs.Prelude.{ℕ, ◌-◌, ◌<◌, List, [], ◌∷◌, Option, Some, None}

-- what a boot begins with: the first budget, or mains where there is none
abbrev pub first_budget : List ℕ → Option ℕ
first_budget [] = None
first_budget (budget ∷ later) = Some budget

-- the budgets behind the first
abbrev pub later_budgets : List ℕ → List ℕ
later_budgets [] = []
later_budgets (budget ∷ later) = later

-- what is left after n writes were made or tried, which is never below 0; mains stay mains
abbrev pub spent : Option ℕ → ℕ → Option ℕ
spent None n = None
spent (Some left) n = Some (left - n)

-- fewer than n writes are left
abbrev pub IsShort : Option ℕ → ℕ → Type 0
IsShort None n = ⊥
IsShort (Some left) n = left < n
