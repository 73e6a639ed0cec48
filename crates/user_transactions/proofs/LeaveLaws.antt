-- How many locals are left.
use Rattle.std.proofs.Common.{◌≡◌, ℕ, ◌+◌, ◌≤◌, List, length, take, ap, ◌∙◌, arith}
use Rattle.std.proofs.lemmas.List.{length-take}
use Rattle.std.specs.Prelude.{Option, Some, None}
use Rattle.thread_tree.specs.declared.local.Local.{Local}
use Rattle.user_transactions.specs.declared.fate.Fate.{Fate}
use Rattle.user_transactions.specs.Runs.{Spends}

pub few_taken : (keep : ℕ) (xs ys : List Local) → ys ≡ take keep xs → length ys ≤ keep
few_taken keep xs ys is = omega (arith, ap (λ (zs : List Local). length zs) is, length-take keep xs)

-- a move was spent before
pub spent_before : (old new : ℕ) (f : Option Fate) → new + 1 ≤ old → Spends old new f
spent_before old new None le = le
spent_before old new (Some f) le = omega arith

pub ruleset spent_laws = (spent_before)

pub ruleset taken_laws = (few_taken)
