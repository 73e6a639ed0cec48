-- The words of the command line that ask for a run.
use Rattle.std.specs.Prelude.{◌≡◌, ◌≢◌, ℕ, ◌<◌, ◌≤◌, ◌^◌, List, [], ◌∷◌, map, length, All, codes, decimal}

-- a file's name: it isn't empty and doesn't begin with a dash
abbrev pub IsName : List ℕ → Type 0
IsName [] = ⊥
IsName (first ∷ rest) = first ≢ 45

-- `run`, the name of the program, the number of steps, and the budgets of the boots to be cut
pub record IsCommand (words : List (List ℕ)) (name : List ℕ) (steps : ℕ) (cuts : List ℕ) : Type 0 where
  pub same : words ≡ codes "run" ∷ name ∷ decimal steps ∷ map decimal cuts
  pub named : IsName name
  pub few_steps : steps ≤ 1000000
  pub few_cuts : length cuts ≤ 1000
  pub fit : All (λ cut. cut < 2 ^ 32) cuts
