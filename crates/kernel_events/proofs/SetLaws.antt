-- An element of a list that was set.
use Rattle.std.proofs.Common.{◌≡◌, ℕ, zero, suc, ◌<◌, List, [], ◌∷◌, length, refl, ap, arith}
use Rattle.std.specs.Prelude.{slice_set, slice_index_or}

-- what was set is there, and setting it again is one change
pub set-at : {X : Type 0} (xs : List X) (t : ℕ) (x d : X) → t < length xs → slice_index_or (slice_set xs t x) t d ≡ x
set-at [] t x d within = absurd (omega (arith, within))
set-at (a ∷ xs) zero x d within = refl
set-at (a ∷ xs) (suc t) x d within = set-at xs t x d (omega (arith, within))

pub set-again : {X : Type 0} (xs : List X) (t : ℕ) (x y : X) → slice_set (slice_set xs t x) t y ≡ slice_set xs t y
set-again [] t x y = refl
set-again (a ∷ xs) zero x y = refl
set-again (a ∷ xs) (suc t) x y = ap (λ rest. a ∷ rest) (set-again xs t x y)
