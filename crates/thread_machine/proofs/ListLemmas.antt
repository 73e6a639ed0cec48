-- Lists from a place on.
use Rattle.std.proofs.Common.{◌≡◌, ℕ, zero, suc, ◌+◌, List, [], ◌∷◌, drop, Some, None, refl, arith}
use Rattle.std.specs.Prelude.{slice_get}

-- the list from the place of an item on
pub drop_at_item : {X : Type 0} (xs : List X) (n : ℕ) (x : X) → slice_get xs n ≡ Some x → drop n xs ≡ x ∷ drop (n + 1) xs
drop_at_item [] n x is = cc
drop_at_item (y ∷ ys) zero x is = cc
drop_at_item (y ∷ ys) (suc n) x is = let e : suc n + 1 ≡ suc (n + 1) = omega arith in rw e (drop_at_item ys n x is)

-- the list from a place on where there is no item
pub drop_at_none : {X : Type 0} (xs : List X) (n : ℕ) → slice_get xs n ≡ None → drop n xs ≡ []
drop_at_none [] zero is = refl
drop_at_none [] (suc n) is = refl
drop_at_none (y ∷ ys) zero is = cc
drop_at_none (y ∷ ys) (suc n) is = drop_at_none ys n is
