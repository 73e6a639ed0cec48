-- One step of a loop over a list by its places.
use Rattle.std.proofs.Common.{◌≡◌, ℕ, ◌+◌, ◌<◌, zero, suc, List, [], ◌∷◌, ◌++◌, drop, take, Some, refl, arith, ap, ◌∙◌, add-one}
use Rattle.std.proofs.lemmas.List.{take_more}
use Rattle.std.proofs.lemmas.Option.{slice_get_within, get_or_from_slice_get}
use Rattle.std.specs.List.{slice_get}

-- the rest from a place on is its item and the rest after it
pub drop_at : {A : Type 0} (xs : List A) (i : ℕ) (x : A) → slice_get xs i ≡ Some x → drop i xs ≡ x ∷ drop (i + 1) xs
drop_at [] i x there = cc
drop_at (y ∷ xs) zero x there = cc
drop_at (y ∷ xs) (suc i) x there = rw (add-one) (drop_at xs i x there ∙ rw add-one refl)

-- a place before the count is the same place of the first ones
pub slice_get_take : {A : Type 0} (xs : List A) (n i : ℕ) → i < n → slice_get (take n xs) i ≡ slice_get xs i
slice_get_take xs zero i below = absurd (omega arith)
slice_get_take [] (suc n) i below = refl
slice_get_take (x ∷ xs) (suc n) zero below = refl
slice_get_take (x ∷ xs) (suc n) (suc i) below = slice_get_take xs n i (omega arith)

-- the first ones up to and with a place
pub take_at : {A : Type 0} (xs : List A) (i : ℕ) (x : A) → slice_get xs i ≡ Some x → take (i + 1) xs ≡ take i xs ++ x ∷ []
take_at xs i x there = take_more xs i x (slice_get_within xs i x there) ∙ ap (λ y. take i xs ++ y ∷ []) (get_or_from_slice_get xs i x x there)
