-- Two lists, element by element.
use Rattle.std.proofs.Common.{◌≡◌, ℕ, zero, suc, ◌<◌, List, [], ◌∷◌, Option, Some, None, refl, ap, arith, length, subst}
use Rattle.std.specs.Prelude.{map, slice_get, slice_index_or, slice_set}
use Rattle.kernel_image.specs.Agree.{Both}

pub both_length : {X Y : Type 0} (R : X → Y → Type 0) (xs : List X) (ys : List Y) → Both R xs ys → length xs ≡ length ys
both_length R [] [] both = refl
both_length R [] (y ∷ ys) both = absurd both
both_length R (x ∷ xs) [] both = absurd both
both_length R (x ∷ xs) (y ∷ ys) both = ap suc (both_length R xs ys both.1)

pub both_get : {X Y : Type 0} (R : X → Y → Type 0) (xs : List X) (ys : List Y) (t : ℕ) (y : Y) → Both R xs ys → slice_get ys t ≡ Some y → (x : X) × (slice_get xs t ≡ Some x) × R x y
both_get R [] [] t y both e = absurd (let f : ◌≡◌ {A = Option _} None (Some y) = e in cc)
both_get R [] (z ∷ ys) t y both e = absurd both
both_get R (x ∷ xs) [] t y both e = absurd both
both_get {Y = Y} R (x ∷ xs) (z ∷ ys) zero y both e =
    let f : ◌≡◌ {A = Option Y} (Some z) (Some y) = e in
    let same : z ≡ y = cc in
    (x, refl, subst (R x) same both.0)
both_get R (x ∷ xs) (z ∷ ys) (suc t) y both e = both_get R xs ys t y both.1 e

pub both_get_or : {X Y : Type 0} (R : X → Y → Type 0) (xs : List X) (ys : List Y) (t : ℕ) (x : X) (y : Y) → Both R xs ys → t < length ys → R (slice_index_or xs t x) (slice_index_or ys t y)
both_get_or R [] [] t x y both low = absurd (omega (arith, low))
both_get_or R [] (z ∷ ys) t x y both low = absurd both
both_get_or R (w ∷ xs) [] t x y both low = absurd both
both_get_or R (w ∷ xs) (z ∷ ys) zero x y both low = both.0
both_get_or R (w ∷ xs) (z ∷ ys) (suc t) x y both low = both_get_or R xs ys t x y both.1 (omega (arith, low))

pub both_set : {X Y : Type 0} (R : X → Y → Type 0) (xs : List X) (ys : List Y) (t : ℕ) (x : X) (y : Y) → Both R xs ys → R x y → Both R (slice_set xs t x) (slice_set ys t y)
both_set R [] [] t x y both r = tt
both_set R [] (z ∷ ys) t x y both r = absurd both
both_set R (w ∷ xs) [] t x y both r = absurd both
both_set R (w ∷ xs) (z ∷ ys) zero x y both r = (r, both.1)
both_set R (w ∷ xs) (z ∷ ys) (suc t) x y both r = (both.0, both_set R xs ys t x y both.1 r)

-- where only one of them changes
pub both_set_right : {X Y : Type 0} (R : X → Y → Type 0) (xs : List X) (ys : List Y) (t : ℕ) (x : X) (y : Y) → Both R xs ys → R (slice_index_or xs t x) y → Both R xs (slice_set ys t y)
both_set_right R [] [] t x y both r = tt
both_set_right R [] (z ∷ ys) t x y both r = absurd both
both_set_right R (w ∷ xs) [] t x y both r = absurd both
both_set_right R (w ∷ xs) (z ∷ ys) zero x y both r = (r, both.1)
both_set_right R (w ∷ xs) (z ∷ ys) (suc t) x y both r = (both.0, both_set_right R xs ys t x y both.1 r)

-- by another relation that follows, and by functions of the elements
pub both_weaker : {X Y : Type 0} (R S : X → Y → Type 0) → ((x : X) (y : Y) → R x y → S x y) → (xs : List X) (ys : List Y) → Both R xs ys → Both S xs ys
both_weaker R S follows [] [] both = tt
both_weaker R S follows [] (y ∷ ys) both = absurd both
both_weaker R S follows (x ∷ xs) [] both = absurd both
both_weaker R S follows (x ∷ xs) (y ∷ ys) both = (follows x y both.0, both_weaker R S follows xs ys both.1)

pub both_map : {X Y Z : Type 0} (R : X → Y → Type 0) (f : X → Z) (g : Y → Z) → ((x : X) (y : Y) → R x y → f x ≡ g y) → (xs : List X) (ys : List Y) → Both R xs ys → map f xs ≡ map g ys
both_map R f g same [] [] both = refl
both_map R f g same [] (y ∷ ys) both = absurd both
both_map R f g same (x ∷ xs) [] both = absurd both
both_map R f g same (x ∷ xs) (y ∷ ys) both =
    let first = same x y both.0 in
    let rest = both_map R f g same xs ys both.1 in
    λ i. first i ∷ rest i
