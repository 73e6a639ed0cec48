-- The place of a new object is the least one that is free.
use Rattle.std.proofs.Common.{leb, ◌≡◌, ◌≢◌, ◌⊎◌, ℕ, ◌+◌, ◌%◌, ◌≤◌, Bool, true, false, cond, List, [], ◌∷◌, length, All, refl, ⊎_elim, inl, inr, arith, leb-true}
use Rattle.std.specs.List.{AllByRecursion}
use Rattle.std.proofs.lemmas.List.Elements.{All-from_recursion, recursion_from_All}
use Rattle.std.proofs.lemmas.Bool.{leb-false}
use Rattle.kernel_model.specs.Visible.{Object}
use Rattle.kernel_model.specs.Objects.{block_size, end_of, first_place, end_place, least_from, least}
use Rattle.kernel_model.specs.Sound.{IsLaid, IsFree}
use Rattle.kernel_model.proofs.ObjectLemmas.{block_size-some, least_from-even}

-- a block of so many places doesn't meet an object
abbrev IsOutside : ℕ → ℕ → Object → Type 0
IsOutside place size object = (place + size ≤ object.place) ⊎ (end_of object ≤ place)

-- objects that lie behind a block don't meet it
behind-outside : (objects : List Object) (from place size : ℕ) → IsLaid from objects → place + size ≤ from →
    AllByRecursion (IsOutside place size) objects
behind-outside [] from place size laid le = tt
behind-outside (o ∷ os) from place size laid le =
    (inl (omega (arith, laid.0)), behind-outside os (end_of o) place size laid.1 (omega (arith, laid.0)))

-- objects that lie apart from a place on leave it in the heap
laid-bound : (objects : List Object) (from : ℕ) → IsLaid from objects → from ≤ end_place
laid-bound [] from laid = laid
laid-bound (o ∷ os) from laid = let b = laid-bound os (end_of o) laid.1 in omega (arith, laid.0)

-- the least place from one on: it isn't before that, and the block fits there
pub least_from-free : (objects : List Object) (from size : ℕ) → IsLaid from objects → least_from from size objects ≢ 0 →
    (from ≤ least_from from size objects) × (least_from from size objects + size ≤ end_place)
    × AllByRecursion (IsOutside (least_from from size objects) size) objects
least_from-free [] from size laid some = go (leb (from + size) end_place) refl some
  where
    go : (b : Bool) → leb (from + size) end_place ≡ b → cond b from 0 ≢ 0 →
        (from ≤ cond b from 0) × (cond b from 0 + size ≤ end_place) × Unit {0}
    go true e some = (omega arith, leb-true _ _ e, tt)
    go false e some = absurd (some refl)
least_from-free (o ∷ os) from size laid some = go (leb (from + size) o.place) refl some (least_from-free os (end_of o) size laid.1)
  where
    go : (b : Bool) → leb (from + size) o.place ≡ b → cond b from (least_from (end_of o) size os) ≢ 0 →
        (least_from (end_of o) size os ≢ 0 → (end_of o ≤ least_from (end_of o) size os) × (least_from (end_of o) size os + size ≤ end_place)
        × AllByRecursion (IsOutside (least_from (end_of o) size os) size) os) →
        (from ≤ cond b from (least_from (end_of o) size os)) × (cond b from (least_from (end_of o) size os) + size ≤ end_place)
        × AllByRecursion (IsOutside (cond b from (least_from (end_of o) size os)) size) (o ∷ os)
    go true e some rest = let le = leb-true _ _ e in let b = laid-bound os (end_of o) laid.1 in
        (omega arith, omega arith, (inl le, behind-outside os (end_of o) from size laid.1 (omega arith)))
    go false e some rest = let r = rest some in (omega (arith, laid.0, r.0), r.1, (inr r.0, r.2))

-- no free place from one on is lower
pub least_from-first : (objects : List Object) (from size place : ℕ) → 1 ≤ from → from ≤ place → place + size ≤ end_place →
    AllByRecursion (IsOutside place size) objects → (1 ≤ least_from from size objects) × (least_from from size objects ≤ place)
least_from-first [] from size place some le room free = go (leb (from + size) end_place) refl
  where
    go : (b : Bool) → leb (from + size) end_place ≡ b → (1 ≤ cond b from 0) × (cond b from 0 ≤ place)
    go true e = (some, le)
    go false e = let l = leb-false _ _ e in absurd (omega arith)
least_from-first (o ∷ os) from size place some le room free = go (leb (from + size) o.place) refl
    (λ behind. least_from-first os (end_of o) size place (let b = block_size-some (length o.values) in omega arith) behind room free.1)
  where
    go : (b : Bool) → leb (from + size) o.place ≡ b →
        (end_of o ≤ place → (1 ≤ least_from (end_of o) size os) × (least_from (end_of o) size os ≤ place)) →
        (1 ≤ cond b from (least_from (end_of o) size os)) × (cond b from (least_from (end_of o) size os) ≤ place)
    go true e rest = (some, le)
    go false e rest = let l = leb-false _ _ e in ⊎_elim (λ before. absurd (omega arith)) (λ behind. rest behind) free.0

-- an object fits at the place that it gets
pub least-free : (objects : List Object) (fields : ℕ) → IsLaid first_place objects → least objects fields ≢ 0 →
    IsFree objects (least objects fields) (block_size fields)
least-free objects fields laid some = let h = least_from-free objects first_place (block_size fields) laid some in record {
  from_first = h.0;
  to_last = h.1;
  outside = All-from_recursion (IsOutside (least objects fields) (block_size fields)) objects h.2;
}

-- where there is a place for an object it gets one, and none is lower
pub least-first : (objects : List Object) (fields place : ℕ) → IsFree objects place (block_size fields) →
    (1 ≤ least objects fields) × (least objects fields ≤ place)
least-first objects fields place free = least_from-first objects first_place (block_size fields) place (omega arith) free.from_first free.to_last
    (recursion_from_All (IsOutside place (block_size fields)) objects free.outside)

-- the place is even, as those of the objects are
pub least-even : (objects : List Object) (fields : ℕ) → All (λ o. o.place % 2 ≡ 0) objects → least objects fields % 2 ≡ 0
least-even objects fields even = least_from-even objects first_place (block_size fields) refl (recursion_from_All (λ o. o.place % 2 ≡ 0) objects even)
