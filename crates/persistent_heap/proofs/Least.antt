-- The first hole that is large enough begins at the least place from which so many are free.
use Rattle.std.proofs.Common.{◌≡◌, ◌∙◌, ℕ, ◌+◌, ◌<◌, ◌≤◌, Bool, true, ◌||◌, List, [], ◌∷◌, ◌++◌, inl, inr, refl, sym, ap, arith}
use Rattle.persistent_heap.specs.declared.hole.Hole.{Hole}
use Rattle.persistent_heap.specs.Holes.{AreHoles, IsHeap, IsFree, IsLeast, free_in, in_block}
use Rattle.persistent_heap.specs.Walk.{Each}
use Rattle.persistent_heap.proofs.Lists.{free_block, free_in-nil, free_in-from, free_in-append, free_in-cons, in_block-among, behind_rises, AreHoles-front, AreHoles-back}

-- holes that are too small have no such place
pub smaller_none : (from : ℕ) (list : List Hole) (first count : ℕ) → 1 ≤ count → AreHoles from list → Each (λ hole. hole.size < count) list → IsFree (free_in list) first count → ⊥
smaller_none from [] first count some are small is = let clash = sym (free_in-nil first) ∙ is.each first (omega arith) (omega arith) in cc
smaller_none from (hole ∷ later) first count some are small is = elim (free_block from hole later first count are some is) [
  | inl within ↦ omega (arith, within.1, small.0)
  | inr among ↦ smaller_none (hole.place + hole.size + 1) later first count some are.1 small.1 among
]

-- and leave such places to the holes behind them
pub smaller_later : (from : ℕ) (before rest : List Hole) (hole : Hole) (first count : ℕ) → 1 ≤ count → AreHoles from (before ++ hole ∷ rest) → Each (λ smaller. smaller.size < count) before
    → IsFree (free_in (before ++ hole ∷ rest)) first count → hole.place ≤ first
smaller_later from [] rest hole first count some are small is =
    free_in-from hole.place (hole ∷ rest) first (record { behind = omega arith; even_place = are.0.even_place; even_size = are.0.even_size; some = are.0.some; within = are.0.within }, are.1) (is.each first (omega arith) (omega arith))
smaller_later from (earlier ∷ before) rest hole first count some are small is = elim (free_block from earlier (before ++ hole ∷ rest) first count are some is) [
  | inl within ↦ absurd (omega (arith, within.1, small.0))
  | inr among ↦ smaller_later (earlier.place + earlier.size + 1) before rest hole first count some are.1 small.1 among
]

or_left : (a b : Bool) → a ≡ true → (a || b) ≡ true
or_left a b is = rw is

or_second : (a b c : Bool) → b ≡ true → (a || (b || c)) ≡ true
or_second a b c is = grind arith

-- the places of a hole are free
pub IsFree-hole : (before rest : List Hole) (hole : Hole) (count : ℕ) → count ≤ hole.size → IsFree (free_in (before ++ hole ∷ rest)) hole.place count
IsFree-hole before rest hole count le = record {
  each = λ p low high.
      free_in-append before (hole ∷ rest) p ∙ ap (λ (b : Bool). free_in before p || b) (free_in-cons hole rest p)
      ∙ or_second (free_in before p) (in_block hole.place hole.size p) (free_in rest p) (in_block-among hole.place hole.size p low (omega arith));
}

-- the first hole that is large enough
pub IsLeast-fits : (before rest : List Hole) (hole : Hole) (count : ℕ) → 1 ≤ count → IsHeap (before ++ hole ∷ rest) → Each (λ smaller. smaller.size < count) before → count ≤ hole.size
    → IsLeast (free_in (before ++ hole ∷ rest)) count hole.place
IsLeast-fits before rest hole count some heap small enough =
    let here = AreHoles-back 2 before (hole ∷ rest) heap in
    let low = behind_rises 2 before (AreHoles-front 2 before (hole ∷ rest) heap) in
    record {
      even = here.0.even_place;
      fits = λ _. IsFree-hole before rest hole count enough;
      least = λ other is. (omega (arith, here.0.behind), smaller_later 2 before rest hole other count some heap small is);
    }

-- or none is
pub IsLeast-none : (list : List Hole) (count : ℕ) → 1 ≤ count → IsHeap list → Each (λ smaller. smaller.size < count) list → IsLeast (free_in list) count 0
IsLeast-none list count some heap small = record {
  even = refl;
  fits = λ lt. absurd (omega arith);
  least = λ other is. absurd (smaller_none 2 list other count some heap small is);
}
