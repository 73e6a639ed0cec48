-- Taking a block from the front of a hole.
use Rattle.std.proofs.Common.{◌≡◌, ◌∙◌, ℕ, ◌+◌, ◌-◌, ◌<◌, ◌≤◌, List, [], ◌∷◌, ◌++◌, Some, sym, ap, subst, arith}
use Rattle.persistent_heap.specs.declared.hole.Hole.{Hole}
use Rattle.persistent_heap.specs.declared.link.Link.{Link}
use Rattle.persistent_heap.specs.Holes.{IsEven, IsHole, AreHoles, IsHeap, IsLeast, holes, free, free_in, without_block, HeapBecomes, with_link, with_hole}
use Rattle.persistent_heap.specs.Walk.{Linked, Stands, Each, Fits, behind, first_of}
use Rattle.persistent_heap.proofs.Lists.{AreHoles-earlier}
use Rattle.persistent_heap.proofs.Walks.{passed_heap, passed_path, rest_are, rest_linked}
use Rattle.persistent_heap.proofs.Least.{IsLeast-fits, IsLeast-none}
use Rattle.persistent_heap.proofs.Places.{free_in-shortened, free_in-used_up}
use Rattle.persistent_heap.proofs.Changed.{inserted, passed_over}

-- a list whose first hole is known
pub record Begins (rest : List Hole) (hole : Hole) : Type 0 where
  pub later : List Hole
  pub is : rest ≡ hole ∷ later

pub begins : (rest : List Hole) (hole : Hole) → first_of rest ≡ Some hole → Begins rest hole
begins [] hole first = absurd (cc)
begins (found ∷ later) hole first = let same : found ≡ hole = cc in record { later = later; is = ap (λ (h : Hole). h ∷ later) same }

module _ (words : ℕ → ℕ) (count : ℕ) (link : Link) (hole : Hole) (heap : IsHeap (holes words)) (fits : Fits words count link hole) where
  abbrev found : Begins fits.passed.stands.rest hole
  found = begins fits.passed.stands.rest hole fits.here

  abbrev before : List Hole
  before = fits.passed.stands.before

  abbrev at : Stands words link
  at = record { before = before; rest = hole ∷ found.later; whole = fits.passed.stands.whole ∙ ap (λ (rest : List Hole). before ++ rest) found.is; here = fits.passed.stands.here }

  here_is : AreHoles (behind 2 before) (hole ∷ found.later)
  here_is = rest_are words link heap at

  -- the hole begins at the least place from which so many are free
  pub fits_least : 1 ≤ count → IsLeast (free words) count hole.place
  fits_least some = subst (λ (list : List Hole). IsLeast (free_in list) count hole.place) (sym at.whole)
      (IsLeast-fits before found.later hole count some (subst IsHeap at.whole heap) fits.passed.each fits.enough)

  -- its size and the place of the next hole are even numbers that differ from the block's by at least 2
  rest_is : IsEven count → count < hole.size → IsHole (behind 2 before) (record { place = hole.place + count; size = hole.size - count })
  rest_is even larger = record {
    behind = omega (arith, here_is.0.behind);
    even_place = omega (arith, here_is.0.even_place);
    even_size = omega (arith, here_is.0.even_size);
    some = omega (arith, here_is.0.even_size);
    within = omega (arith, here_is.0.within);
  }

  pub shortened : (new : ℕ → ℕ) (next : ℕ) → IsEven count → count < hole.size → next ≡ words (7808 + (hole.place + 1))
      → new ≡ with_link (with_hole words (record { place = hole.place + count; size = hole.size - count }) next) link (hole.place + count)
      → HeapBecomes words new (without_block (free words) hole.place count)
  shortened new next even larger leads stored =
      let rest : Hole = record { place = hole.place + count; size = hole.size - count } in
      let tail : AreHoles (rest.place + rest.size + 1) found.later = AreHoles-earlier (hole.place + hole.size + 1) (rest.place + rest.size + 1) found.later (omega arith) here_is.1 in
      subst (λ (f : ℕ → ℕ). HeapBecomes words f (without_block (free words) hole.place count)) (sym stored) (inserted words link before found.later rest next (without_block (free words) hole.place count)
      (passed_heap words link heap at) (passed_path words link heap at) at.here (rest_is even larger, tail)
      (subst (λ (n : ℕ). Linked words n found.later) (sym leads) (rest_linked words link heap at).2)
      (λ p. free_in-shortened before found.later hole count (passed_heap words link heap at) here_is (omega arith) p
      ∙ ap (λ (list : List Hole). without_block (free_in list) hole.place count p) (sym at.whole)))

  pub used_up : (new : ℕ → ℕ) (next : ℕ) → hole.size ≤ count → next ≡ words (7808 + (hole.place + 1)) → new ≡ with_link words link next
      → HeapBecomes words new (without_block (free words) hole.place count)
  used_up new next smaller leads stored =
      let exact : count ≡ hole.size = omega (arith, fits.enough) in
      let back : AreHoles (behind 2 before) found.later = AreHoles-earlier (hole.place + hole.size + 1) (behind 2 before) found.later (omega (arith, here_is.0.behind)) here_is.1 in
      subst (λ (f : ℕ → ℕ). HeapBecomes words f (without_block (free words) hole.place count)) (sym stored) (passed_over words link before found.later next (without_block (free words) hole.place count)
      (passed_heap words link heap at) (passed_path words link heap at) at.here back
      (subst (λ (n : ℕ). Linked words n found.later) (sym leads) (rest_linked words link heap at).2)
      (λ p. free_in-used_up before found.later hole (passed_heap words link heap at) here_is p
      ∙ ap (λ (list : List Hole). without_block (free_in list) hole.place hole.size p) (sym at.whole)
      ∙ ap (λ (n : ℕ). without_block (free words) hole.place n p) (sym exact)))

-- where no hole fits, no such place is free
pub none_fits : (words : ℕ → ℕ) (count : ℕ) → IsHeap (holes words) → 1 ≤ count → Each (λ hole. hole.size < count) (holes words) → IsLeast (free words) count 0
none_fits words count heap some small = IsLeast-none (holes words) count some heap small
