-- The free places fix the holes.
use Rattle.std.proofs.Common.{◌≡◌, ◌∙◌, ℕ, ◌+◌, ◌≤◌, Bool, true, false, ◌||◌, List, [], ◌∷◌, inl, inr, refl, sym, ap, arith}
use Rattle.std.proofs.lemmas.Bool.{cases_lt}
use Rattle.persistent_heap.specs.declared.hole.Hole.{Hole}
use Rattle.persistent_heap.specs.Holes.{AreHoles, IsHeap, free_in, in_block, holes, free}
use Rattle.persistent_heap.proofs.Lists.{AreHoles-earlier, free_in-from, free_in-end, free_in-below, free_in-cons, free_in-nil, in_block-above}
use Rattle.persistent_heap.proofs.Least.{IsFree-hole}

same_hole : (first second : Hole) → first.place ≡ second.place → first.size ≡ second.size → first ≡ second
same_hole first second place size =
    let moved : first ≡ record { place = second.place; size = first.size } = ap (λ (n : ℕ). let hole : Hole = record { place = n; size = first.size } in hole) place in
    moved ∙ ap (λ (n : ℕ). let hole : Hole = record { place = second.place; size = n } in hole) size

-- holes begin at their first one
from_first : (from : ℕ) (hole : Hole) (later : List Hole) → AreHoles from (hole ∷ later) → AreHoles hole.place (hole ∷ later)
from_first from hole later are = (record { behind = omega arith; even_place = are.0.even_place; even_size = are.0.even_size; some = are.0.some; within = are.0.within }, are.1)

-- where the same places are free the first hole of one list doesn't begin before that of the other
begins_no_earlier : (from : ℕ) (first second : Hole) (rest others : List Hole) → AreHoles from (first ∷ rest) → AreHoles from (second ∷ others)
    → ((p : ℕ) → free_in (first ∷ rest) p ≡ free_in (second ∷ others) p) → second.place ≤ first.place
begins_no_earlier from first second rest others are those same =
    free_in-from second.place (second ∷ others) first.place (from_first from second others those)
    (sym (same first.place) ∙ (IsFree-hole [] rest first 1 (omega (arith, are.0.some))).each first.place (omega arith) (omega arith))

-- nor does it end before it
ends_no_earlier : (from : ℕ) (first second : Hole) (rest others : List Hole) → AreHoles from (first ∷ rest) → AreHoles from (second ∷ others)
    → ((p : ℕ) → free_in (first ∷ rest) p ≡ free_in (second ∷ others) p) → second.place ≤ first.place → second.place + second.size ≤ first.place + first.size
ends_no_earlier from first second rest others are those same le = elim (cases_lt (first.place + first.size) (second.place + second.size)) [
  | inl inside ↦ absurd (
      let free_there = (IsFree-hole [] others second second.size (omega arith)).each (first.place + first.size) (omega arith) inside in
      let clash : true ≡ false = sym free_there ∙ sym (same (first.place + first.size)) ∙ free_in-end from first rest are in
      cc)
  | inr past ↦ past
]

-- two lists of holes with the same free places are one
pub AreHoles-unique : (from : ℕ) (list others : List Hole) → AreHoles from list → AreHoles from others → ((p : ℕ) → free_in list p ≡ free_in others p) → list ≡ others
AreHoles-unique from [] [] are those same = refl
AreHoles-unique from [] (second ∷ others) are those same = absurd (
    let free_there = (IsFree-hole [] others second 1 (omega (arith, those.0.some))).each second.place (omega arith) (omega arith) in
    let clash : true ≡ false = sym free_there ∙ sym (same second.place) ∙ free_in-nil second.place in
    cc)
AreHoles-unique from (first ∷ rest) [] are those same = absurd (
    let free_there = (IsFree-hole [] rest first 1 (omega (arith, are.0.some))).each first.place (omega arith) (omega arith) in
    let clash : true ≡ false = sym free_there ∙ same first.place ∙ free_in-nil first.place in
    cc)
AreHoles-unique from (first ∷ rest) (second ∷ others) are those same =
    let back = λ (p : ℕ). sym (same p) in
    let low = begins_no_earlier from first second rest others are those same in
    let high = begins_no_earlier from second first others rest those are back in
    let shorter = ends_no_earlier from first second rest others are those same low in
    let longer = ends_no_earlier from second first others rest those are back high in
    let end = first.place + first.size + 1 in
    let tail : AreHoles end others = AreHoles-earlier (second.place + second.size + 1) end others (omega arith) those.1 in
    let later : (p : ℕ) → free_in rest p ≡ free_in others p = λ p. elim (cases_lt p end) [
      | inl below ↦ free_in-below end rest p are.1 below ∙ sym (free_in-below end others p tail below)
      | inr above ↦
          let beside : in_block first.place first.size p ≡ false = in_block-above first.place first.size p (omega arith) in
          let beside_too : in_block second.place second.size p ≡ false = in_block-above second.place second.size p (omega arith) in
          ap (λ (b : Bool). b || free_in rest p) (sym beside) ∙ sym (free_in-cons first rest p) ∙ same p ∙ free_in-cons second others p ∙ ap (λ (b : Bool). b || free_in others p) beside_too
    ] in
    ap (λ (hole : Hole). hole ∷ rest) (same_hole first second (omega arith) (omega arith)) ∙ ap (λ (list : List Hole). second ∷ list) (AreHoles-unique end rest others are.1 tail later)

-- a heap's holes are the only ones with its free places
pub holes-unique : (words : ℕ → ℕ) (list : List Hole) → IsHeap (holes words) → IsHeap list → free words ≡ free_in list → holes words ≡ list
holes-unique words list heap is same = AreHoles-unique 2 (holes words) list heap is (λ p. ap (λ (f : ℕ → Bool). f p) same)
