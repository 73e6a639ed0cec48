-- Lists of holes: their order, and the places that are free in them.
use Rattle.std.proofs.Common.{◌≡◌, ◌∙◌, ◌⊎◌, ℕ, ◌+◌, ◌<◌, ◌≤◌, Bool, true, false, ◌||◌, List, [], ◌∷◌, ◌++◌, inl, inr, refl, sym, ap, arith}
use Rattle.std.proofs.Math.Bool.{or_assoc}
use Rattle.std.proofs.lemmas.Bool.{cases_lt}
use Rattle.std.proofs.lemmas.Bool.Decides.{nat_tests}
use Rattle.persistent_heap.specs.declared.hole.Hole.{Hole}
use Rattle.persistent_heap.specs.Holes.{AreHoles, free_in, in_block, IsFree}
use Rattle.persistent_heap.specs.Walk.{behind}

-- the first of holes that stand behind one another
pub AreHoles-front : (from : ℕ) (before rest : List Hole) → AreHoles from (before ++ rest) → AreHoles from before
AreHoles-front from [] rest are = tt
AreHoles-front from (hole ∷ later) rest are = (are.0, AreHoles-front (hole.place + hole.size + 1) later rest are.1)

-- and the others
pub AreHoles-back : (from : ℕ) (before rest : List Hole) → AreHoles from (before ++ rest) → AreHoles (behind from before) rest
AreHoles-back from [] rest are = are
AreHoles-back from (hole ∷ later) rest are = AreHoles-back (hole.place + hole.size + 1) later rest are.1

-- both together
pub AreHoles-append : (from : ℕ) (before rest : List Hole) → AreHoles from before → AreHoles (behind from before) rest → AreHoles from (before ++ rest)
AreHoles-append from [] rest front back = back
AreHoles-append from (hole ∷ later) rest front back = (front.0, AreHoles-append (hole.place + hole.size + 1) later rest front.1 back)

-- holes from a place on are holes from an earlier one on
pub AreHoles-earlier : (from earlier : ℕ) (holes : List Hole) → earlier ≤ from → AreHoles from holes → AreHoles earlier holes
AreHoles-earlier from earlier [] le are = tt
AreHoles-earlier from earlier (hole ∷ later) le are =
    let first = are.0 in
    (record { behind = omega (arith, first.behind); even_place = first.even_place; even_size = first.even_size; some = first.some; within = first.within }, are.1)

-- each hole moves the place on where the next one may begin
pub behind_rises : (from : ℕ) (before : List Hole) → AreHoles from before → from ≤ behind from before
behind_rises from [] are = omega arith
behind_rises from (hole ∷ later) are = omega (arith, are.0.behind, behind_rises (hole.place + hole.size + 1) later are.1)

-- and never past the heap's end
pub behind_within : (from : ℕ) (before : List Hole) → from ≤ 4097 → AreHoles from before → behind from before ≤ 4097
behind_within from [] le are = le
behind_within from (hole ∷ later) le are = behind_within (hole.place + hole.size + 1) later (omega (arith, are.0.within)) are.1

pub in_block-below : (first count p : ℕ) → p < first → in_block first count p ≡ false
in_block-below first count p lt = grind (arith, nat_tests)

pub in_block-above : (first count p : ℕ) → first + count ≤ p → in_block first count p ≡ false
in_block-above first count p le = grind (arith, nat_tests)

pub in_block-among : (first count p : ℕ) → first ≤ p → p < first + count → in_block first count p ≡ true
in_block-among first count p low high = grind (arith, nat_tests)

pub in_block-low : (first count p : ℕ) → in_block first count p ≡ true → first ≤ p
in_block-low first count p is = grind (arith, nat_tests)

pub in_block-high : (first count p : ℕ) → in_block first count p ≡ true → p < first + count
in_block-high first count p is = grind (arith, nat_tests)

neither : (a b : Bool) → a ≡ false → b ≡ false → (a || b) ≡ false
neither a b first second = rw (first, second)

-- no place below the first hole is free
pub free_in-below : (from : ℕ) (holes : List Hole) (p : ℕ) → AreHoles from holes → p < from → free_in holes p ≡ false
unfolding free_in
free_in-below from [] p are lt = refl
free_in-below from (hole ∷ later) p are lt =
    neither _ _ (in_block-below hole.place hole.size p (omega (arith, are.0.behind)))
    (free_in-below (hole.place + hole.size + 1) later p are.1 (omega (arith, are.0.behind)))

-- nor is one behind the last
pub free_in-above : (from : ℕ) (holes : List Hole) (p : ℕ) → AreHoles from holes → behind from holes ≤ p + 1 → free_in holes p ≡ false
unfolding free_in
free_in-above from [] p are le = refl
free_in-above from (hole ∷ later) p are le =
    neither _ _ (in_block-above hole.place hole.size p (omega (arith, behind_rises (hole.place + hole.size + 1) later are.1)))
    (free_in-above (hole.place + hole.size + 1) later p are.1 le)

pub free_in-append : (before rest : List Hole) (p : ℕ) → free_in (before ++ rest) p ≡ (free_in before p || free_in rest p)
unfolding free_in
free_in-append [] rest p = refl
free_in-append (hole ∷ later) rest p = rw (free_in-append later rest p) (sym (or_assoc (in_block hole.place hole.size p) (free_in later p) (free_in rest p)))

-- free places are those of the first hole and of the later ones
pub free_in-cons : (hole : Hole) (later : List Hole) (p : ℕ) → free_in (hole ∷ later) p ≡ (in_block hole.place hole.size p || free_in later p)
unfolding free_in
free_in-cons hole later p = refl

pub free_in-nil : (p : ℕ) → free_in [] p ≡ false
unfolding free_in
free_in-nil p = refl

-- a free place is none below the first hole
pub free_in-from : (from : ℕ) (holes : List Hole) (p : ℕ) → AreHoles from holes → free_in holes p ≡ true → from ≤ p
free_in-from from holes p are is = elim (cases_lt p from) [
  | inl lt ↦ absurd (let clash : true ≡ false = sym is ∙ free_in-below from holes p are lt in cc)
  | inr le ↦ le
]

-- the place behind a hole isn't free
pub free_in-end : (from : ℕ) (hole : Hole) (later : List Hole) → AreHoles from (hole ∷ later) → free_in (hole ∷ later) (hole.place + hole.size) ≡ false
free_in-end from hole later are =
    free_in-cons hole later (hole.place + hole.size) ∙ neither _ _ (in_block-above hole.place hole.size (hole.place + hole.size) (omega arith))
    (free_in-below (hole.place + hole.size + 1) later (hole.place + hole.size) are.1 (omega arith))

-- a free block lies within the first hole or among the later ones
pub free_block : (from : ℕ) (hole : Hole) (later : List Hole) (first count : ℕ) → AreHoles from (hole ∷ later) → 1 ≤ count → IsFree (free_in (hole ∷ later)) first count
    → ((hole.place ≤ first) × (count ≤ hole.size)) ⊎ IsFree (free_in later) first count
free_block from hole later first count are some is_free =
    let start : hole.place ≤ first = free_in-from hole.place (hole ∷ later) first (record { behind = omega arith; even_place = are.0.even_place; even_size = are.0.even_size; some = are.0.some; within = are.0.within }, are.1) (is_free.each first (omega arith) (omega arith)) in
    elim (cases_lt first (hole.place + hole.size)) [
      | inl inside ↦ elim (cases_lt (hole.place + hole.size) (first + count)) [
        | inl over ↦ absurd (let clash : true ≡ false = sym (is_free.each (hole.place + hole.size) (omega arith) over) ∙ free_in-end from hole later are in cc)
        | inr fits ↦ inl (start, omega arith)
      ]
      | inr past ↦ inr (record { each = λ p low high. sym (ap (λ (b : Bool). b || free_in later p) (in_block-above hole.place hole.size p (omega arith))) ∙ sym (free_in-cons hole later p) ∙ is_free.each p low high })
    ]
