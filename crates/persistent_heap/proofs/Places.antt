-- The free places after a block was taken or given back.
use Rattle.std.proofs.Common.{◌≡◌, ◌∙◌, ℕ, ◌+◌, ◌-◌, ◌≤◌, Bool, true, false, not, ◌&&◌, ◌||◌, List, ◌∷◌, ◌++◌, inl, inr, sym, ap, arith}
use Rattle.std.proofs.lemmas.Bool.{cases_Bool}
use Rattle.std.proofs.lemmas.Bool.Decides.{nat_tests}
use Rattle.persistent_heap.specs.declared.hole.Hole.{Hole}
use Rattle.persistent_heap.specs.Holes.{AreHoles, free_in, in_block, without_block, with_block}
use Rattle.persistent_heap.specs.Walk.{behind}
use Rattle.persistent_heap.proofs.Lists.{free_in-append, free_in-cons, free_in-below, free_in-above, in_block-low, in_block-high}

-- taking the block out of two sets of places takes it out of both together
not_among_either : (a b c d block : Bool) → a ≡ (c && not block) → b ≡ (d && not block) → (a || b) ≡ ((c || d) && not block)
not_among_either a b c d block first second = grind arith

not_among : (a block : Bool) → (block ≡ true → a ≡ false) → a ≡ (a && not block)
not_among a block apart = elim (cases_Bool block) [ inl is ↦ rw (is, apart is) | inr is ↦ grind arith ]

-- a part of a hole is left behind the block
in_block-rest : (place size count p : ℕ) → count ≤ size → in_block (place + count) (size - count) p ≡ (in_block place size p && not (in_block place count p))
in_block-rest place size count p le = grind (arith, nat_tests)

in_block-whole : (place size p : ℕ) → false ≡ (in_block place size p && not (in_block place size p))
in_block-whole place size p = grind arith

-- without_block the front of a hole, before which some others stand
free_in-without_block : (before rest now : List Hole) (hole : Hole) (count : ℕ) → AreHoles 2 before → AreHoles (behind 2 before) (hole ∷ rest) → count ≤ hole.size
    → (p : ℕ) → free_in now p ≡ ((in_block hole.place hole.size p || free_in rest p) && not (in_block hole.place count p))
    → free_in (before ++ now) p ≡ without_block (free_in (before ++ hole ∷ rest)) hole.place count p
unfolding without_block
free_in-without_block before rest now hole count front back le p here =
    let apart : in_block hole.place count p ≡ true → free_in before p ≡ false = λ is. free_in-above 2 before p front (omega (arith, back.0.behind, in_block-low hole.place count p is)) in
    free_in-append before now p
    ∙ not_among_either (free_in before p) (free_in now p) (free_in before p) (free_in (hole ∷ rest) p) (in_block hole.place count p)
    (not_among (free_in before p) (in_block hole.place count p) apart)
    (here ∙ ap (λ (b : Bool). b && not (in_block hole.place count p)) (sym (free_in-cons hole rest p)))
    ∙ ap (λ (b : Bool). b && not (in_block hole.place count p)) (sym (free_in-append before (hole ∷ rest) p))

later_apart : (from : ℕ) (rest : List Hole) (hole : Hole) (count p : ℕ) → AreHoles (hole.place + hole.size + 1) rest → count ≤ hole.size → in_block hole.place count p ≡ true → free_in rest p ≡ false
later_apart from rest hole count p are le is = free_in-below (hole.place + hole.size + 1) rest p are (omega (arith, in_block-high hole.place count p is))

-- a hole that is shortened
pub free_in-shortened : (before rest : List Hole) (hole : Hole) (count : ℕ) → AreHoles 2 before → AreHoles (behind 2 before) (hole ∷ rest) → count ≤ hole.size
    → (p : ℕ) → free_in (before ++ record { place = hole.place + count; size = hole.size - count } ∷ rest) p ≡ without_block (free_in (before ++ hole ∷ rest)) hole.place count p
free_in-shortened before rest hole count front back le p =
    free_in-without_block before rest (record { place = hole.place + count; size = hole.size - count } ∷ rest) hole count front back le p
    (free_in-cons (record { place = hole.place + count; size = hole.size - count }) rest p
    ∙ not_among_either (in_block (hole.place + count) (hole.size - count) p) (free_in rest p) (in_block hole.place hole.size p) (free_in rest p) (in_block hole.place count p)
    (in_block-rest hole.place hole.size count p le)
    (not_among (free_in rest p) (in_block hole.place count p) (later_apart 0 rest hole count p back.1 le)))

-- a hole that is used up
pub free_in-used_up : (before rest : List Hole) (hole : Hole) → AreHoles 2 before → AreHoles (behind 2 before) (hole ∷ rest)
    → (p : ℕ) → free_in (before ++ rest) p ≡ without_block (free_in (before ++ hole ∷ rest)) hole.place hole.size p
free_in-used_up before rest hole front back p =
    let le : hole.size ≤ hole.size = omega arith in
    free_in-without_block before rest rest hole hole.size front back le p
    (not_among_either false (free_in rest p) (in_block hole.place hole.size p) (free_in rest p) (in_block hole.place hole.size p)
    (in_block-whole hole.place hole.size p)
    (not_among (free_in rest p) (in_block hole.place hole.size p) (later_apart 0 rest hole hole.size p back.1 le)))

-- two blocks that touch
pub in_block-joined : (place size more p : ℕ) → in_block place (size + more) p ≡ (in_block place size p || in_block (place + size) more p)
in_block-joined place size more p = grind (arith, nat_tests)

or_swap : (a b c d : Bool) → d ≡ (b || c) → (a || d) ≡ (b || (a || c))
or_swap a b c d is = grind arith

-- a block that is put behind some holes
pub free_in-with_block : (before rest now : List Hole) (place count p : ℕ) → free_in now p ≡ (in_block place count p || free_in rest p)
    → free_in (before ++ now) p ≡ with_block (free_in (before ++ rest)) place count p
unfolding with_block
free_in-with_block before rest now place count p here =
    free_in-append before now p
    ∙ or_swap (free_in before p) (in_block place count p) (free_in rest p) (free_in now p) here
    ∙ ap (λ (b : Bool). in_block place count p || b) (sym (free_in-append before rest p))
