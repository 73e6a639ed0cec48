-- The words that hold some holes.
use Rattle.std.proofs.Common.{◌≡◌, ◌≢◌, ◌∙◌, ℕ, ◌+◌, ◌≤◌, ◌==◌, Bool, true, false, ◌||◌, List, [], ◌∷◌, ◌++◌, refl, arith}
use Rattle.std.proofs.lemmas.Bool.Decides.{nat_tests}
use Rattle.persistent_heap.specs.declared.hole.Hole.{Hole}
use Rattle.persistent_heap.specs.Holes.{AreHoles, held}
use Rattle.persistent_heap.specs.Walk.{last_link}

held-cons : (hole : Hole) (later : List Hole) (at : ℕ) → held (hole ∷ later) at ≡ (at == 7808 + hole.place || at == 7808 + (hole.place + 1) || held later at)
unfolding held
held-cons hole later at = refl

or_right : (a b : Bool) → b ≡ true → (a || b) ≡ true
or_right a b is = grind arith

-- a hole's first word, and its second
pub held-size : (hole : Hole) (later : List Hole) → held (hole ∷ later) (7808 + hole.place) ≡ true
held-size hole later = held-cons hole later (7808 + hole.place) ∙ grind (arith, nat_tests)

pub held-next : (hole : Hole) (later : List Hole) → held (hole ∷ later) (7808 + (hole.place + 1)) ≡ true
held-next hole later = held-cons hole later (7808 + (hole.place + 1)) ∙ grind (arith, nat_tests)

-- the words of later holes
pub held-later : (hole : Hole) (later : List Hole) (at : ℕ) → held later at ≡ true → held (hole ∷ later) at ≡ true
held-later hole later at is = held-cons hole later at ∙ or_right (at == 7808 + hole.place || at == 7808 + (hole.place + 1)) (held later at) is

pub held-append : (before rest : List Hole) (at : ℕ) → held rest at ≡ true → held (before ++ rest) at ≡ true
held-append [] rest at is = is
held-append (hole ∷ later) rest at is = held-later hole (later ++ rest) at (held-append later rest at is)

-- the word of the first hole's place
pub held-first : (list : List Hole) → held list 6 ≡ true
unfolding held
held-first [] = refl
held-first (hole ∷ later) = or_right (6 == 7808 + hole.place || 6 == 7808 + (hole.place + 1)) (held later 6) (held-first later)

held-behind : (hole : Hole) (later rest : List Hole) → held (hole ∷ (later ++ rest)) (last_link (7808 + (hole.place + 1)) later) ≡ true
held-behind hole [] rest = held-next hole rest
held-behind hole (second ∷ later) rest = held-later hole ((second ∷ later) ++ rest) (last_link (7808 + (second.place + 1)) later) (held-behind second later rest)

-- the link behind the first ones
pub held-link : (before rest : List Hole) → held (before ++ rest) (last_link 6 before) ≡ true
held-link [] rest = held-first rest
held-link (hole ∷ later) rest = held-behind hole later rest

-- outside the heap's words no word is held but that of the first hole's place
pub held-outside : (from : ℕ) (list : List Hole) (at : ℕ) → AreHoles from list → at ≢ 6 → (7808 + from ≤ at → 11904 ≤ at) → held list at ≡ false
unfolding held
held-outside from [] at are ne beside = grind (arith, nat_tests)
held-outside from (hole ∷ later) at are ne beside =
    let tail = held-outside (hole.place + hole.size + 1) later at are.1 ne (λ h. beside (omega (arith, are.0.behind))) in
    let size : at ≢ 7808 + hole.place = λ e. omega (arith, are.0.behind, are.0.some, are.0.within, beside (omega (arith, are.0.behind))) in
    let next : at ≢ 7808 + (hole.place + 1) = λ e. omega (arith, are.0.behind, are.0.some, are.0.within, beside (omega (arith, are.0.behind))) in
    neither_word at (7808 + hole.place) (7808 + (hole.place + 1)) (held later at) size next tail
  where
    neither_word : (at size next : ℕ) (later : Bool) → at ≢ size → at ≢ next → later ≡ false → (at == size || at == next || later) ≡ false
    neither_word at size next later a b c = grind (arith, nat_tests)
