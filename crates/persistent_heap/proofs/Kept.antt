-- What a change of the heap leaves, and what leaves the heap.
use Rattle.std.proofs.Common.{◌≡◌, ◌∙◌, ℕ, ◌+◌, ◌≤◌, ◌==◌, Bool, true, false, ◌&&◌, ◌||◌, not, List, [], ◌∷◌, inl, inr, refl, sym, ap, subst, arith, lit≤}
use Rattle.std.proofs.lemmas.Bool.{cases_lt, cases_Bool}
use Rattle.std.proofs.lemmas.Bool.Decides.{nat_tests}
use Rattle.undo_journal.specs.Undo.{with_word}
use Rattle.persistent_heap.specs.declared.hole.Hole.{Hole}
use Rattle.persistent_heap.specs.Part.{ChangesOnly}
use Rattle.persistent_heap.specs.Holes.{AreHoles, IsHeap, IsTaken, HeapBecomes, holes, held, free, free_in, in_block, in_heap, without_block, with_block}
use Rattle.persistent_heap.specs.Walk.{Linked}
use Rattle.persistent_heap.proofs.Lists.{in_block-among, in_block-above, in_block-below}
use Rattle.persistent_heap.proofs.Chain.{holes-is, holes-linked}
use Rattle.persistent_heap.proofs.Held.{held-first, held-size, held-next, held-later, held-outside}
use Rattle.persistent_heap.proofs.Parts.{with_word-other, ChangesOnly-wider, ChangesOnly-beside}

-- words that agree where some holes are held link the same holes
Linked-held : (old new : ℕ → ℕ) (first : ℕ) (list : List Hole) → ((at : ℕ) → held list at ≡ true → new at ≡ old at) → Linked old first list → Linked new first list
Linked-held old new first [] same is = is
Linked-held old new first (hole ∷ later) same is = (
  is.0,
  same (7808 + hole.place) (held-size hole later) ∙ is.1,
  subst (λ (n : ℕ). Linked new n later) (sym (same (7808 + (hole.place + 1)) (held-next hole later)))
      (Linked-held old new (old (7808 + (hole.place + 1))) later (λ at among. same at (held-later hole later at among)) is.2),
)

-- words that agree where the holes are held hold the same heap
pub holes-same : (old new : ℕ → ℕ) → IsHeap (holes old) → ((at : ℕ) → held (holes old) at ≡ true → new at ≡ old at) → holes new ≡ holes old
holes-same old new heap same =
    holes-is new (holes old) heap
    (subst (λ (n : ℕ). Linked new n (holes old)) (sym (same 6 (held-first (holes old)))) (Linked-held old new (old 6) (holes old) same (holes-linked old heap)))

-- the words of a place that isn't free hold no hole
pub held-taken : (from : ℕ) (list : List Hole) (p : ℕ) → AreHoles from list → free_in list p ≡ false → held list (7808 + p) ≡ false
unfolding held free_in
held-taken from [] p are taken = grind (arith, nat_tests)
held-taken from (hole ∷ later) p are taken = apart p hole.place hole.size (free_in later p) (held later (7808 + p)) are.0.some taken (held-taken (hole.place + hole.size + 1) later p are.1)
  where
    apart : (p place size : ℕ) (free_later held_later : Bool) → 2 ≤ size → (in_block place size p || free_later) ≡ false → (free_later ≡ false → held_later ≡ false)
        → (7808 + p == 7808 + place || 7808 + p == 7808 + (place + 1) || held_later) ≡ false
    apart p place size free_later held_later some taken rest =
        let among : in_block place size p ≡ false = grind arith in
        let later : free_later ≡ false = grind arith in
        let beside = rest later in
        grind (arith, nat_tests)

-- nor do words outside the heap
pub held-beside : (list : List Hole) (at : ℕ) → IsHeap list → in_heap at ≡ false → held list at ≡ false
held-beside list at heap beside = held-outside 2 list at heap (λ e. let clash : true ≡ false = grind (arith, nat_tests) in cc) (λ low. elim (cases_lt at 11904) [
  | inl high ↦ absurd (let clash : true ≡ false = grind (arith, nat_tests) in cc)
  | inr past ↦ past
])

-- a store at a place that isn't free leaves the heap
pub holes-with_place : (words : ℕ → ℕ) (p value : ℕ) → IsHeap (holes words) → free words p ≡ false → holes (with_word words (7808 + p) value) ≡ holes words
holes-with_place words p value heap taken =
    holes-same words (with_word words (7808 + p) value) heap (λ at among. with_word-other words (7808 + p) value at
    (λ e. let clash : true ≡ false = sym among ∙ ap (held (holes words)) e ∙ held-taken 2 (holes words) p heap taken in cc))

-- and so does one outside the heap
pub holes-with_word : (words : ℕ → ℕ) (at value : ℕ) → IsHeap (holes words) → in_heap at ≡ false → holes (with_word words at value) ≡ holes words
holes-with_word words at value heap beside =
    holes-same words (with_word words at value) heap (λ other among. with_word-other words at value other
    (λ e. let clash : true ≡ false = sym among ∙ ap (held (holes words)) e ∙ held-beside (holes words) at heap beside in cc))

-- what changes only words outside the heap leaves the heap
pub holes-beside : (part : ℕ → Bool) (old new : ℕ → ℕ) → IsHeap (holes old) → ((at : ℕ) → part at ≡ true → in_heap at ≡ false) → ChangesOnly part old new → holes new ≡ holes old
holes-beside part old new heap apart kept =
    holes-same old new heap (λ at among. ChangesOnly-beside part old new at (elim (cases_Bool (part at)) [
      | inl is ↦ absurd (let clash : true ≡ false = sym among ∙ held-beside (holes old) at heap (apart at is) in cc)
      | inr is ↦ is
    ]) kept)

-- a change of the heap leaves the words outside it
pub HeapBecomes-beside : (old new : ℕ → ℕ) (places : ℕ → Bool) → HeapBecomes old new places → ChangesOnly in_heap old new
HeapBecomes-beside old new places becomes =
    ChangesOnly-wider (held (holes new)) in_heap old new (λ at among. elim (cases_Bool (in_heap at)) [
      | inl is ↦ is
      | inr is ↦ absurd (let clash : true ≡ false = sym among ∙ held-beside (holes new) at becomes.heap is in cc)
    ]) becomes.kept

-- and the words of the places that aren't free behind it
pub HeapBecomes-taken : (old new : ℕ → ℕ) (places : ℕ → Bool) (p : ℕ) → HeapBecomes old new places → places p ≡ false → new (7808 + p) ≡ old (7808 + p)
HeapBecomes-taken old new places p becomes taken =
    ChangesOnly-beside (held (holes new)) old new (7808 + p) (held-taken 2 (holes new) p becomes.heap (ap (λ (f : ℕ → Bool). f p) becomes.free ∙ taken)) becomes.kept

-- a block that was taken isn't free
pub IsTaken-taken : (places : ℕ → Bool) (first count : ℕ) → IsTaken (without_block places first count) first count
unfolding without_block
IsTaken-taken places first count = record { each = λ p low high. rw (in_block-among first count p low high) (and_not (places p)) }
  where
    and_not : (b : Bool) → (b && not true) ≡ false
    and_not b = grind arith

-- nor is one that wasn't before
pub IsTaken-without_block : (places : ℕ → Bool) (first count other more : ℕ) → IsTaken places first count → IsTaken (without_block places other more) first count
unfolding without_block
IsTaken-without_block places first count other more taken = record { each = λ p low high. rw (taken.each p low high) }

-- the heap of a device whose places are all free
pub holes-formatted : (words : ℕ → ℕ) → words 6 ≡ 2 → words 7810 ≡ 4094 → words 7811 ≡ 0 → holes words ≡ record { place = 2; size = 4094 } ∷ []
holes-formatted words first size next = holes-is words (record { place = 2; size = 4094 } ∷ []) (record { behind = lit≤ tt; even_place = refl; even_size = refl; some = lit≤ tt; within = lit≤ tt }, tt) (first, size, next)

-- nor is one behind a block that was given back
pub IsTaken-behind_block : (places : ℕ → Bool) (first count other more : ℕ) → IsTaken places first count → other + more ≤ first → IsTaken (with_block places other more) first count
unfolding with_block
IsTaken-behind_block places first count other more taken behind = record { each = λ p low high. rw (in_block-above other more p (omega arith), taken.each p low high) }

-- or before it
pub IsTaken-before_block : (places : ℕ → Bool) (first count other more : ℕ) → IsTaken places first count → first + count ≤ other → IsTaken (with_block places other more) first count
unfolding with_block
IsTaken-before_block places first count other more taken before = record { each = λ p low high. rw (in_block-below other more p (omega arith), taken.each p low high) }

-- the heap of a device whose places are all free
pub IsHeap-formatted : (words : ℕ → ℕ) → words 6 ≡ 2 → words 7810 ≡ 4094 → words 7811 ≡ 0 → IsHeap (holes words)
IsHeap-formatted words first size next =
    subst IsHeap (sym (holes-formatted words first size next)) (record { behind = lit≤ tt; even_place = refl; even_size = refl; some = lit≤ tt; within = lit≤ tt }, tt)

-- after a change of the heap, in place of its free places
pub IsTaken-becomes : (old new : ℕ → ℕ) (places : ℕ → Bool) (first count : ℕ) → HeapBecomes old new places → IsTaken places first count → IsTaken (free new) first count
IsTaken-becomes old new places first count becomes taken = record { each = λ p low high. ap (λ (f : ℕ → Bool). f p) becomes.free ∙ taken.each p low high }
