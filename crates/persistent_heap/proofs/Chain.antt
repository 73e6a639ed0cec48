-- The holes that the words link.
use Rattle.std.proofs.Common.{◌≡◌, ◌∙◌, ℕ, zero, suc, ◌+◌, ◌*◌, ◌<◌, ◌≤◌, ◌==◌, false, List, [], ◌∷◌, ◌++◌, inl, inr, refl, sym, ap, subst, arith, lit<, lit≤}
use Rattle.std.proofs.lemmas.Bool.{cases_eq}
use Rattle.std.proofs.lemmas.Bool.Decides.{nat_tests}
use Rattle.persistent_heap.specs.declared.hole.Hole.{Hole}
use Rattle.persistent_heap.specs.Holes.{AreHoles, IsHeap, linked, holes}
use Rattle.persistent_heap.specs.Walk.{Linked, behind, last_link}
use Rattle.persistent_heap.proofs.Lists.{AreHoles-append}

-- from the link in this word on, the words lead along these holes
abbrev pub Path : (ℕ → ℕ) → ℕ → List Hole → Type 0
Path words link [] = Unit {0}
Path words link (hole ∷ later) =
    (words link ≡ hole.place) × (words (7808 + hole.place) ≡ hole.size) × Path words (7808 + (hole.place + 1)) later

pub Linked-front : (words : ℕ → ℕ) (link : ℕ) (before rest : List Hole) → Linked words (words link) (before ++ rest) → Path words link before
Linked-front words link [] rest are = tt
Linked-front words link (hole ∷ later) rest are = (are.0, are.1, Linked-front words (7808 + (hole.place + 1)) later rest are.2)

pub Linked-back : (words : ℕ → ℕ) (link : ℕ) (before rest : List Hole) → Linked words (words link) (before ++ rest) → Linked words (words (last_link link before)) rest
Linked-back words link [] rest are = are
Linked-back words link (hole ∷ later) rest are = Linked-back words (7808 + (hole.place + 1)) later rest are.2

pub Linked-append : (words : ℕ → ℕ) (link : ℕ) (before rest : List Hole) → Path words link before → Linked words (words (last_link link before)) rest → Linked words (words link) (before ++ rest)
Linked-append words link [] rest path are = are
Linked-append words link (hole ∷ later) rest path are = (path.0, path.1, Linked-append words (7808 + (hole.place + 1)) later rest path.2 are)

-- links rise
pub last_link_rises : (link from : ℕ) (before : List Hole) → AreHoles from before → link < 7808 + from → link ≤ last_link link before
last_link_rises link from [] are lt = omega arith
last_link_rises link from (hole ∷ later) are lt =
    omega (arith, are.0.behind, are.0.some, last_link_rises (7808 + (hole.place + 1)) (hole.place + hole.size + 1) later are.1 (omega (arith, are.0.some)))

-- and stand before the places behind the holes
pub last_link_below : (link from : ℕ) (before : List Hole) → AreHoles from before → link < 7808 + from → last_link link before < 7808 + behind from before
last_link_below link from [] are lt = lt
last_link_below link from (hole ∷ later) are lt = last_link_below (7808 + (hole.place + 1)) (hole.place + hole.size + 1) later are.1 (omega (arith, are.0.some))

-- a change from the last link on leaves the path to it
pub Path-same : (old new : ℕ → ℕ) (link from : ℕ) (before : List Hole) → AreHoles from before → link < 7808 + from
    → ((at : ℕ) → at < last_link link before → new at ≡ old at) → Path old link before → Path new link before
Path-same old new link from [] are lt same path = tt
Path-same old new link from (hole ∷ later) are lt same path =
    let next : 7808 + (hole.place + 1) < 7808 + (hole.place + hole.size + 1) = omega (arith, are.0.some) in
    let rises = last_link_rises (7808 + (hole.place + 1)) (hole.place + hole.size + 1) later are.1 next in (
      same link (omega (arith, are.0.behind)) ∙ path.0,
      same (7808 + hole.place) (omega arith) ∙ path.1,
      Path-same old new (7808 + (hole.place + 1)) (hole.place + hole.size + 1) later are.1 next same path.2,
    )

-- a change before the holes leaves them
pub Linked-same : (old new : ℕ → ℕ) (from first : ℕ) (later : List Hole) → AreHoles from later → ((at : ℕ) → 7808 + from ≤ at → new at ≡ old at) → Linked old first later → Linked new first later
Linked-same old new from first [] are same is = is
Linked-same old new from first (hole ∷ later) are same is = (
  is.0,
  same (7808 + hole.place) (omega (arith, are.0.behind)) ∙ is.1,
  subst (λ (next : ℕ). Linked new next later) (sym (same (7808 + (hole.place + 1)) (omega (arith, are.0.behind))))
      (Linked-same old new (hole.place + hole.size + 1) (old (7808 + (hole.place + 1))) later are.1 (λ at le. same at (omega (arith, are.0.behind))) is.2),
)

linked-none : (k : ℕ) (word : ℕ → ℕ) → linked k word 0 ≡ []
unfolding linked
linked-none zero word = refl
linked-none (suc k) word = refl

linked-some : (k : ℕ) (word : ℕ → ℕ) (first : ℕ) → 0 < first → linked (suc k) word first ≡ record { place = first; size = word first } ∷ linked k word (word (first + 1))
unfolding linked
linked-some k word first some = let is : (first == 0) ≡ false = grind (arith, nat_tests) in rw is

-- the list that the words link is the one that they hold
linked-is : (k from : ℕ) (words : ℕ → ℕ) (first : ℕ) (list : List Hole) → 1 ≤ from → 4096 ≤ from + 2 * k → AreHoles from list → Linked words first list → linked k (λ place. words (7808 + place)) first ≡ list
linked-is k from words first [] low enough are is = rw is (linked-none k _)
linked-is zero from words first (hole ∷ later) low enough are is = absurd (omega (arith, are.0.behind, are.0.some, are.0.within))
linked-is (suc k) from words first (hole ∷ later) low enough are is =
    let some : 0 < first = omega (arith, is.0, are.0.behind) in
    let tail = linked-is k (hole.place + hole.size + 1) words (words (7808 + (hole.place + 1))) later (omega arith) (omega (arith, are.0.behind, are.0.some)) are.1 is.2 in
    linked-some k _ first some ∙ rw (is.0, is.1, tail) refl

-- holes that are in order are linked to their end
linked-ends : (k from : ℕ) (words : ℕ → ℕ) (first : ℕ) → from ≤ 4097 → 4097 < from + 3 * k → AreHoles from (linked k (λ place. words (7808 + place)) first) → Linked words first (linked k (λ place. words (7808 + place)) first)
linked-ends zero from words first le enough are = absurd (omega arith)
linked-ends (suc k) from words first le enough are = elim (cases_eq first 0) [
  | inl none ↦ subst (λ (list : List Hole). Linked words first list) (sym (ap (linked (suc k) (λ place. words (7808 + place))) none ∙ linked-none (suc k) _)) none
  | inr some ↦
      let next = linked-some k (λ place. words (7808 + place)) first (omega arith) in
      let cut = subst (λ (list : List Hole). AreHoles from list) next are in
      subst (λ (list : List Hole). Linked words first list) (sym next)
      (refl, refl, linked-ends k (first + words (7808 + first) + 1) words (words (7808 + (first + 1))) (omega (arith, cut.0.within)) (omega (arith, cut.0.behind, cut.0.some)) cut.1)
]

-- the heap's holes are those that are linked from word 6 on
pub holes-is : (words : ℕ → ℕ) (list : List Hole) → IsHeap list → Linked words (words 6) list → holes words ≡ list
unfolding holes
holes-is words list heap is = linked-is 2048 2 words (words 6) list (lit≤ tt) (lit≤ tt) heap is

pub holes-linked : (words : ℕ → ℕ) → IsHeap (holes words) → Linked words (words 6) (holes words)
unfolding holes
holes-linked words heap = linked-ends 2048 2 words (words 6) (lit≤ tt) (lit< tt) heap

-- other holes behind the same first ones, in words that are changed from the last link on
pub holes-spliced : (old new : ℕ → ℕ) (before rest : List Hole) → IsHeap before → Path old 6 before → AreHoles (behind 2 before) rest
    → ((at : ℕ) → at < last_link 6 before → new at ≡ old at) → Linked new (new (last_link 6 before)) rest → holes new ≡ before ++ rest
holes-spliced old new before rest heap path are same is =
    holes-is new (before ++ rest) (AreHoles-append 2 before rest heap are)
    (Linked-append new 6 before rest (Path-same old new 6 2 before heap (lit< tt) same path) is)
