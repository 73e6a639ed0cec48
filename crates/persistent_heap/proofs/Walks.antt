-- The holes that a walk has passed, and those that its link leads to.
use Rattle.std.proofs.Common.{◌≡◌, ◌≢◌, ◌∙◌, ℕ, ◌+◌, ◌<◌, ◌≤◌, List, [], ◌∷◌, ◌++◌, Some, None, refl, sym, ap, subst, arith, append_assoc, append-nil, lit<, lit≤}
use Rattle.persistent_heap.specs.declared.hole.Hole.{Hole}
use Rattle.persistent_heap.specs.declared.link.Link.{Link}
use Rattle.persistent_heap.specs.declared.link.Link.TheVariants.{First, Behind}
use Rattle.persistent_heap.specs.Holes.{IsHole, AreHoles, IsHeap, holes, link_word}
use Rattle.persistent_heap.specs.Walk.{Linked, Stands, LeadsTo, Each, Passed, StartsBehind, behind, last_link, first_of}
use Rattle.persistent_heap.proofs.Lists.{AreHoles-front, AreHoles-back, behind_rises}
use Rattle.persistent_heap.proofs.Chain.{Path, Linked-front, Linked-back, last_link_below, holes-linked}

module _ (words : ℕ → ℕ) (link : Link) (heap : IsHeap (holes words)) (at : Stands words link) where
  whole_heap : IsHeap (at.before ++ at.rest)
  whole_heap = subst IsHeap at.whole heap

  whole_linked : Linked words (words 6) (at.before ++ at.rest)
  whole_linked = subst (λ (list : List Hole). Linked words (words 6) list) at.whole (holes-linked words heap)

  -- the holes that were passed
  pub passed_heap : IsHeap at.before
  passed_heap = AreHoles-front 2 at.before at.rest whole_heap

  pub passed_path : Path words 6 at.before
  passed_path = Linked-front words 6 at.before at.rest whole_linked

  -- the holes that the link leads to
  pub rest_are : AreHoles (behind 2 at.before) at.rest
  rest_are = AreHoles-back 2 at.before at.rest whole_heap

  pub rest_linked : Linked words (words (link_word link)) at.rest
  rest_linked = subst (λ (n : ℕ). Linked words (words n) at.rest) (sym at.here) (Linked-back words 6 at.before at.rest whole_linked)

  -- the link stands before them
  pub link_below : link_word link < 7808 + behind 2 at.before
  link_below = omega (arith, at.here, last_link_below 6 2 at.before passed_heap (lit< tt))

last_link_within : (link from : ℕ) (before : List Hole) → AreHoles from before → link < 11904 → last_link link before < 11904
last_link_within link from [] are lt = lt
last_link_within link from (hole ∷ later) are lt = last_link_within (7808 + (hole.place + 1)) (hole.place + hole.size + 1) later are.1 (omega (arith, are.0.some, are.0.within))

-- and among the words of the heap
pub link_within : (words : ℕ → ℕ) (link : Link) → IsHeap (holes words) → Stands words link → link_word link < 11904
link_within words link heap at = omega (arith, at.here, last_link_within 6 2 at.before (passed_heap words link heap at) (lit< tt))

first_place : (words : ℕ → ℕ) (first from : ℕ) (rest : List Hole) → 1 ≤ from → AreHoles from rest → Linked words first rest → first ≢ 0 → (from ≤ first) × (first + 2 ≤ 4096) × (first_of rest ≡ Some (record { place = first; size = words (7808 + first) }))
first_place words first from [] low are is ne = absurd (ne is)
first_place words first from (hole ∷ later) low are is ne =
    let size : words (7808 + first) ≡ hole.size = ap (λ (p : ℕ). words (7808 + p)) is.0 ∙ is.1 in
    (omega (arith, is.0, are.0.behind), omega (arith, is.0, are.0.some, are.0.within), rw (size, is.0) refl)

no_first : (words : ℕ → ℕ) (first from : ℕ) (rest : List Hole) → 1 ≤ from → AreHoles from rest → Linked words first rest → first ≡ 0 → first_of rest ≡ None
no_first words first from [] low are is none = refl
no_first words first from (hole ∷ later) low are is none = absurd (omega (arith, is.0, are.0.behind))

behind_some : (from : ℕ) (before : List Hole) → 1 ≤ from → 1 ≤ behind from before
behind_some from [] le = le
behind_some from (hole ∷ later) le = behind_some (hole.place + hole.size + 1) later (omega arith)

module _ (words : ℕ → ℕ) (link : Link) (place : ℕ) (heap : IsHeap (holes words)) (at : Stands words link) (leads : place ≡ words (link_word link)) where
  low : 1 ≤ behind 2 at.before
  low = behind_some 2 at.before (lit≤ tt)

  rest_from : Linked words place at.rest
  rest_from = subst (λ (first : ℕ). Linked words first at.rest) (sym leads) (rest_linked words link heap at)

  -- a link that holds another number than 0 leads to the hole at that place
  pub next_within : place ≢ 0 → place + 2 ≤ 4096
  next_within ne = (first_place words place (behind 2 at.before) at.rest low (rest_are words link heap at) rest_from ne).1

  pub next_some : (size : ℕ) → place ≢ 0 → size ≡ words (7808 + place) → Some (record { place = place; size = size }) ≡ first_of at.rest
  next_some size ne is = rw is (sym (first_place words place (behind 2 at.before) at.rest low (rest_are words link heap at) rest_from ne).2)

  -- and one that holds 0 to none
  pub next_none : place ≡ 0 → None ≡ first_of at.rest
  next_none none = sym (no_first words place (behind 2 at.before) at.rest low (rest_are words link heap at) rest_from none)

-- a walk begins before all holes
pub Passed-first : (words : ℕ → ℕ) (P : Hole → Type 0) → Passed words First P
Passed-first words P = record { stands = record { before = []; rest = holes words; whole = refl; here = refl }; each = tt }

last_link-behind : (link : ℕ) (before : List Hole) (hole : Hole) → last_link link (before ++ hole ∷ []) ≡ 7808 + (hole.place + 1)
last_link-behind link [] hole = refl
last_link-behind link (first ∷ later) hole = last_link-behind (7808 + (first.place + 1)) later hole

Each-behind : (P : Hole → Type 0) (before : List Hole) (hole : Hole) → Each P before → P hole → Each P (before ++ hole ∷ [])
Each-behind P [] hole each is = (is, tt)
Each-behind P (first ∷ later) hole each is = (each.0, Each-behind P later hole each.1 is)

-- the holes behind the one that the link leads to
pub step : (words : ℕ → ℕ) (link : Link) (P : Hole → Type 0) (hole : Hole) (passed : Passed words link P) → first_of passed.stands.rest ≡ Some hole → P hole → Passed words (Behind hole.place) P
step words link P hole passed first is = along passed.stands.before passed.stands.rest passed.stands.whole passed.each first
  where
    along : (before rest : List Hole) → holes words ≡ before ++ rest → Each P before → first_of rest ≡ Some hole → Passed words (Behind hole.place) P
    along before [] whole each first = absurd (cc)
    along before (found ∷ later) whole each first =
        let same : found ≡ hole = cc in
        record {
          stands = record {
            before = before ++ hole ∷ [];
            rest = later;
            whole = whole ∙ ap (λ (h : Hole). before ++ h ∷ later) same ∙ sym (append_assoc before (hole ∷ []) later);
            here = sym (last_link-behind 6 before hole);
          };
          each = Each-behind P before hole each is;
        }

-- the hole that the link leads to lies behind it, within the heap
pub leads_to : (words : ℕ → ℕ) (link : Link) (hole : Hole) → IsHeap (holes words) → (at : Stands words link) → first_of at.rest ≡ Some hole → (link_word link < 7808 + (hole.place + 1)) × LeadsTo link hole
leads_to words link hole heap at first = along at.rest (rest_are words link heap at) first
  where
    along : (rest : List Hole) → AreHoles (behind 2 at.before) rest → first_of rest ≡ Some hole → (link_word link < 7808 + (hole.place + 1)) × LeadsTo link hole
    along [] are first = absurd (cc)
    along (found ∷ later) are first =
        let same : found ≡ hole = cc in
        let is = subst (IsHole (behind 2 at.before)) same are.0 in
        let low = behind_rises 2 at.before (passed_heap words link heap at) in (
          omega (arith, is.behind, link_below words link heap at),
          record {
            among = link_within words link heap at;
            is = record { behind = omega (arith, is.behind); even_place = is.even_place; even_size = is.even_size; some = is.some; within = is.within };
          },
        )

-- at the end of a walk all holes were passed
pub passed_all : (words : ℕ → ℕ) (link : Link) (P : Hole → Type 0) (passed : Passed words link P) → first_of passed.stands.rest ≡ None → Each P (holes words)
passed_all words link P passed none = along passed.stands.before passed.stands.rest passed.stands.whole passed.each none
  where
    along : (before rest : List Hole) → holes words ≡ before ++ rest → Each P before → first_of rest ≡ None → Each P (holes words)
    along before [] whole each none = subst (Each P) (sym (whole ∙ append-nil before)) each
    along before (found ∷ later) whole each none = absurd (cc)

pub StartsBehind-none : (place : ℕ) (rest : List Hole) → first_of rest ≡ None → StartsBehind place rest
StartsBehind-none place [] none = tt
StartsBehind-none place (hole ∷ later) none = absurd (cc)

pub StartsBehind-some : (place : ℕ) (rest : List Hole) (hole : Hole) → first_of rest ≡ Some hole → place < hole.place → StartsBehind place rest
StartsBehind-some place [] hole first lt = tt
StartsBehind-some place (found ∷ later) hole first lt =
    let same : found ≡ hole = cc in
    subst (λ (h : Hole). place < h.place) (sym same) lt
