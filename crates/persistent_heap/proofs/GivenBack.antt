-- Giving a block back between two holes.
use Rattle.std.proofs.Common.{◌≡◌, ◌∙◌, ℕ, ◌+◌, ◌<◌, ◌≤◌, Bool, true, false, ◌||◌, List, [], ◌∷◌, ◌++◌, Some, None, inl, inr, refl, sym, ap, subst, arith, append_assoc}
use Rattle.std.proofs.Math.Bool.{or_assoc}
use Rattle.std.proofs.lemmas.Bool.{cases_lt}
use Rattle.persistent_heap.specs.declared.hole.Hole.{Hole}
use Rattle.persistent_heap.specs.declared.link.Link.{Link}
use Rattle.persistent_heap.specs.Holes.{IsHole, AreHoles, IsHeap, IsTaken, holes, free, free_in, in_block, with_block, HeapBecomes, link_word, with_link, with_hole}
use Rattle.persistent_heap.specs.Walk.{Linked, Each, Parts, StartsBehind, Joins, EndsWith, behind, last_link, first_of}
use Rattle.persistent_heap.proofs.Lists.{AreHoles-earlier, AreHoles-front, AreHoles-back, free_in-cons}
use Rattle.persistent_heap.proofs.Chain.{Path, Linked-front, Linked-back, last_link_rises, holes-linked}
use Rattle.persistent_heap.proofs.Walks.{passed_heap, passed_path, rest_are, rest_linked}
use Rattle.persistent_heap.proofs.Least.{IsFree-hole}
use Rattle.persistent_heap.proofs.Places.{in_block-joined, free_in-with_block}
use Rattle.persistent_heap.proofs.Changed.{inserted, rewritten}
use Rattle.persistent_heap.proofs.Taken.{Begins, begins}

no_more : (rest : List Hole) → first_of rest ≡ None → rest ≡ []
no_more [] none = refl
no_more (hole ∷ later) none = absurd (cc)

starts_behind : (place : ℕ) (rest later : List Hole) (hole : Hole) → rest ≡ hole ∷ later → StartsBehind place rest → place < hole.place
starts_behind place rest later hole is higher = subst (StartsBehind place) is higher

-- a place of a hole is free
free_here : (words : ℕ → ℕ) (before later : List Hole) (hole : Hole) (p : ℕ) → holes words ≡ before ++ hole ∷ later → hole.place ≤ p → p < hole.place + hole.size → free words p ≡ true
free_here words before later hole p whole low high = subst (λ (list : List Hole). free_in list p ≡ true) (sym whole) ((IsFree-hole before later hole hole.size (omega arith)).each p low high)

-- a place that isn't free is in no hole
not_here : (words : ℕ → ℕ) (before later : List Hole) (hole : Hole) (p : ℕ) → holes words ≡ before ++ hole ∷ later → free words p ≡ false → hole.place ≤ p → hole.place + hole.size ≤ p
not_here words before later hole p whole taken low = elim (cases_lt p (hole.place + hole.size)) [
  | inl high ↦ absurd (let clash : true ≡ false = sym (free_here words before later hole p whole low high) ∙ taken in cc)
  | inr past ↦ past
]

-- the block and the holes behind it
module _ (words : ℕ → ℕ) (block : Hole) (link : Link) (is : IsHole 2 block) (heap : IsHeap (holes words)) (taken : IsTaken (free words) block.place block.size) (parts : Parts words block.place link) where
  abbrev rest : List Hole
  rest = parts.passed.stands.rest

  alone : (next : ℕ) → AreHoles (block.place + block.size + 1) rest → Linked words next rest → Joins words block rest block next
  alone next are linked = record {
    later = rest;
    place = refl;
    are = (record { behind = omega arith; even_place = is.even_place; even_size = is.even_size; some = is.some; within = is.within }, are);
    linked = linked;
    free = λ p. free_in-cons block rest p;
  }

  pub joined_none : None ≡ first_of rest → Joins words block rest block 0
  joined_none none =
      let empty = no_more rest (sym none) in
      alone 0 (subst (AreHoles (block.place + block.size + 1)) (sym empty) tt) (subst (λ (list : List Hole). Linked words 0 list) (sym empty) refl)

  module _ (hole : Hole) (first : Some hole ≡ first_of rest) where
    abbrev found : Begins rest hole
    found = begins rest hole (sym first)

    here : AreHoles (behind 2 parts.passed.stands.before) (hole ∷ found.later)
    here = subst (AreHoles (behind 2 parts.passed.stands.before)) found.is (rest_are words link heap parts.passed.stands)

    follows : Linked words (words (link_word link)) (hole ∷ found.later)
    follows = subst (λ (list : List Hole). Linked words (words (link_word link)) list) found.is (rest_linked words link heap parts.passed.stands)

    whole : holes words ≡ parts.passed.stands.before ++ hole ∷ found.later
    whole = parts.passed.stands.whole ∙ ap (λ (list : List Hole). parts.passed.stands.before ++ list) found.is

    -- the hole behind the block doesn't overlap it
    pub hole_behind : block.place + block.size ≤ hole.place
    hole_behind = elim (cases_lt hole.place (block.place + block.size)) [
      | inl inside ↦ absurd (
          let free_there = free_here words parts.passed.stands.before found.later hole hole.place whole (omega arith) (omega (arith, here.0.some)) in
          let clash : true ≡ false = sym free_there ∙ taken.each hole.place (omega (arith, starts_behind block.place rest found.later hole found.is parts.higher)) inside in
          cc)
      | inr past ↦ past
    ]

    pub hole_within : hole.place + hole.size ≤ 4096
    hole_within = here.0.within

    pub hole_some : 2 ≤ hole.size
    hole_some = here.0.some

    pub joined_apart : block.place + block.size < hole.place → Joins words block rest block hole.place
    joined_apart lt =
        let moved : AreHoles (block.place + block.size + 1) (hole ∷ found.later) =
        (record { behind = omega arith; even_place = here.0.even_place; even_size = here.0.even_size; some = here.0.some; within = here.0.within }, here.1) in
        alone hole.place (subst (AreHoles (block.place + block.size + 1)) (sym found.is) moved)
        (subst (λ (list : List Hole). Linked words hole.place list) (sym found.is) (refl, follows.1, follows.2))

    pub joined_both : (next : ℕ) → hole.place ≤ block.place + block.size → next ≡ words (7808 + (hole.place + 1))
        → Joins words block rest (record { place = block.place; size = block.size + hole.size }) next
    joined_both next le leads =
        let both : Hole = record { place = block.place; size = block.size + hole.size } in
        let ends : hole.place ≡ block.place + block.size = omega (arith, hole_behind) in
        record {
          later = found.later;
          place = refl;
          are = (
            record { behind = omega arith; even_place = is.even_place; even_size = omega (arith, is.even_size, here.0.even_size); some = omega (arith, is.some); within = omega (arith, here.0.within) },
            AreHoles-earlier (hole.place + hole.size + 1) (both.place + both.size + 1) found.later (omega arith) here.1,
          );
          linked = subst (λ (n : ℕ). Linked words n found.later) (sym leads) follows.2;
          free = λ p.
              free_in-cons both found.later p
              ∙ ap (λ (b : Bool). b || free_in found.later p) (in_block-joined block.place block.size hole.size p)
              ∙ or_assoc (in_block block.place block.size p) (in_block (block.place + block.size) hole.size p) (free_in found.later p)
              ∙ ap (λ (n : ℕ). in_block block.place block.size p || (in_block n hole.size p || free_in found.later p)) (sym ends)
              ∙ ap (λ (b : Bool). in_block block.place block.size p || b) (sym (free_in-cons hole found.later p) ∙ ap (λ (list : List Hole). free_in list p) (sym found.is));
        }

-- the last of the holes that a link in a hole stands behind
last_of : (words : ℕ → ℕ) (hole : Hole) (later : List Hole) (link place : ℕ) → Path words link (hole ∷ later) → last_link link (hole ∷ later) ≡ 7808 + (place + 1) → EndsWith (hole ∷ later) (record { place = place; size = words (7808 + place) })
last_of words hole [] link place path here =
    let same : hole.place ≡ place = omega (arith, here) in
    record { first = []; is = ap (λ (h : Hole). h ∷ []) (rw (← same, path.1) refl) }
last_of words hole (second ∷ later) link place path here =
    let rest = last_of words second later (7808 + (hole.place + 1)) place path.2 here in
    record { first = hole ∷ rest.first; is = ap (λ (list : List Hole). hole ∷ list) rest.is }

ends_with : (words : ℕ → ℕ) (before : List Hole) (place : ℕ) → Path words 6 before → last_link 6 before ≡ 7808 + (place + 1) → EndsWith before (record { place = place; size = words (7808 + place) })
ends_with words [] place path here = absurd (omega (arith, here))
ends_with words (hole ∷ later) place path here = last_of words hole later 6 place path here

-- behind a hole that is the last one
behind-last : (from : ℕ) (first : List Hole) (last : Hole) → behind from (first ++ last ∷ []) ≡ last.place + last.size + 1
behind-last from [] last = refl
behind-last from (hole ∷ later) last = behind-last (hole.place + hole.size + 1) later last

Each-last : (P : Hole → Type 0) (first : List Hole) (last : Hole) → Each P (first ++ last ∷ []) → P last
Each-last P [] last each = each.0
Each-last P (hole ∷ later) last each = Each-last P later last each.1

nothing_before : (before : List Hole) → IsHeap before → last_link 6 before ≡ 6 → before ≡ []
nothing_before [] heap here = refl
nothing_before (hole ∷ later) heap here = absurd (omega (arith, here, last_link_rises (7808 + (hole.place + 1)) (hole.place + hole.size + 1) later heap.1 (omega (arith, heap.0.some))))

-- no hole before the block
pub first_touches : (words : ℕ → ℕ) (place : ℕ) (link : Link) → 2 ≤ place → IsHeap (holes words) → link_word link ≡ 6 → (parts : Parts words place link) → behind 2 parts.passed.stands.before ≤ place
first_touches words place link low heap at parts =
    let stands = parts.passed.stands in
    subst (λ (list : List Hole). behind 2 list ≤ place) (sym (nothing_before stands.before (passed_heap words link heap stands) (sym stands.here ∙ at))) low

-- the hole before the block
module _ (words : ℕ → ℕ) (place : ℕ) (link : Link) (last size : ℕ) (heap : IsHeap (holes words)) (taken : free words place ≡ false)
    (at : link_word link ≡ 7808 + (last + 1)) (sized : size ≡ words (7808 + last)) (parts : Parts words place link) where
  abbrev hole : Hole
  hole = record { place = last; size = size }

  pub ends : EndsWith parts.passed.stands.before hole
  ends = subst (λ (n : ℕ). EndsWith parts.passed.stands.before (record { place = last; size = n })) (sym sized)
      (ends_with words parts.passed.stands.before last (passed_path words link heap parts.passed.stands) (sym parts.passed.stands.here ∙ at))

  whole_last : holes words ≡ ends.first ++ hole ∷ parts.passed.stands.rest
  whole_last = parts.passed.stands.whole ∙ ap (λ (list : List Hole). list ++ parts.passed.stands.rest) ends.is ∙ append_assoc ends.first (hole ∷ []) parts.passed.stands.rest

  -- it ends at the block's place or before it
  pub ends_before : last + size ≤ place
  ends_before = not_here words ends.first parts.passed.stands.rest hole place whole_last taken (Each-last (λ lower. lower.place ≤ place) ends.first hole (subst (Each (λ lower. lower.place ≤ place)) ends.is parts.passed.each))

  pub ends_apart : last + size < place → behind 2 parts.passed.stands.before ≤ place
  ends_apart lt = omega (arith, ap (behind 2) ends.is ∙ behind-last 2 ends.first hole)

-- the holes with the block among them
module _ (words : ℕ → ℕ) (place count : ℕ) (link : Link) (heap : IsHeap (holes words)) (parts : Parts words place link) (hole : Hole) (next : ℕ)
    (joins : Joins words (record { place = place; size = count }) parts.passed.stands.rest hole next) where
  abbrev stands_before : List Hole
  stands_before = parts.passed.stands.before

  -- the joined hole lies within the heap
  pub joined_within : (hole.place ≡ place) × (2 ≤ hole.size) × (hole.place + hole.size ≤ 4096)
  joined_within = (joins.place, joins.are.0.some, joins.are.0.within)

  pub given_between : (new : ℕ → ℕ) → behind 2 stands_before ≤ place → new ≡ with_link (with_hole words hole next) link hole.place → HeapBecomes words new (with_block (free words) place count)
  given_between new apart stored =
      subst (λ (f : ℕ → ℕ). HeapBecomes words f (with_block (free words) place count)) (sym stored)
      (inserted words link stands_before joins.later hole next (with_block (free words) place count)
      (passed_heap words link heap parts.passed.stands) (passed_path words link heap parts.passed.stands) parts.passed.stands.here
      (AreHoles-earlier place (behind 2 stands_before) (hole ∷ joins.later) apart joins.are) joins.linked
      (λ p. free_in-with_block stands_before parts.passed.stands.rest (hole ∷ joins.later) place count p (joins.free p)
      ∙ ap (λ (list : List Hole). with_block (free_in list) place count p) (sym parts.passed.stands.whole)))

  pub given_grown : (new : ℕ → ℕ) (last : Hole) → EndsWith stands_before last → last.place + last.size ≡ place → new ≡ with_hole words (record { place = last.place; size = last.size + hole.size }) next
      → HeapBecomes words new (with_block (free words) place count)
  given_grown new last ends touch stored =
      let rest = parts.passed.stands.rest in
      let first = ends.first in
      let both : Hole = record { place = last.place; size = last.size + hole.size } in
      let whole : holes words ≡ first ++ last ∷ rest = parts.passed.stands.whole ∙ ap (λ (list : List Hole). list ++ rest) ends.is ∙ append_assoc first (last ∷ []) rest in
      let all : IsHeap (first ++ last ∷ rest) = subst IsHeap whole heap in
      let linked : Linked words (words 6) (first ++ last ∷ rest) = subst (λ (list : List Hole). Linked words (words 6) list) whole (holes-linked words heap) in
      let back = AreHoles-back 2 first (last ∷ rest) all in
      let follows = Linked-back words 6 first (last ∷ rest) linked in
      let tail : AreHoles (both.place + both.size + 1) joins.later = AreHoles-earlier (hole.place + hole.size + 1) (both.place + both.size + 1) joins.later (omega (arith, joins.place)) joins.are.1 in
      let grown : IsHole (behind 2 first) both = record {
        behind = back.0.behind;
        even_place = back.0.even_place;
        even_size = omega (arith, back.0.even_size, joins.are.0.even_size);
        some = omega (arith, back.0.some);
        within = omega (arith, joins.place, joins.are.0.within);
      } in
      let here : (p : ℕ) → free_in (both ∷ joins.later) p ≡ (in_block place count p || free_in (last ∷ rest) p) = λ p.
      free_in-cons both joins.later p
      ∙ ap (λ (b : Bool). b || free_in joins.later p) (in_block-joined last.place last.size hole.size p)
      ∙ ap (λ (n : ℕ). (in_block last.place last.size p || in_block n hole.size p) || free_in joins.later p) (touch ∙ sym joins.place)
      ∙ or_between (in_block last.place last.size p) (in_block hole.place hole.size p) (free_in joins.later p) (in_block place count p) (free_in rest p) (sym (free_in-cons hole joins.later p) ∙ joins.free p)
      ∙ ap (λ (b : Bool). in_block place count p || b) (sym (free_in-cons last rest p)) in
      subst (λ (f : ℕ → ℕ). HeapBecomes words f (with_block (free words) place count)) (sym stored)
      (rewritten words first joins.later both next (with_block (free words) place count)
      (AreHoles-front 2 first (last ∷ rest) all) (Linked-front words 6 first (last ∷ rest) linked) follows.0 (grown, tail) joins.linked
      (λ p. free_in-with_block first (last ∷ rest) (both ∷ joins.later) place count p (here p)
      ∙ ap (λ (list : List Hole). with_block (free_in list) place count p) (sym whole)))
    where
      or_between : (a b c d e : Bool) → (b || c) ≡ (d || e) → ((a || b) || c) ≡ (d || (a || e))
      or_between a b c d e is = or_assoc a b c ∙ ap (λ (t : Bool). a || t) is ∙ or_rotate a d e
        where
          or_rotate : (a d e : Bool) → (a || (d || e)) ≡ (d || (a || e))
          or_rotate a d e = grind arith
