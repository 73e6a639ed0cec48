-- The holes after each kind of store.
use Rattle.std.proofs.Common.{◌≡◌, ◌≢◌, ◌∙◌, ℕ, ◌+◌, ◌<◌, Bool, List, ◌∷◌, ◌++◌, sym, ap, subst, arith, lit<}
use Rattle.std.proofs.Math.Path.{fun_ext}
use Rattle.persistent_heap.specs.declared.hole.Hole.{Hole}
use Rattle.persistent_heap.specs.declared.link.Link.{Link}
use Rattle.undo_journal.specs.Undo.{with_word}
use Rattle.persistent_heap.specs.Part.{ChangesOnly}
use Rattle.persistent_heap.specs.Holes.{AreHoles, IsHeap, holes, held, free, free_in, HeapBecomes, with_hole, with_link, link_word}
use Rattle.persistent_heap.specs.Walk.{Linked, behind, last_link}
use Rattle.persistent_heap.proofs.Lists.{AreHoles-append}
use Rattle.persistent_heap.proofs.Chain.{Path, Linked-same, last_link_below, holes-spliced}
use Rattle.persistent_heap.proofs.Held.{held-append, held-size, held-next, held-link}
use Rattle.persistent_heap.proofs.Parts.{with_word-same, with_word-other, blanked-with_word}

-- the holes are such a list, and the free places those of the list
becomes : (old new : ℕ → ℕ) (list : List Hole) (places : ℕ → Bool) → holes new ≡ list → IsHeap list → ((p : ℕ) → free_in list p ≡ places p) → ChangesOnly (held list) old new → HeapBecomes old new places
becomes old new list places is heap free kept =
    subst (λ (l : List Hole). IsHeap l → ((p : ℕ) → free_in l p ≡ places p) → ChangesOnly (held l) old new → HeapBecomes old new places) is
    (λ heap free kept. record { heap = heap; free = fun_ext free; kept = kept }) heap free kept

-- a hole was written over places of the heap behind the first holes, and their link led to it
pub inserted : (words : ℕ → ℕ) (link : Link) (before tail : List Hole) (hole : Hole) (next : ℕ) (places : ℕ → Bool)
    → IsHeap before → Path words 6 before → link_word link ≡ last_link 6 before → AreHoles (behind 2 before) (hole ∷ tail) → Linked words next tail
    → ((p : ℕ) → free_in (before ++ hole ∷ tail) p ≡ places p)
    → HeapBecomes words (with_link (with_hole words hole next) link hole.place) places
inserted words link before tail hole next places front path here back linked free =
    let at = link_word link in
    let size = 7808 + hole.place in
    let second = 7808 + (hole.place + 1) in
    let first = with_word words size hole.size in
    let filled = with_word first second next in
    let new = with_word filled at hole.place in
    let low : at < size = omega (arith, last_link_below 6 2 before front (lit< tt), back.0.behind) in
    let other : (a : ℕ) → a ≢ at → a ≢ second → a ≢ size → new a ≡ words a = λ a x y z. with_word-other filled at hole.place a x ∙ with_word-other first second next a y ∙ with_word-other words size hole.size a z in
    let ne : second ≢ at = omega arith in
    let ne_size : size ≢ at = omega arith in
    let apart : size ≢ second = omega arith in
    let led : new (last_link 6 before) ≡ hole.place = ap new (sym here) ∙ with_word-same filled at hole.place in
    let sized : new size ≡ hole.size = with_word-other filled at hole.place size ne_size ∙ with_word-other first second next size apart ∙ with_word-same words size hole.size in
    let followed : new second ≡ next = with_word-other filled at hole.place second ne ∙ with_word-same first second next in
    let later : Linked new next tail = Linked-same words new (hole.place + hole.size + 1) next tail back.1 (λ a le. other a (omega arith) (omega (arith, back.0.some)) (omega arith)) linked in
    becomes words new (before ++ hole ∷ tail) places
    (holes-spliced words new before (hole ∷ tail) front path back (λ a lt. other a (omega arith) (omega arith) (omega arith))
    (led, sized, subst (λ (n : ℕ). Linked new n tail) (sym followed) later))
    (AreHoles-append 2 before (hole ∷ tail) front back)
    free
    (let list = before ++ hole ∷ tail in
    blanked-with_word (held list) filled at hole.place (ap (held list) here ∙ held-link before (hole ∷ tail))
    ∙ blanked-with_word (held list) first second next (held-append before (hole ∷ tail) second (held-next hole tail))
    ∙ blanked-with_word (held list) words size hole.size (held-append before (hole ∷ tail) size (held-size hole tail)))

-- a hole was written over one that the first holes lead to, at its place
pub rewritten : (words : ℕ → ℕ) (before tail : List Hole) (hole : Hole) (next : ℕ) (places : ℕ → Bool)
    → IsHeap before → Path words 6 before → words (last_link 6 before) ≡ hole.place → AreHoles (behind 2 before) (hole ∷ tail) → Linked words next tail
    → ((p : ℕ) → free_in (before ++ hole ∷ tail) p ≡ places p)
    → HeapBecomes words (with_hole words hole next) places
rewritten words before tail hole next places front path leads back linked free =
    let size = 7808 + hole.place in
    let second = 7808 + (hole.place + 1) in
    let first = with_word words size hole.size in
    let new = with_word first second next in
    let low : last_link 6 before < size = omega (arith, last_link_below 6 2 before front (lit< tt), back.0.behind) in
    let other : (a : ℕ) → a ≢ second → a ≢ size → new a ≡ words a = λ a y z. with_word-other first second next a y ∙ with_word-other words size hole.size a z in
    let apart : size ≢ second = omega arith in
    let led : new (last_link 6 before) ≡ hole.place = other (last_link 6 before) (omega arith) (omega arith) ∙ leads in
    let sized : new size ≡ hole.size = with_word-other first second next size apart ∙ with_word-same words size hole.size in
    let followed : new second ≡ next = with_word-same first second next in
    let later : Linked new next tail = Linked-same words new (hole.place + hole.size + 1) next tail back.1 (λ a le. other a (omega (arith, back.0.some)) (omega arith)) linked in
    becomes words new (before ++ hole ∷ tail) places
    (holes-spliced words new before (hole ∷ tail) front path back (λ a lt. other a (omega arith) (omega arith))
    (led, sized, subst (λ (n : ℕ). Linked new n tail) (sym followed) later))
    (AreHoles-append 2 before (hole ∷ tail) front back)
    free
    (let list = before ++ hole ∷ tail in
    blanked-with_word (held list) first second next (held-append before (hole ∷ tail) second (held-next hole tail))
    ∙ blanked-with_word (held list) words size hole.size (held-append before (hole ∷ tail) size (held-size hole tail)))

-- the link of the first holes was led past a hole
pub passed_over : (words : ℕ → ℕ) (link : Link) (before tail : List Hole) (next : ℕ) (places : ℕ → Bool)
    → IsHeap before → Path words 6 before → link_word link ≡ last_link 6 before → AreHoles (behind 2 before) tail → Linked words next tail
    → ((p : ℕ) → free_in (before ++ tail) p ≡ places p)
    → HeapBecomes words (with_link words link next) places
passed_over words link before tail next places front path here back linked free =
    let at = link_word link in
    let new = with_word words at next in
    let low : at < 7808 + behind 2 before = omega (arith, last_link_below 6 2 before front (lit< tt)) in
    let led : new (last_link 6 before) ≡ next = ap new (sym here) ∙ with_word-same words at next in
    let later : Linked new next tail = Linked-same words new (behind 2 before) next tail back (λ a le. with_word-other words at next a (omega arith)) linked in
    becomes words new (before ++ tail) places
    (holes-spliced words new before tail front path back (λ a lt. with_word-other words at next a (omega arith))
    (subst (λ (n : ℕ). Linked new n tail) (sym led) later))
    (AreHoles-append 2 before tail front back)
    free
    (blanked-with_word (held (before ++ tail)) words at next (ap (held (before ++ tail)) here ∙ held-link before tail))
