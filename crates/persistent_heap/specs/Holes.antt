-- The heap as its words hold it: a list of holes, which are the places that are free.
use Rattle.std.specs.Prelude.{◌≡◌, ℕ, zero, suc, ◌+◌, ◌%◌, ◌<◌, ◌≤◌, Bool, true, false, not, ◌==◌, ◌&&◌, ◌||◌, nat_lt, nat_le, if◌then◌else◌, List, [], ◌∷◌}
use Rattle.undo_journal.specs.Undo.{with_word}
use Rattle.persistent_heap.specs.declared.hole.Hole.{Hole}
use Rattle.persistent_heap.specs.Part.{ChangesOnly}
use Rattle.persistent_heap.specs.declared.link.Link.{Link}
use Rattle.persistent_heap.specs.declared.link.Link.TheVariants.{First, Behind}

-- the number is even
abbrev pub IsEven : ℕ → Type 0
IsEven n = n % 2 ≡ 0

-- a hole at this place or a later one: its place and size are even, and it ends within the heap
pub record IsHole (from : ℕ) (hole : Hole) : Type 0 where
  pub behind : from ≤ hole.place
  pub even_place : IsEven hole.place
  pub even_size : IsEven hole.size
  pub some : 2 ≤ hole.size
  pub within : hole.place + hole.size ≤ 4096

-- holes from this place on, in order of place, of which no two touch
abbrev pub AreHoles : ℕ → List Hole → Type 0
AreHoles from [] = Unit {0}
AreHoles from (hole ∷ holes) = IsHole from hole × AreHoles (hole.place + hole.size + 1) holes

-- holes of the heap, whose places are 2 to 4,095
abbrev pub IsHeap : List Hole → Type 0
IsHeap holes = AreHoles 2 holes

-- the holes that are linked from this place on, at most k of them: the word at a hole's place is its size, and the
-- next word is the place of the next hole, or 0
unfoldable pub linked : ℕ → (ℕ → ℕ) → ℕ → List Hole
linked zero word first = []
linked (suc k) word first =
    if first == 0 then [] else (record { place = first; size = word first } ∷ linked k word (word (first + 1)))

-- the holes of the heap: place p is word 7,808 + p, and word 6 is the place of the first hole, or 0
unfoldable pub holes : (ℕ → ℕ) → List Hole
holes words = linked 2048 (λ place. words (7808 + place)) (words 6)

-- the words that hold these holes: word 6, and the first two words of each
unfoldable pub held : List Hole → ℕ → Bool
held [] at = at == 6
held (hole ∷ later) at = at == 7808 + hole.place || at == 7808 + (hole.place + 1) || held later at

-- p is one of so many places from the first one on
abbrev pub in_block : ℕ → ℕ → ℕ → Bool
in_block first count p = nat_le first p && nat_lt p (first + count)

-- the places that lie in these holes
unfoldable pub free_in : List Hole → ℕ → Bool
free_in [] p = false
free_in (hole ∷ later) p = in_block hole.place hole.size p || free_in later p

-- the free places of the heap
abbrev pub free : (ℕ → ℕ) → ℕ → Bool
free words = free_in (holes words)

-- all places of a block are free
pub record IsFree (free : ℕ → Bool) (first count : ℕ) : Type 0 where
  pub each : (p : ℕ) → first ≤ p → p < first + count → free p ≡ true

-- none of them is
pub record IsTaken (free : ℕ → Bool) (first count : ℕ) : Type 0 where
  pub each : (p : ℕ) → first ≤ p → p < first + count → free p ≡ false

-- the least place from which so many places are free, which is even, or 0 where there is none
pub record IsLeast (free : ℕ → Bool) (count place : ℕ) : Type 0 where
  pub even : IsEven place
  pub fits : 0 < place → IsFree free place count
  pub least : (other : ℕ) → IsFree free other count → (0 < place) × (place ≤ other)

-- free places without those of a block
unfoldable pub without_block : (ℕ → Bool) → ℕ → ℕ → ℕ → Bool
without_block free first count p = free p && not (in_block first count p)

-- free places and those of a block
unfoldable pub with_block : (ℕ → Bool) → ℕ → ℕ → ℕ → Bool
with_block free first count p = in_block first count p || free p

-- the word that a link stands in
abbrev pub link_word : Link → ℕ
link_word First = 6
link_word (Behind place) = 7808 + (place + 1)

-- words after a link was led to a place
abbrev pub with_link : (ℕ → ℕ) → Link → ℕ → ℕ → ℕ
with_link words link place = with_word words (link_word link) place

-- words after a hole was written, with the place of the hole behind it
abbrev pub with_hole : (ℕ → ℕ) → Hole → ℕ → ℕ → ℕ
with_hole words hole next = with_word (with_word words (7808 + hole.place) hole.size) (7808 + (hole.place + 1)) next

-- the words came to hold a heap of these free places, and no other word changed
pub record HeapBecomes (old new : ℕ → ℕ) (places : ℕ → Bool) : Type 0 where
  pub heap : IsHeap (holes new)
  pub free : free new ≡ places
  pub kept : ChangesOnly (held (holes new)) old new

-- the words of the heap: word 6, and those of its places
abbrev pub in_heap : ℕ → Bool
in_heap at = at == 6 || in_block 7810 4094 at
