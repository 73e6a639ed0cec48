-- How far a walk along the holes has come: the holes that it passed, and those that its link leads to.
use Rattle.std.specs.Prelude.{◌≡◌, ℕ, ◌+◌, ◌<◌, ◌≤◌, ◌||◌, List, [], ◌∷◌, ◌++◌, Option, Some, None}
use Rattle.persistent_heap.specs.declared.hole.Hole.{Hole}
use Rattle.persistent_heap.specs.declared.link.Link.{Link}
use Rattle.persistent_heap.specs.Holes.{AreHoles, IsHole, holes, link_word, in_block, free_in}

-- the words hold these holes one after another, the first one at this place
abbrev pub Linked : (ℕ → ℕ) → ℕ → List Hole → Type 0
Linked words first [] = first ≡ 0
Linked words first (hole ∷ later) =
    (first ≡ hole.place) × (words (7808 + hole.place) ≡ hole.size) × Linked words (words (7808 + (hole.place + 1))) later

-- the word of the link behind these holes, the first of which the link in a given word leads to
abbrev pub last_link : ℕ → List Hole → ℕ
last_link link [] = link
last_link link (hole ∷ later) = last_link (7808 + (hole.place + 1)) later

-- where a hole behind these may begin
abbrev pub behind : ℕ → List Hole → ℕ
behind from [] = from
behind from (hole ∷ later) = behind (hole.place + hole.size + 1) later

-- the link stands behind the holes `before`, and leads to `rest`
pub record Stands (words : ℕ → ℕ) (link : Link) : Type 0 where
  pub before : List Hole
  pub rest : List Hole
  pub whole : holes words ≡ before ++ rest
  pub here : link_word link ≡ last_link 6 before

-- the first of some holes
abbrev pub first_of : List Hole → Option Hole
first_of [] = None
first_of (hole ∷ later) = Some hole

-- each of some holes
abbrev pub Each : (Hole → Type 0) → List Hole → Type 0
Each P [] = Unit {0}
Each P (hole ∷ later) = P hole × Each P later

-- the link stands behind holes that are such
pub record Passed (words : ℕ → ℕ) (link : Link) (P : Hole → Type 0) : Type 0 where
  pub stands : Stands words link
  pub each : Each P stands.before

-- a link among the heap's words, and the hole that it leads to
pub record LeadsTo (link : Link) (hole : Hole) : Type 0 where
  pub among : link_word link < 11904
  pub is : IsHole 2 hole

-- the hole that the link leads to is the first one of so many places
pub record Fits (words : ℕ → ℕ) (count : ℕ) (link : Link) (hole : Hole) : Type 0 where
  pub passed : Passed words link (λ smaller. smaller.size < count)
  pub here : first_of passed.stands.rest ≡ Some hole
  pub leads : LeadsTo link hole
  pub enough : count ≤ hole.size

-- the first of some holes begins behind this place
abbrev pub StartsBehind : ℕ → List Hole → Type 0
StartsBehind place [] = Unit {0}
StartsBehind place (hole ∷ later) = place < hole.place

-- the link stands behind the holes up to a place, and leads to those behind it
pub record Parts (words : ℕ → ℕ) (place : ℕ) (link : Link) : Type 0 where
  pub passed : Passed words link (λ lower. lower.place ≤ place)
  pub higher : StartsBehind place passed.stands.rest

-- a hole over a block, and over the first of the holes behind it where the two touch, with the place of the hole
-- behind both, or 0
pub record Joins (words : ℕ → ℕ) (block : Hole) (rest : List Hole) (hole : Hole) (next : ℕ) : Type 0 where
  pub later : List Hole
  pub place : hole.place ≡ block.place
  pub are : AreHoles block.place (hole ∷ later)
  pub linked : Linked words next later
  pub free : (p : ℕ) → free_in (hole ∷ later) p ≡ (in_block block.place block.size p || free_in rest p)

-- the last of some holes
pub record EndsWith (before : List Hole) (last : Hole) : Type 0 where
  pub first : List Hole
  pub is : before ≡ first ++ last ∷ []

-- the last of some holes ends at a place, or they end before it
abbrev pub Touches : List Hole → ℕ → Option Hole → Type 0
Touches before place None = behind 2 before ≤ place
Touches before place (Some last) = EndsWith before last × (last.place + last.size ≡ place)
