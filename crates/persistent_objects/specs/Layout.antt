-- How the heap is laid out: its holes are what lies between the objects, and each object has its header.
use Rattle.std.specs.Prelude.{◌≡◌, ℕ, ◌+◌, ◌-◌, ◌==◌, Bool, true, false, List, [], ◌∷◌, slice_index}
use Rattle.kernel_model.specs.Visible.{Object}
use Rattle.kernel_model.specs.Objects.{end_of, first_place, end_place}
use Rattle.std.specs.List.{AllByRecursion}
use Rattle.kernel_image.specs.Agree.{HasHeader}
use Rattle.kernel_image.specs.Decoded.{Decoded}
use Rattle.kernel_image.specs.Shown.{objects_in}
use Rattle.thread_tree.specs.Program.{Program}

-- the first fact where a test passes, else the second one
abbrev pub Either : Bool → Type 0 → Type 0 → Type 0
Either true P Q = P
Either false P Q = Q

-- the holes of the heap are what lies between the objects, in order of place, each with its size and the place of the next one
abbrev pub AreHoles : List ℕ → ℕ → ℕ → List Object → Type 0
AreHoles heap link from [] = Either (from == end_place) (link ≡ 0)
    ((link ≡ from) × (slice_index heap from ≡ end_place - from) × (slice_index heap (from + 1) ≡ 0))
AreHoles heap link from (o ∷ os) = Either (from == o.place) (AreHoles heap link (end_of o) os)
    ((link ≡ from) × (slice_index heap from ≡ o.place - from) × AreHoles heap (slice_index heap (from + 1)) (end_of o) os)

-- the heap has these holes, and the headers of these objects
pub record IsLaidOut (heap : List ℕ) (link from : ℕ) (objects : List Object) : Type 0 where
  pub holes : AreHoles heap link from objects
  pub headers : AllByRecursion (HasHeader heap) objects

-- where one image has its holes between its objects and their headers, so has the other
abbrev pub KeepsLayout : Program → Decoded → Decoded → Type 0
KeepsLayout p old new = (link : ℕ) → IsLaidOut old.heap link first_place (objects_in p old.heap old.live)
    → IsLaidOut new.heap link first_place (objects_in p new.heap new.live)
