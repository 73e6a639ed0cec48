-- What the public calls promise, from what was read and stored.
use Rattle.std.proofs.Common.{◌≡◌, ℕ, ◌+◌, ◌%◌, ◌<◌, ◌≤◌, List, true, refl, sym, ap, subst, ◌∙◌, arith, length, slice_index, slice_set}
use Rattle.std.specs.Prelude.{is_some, Option, Some}
use Rattle.std.proofs.lemmas.List.Elements.{recursion_from_All}
use Rattle.kernel_model.specs.Visible.{Object}
use Rattle.thread_tree.specs.Numbers.{fields_of}
use Rattle.kernel_model.specs.Objects.{object_of, first_place, with_field}
use Rattle.kernel_model.specs.Sound.{AreSoundObjects}
use Rattle.kernel_image.specs.Shown.{objects_in}
use Rattle.thread_tree.specs.Program.{Program}
use Rattle.persistent_objects.specs.Layout.{IsLaidOut}
use Rattle.persistent_objects.specs.Objects.{value_at}
use Rattle.kernel_image.specs.Decoded.{listed}
use Rattle.std.proofs.Math.ListN.{get_or-eq_default}
use Rattle.kernel_image.proofs.Callers.{listed-at, length-listed}
use Rattle.persistent_objects.proofs.FoundLaws.{IsThere, there, begun}
use Rattle.persistent_objects.proofs.FieldLaws.{field-sound}
use Rattle.persistent_objects.proofs.LayoutLaws.{holes-inside, holes-with, headers-inside, headers-with}
use Rattle.persistent_objects.proofs.StoreLaws.{width, laid-end, in_some, objects_at-set}

-- a live object of this type, among sound objects, and one of its fields
pub record IsField (p : Program) (heap live : List ℕ) (place kind field : ℕ) : Type 0 where
  pub sound : AreSoundObjects p (objects_in p heap live)
  pub object : IsThere p heap live place kind
  pub within : field < width p heap place

pub is_field : (p : Program) (heap live : List ℕ) (place kind field : ℕ) → field < length (fields_of p kind) → AreSoundObjects p (objects_in p heap live) → is_some (object_of (objects_in p heap live) place kind) ≡ true → IsField p heap live place kind field
is_field p heap live place kind field low sound some =
    let object = there p heap live place kind some in
    record { sound = sound; object = object; within = subst (λ (n : ℕ). field < length (fields_of p n)) (sym object.of_kind) low }

-- the field is a word of the heap
pub field_below : (p : Program) (heap live : List ℕ) (place kind field : ℕ) → IsField p heap live place kind field → place + 1 + field < 4096
field_below p heap live place kind field h =
    let end = laid-end p heap place (begun live) first_place h.sound.laid h.object.stands in
    omega (arith, h.within, end)

-- the value of a field of a live object is a word of the heap
pub field_value : (p : Program) (heap live : List ℕ) (place kind field : ℕ) → is_some (object_of (objects_in p heap live) place kind) ≡ true → field < length (fields_of p kind) → Some (slice_index heap (place + 1 + field)) ≡ value_at (object_of (objects_in p heap live) place kind) field
field_value p heap live place kind field some low =
    let object = there p heap live place kind some in
    let within : field < width p heap place = subst (λ (n : ℕ). field < length (fields_of p n)) (sym object.of_kind) low in
    ap (λ (n : ℕ). Some n) (sym (listed-at (width p heap place) (λ f. slice_index heap (place + 1 + f)) field 0 within))
    ∙ ap (λ (o : Option Object). value_at o field) (sym object.is)

-- what the type doesn't have is 0
pub field_past : (p : Program) (heap live : List ℕ) (place kind field : ℕ) → is_some (object_of (objects_in p heap live) place kind) ≡ true → length (fields_of p kind) ≤ field → Some 0 ≡ value_at (object_of (objects_in p heap live) place kind) field
field_past p heap live place kind field some past =
    let object = there p heap live place kind some in
    let long = length-listed (width p heap place) (λ f. slice_index heap (place + 1 + f)) in
    let within : width p heap place ≤ field = subst (λ (n : ℕ). length (fields_of p n) ≤ field) (sym object.of_kind) past in
    ap (λ (n : ℕ). Some n) (sym (get_or-eq_default (listed (width p heap place) (λ f. slice_index heap (place + 1 + f))) 0 {n = field} (omega (arith, long, within))))
    ∙ ap (λ (o : Option Object). value_at o field) (sym object.is)

-- a store there changes the field of this object alone
pub field_stored : (p : Program) (heap live : List ℕ) (place kind field value : ℕ) → length heap ≡ 4096 → IsField p heap live place kind field → objects_in p (slice_set heap (place + 1 + field) value) live ≡ with_field (objects_in p heap live) place field value
field_stored p heap live place kind field value long h =
    let low = field_below p heap live place kind field h in
    objects_at-set p heap place field value (begun live) first_place h.sound.laid h.object.stands h.within (omega (arith, long, low))

-- the objects stay sound
pub field_sound : (p : Program) (heap live : List ℕ) (place kind field value : ℕ) → length heap ≡ 4096 → IsField p heap live place kind field → AreSoundObjects p (objects_in p (slice_set heap (place + 1 + field) value) live)
field_sound p heap live place kind field value long h =
    subst (λ (os : List Object). AreSoundObjects p os) (sym (field_stored p heap live place kind field value long h))
    (field-sound place field value p (objects_in p heap live) h.sound)

-- the holes stay between them, and the headers where they are
pub field_layout : (p : Program) (heap live : List ℕ) (place kind field value : ℕ) → length heap ≡ 4096 → IsField p heap live place kind field → (link : ℕ) →
    IsLaidOut heap link first_place (objects_in p heap live) → IsLaidOut (slice_set heap (place + 1 + field) value) link first_place (objects_in p (slice_set heap (place + 1 + field) value) live)
field_layout p heap live place kind field value long h link layout =
    let inside = in_some p heap place field (begun live) h.object.stands h.within in
    subst (λ (os : List Object). IsLaidOut (slice_set heap (place + 1 + field) value) link first_place os) (sym (field_stored p heap live place kind field value long h))
    (record {
      holes =
          holes-with (slice_set heap (place + 1 + field) value) place field value (objects_in p heap live) first_place link
          (holes-inside heap (place + 1 + field) value (objects_in p heap live) first_place link refl
          (recursion_from_All (λ (o : Object). o.place % 2 ≡ 0) (objects_in p heap live) h.sound.even)
          inside h.sound.laid layout.holes);
      headers =
          headers-with (slice_set heap (place + 1 + field) value) place field value (objects_in p heap live)
          (headers-inside heap (place + 1 + field) value (objects_in p heap live) first_place inside h.sound.laid layout.headers);
    })
