-- A store inside an object changes its field, and no other object.
use Rattle.std.proofs.Common.{◌≡◌, ◌≢◌, inl, inr, ℕ, ◌+◌, ◌-◌, ◌%◌, ◌<◌, ◌≤◌, ◌==◌, Bool, true, false, List, [], ◌∷◌, refl, sym, ap, subst, ◌∙◌, arith, length, slice_index, slice_set, get_or-set_same, get_or-set_other}
use Rattle.std.proofs.lemmas.Bool.Decides.{nat_tests}
use Rattle.std.specs.Prelude.{if◌then◌else◌, nat_le}
use Rattle.kernel_model.specs.Visible.{Object}
use Rattle.thread_tree.specs.Numbers.{fields_of}
use Rattle.kernel_model.specs.Objects.{block_size, end_of, end_place, with_field, object_with}
use Rattle.kernel_model.specs.Sound.{IsLaid}
use Rattle.kernel_image.specs.Decoded.{listed}
use Rattle.kernel_image.specs.Shown.{object_at, static_mark}
use Rattle.thread_tree.specs.Program.{Program}
use Rattle.kernel_image.proofs.Callers.{by_test, listed-set, listed-same, length-listed}
use Rattle.persistent_objects.proofs.FoundLaws.{is_in, kind_at, objects_at}
use Rattle.persistent_objects.proofs.LayoutLaws.{InSome}

-- how many fields the object has whose header stands at a place
abbrev pub width : Program → List ℕ → ℕ → ℕ
width p heap q = length (fields_of p (kind_at heap q))

-- the object at a place with this header
abbrev shaped : Program → List ℕ → ℕ → ℕ → Object
shaped p heap place header = record {
  place = place;
  kind = header % static_mark - 1;
  is_static = nat_le static_mark header;
  values = listed (length (fields_of p (header % static_mark - 1))) (λ field. slice_index heap (place + 1 + field));
}

-- it has as many values as its type has fields
length_values : (p : Program) (heap : List ℕ) (q : ℕ) → length (object_at p heap q).values ≡ width p heap q
length_values p heap q = length-listed (width p heap q) (λ field. slice_index heap (q + 1 + field))

pub end_at : (p : Program) (heap : List ℕ) (q : ℕ) → end_of (object_at p heap q) ≡ q + block_size (width p heap q)
end_at p heap q = ap (λ (n : ℕ). q + block_size n) (length_values p heap q)

-- its object stays where none of its words has changed
object_at-same : (p : Program) (heap : List ℕ) (at value q : ℕ) → ((i : ℕ) → q ≤ i → i ≤ q + width p heap q → i ≢ at) → object_at p (slice_set heap at value) q ≡ object_at p heap q
object_at-same p heap at value q other =
    let header : slice_index (slice_set heap at value) q ≡ slice_index heap q = get_or-set_other heap at q value 0 (other q (omega arith) (omega arith)) in
    ap (shaped p (slice_set heap at value) q) header
    ∙ ap (λ (values : List ℕ). record (object_at p heap q) { values = values })
    (listed-same (width p heap q) (λ field. slice_index (slice_set heap at value) (q + 1 + field)) (λ field. slice_index heap (q + 1 + field))
    (λ i low. get_or-set_other heap at (q + 1 + i) value 0 (other (q + 1 + i) (omega arith) (omega (arith, low)))))

-- the field of the object changes
object_at-set : (p : Program) (heap : List ℕ) (place field value : ℕ) → field < width p heap place → place + 1 + field < length heap →
    object_at p (slice_set heap (place + 1 + field) value) place ≡ object_with place field value (object_at p heap place)
object_at-set p heap place field value low within =
    let header : slice_index (slice_set heap (place + 1 + field) value) place ≡ slice_index heap place = get_or-set_other heap (place + 1 + field) place value 0 (omega arith) in
    let here : (place == place) ≡ true = grind (arith, nat_tests) in
    ap (shaped p (slice_set heap (place + 1 + field) value) place) header
    ∙ ap (λ (values : List ℕ). record (object_at p heap place) { values = values })
    (listed-set (width p heap place) (λ f. slice_index heap (place + 1 + f)) (λ f. slice_index (slice_set heap (place + 1 + field) value) (place + 1 + f)) field value
    (λ low'. get_or-set_same heap (place + 1 + field) value 0 within)
    (λ j other. get_or-set_other heap (place + 1 + field) (place + 1 + j) value 0 (let differ : j ≢ field = grind (arith, nat_tests) in omega arith)))
    ∙ ap (λ (b : Bool). if b then record (object_at p heap place) { values = slice_set (object_at p heap place).values field value } else object_at p heap place) (sym here)

-- an object at another place
object_with-other : (place field value : ℕ) (o : Object) → (o.place == place) ≡ false → object_with place field value o ≡ o
object_with-other place field value o other = ap (λ (b : Bool). if b then record o { values = slice_set o.values field value } else o) other

-- a place of the list is behind the first one, and its object ends in the heap
laid-below : (os : List Object) (from : ℕ) → IsLaid from os → from ≤ end_place
laid-below [] from laid = laid
laid-below (o ∷ os) from laid = let rest = laid-below os (end_of o) laid.1 in omega (arith, laid.0, rest)

module _ (p : Program) (heap : List ℕ) (place : ℕ) where
  first_of : (q : ℕ) (qs : List ℕ) → (q == place) ≡ false → is_in place (q ∷ qs) ≡ true → is_in place qs ≡ true
  first_of q qs other inside = ap (λ (b : Bool). if b then true else is_in place qs) (sym other) ∙ inside

  pub laid-from : (qs : List ℕ) (from : ℕ) → IsLaid from (objects_at p heap qs) → is_in place qs ≡ true → from ≤ place
  laid-from [] from laid inside = absurd (let e : false ≡ true = inside in cc)
  laid-from (q ∷ qs) from laid inside = by_test (q == place) _
      (λ same. let here : q ≡ place = grind (arith, nat_tests) in omega (arith, laid.0, here))
      (λ other. let rest = laid-from qs (end_of (object_at p heap q)) laid.1 (first_of q qs other inside) in omega (arith, laid.0, rest))

  pub laid-end : (qs : List ℕ) (from : ℕ) → IsLaid from (objects_at p heap qs) → is_in place qs ≡ true → place + block_size (width p heap place) ≤ end_place
  laid-end [] from laid inside = absurd (let e : false ≡ true = inside in cc)
  laid-end (q ∷ qs) from laid inside = by_test (q == place) _
      (λ same.
      let here : q ≡ place = grind (arith, nat_tests) in
      let end = laid-below (objects_at p heap qs) (end_of (object_at p heap q)) laid.1 in
      subst (λ (n : ℕ). n + block_size (width p heap n) ≤ end_place) here (subst (λ (n : ℕ). n ≤ end_place) (end_at p heap q) end))
      (λ other. laid-end qs (end_of (object_at p heap q)) laid.1 (first_of q qs other inside))

  -- a field is a place of an object
  pub in_some : (field : ℕ) (qs : List ℕ) → is_in place qs ≡ true → field < width p heap place → InSome (place + 1 + field) (objects_at p heap qs)
  in_some field [] inside low = absurd (let e : false ≡ true = inside in cc)
  in_some field (q ∷ qs) inside low = by_test (q == place) _
      (λ same.
      let here : q ≡ place = grind (arith, nat_tests) in
      inl (subst (λ (n : ℕ). (n < place + 1 + field) × (place + 1 + field < end_of (object_at p heap n))) (sym here)
      (omega arith, let end = end_at p heap place in omega (arith, low, end))))
      (λ other. inr (in_some field qs (first_of q qs other inside) low))

  module _ (field value : ℕ) where
    -- objects behind the one that is changed
    behind : (qs : List ℕ) (from : ℕ) → IsLaid from (objects_at p heap qs) → place < from → place + 1 + field < from →
        objects_at p (slice_set heap (place + 1 + field) value) qs ≡ with_field (objects_at p heap qs) place field value
    behind [] from laid low lower = refl
    behind (q ∷ qs) from laid low lower =
        let other : (q == place) ≡ false = let le : from ≤ q = laid.0 in grind (arith, nat_tests) in
        let first : object_at p (slice_set heap (place + 1 + field) value) q ≡ object_with place field value (object_at p heap q) =
        object_at-same p heap (place + 1 + field) value q (λ i above below. omega (arith, above, lower, laid.0)) ∙ sym (object_with-other place field value (object_at p heap q) other) in
        let end = end_at p heap q in
        let rest = behind qs (end_of (object_at p heap q)) laid.1 (omega (arith, laid.0, low, end)) (omega (arith, laid.0, lower, end)) in
        λ i. first i ∷ rest i

    -- all objects of a list that has the place
    pub objects_at-set : (qs : List ℕ) (from : ℕ) → IsLaid from (objects_at p heap qs) → is_in place qs ≡ true → field < width p heap place → place + 1 + field < length heap →
        objects_at p (slice_set heap (place + 1 + field) value) qs ≡ with_field (objects_at p heap qs) place field value
    objects_at-set [] from laid inside low within = absurd (let e : false ≡ true = inside in cc)
    objects_at-set (q ∷ qs) from laid inside low within = by_test (q == place) _
        (λ same.
        let here : q ≡ place = grind (arith, nat_tests) in
        let first : object_at p (slice_set heap (place + 1 + field) value) q ≡ object_with place field value (object_at p heap q) =
        subst (λ (n : ℕ). object_at p (slice_set heap (place + 1 + field) value) n ≡ object_with place field value (object_at p heap n)) (sym here) (object_at-set p heap place field value low within) in
        let end = end_at p heap q in
        let wide : width p heap q ≡ width p heap place = ap (λ (n : ℕ). width p heap n) here in
        let rest = behind qs (end_of (object_at p heap q)) laid.1 (omega (arith, here, end)) (omega (arith, here, end, wide, low)) in
        λ i. first i ∷ rest i)
        (λ other.
        let inside' = first_of q qs other inside in
        let above = laid-from qs (end_of (object_at p heap q)) laid.1 inside' in
        let end = end_at p heap q in
        let first : object_at p (slice_set heap (place + 1 + field) value) q ≡ object_with place field value (object_at p heap q) =
        object_at-same p heap (place + 1 + field) value q (λ i low' high. omega (arith, high, above, end)) ∙ sym (object_with-other place field value (object_at p heap q) other) in
        let rest = objects_at-set qs (end_of (object_at p heap q)) laid.1 inside' low within in
        λ i. first i ∷ rest i)
