-- A store inside an object, behind its header, changes no hole and no header.
use Rattle.std.proofs.Common.{◌≡◌, ◌≢◌, ◌⊎◌, inl, inr, ℕ, ◌+◌, ◌-◌, ◌%◌, ◌<◌, ◌≤◌, ◌==◌, Bool, true, false, List, [], ◌∷◌, refl, ap, sym, subst, ◌∙◌, arith, slice_index, slice_set, get_or-set_other}
use Rattle.std.proofs.lemmas.Bool.Decides.{nat_tests}
use Rattle.std.specs.List.{AllByRecursion}
use Rattle.kernel_model.specs.Visible.{Object}
use Rattle.kernel_model.specs.Objects.{end_of, end_place, with_field, object_with}
use Rattle.kernel_model.specs.Sound.{IsLaid}
use Rattle.kernel_image.specs.Agree.{header_of, HasHeader}
use Rattle.persistent_objects.specs.Layout.{Either, AreHoles, IsLaidOut}
use Rattle.persistent_objects.proofs.FieldLaws.{with-place, with-end, with-header}

-- each of two facts for another one
either : (b : Bool) (P Q R S : Type 0) → (b ≡ true → P → R) → (b ≡ false → Q → S) → Either b P Q → Either b R S
either true P Q R S one other h = one refl h
either false P Q R S one other h = other refl h

-- the place is one of an object's, behind its header
abbrev pub InSome : ℕ → List Object → Type 0
InSome at [] = ⊥
InSome at (o ∷ os) = ((o.place < at) × (at < end_of o)) ⊎ InSome at os

-- it is one of those from the first on
in_some-from : (at : ℕ) (os : List Object) (from : ℕ) → IsLaid from os → InSome at os → from ≤ at
in_some-from at [] from laid inside = absurd inside
in_some-from at (o ∷ os) from laid inside = elim inside [
  | inl here ↦ omega (arith, laid.0, here.0)
  | inr behind ↦ let rest = in_some-from at os (end_of o) laid.1 behind in omega (arith, laid.0, rest)
]

module _ (heap : List ℕ) (at value : ℕ) where
  -- another word
  word : (i : ℕ) → i ≢ at → slice_index (slice_set heap at value) i ≡ slice_index heap i
  word i other = get_or-set_other heap at i value 0 other

  -- a store before the holes
  holes-behind : (os : List Object) (from link : ℕ) → at < from → IsLaid from os → AreHoles heap link from os → AreHoles (slice_set heap at value) link from os
  holes-behind [] from link low laid holes =
      either (from == end_place) _ _ _ _ (λ e h. h)
      (λ e h. (h.0, word from (omega (arith, low)) ∙ h.1, word (from + 1) (omega (arith, low)) ∙ h.2)) holes
  holes-behind (o ∷ os) from link low laid holes =
      either (from == o.place) _ _ _ _ (λ e h. holes-behind os (end_of o) link (omega (arith, low, laid.0)) laid.1 h)
      (λ e h. (
        h.0,
        word from (omega (arith, low)) ∙ h.1,
        subst (λ (n : ℕ). AreHoles (slice_set heap at value) n (end_of o) os) (sym (word (from + 1) (omega (arith, low))))
            (holes-behind os (end_of o) (slice_index heap (from + 1)) (omega (arith, low, laid.0)) laid.1 h.2),
      )) holes

  -- a store inside an object
  pub holes-inside : (os : List Object) (from link : ℕ) → from % 2 ≡ 0 → AllByRecursion (λ o. o.place % 2 ≡ 0) os → InSome at os → IsLaid from os → AreHoles heap link from os → AreHoles (slice_set heap at value) link from os
  holes-inside [] from link even all inside laid holes = absurd inside
  holes-inside (o ∷ os) from link even all inside laid holes = elim inside [
    | inl here ↦
        either (from == o.place) _ _ _ _ (λ e h. holes-behind os (end_of o) link here.1 laid.1 h)
        (λ e h.
        let gap : from + 2 ≤ o.place = gap_of from o.place e laid.0 even all.0 in (
          h.0,
          word from (omega (arith, gap, here.0)) ∙ h.1,
          subst (λ (n : ℕ). AreHoles (slice_set heap at value) n (end_of o) os) (sym (word (from + 1) (omega (arith, gap, here.0))))
              (holes-behind os (end_of o) (slice_index heap (from + 1)) here.1 laid.1 h.2),
        )) holes
    | inr behind ↦
        let low = in_some-from at os (end_of o) laid.1 behind in
        either (from == o.place) _ _ _ _ (λ e h. holes-inside os (end_of o) link (omega (arith, all.0)) all.1 behind laid.1 h)
        (λ e h.
        let gap : from + 2 ≤ o.place = gap_of from o.place e laid.0 even all.0 in (
          h.0,
          word from (omega (arith, gap, low)) ∙ h.1,
          subst (λ (n : ℕ). AreHoles (slice_set heap at value) n (end_of o) os) (sym (word (from + 1) (omega (arith, gap, low))))
              (holes-inside os (end_of o) (slice_index heap (from + 1)) (omega (arith, all.0)) all.1 behind laid.1 h.2),
        )) holes
  ]
    where
      gap_of : (from place : ℕ) → (from == place) ≡ false → from ≤ place → from % 2 ≡ 0 → place % 2 ≡ 0 → from + 2 ≤ place
      gap_of from place other le even_from even_place =
          let differ : from ≢ place = grind (arith, nat_tests) in
          omega arith

  -- the headers of objects behind the store
  headers-behind : (os : List Object) (from : ℕ) → at < from → IsLaid from os → AllByRecursion (HasHeader heap) os → AllByRecursion (HasHeader (slice_set heap at value)) os
  headers-behind [] from low laid headers = headers
  headers-behind (o ∷ os) from low laid headers =
      (word o.place (omega (arith, low, laid.0)) ∙ headers.0, headers-behind os (end_of o) (omega (arith, low, laid.0)) laid.1 headers.1)

  -- the headers of all objects
  pub headers-inside : (os : List Object) (from : ℕ) → InSome at os → IsLaid from os → AllByRecursion (HasHeader heap) os → AllByRecursion (HasHeader (slice_set heap at value)) os
  headers-inside [] from inside laid headers = absurd inside
  headers-inside (o ∷ os) from inside laid headers = elim inside [
    | inl here ↦ (word o.place (omega (arith, here.0)) ∙ headers.0, headers-behind os (end_of o) here.1 laid.1 headers.1)
    | inr behind ↦
        let low = in_some-from at os (end_of o) laid.1 behind in
        (word o.place (omega (arith, low)) ∙ headers.0, headers-inside os (end_of o) behind laid.1 headers.1)
  ]

-- what lies between objects doesn't depend on their fields
pub holes-with : (heap : List ℕ) (place field value : ℕ) (os : List Object) (from link : ℕ) → AreHoles heap link from os → AreHoles heap link from (with_field os place field value)
holes-with heap place field value [] from link holes = holes
holes-with heap place field value (o ∷ os) from link holes =
    let between : ℕ → ℕ → Type 0 = λ m n. Either (from == m) (AreHoles heap link n (with_field os place field value))
    ((link ≡ from) × (slice_index heap from ≡ m - from) × AreHoles heap (slice_index heap (from + 1)) n (with_field os place field value)) in
    subst (λ (m : ℕ). between m (end_of (object_with place field value o))) (sym (with-place place field value o))
    (subst (λ (n : ℕ). between o.place n) (sym (with-end place field value o))
    (either (from == o.place) _ _ _ _ (λ e h. holes-with heap place field value os (end_of o) link h)
    (λ e h. (h.0, h.1, holes-with heap place field value os (end_of o) (slice_index heap (from + 1)) h.2)) holes))

-- nor do their headers
pub headers-with : (heap : List ℕ) (place field value : ℕ) (os : List Object) → AllByRecursion (HasHeader heap) os → AllByRecursion (HasHeader heap) (with_field os place field value)
headers-with heap place field value [] headers = headers
headers-with heap place field value (o ∷ os) headers = (
  ap (λ (q : ℕ). slice_index heap q) (with-place place field value o) ∙ headers.0 ∙ sym (with-header place field value o),
  headers-with heap place field value os headers.1,
)
