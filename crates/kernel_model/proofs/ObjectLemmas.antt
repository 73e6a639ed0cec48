-- The objects stay apart, at even places, with their types, where one is made, changed or freed.
use Rattle.std.proofs.Common.{leb, ◌≡◌, ◌≢◌, ℕ, ◌+◌, ◌%◌, ◌<◌, ◌≤◌, Bool, true, false, cond, not, ◌==◌, List, [], ◌∷◌, length, map, filter, set, replicate, Option, Some, None, slice_get, refl, sym, ap, subst, ◌∙◌, arith, eqb-true, ne_eqb, le-ltb, lt-ltb, leb-true, length-set, true≢false}
use Rattle.std.specs.List.{AllByRecursion}
use Rattle.std.proofs.lemmas.List.Elements.{All-from_recursion, recursion_from_All, All-map, All-weaker, All-filter}
use Rattle.std.proofs.lemmas.Option.{slice_get_within, get_or_from_slice_get}
use Rattle.std.proofs.lemmas.Bool.{cond-false, eqb-false, not-true, cond_both}
use lib.ListN.{length-replicate}
use Rattle.kernel_model.specs.Visible.{Object}
use Rattle.kernel_model.specs.Order.{inserted}
use Rattle.thread_tree.specs.Numbers.{fields_of}
use Rattle.kernel_model.specs.Objects.{block_size, end_of, first_place, end_place, least_from, least, blank_object, is_before, place_for, with_new, object_at, is_made, without, object_with, with_field}
use Rattle.kernel_model.specs.Sound.{IsLaid, HasKind, place_and_kind, statics_in, AreSoundObjects}
use Rattle.kernel_model.proofs.OrderLemmas.{inserted-All}
use Rattle.thread_tree.specs.Program.{Program, Kind}

-- a block has two places or more, and an even number of them
pub block_size-even : (n : ℕ) → block_size n % 2 ≡ 0
block_size-even n = omega arith

pub block_size-some : (n : ℕ) → 2 ≤ block_size n
block_size-some n = omega arith

-- objects that lie apart from a place on do so from one before
pub IsLaid-from : (from before : ℕ) (objects : List Object) → before ≤ from → IsLaid from objects → IsLaid before objects
IsLaid-from from before [] le laid = omega arith
IsLaid-from from before (o ∷ os) le laid = (omega (arith, laid.0), laid.1)

-- a new object at the least place from one on lies apart from the others
pub new-laid : (objects : List Object) (from : ℕ) (new : Object) → new.place ≡ least_from from (block_size (length new.values)) objects →
    new.place ≢ 0 → IsLaid from objects → (from ≤ new.place) × IsLaid from (inserted is_before new objects)
new-laid [] from new is some laid = go (leb (from + block_size (length new.values)) end_place) refl is
  where
    go : (b : Bool) → leb (from + block_size (length new.values)) end_place ≡ b → new.place ≡ cond b from 0 →
        (from ≤ new.place) × IsLaid from (new ∷ [])
    go true e at = let le = leb-true _ _ e in (omega arith, (omega arith, omega arith))
    go false e at = absurd (some at)
new-laid (o ∷ os) from new is some laid =
    go (leb (from + block_size (length new.values)) o.place) refl is (λ at. new-laid os (end_of o) new at some laid.1)
  where
    -- the new one stands first
    here : new.place ≡ from → from + block_size (length new.values) ≤ o.place → IsLaid from (inserted is_before new (o ∷ os))
    here at le = subst (λ (b : Bool). IsLaid from (cond b (o ∷ inserted is_before new os) (new ∷ o ∷ os)))
        (sym (le-ltb o.place new.place (omega arith))) (omega arith, (omega arith, laid.1))

    -- it stands behind the first
    later : (end_of o ≤ new.place) → IsLaid (end_of o) (inserted is_before new os) → IsLaid from (inserted is_before new (o ∷ os))
    later le rest = subst (λ (b : Bool). IsLaid from (cond b (o ∷ inserted is_before new os) (new ∷ o ∷ os)))
        (sym (lt-ltb o.place new.place (omega (arith, block_size-some (length o.values))))) (laid.0, rest)

    go : (b : Bool) → leb (from + block_size (length new.values)) o.place ≡ b →
        new.place ≡ cond b from (least_from (end_of o) (block_size (length new.values)) os) →
        (new.place ≡ least_from (end_of o) (block_size (length new.values)) os → (end_of o ≤ new.place) × IsLaid (end_of o) (inserted is_before new os)) →
        (from ≤ new.place) × IsLaid from (inserted is_before new (o ∷ os))
    go true e at rest = (omega arith, here at (leb-true _ _ e))
    go false e at rest = let r = rest at in (omega (arith, laid.0, r.0, block_size-some (length o.values)), later r.0 r.1)

-- the least place is even
pub least_from-even : (objects : List Object) (from size : ℕ) → from % 2 ≡ 0 → AllByRecursion (λ o. o.place % 2 ≡ 0) objects →
    least_from from size objects % 2 ≡ 0
least_from-even [] from size even all = cond_both (leb (from + size) end_place) from 0 (λ n. n % 2 ≡ 0) (λ e. even) (λ e. refl)
least_from-even (o ∷ os) from size even all =
    let rest = least_from-even os (end_of o) size (let b = block_size-even (length o.values) in omega (arith, all.0)) all.1 in
    cond_both (leb (from + size) o.place) from (least_from (end_of o) size os) (λ n. n % 2 ≡ 0) (λ e. even) (λ e. rest)

-- a made object that is inserted changes no static one
pub statics-inserted : (objects : List Object) (new : Object) → new.is_static ≡ false →
    statics_in (inserted is_before new objects) ≡ statics_in objects
statics-inserted [] new made = ap (map place_and_kind) (cond-false new.is_static (new ∷ []) [] made)
statics-inserted (o ∷ os) new made = go (is_before o new) (statics-inserted os new made)
  where
    go : (b : Bool) → statics_in (inserted is_before new os) ≡ statics_in os →
        statics_in (cond b (o ∷ inserted is_before new os) (new ∷ o ∷ os)) ≡ statics_in (o ∷ os)
    go true rest = behind o.is_static
      where
        behind : (s : Bool) → map place_and_kind (cond s (o ∷ filter (λ o. o.is_static) (inserted is_before new os)) (filter (λ o. o.is_static) (inserted is_before new os)))
            ≡ map place_and_kind (cond s (o ∷ filter (λ o. o.is_static) os) (filter (λ o. o.is_static) os))
        behind true = ap (λ xs. place_and_kind o ∷ xs) rest
        behind false = rest
    go false rest = ap (map place_and_kind) (cond-false new.is_static (new ∷ filter (λ o. o.is_static) (o ∷ os)) (filter (λ o. o.is_static) (o ∷ os)) made)

-- the objects with a new one
pub new-sound : (p : Program) (objects : List Object) (kind : ℕ) → AreSoundObjects p objects →
    AreSoundObjects p (with_new p objects kind (place_for p objects kind))
new-sound p objects kind h = go (slice_get p.kinds kind) refl
  where
    -- where the type is one of the program and the place is one
    made : (k : Kind) (place : ℕ) → slice_get p.kinds kind ≡ Some k → place ≡ least objects (length k.fields) → place ≢ 0 →
        AreSoundObjects p (inserted is_before (blank_object p kind false place) objects)
    made k place e is some =
        let fields : length k.fields ≡ length (replicate (length (fields_of p kind)) 0) =
        ap (λ (x : Kind). length x.fields) (sym (get_or_from_slice_get p.kinds kind k (record { name = 0; fields = [] }) e)) ∙ sym (length-replicate (length (fields_of p kind)) 0) in
        record {
          laid = (new-laid objects first_place (blank_object p kind false place) (is ∙ ap (least objects) fields) some h.laid).1;
          even = All-from_recursion (λ o. o.place % 2 ≡ 0) _ (inserted-All (λ o. o.place % 2 ≡ 0) is_before (blank_object p kind false place) objects
              (ap (λ n. n % 2) is ∙ least_from-even objects first_place (block_size (length k.fields)) refl (recursion_from_All (λ o. o.place % 2 ≡ 0) objects h.even))
              (recursion_from_All (λ o. o.place % 2 ≡ 0) objects h.even));
          kinds = All-from_recursion (HasKind p) _ (inserted-All (HasKind p) is_before (blank_object p kind false place) objects
              (record { of_program = slice_get_within p.kinds kind k e; fields = length-replicate (length (fields_of p kind)) 0 })
              (recursion_from_All (HasKind p) objects h.kinds));
          statics = statics-inserted objects (blank_object p kind false place) refl ∙ h.statics;
        }

    go : (o : Option Kind) → slice_get p.kinds kind ≡ o →
        AreSoundObjects p (with_new p objects kind (elim o [ None ↦ 0 | Some k ↦ least objects (length k.fields) ]))
    go None e = h
    go (Some k) e = cond_both (least objects (length k.fields) == 0) objects
        (inserted is_before (blank_object p kind false (least objects (length k.fields))) objects) (AreSoundObjects p)
        (λ zero. h)
        (λ some. made k (least objects (length k.fields)) e refl (eqb-false (least objects (length k.fields)) 0 some))

-- a field that changes leaves place, type and number of fields
module _ (place field value : ℕ) where
  by_place : {X : Type 0} (f : Object → X) (o : Object) → f (record o { values = set o.values field value }) ≡ f o → f (object_with place field value o) ≡ f o
  by_place f o e = cond_both (o.place == place) (record o { values = set o.values field value }) o (λ x. f x ≡ f o) (λ t. e) (λ t. refl)

  pub with-place : (o : Object) → (object_with place field value o).place ≡ o.place
  with-place o = by_place (λ x. x.place) o refl

  pub with-kind : (o : Object) → (object_with place field value o).kind ≡ o.kind
  with-kind o = by_place (λ x. x.kind) o refl

  pub with-static : (o : Object) → (object_with place field value o).is_static ≡ o.is_static
  with-static o = by_place (λ x. x.is_static) o refl

  pub with-length : (o : Object) → length (object_with place field value o).values ≡ length o.values
  with-length o = by_place (λ x. length x.values) o (length-set o.values field value)

  pub with-laid : (objects : List Object) (from : ℕ) → IsLaid from objects → IsLaid from (with_field objects place field value)
  with-laid [] from laid = laid
  with-laid (o ∷ os) from laid = (
    subst (λ (n : ℕ). from ≤ n) (sym (with-place o)) laid.0,
    subst (λ (n : ℕ). IsLaid n (with_field os place field value))
        (sym (ap (λ n. n + block_size (length (object_with place field value o).values)) (with-place o) ∙ ap (λ n. o.place + block_size n) (with-length o)))
        (with-laid os (end_of o) laid.1),
  )

  pub with-statics : (objects : List Object) → statics_in (with_field objects place field value) ≡ statics_in objects
  with-statics [] = refl
  with-statics (o ∷ os) = go (object_with place field value o).is_static o.is_static (with-static o) (with-statics os)
    where
      go : (s t : Bool) → s ≡ t → statics_in (with_field os place field value) ≡ statics_in os →
          map place_and_kind (cond s (object_with place field value o ∷ filter (λ o. o.is_static) (with_field os place field value)) (filter (λ o. o.is_static) (with_field os place field value)))
          ≡ map place_and_kind (cond t (o ∷ filter (λ o. o.is_static) os) (filter (λ o. o.is_static) os))
      go true true e rest = ap (λ n. (n, (object_with place field value o).kind) ∷ statics_in (with_field os place field value)) (with-place o)
          ∙ ap (λ n. (o.place, n) ∷ statics_in (with_field os place field value)) (with-kind o) ∙ ap (λ xs. place_and_kind o ∷ xs) rest
      go true false e rest = absurd (true≢false e)
      go false true e rest = absurd (true≢false (sym e))
      go false false e rest = rest

  -- the objects where a field has changed
  pub field-sound : (p : Program) (objects : List Object) → AreSoundObjects p objects → AreSoundObjects p (with_field objects place field value)
  field-sound p objects h = record {
    laid = with-laid objects first_place h.laid;
    even = All-map (λ o. o.place % 2 ≡ 0) (object_with place field value) objects
        (All-weaker (λ o. o.place % 2 ≡ 0) (λ o. (object_with place field value o).place % 2 ≡ 0) (λ o e. ap (λ n. n % 2) (with-place o) ∙ e) objects h.even);
    kinds = All-map (HasKind p) (object_with place field value) objects
        (All-weaker (HasKind p) (λ o. HasKind p (object_with place field value o)) (λ o e. record {
          of_program = subst (λ (n : ℕ). n < length p.kinds) (sym (with-kind o)) e.of_program;
          fields = with-length o ∙ e.fields ∙ ap (λ n. length (fields_of p n)) (sym (with-kind o));
        }) objects h.kinds);
    statics = with-statics objects ∙ h.statics;
  }

-- the objects without one
module _ (place : ℕ) where
  pub without-laid : (objects : List Object) (from : ℕ) → IsLaid from objects → IsLaid from (without objects place)
  without-laid [] from laid = laid
  without-laid (o ∷ os) from laid = go (o.place == place) (without-laid os (end_of o) laid.1)
    where
      go : (b : Bool) → IsLaid (end_of o) (without os place) → IsLaid from (cond (not b) (o ∷ without os place) (without os place))
      go true rest = IsLaid-from (end_of o) from (without os place) (omega (arith, laid.0)) rest
      go false rest = (laid.0, rest)

  -- no object behind a place stands at it
  pub without-none : (objects : List Object) (from : ℕ) → IsLaid from objects → place < from → without objects place ≡ objects
  without-none [] from laid l = refl
  without-none (o ∷ os) from laid l =
      ap (λ b. cond (not b) (o ∷ without os place) (without os place)) (ne_eqb o.place place (λ e. absurd (omega (arith, laid.0))))
      ∙ ap (λ xs. o ∷ xs) (without-none os (end_of o) laid.1 (omega (arith, laid.0)))

  -- an object that can be freed is no static one
  pub without-statics : (objects : List Object) (from : ℕ) → IsLaid from objects → is_made (object_at objects place) ≡ true →
      statics_in (without objects place) ≡ statics_in objects
  without-statics [] from laid made = refl
  without-statics (o ∷ os) from laid made = go (o.place == place) refl made (without-statics os (end_of o) laid.1)
    where
      gone : (o.place == place) ≡ true → not o.is_static ≡ true → statics_in (without os place) ≡ statics_in (o ∷ os)
      gone e free = ap statics_in (without-none os (end_of o) laid.1 (let f = eqb-true o.place place e in omega (arith, block_size-some (length o.values))))
          ∙ sym (ap (map place_and_kind) (cond-false o.is_static (o ∷ filter (λ o. o.is_static) os) (filter (λ o. o.is_static) os) (not-true o.is_static free)))

      go : (b : Bool) → (o.place == place) ≡ b → is_made (cond b (Some o) (object_at os place)) ≡ true →
          (is_made (object_at os place) ≡ true → statics_in (without os place) ≡ statics_in os) →
          statics_in (cond (not b) (o ∷ without os place) (without os place)) ≡ statics_in (o ∷ os)
      go true e free rest = gone e free
      go false e free rest = kept o.is_static
        where
          kept : (s : Bool) → map place_and_kind (cond s (o ∷ filter (λ o. o.is_static) (without os place)) (filter (λ o. o.is_static) (without os place)))
              ≡ map place_and_kind (cond s (o ∷ filter (λ o. o.is_static) os) (filter (λ o. o.is_static) os))
          kept true = ap (λ xs. place_and_kind o ∷ xs) (rest free)
          kept false = rest free

  pub without-sound : (p : Program) (objects : List Object) → AreSoundObjects p objects → is_made (object_at objects place) ≡ true →
      AreSoundObjects p (without objects place)
  without-sound p objects h made = record {
    laid = without-laid objects first_place h.laid;
    even = All-filter (λ o. not (o.place == place)) (λ o. o.place % 2 ≡ 0) objects h.even;
    kinds = All-filter (λ o. not (o.place == place)) (HasKind p) objects h.kinds;
    statics = without-statics objects first_place h.laid made ∙ h.statics;
  }
