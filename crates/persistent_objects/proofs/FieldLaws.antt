-- A field that changes leaves place, type and number of fields.
use Rattle.std.proofs.Common.{◌≡◌, ℕ, ◌+◌, ◌%◌, ◌<◌, ◌≤◌, Bool, true, false, cond, ◌==◌, List, [], ◌∷◌, length, map, filter, set, refl, sym, ap, subst, ◌∙◌, length-set, true≢false}
use Rattle.std.proofs.lemmas.List.Elements.{All-map, All-weaker}
use Rattle.std.proofs.lemmas.Bool.{cond_both}
use Rattle.kernel_model.specs.Visible.{Object}
use Rattle.thread_tree.specs.Numbers.{fields_of}
use Rattle.kernel_model.specs.Objects.{block_size, end_of, first_place, object_with, with_field}
use Rattle.kernel_model.specs.Sound.{IsLaid, HasKind, place_and_kind, statics_in, AreSoundObjects}
use Rattle.kernel_image.specs.Agree.{header_of}
use Rattle.thread_tree.specs.Program.{Program}

module _ (place field value : ℕ) where
  by_place : {X : Type 0} (f : Object → X) (o : Object) → f (record o { values = set o.values field value }) ≡ f o → f (object_with place field value o) ≡ f o
  by_place f o e = cond_both (o.place == place) (record o { values = set o.values field value }) o (λ x. f x ≡ f o) (λ t. e) (λ t. refl)

  pub with-place : (o : Object) → (object_with place field value o).place ≡ o.place
  with-place o = by_place (λ x. x.place) o refl

  with-kind : (o : Object) → (object_with place field value o).kind ≡ o.kind
  with-kind o = by_place (λ x. x.kind) o refl

  with-static : (o : Object) → (object_with place field value o).is_static ≡ o.is_static
  with-static o = by_place (λ x. x.is_static) o refl

  with-length : (o : Object) → length (object_with place field value o).values ≡ length o.values
  with-length o = by_place (λ x. length x.values) o (length-set o.values field value)

  pub with-header : (o : Object) → header_of (object_with place field value o) ≡ header_of o
  with-header o = by_place header_of o refl

  pub with-end : (o : Object) → end_of (object_with place field value o) ≡ end_of o
  with-end o = by_place end_of o (ap (λ n. o.place + block_size n) (length-set o.values field value))

  with-laid : (objects : List Object) (from : ℕ) → IsLaid from objects → IsLaid from (with_field objects place field value)
  with-laid [] from laid = laid
  with-laid (o ∷ os) from laid = (
    subst (λ (n : ℕ). from ≤ n) (sym (with-place o)) laid.0,
    subst (λ (n : ℕ). IsLaid n (with_field os place field value)) (sym (with-end o)) (with-laid os (end_of o) laid.1),
  )

  with-statics : (objects : List Object) → statics_in (with_field objects place field value) ≡ statics_in objects
  with-statics [] = refl
  with-statics (o ∷ os) = go (object_with place field value o).is_static o.is_static (with-static o) (with-statics os)
    where
      go : (s t : Bool) → s ≡ t → statics_in (with_field os place field value) ≡ statics_in os →
          map place_and_kind (cond s (object_with place field value o ∷ filter (λ o. o.is_static) (with_field os place field value)) (filter (λ o. o.is_static) (with_field os place field value)))
          ≡ map place_and_kind (cond t (o ∷ filter (λ o. o.is_static) os) (filter (λ o. o.is_static) os))
      go true true e rest = ap (λ n. (n, (object_with place field value o).kind) ∷ statics_in (with_field os place field value)) (with-place o)
          ∙ ap (λ n. (o.place, n) ∷ statics_in (with_field os place field value)) (with-kind o) ∙ ap (λ xs. place_and_kind o ∷ xs) rest
      go true false e rest = absurd (true≢false e)
      go false true e rest = absurd (true≢false (sym e))
      go false false e rest = rest

  -- the objects where a field has changed
  pub field-sound : (p : Program) (objects : List Object) → AreSoundObjects p objects → AreSoundObjects p (with_field objects place field value)
  field-sound p objects h = record {
    laid = with-laid objects first_place h.laid;
    even = All-map (λ o. o.place % 2 ≡ 0) (object_with place field value) objects
        (All-weaker (λ o. o.place % 2 ≡ 0) (λ o. (object_with place field value o).place % 2 ≡ 0) (λ o e. ap (λ n. n % 2) (with-place o) ∙ e) objects h.even);
    kinds = All-map (HasKind p) (object_with place field value) objects
        (All-weaker (HasKind p) (λ o. HasKind p (object_with place field value o)) (λ o e. record {
          of_program = subst (λ (n : ℕ). n < length p.kinds) (sym (with-kind o)) e.of_program;
          fields = with-length o ∙ e.fields ∙ ap (λ n. length (fields_of p n)) (sym (with-kind o));
        }) objects h.kinds);
    statics = with-statics objects ∙ h.statics;
  }
