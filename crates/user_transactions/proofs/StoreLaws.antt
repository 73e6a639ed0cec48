-- What a store to a field makes of a block at work.
use Rattle.std.proofs.Common.{◌≡◌, ℕ, ◌+◌, ◌<◌, ◌≤◌, ◌==◌, set, true≢false, Bool, true, false, List, [], ◌∷◌, refl, ap, sym, ◌∙◌, arith, length, subst}
use Rattle.std.proofs.lemmas.Bool.Decides.{nat_tests}
use Rattle.std.proofs.lemmas.Option.{none-some}
use Rattle.std.specs.Prelude.{nat_lt, if◌then◌else◌, Option, Some, None, is_some, Ok, Err}
use Rattle.kernel_model.specs.Transactions.{Work, Thing, Reference, reference_of, stored, operated, bad_reference, too_many_operations, most_operations}
use Rattle.std.specs.Prelude.{◌&&◌}
use Rattle.std.specs.List.{AllByRecursion}
use Rattle.std.proofs.lemmas.List.{set_past}
use Rattle.std.proofs.lemmas.List.Elements.{recursion_from_All}
use Rattle.thread_tree.specs.Numbers.{fields_of}
use Rattle.kernel_model.specs.Sound.{IsLaid, HasKind, AreSoundObjects}
use Rattle.kernel_model.specs.Objects.{end_of, first_place, object_of, with_field}
use Rattle.kernel_model.specs.Visible.{Object}
use Rattle.thread_tree.specs.declared.expr.FieldOf.{FieldOf}
use Rattle.thread_tree.specs.Program.{Program}
use Rattle.persistent_objects.specs.Objects.{value_at}

module _ (p : Program) (w : Work) (rest : List Thing) (field : FieldOf) (value : ℕ) where
  -- one operation too many
  pub stored_full : most_operations ≤ w.operations → stored p w rest field value ≡ Err too_many_operations
  stored_full full = let test : nat_lt w.operations 64 ≡ false = grind (arith, nat_tests) in rw test refl

  -- an object that is there
  pub stored_some : (r : Reference) → r ≡ reference_of p w.locals field → w.operations < most_operations → is_some (object_of w.objects r.place r.kind) ≡ true →
      stored p w rest field value ≡ Ok (record w { objects = with_field w.objects r.place r.field value; operations = w.operations + 1; todo = rest })
  stored_some r is low some =
      let test : nat_lt w.operations 64 ≡ true = grind (arith, nat_tests) in
      ap (λ (r : Reference). operated w rest (is_some (object_of w.objects r.place r.kind)) (with_field w.objects r.place r.field value)) (sym is) ∙ rw (test, some) refl

  -- an object that isn't
  pub stored_none : (r : Reference) → r ≡ reference_of p w.locals field → w.operations < most_operations → is_some (object_of w.objects r.place r.kind) ≡ false →
      stored p w rest field value ≡ Err bad_reference
  stored_none r is low none =
      let test : nat_lt w.operations 64 ≡ true = grind (arith, nat_tests) in
      ap (λ (r : Reference). operated w rest (is_some (object_of w.objects r.place r.kind)) (with_field w.objects r.place r.field value)) (sym is) ∙ rw (test, none) refl

-- objects behind a place stay, and none of them stands there
behind-none : (os : List Object) (from place kind : ℕ) → IsLaid from os → place < from → object_of os place kind ≡ None
behind-none [] from place kind laid low = refl
behind-none (o ∷ os) from place kind laid low =
    let other : (o.place == place) ≡ false = let le : from ≤ o.place = laid.0 in grind (arith, nat_tests) in
    rw other (behind-none os (end_of o) place kind laid.1 (omega (arith, laid.0, low)))

behind-same : (os : List Object) (from place field value : ℕ) → IsLaid from os → place < from → with_field os place field value ≡ os
behind-same [] from place field value laid low = refl
behind-same (o ∷ os) from place field value laid low =
    let other : (o.place == place) ≡ false = let le : from ≤ o.place = laid.0 in grind (arith, nat_tests) in
    let rest = behind-same os (end_of o) place field value laid.1 (omega (arith, laid.0, low)) in
    rw other (ap (λ (os : List Object). o ∷ os) rest)

-- a field that the type of the object there doesn't have
pub with_field-past : (p : Program) (os : List Object) (from place kind field value : ℕ) → IsLaid from os → AllByRecursion (HasKind p) os → is_some (object_of os place kind) ≡ true → length (fields_of p kind) ≤ field → with_field os place field value ≡ os
with_field-past p [] from place kind field value laid all some past = refl
with_field-past p (o ∷ os) from place kind field value laid all some past = by_test (o.place == place) _
    (λ here.
    let at : o.place ≡ place = grind (arith, nat_tests) in
    let behind : place < end_of o = omega arith in
    let rest = behind-same os (end_of o) place field value laid.1 behind in
    by_test (o.kind == kind) _
    (λ same.
    let of_kind : o.kind ≡ kind = grind (arith, nat_tests) in
    let long : length o.values ≤ field = subst (λ (n : ℕ). n ≤ field) (sym (all.0.fields ∙ ap (λ (k : ℕ). length (fields_of p k)) of_kind)) past in
    let head : record o { values = set o.values field value } ≡ o = ap (λ (values : List ℕ). record o { values = values }) (set_past o.values field value long) in
    rw here (λ i. head i ∷ rest i))
    (λ other. absurd (true≢false (sym some ∙ ap (λ (b : Bool). is_some (if b && o.kind == kind then Some o else object_of os place kind)) here ∙ ap (λ (b : Bool). is_some (if b then Some o else object_of os place kind)) other ∙ ap (λ (found : Option Object). is_some found) (behind-none os (end_of o) place kind laid.1 behind)))))
    (λ other.
    let rest = with_field-past p os (end_of o) place kind field value laid.1 all.1 (sym (ap (λ (b : Bool). is_some (if b && o.kind == kind then Some o else object_of os place kind)) other) ∙ some) past in
    rw other (ap (λ (os : List Object). o ∷ os) rest))
  where
    by_test : (b : Bool) (P : Type 0) → (b ≡ true → P) → (b ≡ false → P) → P
    by_test true P holds fails = holds refl
    by_test false P holds fails = fails refl

-- a value that was read is one of an object that is there
pub there-some : (o : Option Object) (field value : ℕ) → Some value ≡ value_at o field → is_some o ≡ true
there-some None field value is = absurd (none-some _ (sym is))
there-some (Some object) field value is = refl

-- a store to such a field is an operation that changes nothing
pub stored_past : (p : Program) (w : Work) (rest : List Thing) (field : FieldOf) (value found : ℕ) (r : Reference) → r ≡ reference_of p w.locals field → w.operations < most_operations → AreSoundObjects p w.objects →
    Some found ≡ value_at (object_of w.objects r.place r.kind) r.field → length (fields_of p r.kind) ≤ r.field → stored p w rest field value ≡ Ok (record w { operations = w.operations + 1; todo = rest })
stored_past p w rest field value found r is low sound at past =
    let some = there-some (object_of w.objects r.place r.kind) r.field found at in
    stored_some p w rest field value r is low some
    ∙ ap (λ (os : List Object). Ok (record w { objects = os; operations = w.operations + 1; todo = rest }))
    (with_field-past p w.objects first_place r.place r.kind r.field value sound.laid (recursion_from_All (HasKind p) w.objects sound.kinds) some past)

pub ruleset store_laws = (stored_full)
