-- The values of fields and of expressions.
use Rattle.std.proofs.Common.{◌≡◌, ℕ, ◌+◌, ◌<◌, ◌≤◌, true, false, refl, ap, sym, ◌∙◌, arith}
use Rattle.std.proofs.lemmas.Bool.Decides.{nat_tests}
use Rattle.std.proofs.lemmas.Option.{none-some}
use Rattle.std.specs.Prelude.{List, nat_lt, Option, Some, None, Result, Ok, Err}
use Rattle.kernel_model.specs.Transactions.{Read, Reference, reference_of, counted, loaded, load, bad_reference, too_many_operations, most_operations}
use Rattle.kernel_model.specs.Objects.{object_of}
use Rattle.kernel_model.specs.Visible.{Object}
use Rattle.thread_tree.specs.declared.local.Local.{Local}
use Rattle.thread_tree.specs.declared.expr.FieldOf.{FieldOf}
use Rattle.thread_tree.specs.Program.{Program}
use Rattle.persistent_objects.specs.Objects.{value_at}

-- the value of an object that is there, and of one that isn't
loaded-some : (o : Option Object) (field n value : ℕ) → Some value ≡ value_at o field → loaded field n o ≡ Ok (record { value = value; operations = n + 1 })
loaded-some None field n value is = absurd (none-some _ (sym is))
loaded-some (Some object) field n value is = ap (λ (v : Option ℕ). loaded_value n v) (sym is)
  where
    loaded_value : ℕ → Option ℕ → Result Read ℕ
    loaded_value n None = Err bad_reference
    loaded_value n (Some v) = Ok (record { value = v; operations = n + 1 })

loaded-none : (o : Option Object) (field n : ℕ) → None ≡ value_at o field → loaded field n o ≡ Err bad_reference
loaded-none None field n is = refl
loaded-none (Some object) field n is = absurd (none-some _ is)

module _ (p : Program) (os : List Object) (locals : List Local) (field : FieldOf) (n : ℕ) where
  -- one operation too many
  pub load_full : most_operations ≤ n → load p os locals field n ≡ Err too_many_operations
  load_full full = let test : nat_lt n 64 ≡ false = grind (arith, nat_tests) in rw test refl

  pub load_some : (r : Reference) (value : ℕ) → r ≡ reference_of p locals field → n < most_operations → Some value ≡ value_at (object_of os r.place r.kind) r.field → Ok (record { value = value; operations = n + 1 }) ≡ load p os locals field n
  load_some r value is low at =
      let test : nat_lt n 64 ≡ true = grind (arith, nat_tests) in
      sym (ap (λ (r : Reference). counted n (loaded r.field n (object_of os r.place r.kind))) (sym is) ∙ rw test (loaded-some (object_of os r.place r.kind) r.field n value at))

  pub load_none : (r : Reference) → r ≡ reference_of p locals field → n < most_operations → None ≡ value_at (object_of os r.place r.kind) r.field → Err bad_reference ≡ load p os locals field n
  load_none r is low at =
      let test : nat_lt n 64 ≡ true = grind (arith, nat_tests) in
      sym (ap (λ (r : Reference). counted n (loaded r.field n (object_of os r.place r.kind))) (sym is) ∙ rw test (loaded-none (object_of os r.place r.kind) r.field n at))

pub ruleset load_laws = (load_full)

pub ruleset read_laws = (load_full)
