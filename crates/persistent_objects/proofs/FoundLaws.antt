-- Which object of an image stands at a place.
use Rattle.std.proofs.Common.{◌≡◌, ℕ, zero, suc, ◌+◌, ◌-◌, ◌*◌, ◌/◌, ◌%◌, ◌<◌, ◌≤◌, ◌==◌, List, [], ◌∷◌, Bool, true, false, refl, ap, sym, ◌∙◌, arith, slice_index}
use Rattle.std.proofs.lemmas.Bool.Decides.{nat_tests}
use Rattle.std.specs.Prelude.{map, filter, if◌then◌else◌, ◌&&◌, Option, Some, None, is_some}
use Rattle.std.specs.List.{range_with_len}
use Rattle.kernel_model.specs.Visible.{Object}
use Rattle.kernel_model.specs.Objects as objects
use Rattle.kernel_image.specs.Shown.{is_begun, even_places, object_at, objects_in, static_mark}
use Rattle.thread_tree.specs.Program.{Program}
use Rattle.kernel_image.proofs.Callers.{by_test}

-- whether a place is in a list
abbrev pub is_in : ℕ → List ℕ → Bool
is_in place [] = false
is_in place (q ∷ qs) = if q == place then true else is_in place qs

-- the number of the type that the header at a place says
abbrev pub kind_at : List ℕ → ℕ → ℕ
kind_at heap place = slice_index heap place % static_mark - 1

-- the objects that begin at these places
abbrev pub objects_at : Program → List ℕ → List ℕ → List Object
objects_at p heap qs = map (object_at p heap) qs

-- the object of a type at a place, by the header there
pub object_of-at : (p : Program) (heap : List ℕ) (qs : List ℕ) (place kind : ℕ) →
    objects.object_of (objects_at p heap qs) place kind ≡ (if is_in place qs && kind_at heap place == kind then Some (object_at p heap place) else None)
object_of-at p heap [] place kind = refl
object_of-at p heap (q ∷ qs) place kind = by_test (q == place) _
    (λ same.
    let here : q ≡ place = grind (arith, nat_tests) in
    by_test (kind_at heap place == kind) _
    (λ yes.
    let kinds : (kind_at heap q == kind) ≡ true = ap (λ (n : ℕ). kind_at heap n == kind) here ∙ yes in
    rw (same, kinds, yes) (ap (λ (n : ℕ). Some (object_at p heap n)) here))
    (λ other'.
    let kinds : (kind_at heap q == kind) ≡ false = ap (λ (n : ℕ). kind_at heap n == kind) here ∙ other' in
    let rest = object_of-at p heap qs place kind in
    rw (same, kinds) (rest ∙ none (is_in place qs) (kind_at heap place == kind) (Some (object_at p heap place)) other')))
    (λ other. rw other (object_of-at p heap qs place kind))
  where
    none : {X : Type 0} (a b : Bool) (x : Option X) → b ≡ false → (if a && b then x else None) ≡ (if b then x else None)
    none true b x f = refl
    none false b x f = rw f refl

-- a place that passes a test stays in the list
is_in-filter : (test : ℕ → Bool) (qs : List ℕ) (place : ℕ) → is_in place (filter test qs) ≡ (is_in place qs && test place)
is_in-filter test [] place = refl
is_in-filter test (q ∷ qs) place = by_test (q == place) _
    (λ same.
    let here : q ≡ place = grind (arith, nat_tests) in
    by_test (test place) _
    (λ yes. let passed : test q ≡ true = ap test here ∙ yes in rw (passed, same, yes) refl)
    (λ fails. let failed : test q ≡ false = ap test here ∙ fails in rw (failed, same, fails) (is_in-filter test qs place ∙ ap (λ (b : Bool). is_in place qs && b) fails ∙ never (is_in place qs))))
    (λ other. by_test (test q) _
    (λ yes. rw (yes, other) (is_in-filter test qs place))
    (λ fails. rw (fails, other) (is_in-filter test qs place)))
  where
    never : (a : Bool) → (a && false) ≡ false
    never true = refl
    never false = refl

-- twice the numbers from a on
abbrev doubles : ℕ → ℕ → List ℕ
doubles a n = map (λ i. 2 * i) (range_with_len a n)

is_in-doubles : (a n k place : ℕ) → place ≡ 2 * (a + k) → k < n → is_in place (doubles a n) ≡ true
is_in-doubles a zero k place is low = absurd (omega arith)
is_in-doubles a (suc n) zero place is low = let here : (2 * a == place) ≡ true = grind (arith, nat_tests) in rw here refl
is_in-doubles a (suc n) (suc k) place is low =
    let other : (2 * a == place) ≡ false = grind (arith, nat_tests) in
    rw other (is_in-doubles (a + 1) n k place (omega arith) (omega arith))

is_in-odd : (a n place : ℕ) → place % 2 ≡ 1 → is_in place (doubles a n) ≡ false
is_in-odd a zero place odd = refl
is_in-odd a (suc n) place odd = let other : (2 * a == place) ≡ false = grind (arith, nat_tests) in rw other (is_in-odd (a + 1) n place odd)

is_in-past : (a n place : ℕ) → 2 * (a + n) ≤ place → is_in place (doubles a n) ≡ false
is_in-past a zero place past = refl
is_in-past a (suc n) place past = let other : (2 * a == place) ≡ false = grind (arith, nat_tests) in rw other (is_in-past (a + 1) n place (omega arith))

-- the same of the heap's even places
even_places-in : (place : ℕ) → place % 2 ≡ 0 → place < 4096 → is_in place even_places ≡ true
unfolding even_places
even_places-in place even low = by 2048 refl
  where
    by : (n : ℕ) → n ≡ 2048 → is_in place (doubles 0 n) ≡ true
    by n all = is_in-doubles 0 n (place / 2) place (omega arith) (omega arith)

even_places-odd : (place : ℕ) → place % 2 ≡ 1 → is_in place even_places ≡ false
unfolding even_places
even_places-odd place odd = is_in-odd 0 2048 place odd

even_places-past : (place : ℕ) → 4096 ≤ place → is_in place even_places ≡ false
unfolding even_places
even_places-past place past = by 2048 refl
  where
    by : (n : ℕ) → n ≡ 2048 → is_in place (doubles 0 n) ≡ false
    by n all = is_in-past 0 n place (omega arith)

-- the places where objects begin
abbrev pub begun : List ℕ → List ℕ
begun live = filter (is_begun live) even_places

-- an object is found by its place, its live bit and its header
some-of : {X : Type 0} (b : Bool) (x : X) → is_some (if b then Some x else None) ≡ b
some-of true x = refl
some-of false x = refl

found : (p : Program) (heap live : List ℕ) (place kind : ℕ) → is_some (objects.object_of (objects_in p heap live) place kind) ≡ (is_in place (begun live) && kind_at heap place == kind)
found p heap live place kind = ap (λ (o : Option Object). is_some o) (object_of-at p heap (begun live) place kind) ∙ some-of (is_in place (begun live) && kind_at heap place == kind) (object_at p heap place)

pub found_odd : (p : Program) (heap live : List ℕ) (place kind : ℕ) → place % 2 ≡ 1 → is_some (objects.object_of (objects_in p heap live) place kind) ≡ false
found_odd p heap live place kind odd =
    found p heap live place kind
    ∙ ap (λ (b : Bool). b && kind_at heap place == kind) (is_in-filter (is_begun live) even_places place ∙ ap (λ (b : Bool). b && is_begun live place) (even_places-odd place odd))

pub found_past : (p : Program) (heap live : List ℕ) (place kind : ℕ) → 4096 ≤ place → is_some (objects.object_of (objects_in p heap live) place kind) ≡ false
found_past p heap live place kind past =
    found p heap live place kind
    ∙ ap (λ (b : Bool). b && kind_at heap place == kind) (is_in-filter (is_begun live) even_places place ∙ ap (λ (b : Bool). b && is_begun live place) (even_places-past place past))

pub found_even : (p : Program) (heap live : List ℕ) (place kind : ℕ) → place % 2 ≡ 0 → place < 4096 → is_some (objects.object_of (objects_in p heap live) place kind) ≡ (is_begun live place && kind_at heap place == kind)
found_even p heap live place kind even low =
    found p heap live place kind
    ∙ ap (λ (b : Bool). b && kind_at heap place == kind) (is_in-filter (is_begun live) even_places place ∙ ap (λ (b : Bool). b && is_begun live place) (even_places-in place even low))

-- what was found begins at the place, and is the object of the header there
both : (a b : Bool) → (a && b) ≡ true → (a ≡ true) × (b ≡ true)
both true b test = (refl, test)
both false b test = absurd (let e : false ≡ true = test in cc)

pub record IsThere (p : Program) (heap live : List ℕ) (place kind : ℕ) : Type 0 where
  pub stands : is_in place (begun live) ≡ true
  pub of_kind : kind_at heap place ≡ kind
  pub is : objects.object_of (objects_in p heap live) place kind ≡ Some (object_at p heap place)

pub there : (p : Program) (heap live : List ℕ) (place kind : ℕ) → is_some (objects.object_of (objects_in p heap live) place kind) ≡ true → IsThere p heap live place kind
there p heap live place kind some =
    let tests = both (is_in place (begun live)) (kind_at heap place == kind) (sym (found p heap live place kind) ∙ some) in
    let test : (kind_at heap place == kind) ≡ true = tests.1 in
    let one : (is_in place (begun live) && kind_at heap place == kind) ≡ true = sym (found p heap live place kind) ∙ some in
    record {
      stands = tests.0;
      of_kind = grind (arith, nat_tests);
      is = object_of-at p heap (begun live) place kind ∙ ap (λ (b : Bool). if b then Some (object_at p heap place) else None) one;
    }
