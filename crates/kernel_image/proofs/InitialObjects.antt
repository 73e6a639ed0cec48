-- The heap and the live bits that formatting writes show the static objects.
use Rattle.std.proofs.Common.{◌≡◌, ℕ, zero, suc, ◌+◌, ◌-◌, ◌*◌, ◌/◌, ◌%◌, ◌<◌, ◌≤◌, ◌==◌, List, [], ◌∷◌, Bool, true, false, refl, ap, sym, subst, ◌∙◌, arith, length, slice_index}
use Rattle.std.proofs.lemmas.Bool.Decides.{nat_tests}
use Rattle.std.proofs.lemmas.List.{length-map}
use Rattle.std.proofs.lemmas.Nat.Bits.{bit_at-suc}
use Rattle.std.specs.Int.{bit_at}
use Rattle.std.specs.Prelude.{map, filter, if◌then◌else◌, nat_le, Option, Some, None, is_some}
use Rattle.std.specs.List.{range_with_len, AllByRecursion}
use Rattle.kernel_model.specs.Visible.{Object}
use Rattle.thread_tree.specs.Numbers.{kind_number, fields_of}
use Rattle.kernel_model.specs.Objects as objects
use Rattle.kernel_model.specs.Objects.{block_size, end_of, blank_object, static_objects}
use Rattle.thread_tree.specs.Program as program
use Rattle.thread_tree.specs.Program.{Program, Kind}
use Rattle.thread_tree.specs.Limits.{IsWithinLimits}
use Rattle.kernel_image.specs.Agree.{HasHeader}
use Rattle.kernel_image.specs.Decoded.{listed}
use Rattle.kernel_image.specs.Shown.{is_begun, even_places, object_at, objects_in, static_mark}
use Rattle.kernel_image.specs.Initial.{end_after, first_hole, hole_word, initial_heap_word, initial_live_word, of_bits}
use Rattle.kernel_image.proofs.CellLaws.{by_test}
use Rattle.kernel_image.proofs.Listed.{listed-at, listed-zeros}
use Rattle.kernel_image.proofs.Packed.{packed, static_at, size_of, end_of-static, size_of-few, HasFewFields, HasFewFields-within, static_objects-of}
use Rattle.kernel_image.proofs.PartLaws.{position-few}

-- the bits of a number that has these
bit_of-first : (b : Bool) (w : ℕ) → ((if b then 1 else 0) + 2 * w) % 2 ≡ (if b then 1 else 0)
bit_of-first true w = omega arith
bit_of-first false w = omega arith

bit_of-rest : (b : Bool) (w : ℕ) → ((if b then 1 else 0) + 2 * w) / 2 ≡ w
bit_of-rest true w = omega arith
bit_of-rest false w = omega arith

bit_at-of_bits : (n : ℕ) (b : ℕ → Bool) (k : ℕ) → k < n → bit_at (of_bits n b) k ≡ (if b k then 1 else 0)
unfolding of_bits
bit_at-of_bits zero b k low = absurd (omega (arith, low))
bit_at-of_bits (suc n) b zero low =
    let whole : bit_at (of_bits (suc n) b) 0 ≡ of_bits (suc n) b % 2 = ap (λ (m : ℕ). m % 2) (omega arith) in
    whole ∙ bit_of-first (b 0) (of_bits n (λ j. b (j + 1)))
bit_at-of_bits (suc n) b (suc k) low =
    let next : k + 1 ≡ suc k = omega arith in
    bit_at-suc (of_bits (suc n) b) k
    ∙ ap (λ (m : ℕ). bit_at m k) (bit_of-rest (b 0) (of_bits n (λ j. b (j + 1))))
    ∙ bit_at-of_bits n (λ j. b (j + 1)) k (omega (arith, low))
    ∙ ap (λ (m : ℕ). if b m then 1 else 0) next

is_one : (b : Bool) → ((if b then 1 else 0) == 1) ≡ b
is_one true = refl
is_one false = refl

-- the live bit of an even place
live-at : (p : Program) (i : ℕ) → i < 2048 → is_begun (listed 64 (initial_live_word p)) (2 * i) ≡ is_some (objects.object_at (static_objects p) (2 * i))
live-at p i low =
    let word : slice_index (listed 64 (initial_live_word p)) (2 * i / 64) ≡ initial_live_word p (2 * i / 64) = listed-at 64 (initial_live_word p) (2 * i / 64) 0 (omega (arith, low)) in
    let place : 64 * (2 * i / 64) + 2 * (2 * i / 2 % 32) ≡ 2 * i = omega arith in
    ap (λ (w : ℕ). bit_at w (2 * i / 2 % 32) == 1) word
    ∙ ap (λ (m : ℕ). m == 1) (bit_at-of_bits 32 (λ k. is_some (objects.object_at (static_objects p) (64 * (2 * i / 64) + 2 * k))) (2 * i / 2 % 32) (omega arith))
    ∙ is_one (is_some (objects.object_at (static_objects p) (64 * (2 * i / 64) + 2 * (2 * i / 2 % 32))))
    ∙ ap (λ (q : ℕ). is_some (objects.object_at (static_objects p) q)) place

-- no packed object lies before the first place
packed-above : (p : Program) (place : ℕ) (names : List ℕ) (q : ℕ) → q < place → objects.object_at (packed p place names) q ≡ None
unfolding packed
packed-above p place [] q low = refl
packed-above p place (name ∷ names) q low =
    let other : (place == q) ≡ false = grind (arith, nat_tests) in
    rw other (packed-above p (place + size_of p name) names q (omega (arith, low)))

-- behind the first of them
packed-behind : (p : Program) (place name : ℕ) (names : List ℕ) (q : ℕ) → place < q → objects.object_at (packed p place (name ∷ names)) q ≡ objects.object_at (packed p (place + size_of p name) names) q
unfolding packed
packed-behind p place name names q low = let other : (place == q) ≡ false = grind (arith, nat_tests) in rw other refl

packed-here : (p : Program) (place name : ℕ) (names : List ℕ) → objects.object_at (packed p place (name ∷ names)) place ≡ Some (static_at p place name)
unfolding packed
packed-here p place name names = let here : (place == place) ≡ true = grind (arith, nat_tests) in rw here refl

-- they end behind the first place
end-above : (p : Program) (place : ℕ) (names : List ℕ) → place ≤ end_after place (packed p place names)
unfolding packed
end-above p place [] = omega arith
end-above p place (name ∷ names) =
    let rest = end-above p (place + size_of p name) names in
    let end = ap (λ (n : ℕ). end_after n (packed p (place + size_of p name) names)) (end_of-static p place name) in
    omega (arith, rest, end)

end-first : (p : Program) (place name : ℕ) (names : List ℕ) → end_after place (packed p place (name ∷ names)) ≡ end_after (place + size_of p name) (packed p (place + size_of p name) names)
unfolding packed
end-first p place name names = ap (λ (n : ℕ). end_after n (packed p (place + size_of p name) names)) (end_of-static p place name)

-- the word of a place by the object that begins there
abbrev pub word_of : Program → Option Object → ℕ → ℕ
word_of p o q = elim o [ Some object ↦ object.kind + 1 + static_mark | None ↦ hole_word p q ]

-- the object that the heap shows at a place with this header
abbrev pub object_of : Program → List ℕ → ℕ → ℕ → Object
object_of p heap place header = record {
  place = place;
  kind = header % static_mark - 1;
  is_static = nat_le static_mark header;
  values = listed (length (fields_of p (header % static_mark - 1))) (λ field. slice_index heap (place + 1 + field));
}

-- the static object that the heap shows at a place
object-shown : (p : Program) (heap : List ℕ) (place name : ℕ) → kind_number p name ≤ 32 → slice_index heap place ≡ kind_number p name + 1 + static_mark → ((f : ℕ) → f < length (fields_of p (kind_number p name)) → slice_index heap (place + 1 + f) ≡ 0) → object_at p heap place ≡ static_at p place name
object-shown p heap place name few header fields =
    let kind : (kind_number p name + 1 + static_mark) % static_mark - 1 ≡ kind_number p name = omega (arith, few) in
    let static : nat_le static_mark (kind_number p name + 1 + static_mark) ≡ true = grind (arith, nat_tests) in
    let values =
    ap (λ (k : ℕ). listed (length (fields_of p k)) (λ field. slice_index heap (place + 1 + field))) kind
    ∙ listed-zeros (length (fields_of p (kind_number p name))) (λ field. slice_index heap (place + 1 + field)) fields in
    ap (object_of p heap place) header
    ∙ (λ i. record { place = place; kind = kind i; is_static = static i; values = values i })

-- where no test passes nothing is kept
none-shown : (test : ℕ → Bool) (n a : ℕ) → ((i : ℕ) → a ≤ i → i < a + n → test (2 * i) ≡ false) → filter test (map (λ i. 2 * i) (range_with_len a n)) ≡ []
none-shown test zero a none = refl
none-shown test (suc n) a none =
    let first : test (2 * a) ≡ false = none a (omega arith) (omega arith) in
    rw first (none-shown test n (a + 1) (λ i low high. none i (omega (arith, low)) (omega (arith, high))))

-- the word behind the header of the first of packed objects
field-word : (p : Program) (place name : ℕ) (names : List ℕ) (f : ℕ) → first_hole p ≡ end_after place (packed p place (name ∷ names)) → f < length (fields_of p (kind_number p name)) → word_of p (objects.object_at (packed p place (name ∷ names)) (place + 1 + f)) (place + 1 + f) ≡ 0
field-word p place name names f hole low =
    let behind = packed-behind p place name names (place + 1 + f) (omega arith) in
    let none = packed-above p (place + size_of p name) names (place + 1 + f) (omega (arith, low)) in
    let end = end-above p (place + size_of p name) names in
    let first = end-first p place name names in
    let other : (place + 1 + f == first_hole p) ≡ false = grind (arith, nat_tests) in
    ap (λ (o : Option Object). word_of p o (place + 1 + f)) (behind ∙ none)
    ∙ ap (λ (b : Bool). if b then 4096 - first_hole p else 0) other

-- the objects that the live bits and the heap show from a place on
shown-from : (p : Program) (heap : List ℕ) (test : ℕ → Bool) (n a place : ℕ) (names : List ℕ) → HasFewFields p → ((name : ℕ) → kind_number p name ≤ 32) →
    2 * a ≤ place → place % 2 ≡ 0 → place + 12 * length names ≤ 2 * (a + n) → place + 12 * length names ≤ 4000 → first_hole p ≡ end_after place (packed p place names) →
    ((i : ℕ) → a ≤ i → i < a + n → test (2 * i) ≡ is_some (objects.object_at (packed p place names) (2 * i))) →
    ((q : ℕ) → place ≤ q → q < 4096 → slice_index heap q ≡ word_of p (objects.object_at (packed p place names) q) q) →
    map (object_at p heap) (filter test (map (λ i. 2 * i) (range_with_len a n))) ≡ packed p place names
unfolding packed
shown-from p heap test n a place [] few kinds low even fits most hole begun words =
    ap (map (object_at p heap)) (none-shown test n a begun)
shown-from p heap test zero a place (name ∷ names) few kinds low even fits most hole begun words = absurd (omega (arith, low, fits))
shown-from p heap test (suc n) a place (name ∷ names) few kinds low even fits most hole begun words =
    let small = size_of-few p name few in
    by_test (place == 2 * a) _
    (λ same.
    let here : place ≡ 2 * a = grind (arith, nat_tests) in
    let first : test (2 * a) ≡ true = begun a (omega arith) (omega arith) ∙ ap (λ (q : ℕ). is_some (objects.object_at (packed p place (name ∷ names)) q)) (sym here) ∙ ap is_some (packed-here p place name names) in
    let shown : object_at p heap (2 * a) ≡ static_at p place name =
    ap (object_at p heap) (sym here)
    ∙ object-shown p heap place name (kinds name)
    (words place (omega arith) (omega (arith, most)) ∙ ap (λ (o : Option Object). word_of p o place) (packed-here p place name names))
    (λ f within. words (place + 1 + f) (omega arith) (omega (arith, most, within, small)) ∙ field-word p place name names f hole within) in
    let rest = shown-from p heap test n (a + 1) (place + size_of p name) names few kinds (omega (arith, here)) (omega (arith, even)) (omega (arith, fits, small)) (omega (arith, most, small))
    (hole ∙ end-first p place name names)
    (λ i above below. begun i (omega (arith, above)) (omega (arith, below)) ∙ ap is_some (packed-behind p place name names (2 * i) (omega (arith, above, here))))
    (λ q above below. words q (omega (arith, above)) below ∙ ap (λ (o : Option Object). word_of p o q) (packed-behind p place name names q (omega (arith, above)))) in
    rw first (λ i. shown i ∷ rest i))
    (λ other.
    let above : 2 * a + 2 ≤ place = grind (arith, nat_tests) in
    let first : test (2 * a) ≡ false = begun a (omega arith) (omega arith) ∙ ap is_some (packed-above p place (name ∷ names) (2 * a) (omega (arith, above))) in
    rw first (shown-from p heap test n (a + 1) place (name ∷ names) few kinds (omega (arith, above)) even (omega (arith, fits)) most hole
    (λ i low' high. begun i (omega (arith, low')) (omega (arith, high)))
    words))

-- the objects at the start, at so many even places
initial-objects-by : (p : Program) (n : ℕ) → n ≡ 2048 → IsWithinLimits p → map (object_at p (listed 4096 (initial_heap_word p))) (filter (is_begun (listed 64 (initial_live_word p))) (map (λ i. 2 * i) (range_with_len 0 n))) ≡ static_objects p
initial-objects-by p n all within =
    let packing = static_objects-of p within in
    let names : List ℕ = map (λ (o : program.Object). o.kind) p.objects in
    let count : length (map (λ (o : program.Object). o.kind) p.objects) ≡ length p.objects = length-map p.objects (λ (o : program.Object). o.kind) in
    shown-from p (listed 4096 (initial_heap_word p)) (is_begun (listed 64 (initial_live_word p))) n 0 2 (map (λ (o : program.Object). o.kind) p.objects)
    (HasFewFields-within p within)
    (λ name. let few = position-few (λ (k : Kind). k.name == name) p.kinds in omega (arith, few, within.kinds))
    (omega arith) refl (omega (arith, count, within.objects, all)) (omega (arith, count, within.objects))
    (ap (end_after 2) packing)
    (λ i low high. live-at p i (omega (arith, high, all)) ∙ ap (λ (os : List Object). is_some (objects.object_at os (2 * i))) packing)
    (λ q low high. listed-at 4096 (initial_heap_word p) q 0 high ∙ ap (λ (os : List Object). word_of p (objects.object_at os q) q) packing)
    ∙ sym packing

pub initial-objects : (p : Program) → IsWithinLimits p → objects_in p (listed 4096 (initial_heap_word p)) (listed 64 (initial_live_word p)) ≡ static_objects p
unfolding even_places
initial-objects p within = initial-objects-by p 2048 refl within

-- packed objects have their headers
packed-headers : (p : Program) (heap : List ℕ) (place : ℕ) (names : List ℕ) → HasFewFields p → place + 12 * length names ≤ 4000 →
    ((q : ℕ) → place ≤ q → q < 4096 → slice_index heap q ≡ word_of p (objects.object_at (packed p place names) q) q) →
    AllByRecursion (HasHeader heap) (packed p place names)
unfolding packed
packed-headers p heap place [] few most words = tt
packed-headers p heap place (name ∷ names) few most words =
    let small = size_of-few p name few in (
      words place (omega arith) (omega (arith, most)) ∙ ap (λ (o : Option Object). word_of p o place) (packed-here p place name names),
      packed-headers p heap (place + size_of p name) names few (omega (arith, most, small))
          (λ q above below. words q (omega (arith, above)) below ∙ ap (λ (o : Option Object). word_of p o q) (packed-behind p place name names q (omega (arith, above)))),
    )

-- the objects at the start have theirs
pub initial-headers : (p : Program) → IsWithinLimits p → AllByRecursion (HasHeader (listed 4096 (initial_heap_word p))) (static_objects p)
initial-headers p within =
    let packing = static_objects-of p within in
    let count : length (map (λ (o : program.Object). o.kind) p.objects) ≡ length p.objects = length-map p.objects (λ (o : program.Object). o.kind) in
    subst (λ (os : List Object). AllByRecursion (HasHeader (listed 4096 (initial_heap_word p))) os) (sym packing)
    (packed-headers p (listed 4096 (initial_heap_word p)) 2 (map (λ (o : program.Object). o.kind) p.objects) (HasFewFields-within p within) (omega (arith, count, within.objects))
    (λ q low high. listed-at 4096 (initial_heap_word p) q 0 high ∙ ap (λ (os : List Object). word_of p (objects.object_at os q) q) packing))
