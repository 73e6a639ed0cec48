-- The words of the image that formatting writes.
use Rattle.std.proofs.Common.{◌≡◌, ℕ, zero, suc, ◌+◌, ◌-◌, ◌*◌, ◌^◌, ◌<◌, ◌≤◌, Bool, true, false, refl, ap, sym, subst, ◌∙◌, arith}
use Rattle.std.proofs.lemmas.Bool.Decides.{nat_tests}
use Rattle.std.proofs.lemmas.Option.{none-some}
use Rattle.std.proofs.Math.Path.{fun_ext}
use Rattle.std.proofs.Math.Nat.{pow-succ'}
use Rattle.std.proofs.Math.Pow.{pow_mono}
use Rattle.std.specs.Prelude.{nat_lt, ◌/◌, ◌%◌, if◌then◌else◌, Option, Some, None, is_some, option_map}
use Rattle.kernel_model.specs.Visible.{Object}
use Rattle.kernel_model.specs.Objects.{object_at, static_objects}
use Rattle.thread_tree.specs.Program.{Program}
use Rattle.kernel_image.specs.Cells.{cell_of, queue_cell, row_cell, cell_behind_rows, has_live_place}
use Rattle.kernel_image.proofs.CellLaws.{by_test}
use Rattle.kernel_image.specs.Shown.{static_mark}
use Rattle.kernel_image.specs.Initial.{initial_heap_word, hole_word, of_bits, initial_live_word}

-- a word of the heap by the type of the object that begins there
heap_word_of : (o : Option Object) (kind other : ℕ) → Some kind ≡ option_map (λ (o : Object). o.kind) o → elim o [ Some object ↦ object.kind + 1 + static_mark | None ↦ other ] ≡ kind + 1 + 65536
heap_word_of None kind other is = absurd (none-some kind (sym is))
heap_word_of (Some object) kind other is = ap (λ (n : Option ℕ). elim n [ None ↦ 0 | Some k ↦ k + 1 + 65536 ]) (sym is)

pub heap_word-object : (p : Program) (place kind : ℕ) → Some kind ≡ option_map (λ (o : Object). o.kind) (object_at (static_objects p) place) → initial_heap_word p place ≡ kind + 1 + 65536
heap_word-object p place kind is = heap_word_of (object_at (static_objects p) place) kind (hole_word p place) is

hole_word_of : (o : Option Object) (other : ℕ) → None ≡ option_map (λ (o : Object). o.kind) o → elim o [ Some object ↦ object.kind + 1 + static_mark | None ↦ other ] ≡ other
hole_word_of None other is = refl
hole_word_of (Some object) other is = absurd (none-some object.kind is)

pub heap_word-hole : (p : Program) (place : ℕ) → None ≡ option_map (λ (o : Object). o.kind) (object_at (static_objects p) place) → initial_heap_word p place ≡ hole_word p place
heap_word-hole p place is = hole_word_of (object_at (static_objects p) place) (hole_word p place) is

pub is_some-kind : (o : Option Object) → is_some (option_map (λ (o : Object). o.kind) o) ≡ is_some o
is_some-kind None = refl
is_some-kind (Some object) = refl

-- a cell at an address has live bits of places of the heap
queue_cell-place : (queue word : ℕ) → has_live_place (queue_cell queue word) ≡ true
queue_cell-place queue word = by_test (nat_lt word 4) _ (λ here. rw here refl) (λ other. by_test (nat_lt word 52) _ (λ here. rw (other, here) refl) (λ behind. rw (other, behind) refl))

row_cell-place : (thread word : ℕ) → has_live_place (row_cell thread word) ≡ true
row_cell-place thread word = by_test (nat_lt word 16) _ (λ here. rw here refl) (λ other. by_test (nat_lt word 32) _ (λ here. rw (other, here) refl) (λ behind. rw (other, behind) refl))

behind_rows-place : (at : ℕ) → has_live_place (cell_behind_rows at) ≡ true
behind_rows-place at =
    by_test (nat_lt at 7808) _ (λ here. rw here refl) (λ n. by_test (nat_lt at 11904) _ (λ here. rw (n, here) refl) (λ m.
    by_test (nat_lt at 11968) _ (λ here. rw (n, m, here) (grind (arith, nat_tests))) (λ k.
    by_test (nat_lt at 14528) _ (λ here. rw (n, m, k, here) refl) (λ j. rw (n, m, k, j) refl))))

pub has_live_place-cell_of : (at : ℕ) → has_live_place (cell_of at) ≡ true
unfolding cell_of
has_live_place-cell_of at =
    by_test (nat_lt at 16) _ (λ here. rw here refl) (λ z.
    by_test (nat_lt at 64) _ (λ here. rw (z, here) refl) (λ a.
    by_test (nat_lt at 1088) _ (λ here. rw (z, a, here) (queue_cell-place ((at - 64) / 64) ((at - 64) % 64))) (λ b.
    by_test (nat_lt at 1152) _ (λ here. rw (z, a, b, here) refl) (λ c.
    by_test (nat_lt at 5760) _ (λ here. rw (z, a, b, c, here) (row_cell-place ((at - 1152) / 288) ((at - 1152) % 288))) (λ d.
    rw (z, a, b, c, d) (behind_rows-place at))))))

-- bits from the k-th on
unfoldable pub bits_from : (ℕ → Bool) → ℕ → ℕ
bits_from bit k = of_bits (32 - k) (λ j. bit (k + j))

of_bits-same : (n : ℕ) (a b : ℕ → Bool) → ((j : ℕ) → a j ≡ b j) → of_bits n a ≡ of_bits n b
of_bits-same n a b same = ap (of_bits n) (fun_ext same)

pub bits_from-none : (bit : ℕ → Bool) → bits_from bit 32 ≡ 0
unfolding bits_from of_bits
bits_from-none bit = refl

pub bits_from-one : (bit : ℕ → Bool) (k word : ℕ) → k < 32 → word ≡ bits_from bit (k + 1) → bits_from bit k ≡ (if bit k then 1 else 0) + 2 * word
unfolding bits_from of_bits
bits_from-one bit k word low is =
    let more : 32 - k ≡ suc (32 - (k + 1)) = omega (arith, low) in
    let here : k + 0 ≡ k = omega arith in
    let rest : of_bits (32 - (k + 1)) (λ j. bit (k + (j + 1))) ≡ of_bits (32 - (k + 1)) (λ j. bit (k + 1 + j)) = of_bits-same (32 - (k + 1)) (λ j. bit (k + (j + 1))) (λ j. bit (k + 1 + j)) (λ j. ap bit (omega arith)) in
    ap (λ (n : ℕ). of_bits n (λ j. bit (k + j))) more
    ∙ ap (λ (m : ℕ). (if bit m then 1 else 0) + 2 * of_bits (32 - (k + 1)) (λ j. bit (k + (j + 1)))) here
    ∙ ap (λ (w : ℕ). (if bit k then 1 else 0) + 2 * w) (rest ∙ sym is)

pub bits_from-all : (p : Program) (i : ℕ) → bits_from (λ k. is_some (object_at (static_objects p) (64 * i + 2 * k))) 0 ≡ initial_live_word p i
unfolding bits_from
bits_from-all p i = of_bits-same 32 _ _ (λ j. ap (λ (k : ℕ). is_some (object_at (static_objects p) (64 * i + 2 * k))) (omega arith))

-- they are few
bit-few : (b : Bool) (n m : ℕ) → n + 1 ≤ m → (if b then 1 else 0) + 2 * n + 1 ≤ 2 * m
bit-few true n m low = omega (arith, low)
bit-few false n m low = omega (arith, low)

of_bits-few : (n : ℕ) (b : ℕ → Bool) → of_bits n b + 1 ≤ 2 ^ n
unfolding of_bits
of_bits-few zero b = omega arith
of_bits-few (suc n) b =
    let rest = bit-few (b 0) (of_bits n (λ k. b (k + 1))) (2 ^ n) (of_bits-few n (λ k. b (k + 1))) in
    subst (λ (m : ℕ). (if b 0 then 1 else 0) + 2 * of_bits n (λ k. b (k + 1)) + 1 ≤ m) (sym (pow-succ' 2 n)) rest

pub bits_from-few : (bit : ℕ → Bool) (k : ℕ) → bits_from bit (k + 1) + 1 ≤ 2147483648
unfolding bits_from
bits_from-few bit k =
    let few = of_bits-few (32 - (k + 1)) (λ j. bit (k + 1 + j)) in
    let most : 2 ^ (32 - (k + 1)) ≤ 2 ^ 31 = pow_mono {i = 32 - (k + 1)} {j = 31} (omega arith) in
    omega (arith, few, most)
