-- Laws on lists and tests.
use Rattle.std.proofs.Common.{◌≡◌, ℕ, zero, suc, ◌+◌, ◌<◌, ◌≤◌, Bool, true, false, List, [], ◌∷◌, length, take, find, Option, Some, None, is_some, bytes_eq, nat_le, refl, sym, ap, ◌∙◌, arith}
use Rattle.std.specs.List.{list_all, prefix_len}
use Rattle.std.specs.Option.{option_or}
use Rattle.std.proofs.lemmas.Bool.{false≢true}
use Rattle.std.proofs.lemmas.Bool.Decides.{nat_tests}
use Rattle.std.proofs.lemmas.Slice.Eq.{bytes_eq-Decides}
use Rattle.thread_tokens.specs.Form.{greatest}

-- cases of a test
pub by_test : (b : Bool) (P : Type 0) → (b ≡ true → P) → (b ≡ false → P) → P
by_test true P holds fails = holds refl
by_test false P holds fails = fails refl

pub is_some-option_or : {A : Type 0} (o : Option A) (x : A) (p : Option A) → is_some (option_or o (option_or (Some x) p)) ≡ true
is_some-option_or None x p = refl
is_some-option_or (Some y) x p = refl

-- the greatest number that passes is this one, if it passes and none above it does
pub greatest-is : (test : ℕ → Bool) (k bound : ℕ) → k ≤ bound → (0 < k → test k ≡ true) → ((n : ℕ) → k < n → n ≤ bound → test n ≡ false) → greatest test bound ≡ k
greatest-is test k zero within here above = omega arith
greatest-is test k (suc bound) within here above =
    by_test (nat_le k bound) _
    (λ yes. let below : k ≤ bound = grind (arith, nat_tests) in rw (above (suc bound) (omega arith) (omega arith)) (greatest-is test k bound below here (λ n over upto. above n over (omega arith))))
    (λ no. let e : suc bound ≡ k = grind (arith, nat_tests) in rw (e) (rw (here (omega arith)) refl))

-- the bytes before the first that fails pass
pub list_all-prefix : {X : Type 0} (p : X → Bool) (xs : List X) → list_all p (take (prefix_len p xs) xs) ≡ true
list_all-prefix p [] = refl
list_all-prefix p (x ∷ xs) = by_test (p x) _
    (λ yes. let e : 1 + prefix_len p xs ≡ suc (prefix_len p xs) = omega arith in rw yes (rw (e) (rw yes (list_all-prefix p xs))))
    (λ no. rw no refl)

-- and with that one they don't
pub list_all-over : {X : Type 0} (p : X → Bool) (xs : List X) (n : ℕ) → prefix_len p xs < n → n ≤ length xs → list_all p (take n xs) ≡ false
list_all-over p [] n over within = absurd (omega arith)
list_all-over p (x ∷ xs) zero over within = absurd (omega arith)
list_all-over p (x ∷ xs) (suc n) over within = by_test (p x) _
    (λ yes. let more : 1 + prefix_len p xs < suc n = rw yes at over in rw yes (list_all-over p xs n (omega arith) (omega arith)))
    (λ no. rw no refl)

-- nothing is found where all of the list pass a test that makes the search fail
pub find-none : {X : Type 0} (p q : X → Bool) (xs : List X) → list_all q xs ≡ true → ((x : X) → q x ≡ true → p x ≡ false) → find p xs ≡ None
find-none p q [] all fails = refl
find-none p q (x ∷ xs) all fails = by_test (q x) _
    (λ yes. let rest : list_all q xs ≡ true = rw yes at all in rw (fails x yes) (find-none p q xs rest fails))
    (λ no. let wrong : false ≡ true = rw no at all in absurd (false≢true wrong))

-- two texts of which one passes a test alone are not the same
pub other_bytes : (q : List ℕ → Bool) (xs ys : List ℕ) → q xs ≡ true → q ys ≡ false → bytes_eq xs ys ≡ false
other_bytes q xs ys passes fails = by_test (bytes_eq xs ys) _
    (λ yes. let e : xs ≡ ys = (bytes_eq-Decides xs ys).0 yes in absurd (false≢true (sym fails ∙ (ap q (sym e) ∙ passes))))
    (λ no. no)

-- no spelling is these bytes, where all spellings pass a test that the bytes fail
pub none_spelled : {X : Type 0} (text : X → List ℕ) (xs : List X) (q : List ℕ → Bool) (bytes : List ℕ) → list_all (λ x. q (text x)) xs ≡ true → q bytes ≡ false → find (λ x. bytes_eq (text x) bytes) xs ≡ None
none_spelled text xs q bytes all fails = find-none (λ x. bytes_eq (text x) bytes) (λ x. q (text x)) xs all (λ x passes. other_bytes q (text x) bytes passes fails)

pub prefix-passes : {X : Type 0} (p : X → Bool) (x : X) (xs : List X) → p x ≡ true → prefix_len p (x ∷ xs) ≡ suc (prefix_len p xs)
prefix-passes p x xs passes = rw passes (omega arith)

pub prefix-fails : {X : Type 0} (p : X → Bool) (x : X) (xs : List X) → p x ≡ false → prefix_len p (x ∷ xs) ≡ 0
prefix-fails p x xs fails = rw fails refl

pub greatest-within : (test : ℕ → Bool) (bound : ℕ) → greatest test bound ≤ bound
greatest-within test zero = omega arith
greatest-within test (suc bound) = by_test (test (suc bound)) _
    (λ passes. rw passes (omega arith))
    (λ fails. rw fails (omega (arith, greatest-within test bound)))
