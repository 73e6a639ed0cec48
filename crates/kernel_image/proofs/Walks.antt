-- Walks over declarations: those of a sort from a place on.
use Rattle.std.proofs.Common.{◌≡◌, ℕ, suc, ◌+◌, ◌<◌, ◌≤◌, List, [], ◌∷◌, Bool, true, false, refl, ap, sym, ◌∙◌, arith, length, drop}
use Rattle.std.proofs.Math.Seq.{drop-cons}
use Rattle.std.proofs.Math.ListN.{drop_of_length-le}
use Rattle.std.proofs.lemmas.Option.{slice_get_within, get_or_from_slice_get}
use Rattle.std.specs.Prelude.{filter, slice_get, Some, None}
use Rattle.std.specs.List.{position_or_len}

-- the elements that pass a test, from the k-th element on
unfoldable pub passing_from : {X : Type 0} → (X → Bool) → List X → ℕ → List X
passing_from test xs k = filter test (drop k xs)

pub passing_from-zero : {X : Type 0} (test : X → Bool) (xs : List X) → passing_from test xs 0 ≡ filter test xs
unfolding passing_from
passing_from-zero test xs = refl

-- behind the last element there is none
pub passing_from-past : {X : Type 0} (test : X → Bool) (xs : List X) (k : ℕ) → length xs ≤ k → passing_from test xs k ≡ []
unfolding passing_from
passing_from-past test xs k past = ap (filter test) (drop_of_length-le xs past)

-- the k-th element is the first one from there on
pub rest_from : {X : Type 0} (xs : List X) (k : ℕ) (x : X) → slice_get xs k ≡ Some x → drop k xs ≡ x ∷ drop (k + 1) xs
rest_from xs k x is =
    let low : k < length xs = slice_get_within xs k x is in
    let next : suc k ≡ k + 1 = omega arith in
    drop-cons xs k x low ∙ (λ i. get_or_from_slice_get xs k x x is i ∷ drop (next i) xs)

pub passing_from-passed : {X : Type 0} (test : X → Bool) (xs : List X) (k : ℕ) (x : X) → slice_get xs k ≡ Some x → test x ≡ true → passing_from test xs k ≡ x ∷ passing_from test xs (k + 1)
unfolding passing_from
passing_from-passed test xs k x is passed = ap (filter test) (rest_from xs k x is) ∙ rw passed refl

pub passing_from-failed : {X : Type 0} (test : X → Bool) (xs : List X) (k : ℕ) (x : X) → slice_get xs k ≡ Some x → test x ≡ false → passing_from test xs k ≡ passing_from test xs (k + 1)
unfolding passing_from
passing_from-failed test xs k x is failed = ap (filter test) (rest_from xs k x is) ∙ rw failed refl

-- so many passed the first test before the k-th element, and none of them the second one
pub record IsPassed {X : Type 0} (test named : X → Bool) (xs : List X) (k number : ℕ) : Type 0 where
  pub few : number ≤ k
  pub rest : number + position_or_len named (passing_from test xs k) ≡ position_or_len named (filter test xs)

-- at the start
pub IsPassed-none : {X : Type 0} (test named : X → Bool) (xs : List X) → IsPassed test named xs 0 0
unfolding passing_from
IsPassed-none test named xs = record { few = omega arith; rest = omega arith }

-- an element that fails the first test
pub IsPassed-failed : {X : Type 0} (test named : X → Bool) (xs : List X) (k number : ℕ) (x : X) → IsPassed test named xs k number → slice_get xs k ≡ Some x → test x ≡ false → IsPassed test named xs (k + 1) number
IsPassed-failed test named xs k number x passed is failed = record {
  few = omega (arith, passed.few);
  rest = ap (λ (ys : List _). number + position_or_len named ys) (sym (passing_from-failed test xs k x is failed)) ∙ passed.rest;
}

-- an element that passes the first test and fails the second one
pub IsPassed-other : {X : Type 0} (test named : X → Bool) (xs : List X) (k number : ℕ) (x : X) → IsPassed test named xs k number → slice_get xs k ≡ Some x → test x ≡ true → named x ≡ false → IsPassed test named xs (k + 1) (number + 1)
IsPassed-other test named xs k number x passed is one other =
    let rest = ap (λ (ys : List _). number + position_or_len named ys) (passing_from-passed test xs k x is one) in
    let step : position_or_len named (x ∷ passing_from test xs (k + 1)) ≡ position_or_len named (passing_from test xs (k + 1)) + 1 = rw other (omega arith) in
    record { few = omega (arith, passed.few); rest = omega (arith, passed.rest, rest, step) }

-- an element that passes both
pub IsPassed-here : {X : Type 0} (test named : X → Bool) (xs : List X) (k number : ℕ) (x : X) → IsPassed test named xs k number → slice_get xs k ≡ Some x → test x ≡ true → named x ≡ true → number ≡ position_or_len named (filter test xs)
IsPassed-here test named xs k number x passed is one here =
    let rest = ap (λ (ys : List _). number + position_or_len named ys) (passing_from-passed test xs k x is one) in
    let step : position_or_len named (x ∷ passing_from test xs (k + 1)) ≡ 0 = rw here refl in
    omega (arith, passed.rest, rest, step)

-- at the end
pub IsPassed-all : {X : Type 0} (test named : X → Bool) (xs : List X) (k number : ℕ) → length xs ≤ k → IsPassed test named xs k number → number ≡ position_or_len named (filter test xs)
IsPassed-all test named xs k number past passed =
    let rest = ap (λ (ys : List _). number + position_or_len named ys) (passing_from-past test xs k past) in
    omega (arith, passed.rest, rest)

-- behind the last element there is none
pub nth_none : {X : Type 0} (test : X → Bool) (xs : List X) (k left number : ℕ) → length xs ≤ k → slice_get (passing_from test xs k) left ≡ slice_get (filter test xs) number → None ≡ slice_get (filter test xs) number
nth_none test xs k left number past same =
    sym (ap (λ (ys : List _). slice_get ys left) (passing_from-past test xs k past)) ∙ same

-- so many passed the test before the k-th element
pub record IsCounted {X : Type 0} (test : X → Bool) (xs : List X) (k count : ℕ) : Type 0 where
  pub few : count ≤ k
  pub rest : count + length (passing_from test xs k) ≡ length (filter test xs)

pub IsCounted-none : {X : Type 0} (test : X → Bool) (xs : List X) → IsCounted test xs 0 0
unfolding passing_from
IsCounted-none test xs = record { few = omega arith; rest = omega arith }

pub IsCounted-passed : {X : Type 0} (test : X → Bool) (xs : List X) (k count : ℕ) (x : X) → IsCounted test xs k count → slice_get xs k ≡ Some x → test x ≡ true → IsCounted test xs (k + 1) (count + 1)
IsCounted-passed test xs k count x counted is passed =
    let rest = ap length (passing_from-passed test xs k x is passed) in
    record { few = omega (arith, counted.few); rest = omega (arith, counted.rest, rest) }

pub IsCounted-failed : {X : Type 0} (test : X → Bool) (xs : List X) (k count : ℕ) (x : X) → IsCounted test xs k count → slice_get xs k ≡ Some x → test x ≡ false → IsCounted test xs (k + 1) count
IsCounted-failed test xs k count x counted is failed =
    let rest = ap length (passing_from-failed test xs k x is failed) in
    record { few = omega (arith, counted.few); rest = omega (arith, counted.rest, rest) }

pub IsCounted-all : {X : Type 0} (test : X → Bool) (xs : List X) (k count : ℕ) → length xs ≤ k → IsCounted test xs k count → count ≡ length (filter test xs)
IsCounted-all test xs k count past counted =
    let rest = ap length (passing_from-past test xs k past) in
    omega (arith, counted.rest, rest)
