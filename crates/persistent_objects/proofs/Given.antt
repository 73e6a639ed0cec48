-- Walks over what elements give, from an element on.
use Rattle.std.proofs.Common.{◌≡◌, ℕ, zero, suc, ◌+◌, ◌-◌, ◌<◌, ◌≤◌, List, [], ◌∷◌, Bool, true, false, refl, ap, sym, ◌∙◌, arith, length, drop}
use Rattle.std.proofs.Math.Seq.{drop-cons}
use Rattle.std.proofs.Math.ListN.{drop_of_length-le}
use Rattle.std.proofs.lemmas.Option.{slice_get_within, get_or_from_slice_get, none-some}
use Rattle.std.specs.Prelude.{if◌then◌else◌, not, filter_map, slice_get, Option, Some, None, option_map}
use Rattle.std.specs.List.{position_or_len, cons_option}

-- what the elements give from the k-th one on
unfoldable pub given_from : {X Y : Type 0} → (X → Option Y) → List X → ℕ → List Y
given_from give xs k = filter_map give (drop k xs)

pub given_from-zero : {X Y : Type 0} (give : X → Option Y) (xs : List X) → given_from give xs 0 ≡ filter_map give xs
unfolding given_from
given_from-zero give xs = refl

-- behind the last element there is none
pub given_from-past : {X Y : Type 0} (give : X → Option Y) (xs : List X) (k : ℕ) → length xs ≤ k → given_from give xs k ≡ []
unfolding given_from
given_from-past give xs k past = ap (filter_map give) (drop_of_length-le xs past)

-- the k-th element is the first one from there on
pub rest_from : {X : Type 0} (xs : List X) (k : ℕ) (x : X) → slice_get xs k ≡ Some x → drop k xs ≡ x ∷ drop (k + 1) xs
rest_from xs k x is =
    let low : k < length xs = slice_get_within xs k x is in
    let next : suc k ≡ k + 1 = omega arith in
    drop-cons xs k x low ∙ (λ i. get_or_from_slice_get xs k x x is i ∷ drop (next i) xs)

pub given_from-some : {X Y : Type 0} (give : X → Option Y) (xs : List X) (k : ℕ) (x : X) (y : Y) → slice_get xs k ≡ Some x → give x ≡ Some y → given_from give xs k ≡ y ∷ given_from give xs (k + 1)
unfolding given_from
given_from-some {X} {Y} give xs k x y is gives =
    ap (filter_map give) (rest_from xs k x is) ∙ ap (λ (o : Option Y). cons_option o (filter_map give (drop (k + 1) xs))) gives

pub given_from-none : {X Y : Type 0} (give : X → Option Y) (xs : List X) (k : ℕ) (x : X) → slice_get xs k ≡ Some x → give x ≡ None → given_from give xs k ≡ given_from give xs (k + 1)
unfolding given_from
given_from-none {X} {Y} give xs k x is gives =
    ap (filter_map give) (rest_from xs k x is) ∙ ap (λ (o : Option Y). cons_option o (filter_map give (drop (k + 1) xs))) gives

-- so many were given before the k-th element, and none of them passes the test
pub record IsPassed {X Y : Type 0} (give : X → Option Y) (named : Y → Bool) (xs : List X) (k number : ℕ) : Type 0 where
  pub few : number ≤ k
  pub rest : number + position_or_len named (given_from give xs k) ≡ position_or_len named (filter_map give xs)

pub IsPassed-start : {X Y : Type 0} (give : X → Option Y) (named : Y → Bool) (xs : List X) → IsPassed give named xs 0 0
unfolding given_from
IsPassed-start give named xs = record { few = omega arith; rest = omega arith }

-- an element that gives nothing
pub IsPassed-none : {X Y : Type 0} (give : X → Option Y) (named : Y → Bool) (xs : List X) (k number : ℕ) (x : X) → IsPassed give named xs k number → slice_get xs k ≡ Some x → give x ≡ None → IsPassed give named xs (k + 1) number
IsPassed-none {X} {Y} give named xs k number x passed is gives = record {
  few = omega (arith, passed.few);
  rest = ap (λ (ys : List Y). number + position_or_len named ys) (sym (given_from-none give xs k x is gives)) ∙ passed.rest;
}

-- an element that gives one that fails the test
pub IsPassed-other : {X Y : Type 0} (give : X → Option Y) (named : Y → Bool) (xs : List X) (k number : ℕ) (x : X) (y : Y) → IsPassed give named xs k number → slice_get xs k ≡ Some x → give x ≡ Some y → named y ≡ false → IsPassed give named xs (k + 1) (number + 1)
IsPassed-other {X} {Y} give named xs k number x y passed is gives other =
    let rest = ap (λ (ys : List Y). number + position_or_len named ys) (given_from-some give xs k x y is gives) in
    let step : position_or_len named (y ∷ given_from give xs (k + 1)) ≡ position_or_len named (given_from give xs (k + 1)) + 1 = rw other (omega arith) in
    record { few = omega (arith, passed.few); rest = omega (arith, passed.rest, rest, step) }

-- an element that gives one that passes it
pub IsPassed-here : {X Y : Type 0} (give : X → Option Y) (named : Y → Bool) (xs : List X) (k number : ℕ) (x : X) (y : Y) → IsPassed give named xs k number → slice_get xs k ≡ Some x → give x ≡ Some y → named y ≡ true → number ≡ position_or_len named (filter_map give xs)
IsPassed-here {X} {Y} give named xs k number x y passed is gives here =
    let rest = ap (λ (ys : List Y). number + position_or_len named ys) (given_from-some give xs k x y is gives) in
    let step : position_or_len named (y ∷ given_from give xs (k + 1)) ≡ 0 = rw here refl in
    omega (arith, passed.rest, rest, step)

-- at the end
pub IsPassed-all : {X Y : Type 0} (give : X → Option Y) (named : Y → Bool) (xs : List X) (k number : ℕ) → length xs ≤ k → IsPassed give named xs k number → number ≡ position_or_len named (filter_map give xs)
IsPassed-all {X} {Y} give named xs k number past passed =
    let rest = ap (λ (ys : List Y). number + position_or_len named ys) (given_from-past give xs k past) in
    omega (arith, passed.rest, rest)

-- a first place is at most the length
pub position-few : {X : Type 0} (named : X → Bool) (xs : List X) → position_or_len named xs ≤ length xs
position-few named [] = omega arith
position-few named (x ∷ xs) = few (named x) (position_or_len named xs) (length xs) (position-few named xs)
  where
    few : (here : Bool) (n m : ℕ) → n ≤ m → (if not here then 1 + n else 0) ≤ suc m
    few true n m low = omega arith
    few false n m low = omega arith

-- the n-th of what is given is still to come: so many come before it from the k-th element on
abbrev pub IsToCome : {X Y : Type 0} → (X → Option Y) → List X → ℕ → ℕ → ℕ → Type 0
IsToCome give xs k left n = slice_get (given_from give xs k) left ≡ slice_get (filter_map give xs) n

-- what is told of an element that gives something, and of one that gives nothing
pub IsToCome-here : {X Y Z : Type 0} (give : X → Option Y) (tell : Y → Z) (xs : List X) (k n : ℕ) (x : X) (z : Z) → IsToCome give xs k 0 n → slice_get xs k ≡ Some x → Some z ≡ option_map tell (give x) → Some z ≡ option_map tell (slice_get (filter_map give xs) n)
IsToCome-here {X} {Y} {Z} give tell xs k n x z coming is told = go (give x) refl told
  where
    go : (o : Option Y) → give x ≡ o → Some z ≡ option_map tell o → Some z ≡ option_map tell (slice_get (filter_map give xs) n)
    go None gives told' = absurd (none-some _ (sym told'))
    go (Some y) gives told' =
        told' ∙ ap (λ (ys : List Y). option_map tell (slice_get ys 0)) (sym (given_from-some give xs k x y is gives)) ∙ ap (option_map tell) coming

pub IsToCome-passed : {X Y Z : Type 0} (give : X → Option Y) (tell : Y → Z) (xs : List X) (k left n : ℕ) (x : X) (z : Z) → IsToCome give xs k left n → slice_get xs k ≡ Some x → Some z ≡ option_map tell (give x) → 0 < left → IsToCome give xs (k + 1) (left - 1) n
IsToCome-passed {X} {Y} {Z} give tell xs k left n x z coming is told some = go (give x) refl told
  where
    behind : (y : Y) (ys : List Y) (m : ℕ) → 0 < m → slice_get (y ∷ ys) m ≡ slice_get ys (m - 1)
    behind y ys zero low = absurd (omega arith)
    behind y ys (suc m) low = let less : m ≡ suc m - 1 = omega arith in ap (slice_get ys) less

    go : (o : Option Y) → give x ≡ o → Some z ≡ option_map tell o → slice_get (given_from give xs (k + 1)) (left - 1) ≡ slice_get (filter_map give xs) n
    go None gives told' = absurd (none-some _ (sym told'))
    go (Some y) gives told' =
        sym (behind y (given_from give xs (k + 1)) left some) ∙ ap (λ (ys : List Y). slice_get ys left) (sym (given_from-some give xs k x y is gives)) ∙ coming

pub IsToCome-other : {X Y Z : Type 0} (give : X → Option Y) (tell : Y → Z) (xs : List X) (k left n : ℕ) (x : X) → IsToCome give xs k left n → slice_get xs k ≡ Some x → None ≡ option_map tell (give x) → IsToCome give xs (k + 1) left n
IsToCome-other {X} {Y} {Z} give tell xs k left n x coming is told = go (give x) refl told
  where
    go : (o : Option Y) → give x ≡ o → None ≡ option_map tell o → slice_get (given_from give xs (k + 1)) left ≡ slice_get (filter_map give xs) n
    go None gives told' = ap (λ (ys : List Y). slice_get ys left) (sym (given_from-none give xs k x is gives)) ∙ coming
    go (Some y) gives told' = absurd (none-some _ told')

pub IsToCome-none : {X Y : Type 0} (give : X → Option Y) (xs : List X) (k left n : ℕ) → length xs ≤ k → IsToCome give xs k left n → slice_get (filter_map give xs) n ≡ None
IsToCome-none {X} {Y} give xs k left n past coming = sym coming ∙ ap (λ (ys : List Y). slice_get ys left) (given_from-past give xs k past)
