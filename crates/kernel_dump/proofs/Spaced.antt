-- Lists that are read place by place.
use Rattle.std.proofs.Common.{◌≡◌, ℕ, suc, ◌+◌, ◌<◌, ◌≤◌, Bool, true, false, List, [], ◌∷◌, ◌++◌, length, drop, refl, sym, ◌∙◌, ap, arith, append_assoc, append-nil, codes}
use Rattle.std.proofs.Math.Seq.{drop-cons}
use Rattle.std.proofs.Math.ListN.{drop_of_length-le}
use Rattle.std.specs.Fmt.{decimal}
use Rattle.std.specs.Prelude.{filter, slice_index}
use Rattle.kernel_model.specs.Dump.{lines_of_ready, ready_line, spaced}

-- the element at a place, before those behind it
from_place : (xs : List ℕ) (at : ℕ) → at < length xs → drop at xs ≡ slice_index xs at ∷ drop (at + 1) xs
from_place xs at low =
    let one : suc at ≡ at + 1 = omega arith in
    drop-cons xs at 0 low ∙ ap (λ (n : ℕ). slice_index xs at ∷ drop n xs) one

-- numbers behind spaces
pub spaced_next : (numbers : List ℕ) (at : ℕ) → at < length numbers → spaced (drop at numbers) ≡ (codes " " ++ decimal (slice_index numbers at)) ++ spaced (drop (at + 1) numbers)
spaced_next numbers at low = ap spaced (from_place numbers at low)

pub spaced_last : (line all : List ℕ) (numbers : List ℕ) (at : ℕ) → length numbers ≤ at → line ++ spaced (drop at numbers) ≡ all → line ≡ all
spaced_last line all numbers at past so_far = sym (append-nil line) ∙ ap (λ (xs : List ℕ). line ++ spaced xs) (sym (drop_of_length-le numbers past)) ∙ so_far

-- a line with one number more
pub number_put : (line all : List ℕ) (numbers : List ℕ) (at : ℕ) → at < length numbers → line ++ spaced (drop at numbers) ≡ all
    → (line ++ codes " " ++ decimal (slice_index numbers at)) ++ spaced (drop (at + 1) numbers) ≡ all
number_put line all numbers at low so_far =
    let rest = spaced (drop (at + 1) numbers) in
    let number = decimal (slice_index numbers at) in
    ap (λ (xs : List ℕ). xs ++ rest) (append_assoc line (codes " ") number)
    ∙ append_assoc line (codes " " ++ number) rest
    ∙ ap (λ (xs : List ℕ). line ++ xs) (sym (spaced_next numbers at low))
    ∙ so_far

-- elements that pass a test
module _ (test : ℕ → Bool) (xs : List ℕ) (at : ℕ) (low : at < length xs) where
  pub filter_passed : (done all : List ℕ) → test (slice_index xs at) ≡ true → done ++ filter test (drop at xs) ≡ all → (done ++ slice_index xs at ∷ []) ++ filter test (drop (at + 1) xs) ≡ all
  filter_passed done all is so_far =
      let here : filter test (slice_index xs at ∷ drop (at + 1) xs) ≡ slice_index xs at ∷ filter test (drop (at + 1) xs) = rw is refl in
      append_assoc done (slice_index xs at ∷ []) (filter test (drop (at + 1) xs))
      ∙ ap (λ (ys : List ℕ). done ++ ys) (sym (ap (filter test) (from_place xs at low) ∙ here))
      ∙ so_far

  pub filter_failed : (done all : List ℕ) → test (slice_index xs at) ≡ false → done ++ filter test (drop at xs) ≡ all → done ++ filter test (drop (at + 1) xs) ≡ all
  filter_failed done all is so_far =
      let here : filter test (slice_index xs at ∷ drop (at + 1) xs) ≡ filter test (drop (at + 1) xs) = rw is refl in
      ap (λ (ys : List ℕ). done ++ ys) (sym (ap (filter test) (from_place xs at low) ∙ here)) ∙ so_far

-- all were read
pub filter_last : (test : ℕ → Bool) (xs done all : List ℕ) (at : ℕ) → length xs ≤ at → done ++ filter test (drop at xs) ≡ all → done ≡ all
filter_last test xs done all at past so_far = sym (append-nil done) ∙ ap (λ (ys : List ℕ). done ++ filter test ys) (sym (drop_of_length-le xs past)) ∙ so_far

-- the line of a ready list without threads, and with some
pub lines_of_none : (priority : ℕ) (threads : List ℕ) → length threads ≡ 0 → lines_of_ready priority threads ≡ []
lines_of_none priority [] none = refl
lines_of_none priority (t ∷ ts) none = absurd (omega arith)

pub lines_of_some : (priority : ℕ) (threads : List ℕ) → 0 < length threads → lines_of_ready priority threads ≡ ready_line priority threads ∷ []
lines_of_some priority [] some = absurd (omega arith)
lines_of_some priority (t ∷ ts) some = refl
