-- Records one after another.
use Rattle.std.proofs.Common.{◌≡◌, ℕ, zero, suc, ◌+◌, ◌-◌, ◌<◌, ◌≤◌, ◌++◌, List, [], ◌∷◌, refl, ap, sym, ◌∙◌, arith, length, take, length-append}
use Rattle.std.specs.Prelude.{slice_index}
use Rattle.std.proofs.lemmas.List.{get_or-append-add, get_or-take, length-take}
use Rattle.thread_tree.specs.Relive.{Record}
use Rattle.kernel_image.specs.Decoded.{RowWords}
use Rattle.replay_list.specs.Records.{encoded, recorded, results_of, AreFit}

-- so many records were counted, and the next one begins at this word
pub record HasCounted (rs : List Record) (count from : ℕ) : Type 0 where
  pub few : count ≤ length rs
  pub at : from ≡ length (encoded (take count rs))
  pub least : count ≤ from

pub counted_none : (rs : List Record) → HasCounted rs 0 0
counted_none rs = record { few = omega arith; at = refl; least = omega arith }

-- the next record begins at this word, and the one behind it at a later one
next_is : (rs : List Record) (count from : ℕ) → AreFit rs → from ≡ length (encoded (take count rs)) → from < length (encoded rs) →
    (count < length rs) × (from + 1 + results_of (slice_index (encoded rs) from) ≡ length (encoded (take (count + 1) rs)))
next_is [] count from fit at within = absurd (omega (arith, within))
next_is (r ∷ rs) zero from fit at within =
    let start : from ≡ 0 = at in
    let many = length-append r.results [] in
    let first : 0 + 1 + results_of r.kind ≡ suc (length (r.results ++ [])) = omega (arith, fit.0, many) in
    (omega arith, ap (λ n. n + 1 + results_of (slice_index (encoded (r ∷ rs)) n)) start ∙ first)
next_is (r ∷ rs) (suc count) from fit at within =
    let done = length-append r.results (encoded (take count rs)) in
    let all = length-append r.results (encoded rs) in
    let rest : ℕ = from - (1 + length r.results) in
    let behind : from ≡ suc (length r.results + rest) = omega (arith, at, done) in
    let law = next_is rs count rest fit.1 (omega (arith, at, done)) (omega (arith, within, all, at, done)) in
    let word : slice_index (encoded (r ∷ rs)) from ≡ slice_index (encoded rs) rest =
    ap (λ n. slice_index (encoded (r ∷ rs)) n) behind ∙ get_or-append-add r.results (encoded rs) rest 0 in
    let one : suc count + 1 ≡ suc (count + 1) = omega arith in
    let after = length-append r.results (encoded (take (count + 1) rs)) in
    let last : length (encoded (take (suc count + 1) (r ∷ rs))) ≡ suc (length (r.results ++ encoded (take (count + 1) rs))) =
    ap (λ n. length (encoded (take n (r ∷ rs)))) one in
    let step : from + 1 + results_of (slice_index (encoded rs) rest) ≡ suc (length (r.results ++ encoded (take (count + 1) rs))) = omega (arith, behind, law.1, after) in
    (omega (arith, law.0), ap (λ w. from + 1 + results_of w) word ∙ step ∙ sym last)

-- how many words a row's records have
recorded_many : (row : RowWords) → row.used ≤ length row.records → length (recorded row) ≡ row.used
recorded_many row few = let e = length-take row.used row.records in omega (arith, few, e)

encoded_many : (row : RowWords) (rs : List Record) → recorded row ≡ encoded rs → row.used ≤ length row.records → length (encoded rs) ≡ row.used
encoded_many row rs words few = ap (λ (ws : List ℕ). length ws) (sym words) ∙ recorded_many row few

pub counted_more : (row : RowWords) (rs : List Record) (count from after : ℕ) → recorded row ≡ encoded rs → AreFit rs → row.used ≤ length row.records → from < row.used →
    after ≡ from + 1 + results_of (slice_index row.records from) → HasCounted rs count from → HasCounted rs (count + 1) after
counted_more row rs count from after words fit few within e counted =
    let many = encoded_many row rs words few in
    let law = next_is rs count from fit counted.at (omega (arith, within, many)) in
    let word : slice_index row.records from ≡ slice_index (encoded rs) from = sym (get_or-take row.used row.records from 0 within) ∙ ap (λ (ws : List ℕ). slice_index ws from) words in
    record {
      few = omega (arith, law.0);
      at = e ∙ ap (λ w. from + 1 + results_of w) word ∙ law.1;
      least = omega (arith, e, counted.least);
    }

-- where all words were passed, all records were
all_words : (rs : List Record) (count : ℕ) → length (encoded rs) ≤ length (encoded (take count rs)) → length rs ≤ count
all_words [] count le = omega arith
all_words (r ∷ rs) zero le = absurd (omega (arith, le))
all_words (r ∷ rs) (suc count) le =
    let all = length-append r.results (encoded rs) in
    let done = length-append r.results (encoded (take count rs)) in
    let rest = all_words rs count (omega (arith, le, all, done)) in
    omega (arith, rest)

pub counted_all : (row : RowWords) (rs : List Record) (count from : ℕ) → recorded row ≡ encoded rs → row.used ≤ length row.records → row.used ≤ from → HasCounted rs count from → count ≡ length rs
counted_all row rs count from words few past counted =
    let many = encoded_many row rs words few in
    let all = all_words rs count (omega (arith, past, many, counted.at)) in
    let low = counted.few in
    omega (arith, all, low)
