-- Words that are stored behind a row's records.
use Rattle.std.proofs.Common.{◌≡◌, ℕ, ◌+◌, ◌<◌, ◌≤◌, ◌++◌, List, [], ◌∷◌, ap, sym, ◌∙◌, arith, length, take, drop, get_or, set, append_assoc}
use Rattle.std.proofs.lemmas.List.{take_more_set, length-set, length-take-le}
use Rattle.std.proofs.lemmas.List.Edits.{paste_more}
use Rattle.std.proofs.Math.Seq.{paste, take-append-add, take-append_seam}
use Rattle.kernel_image.specs.declared.cell.Cell.{Cell}
use Rattle.kernel_image.specs.Decoded.{Decoded, RowWords, decoded_of, row_at, with_row}
use Rattle.kernel_image.proofs.Callers.{row_at-with_row, with_row-again}
use Rattle.replay_list.specs.Records.{recorded, IsAppended}
use Rattle.replay_list.proofs.WordLaws.{record_words_many}

-- one change of a row after another
pub changed_again : (word : Cell → ℕ) (t : ℕ) (change : RowWords → RowWords) (row : RowWords) (now new : Decoded) → t < 16 → now ≡ with_row (decoded_of word) t row → new ≡ with_row now t (change (row_at now t)) → new ≡ with_row (decoded_of word) t (change row)
changed_again word t change row now new low first second =
    second ∙ ap (λ (d : Decoded). with_row d t (change (row_at d t))) first
    ∙ ap (λ (r : RowWords). with_row (with_row (decoded_of word) t row) t (change r)) (row_at-with_row word t row low)
    ∙ with_row-again (decoded_of word) t row (change row)

-- a row with other records
abbrev with_records : RowWords → List ℕ → RowWords
with_records row records = record row { records = records }

-- one word more
pub pasted_more : (word : Cell → ℕ) (t from i value : ℕ) (results : List ℕ) (now new : Decoded) → t < 16 → from + i < 256 → i < length results → value ≡ get_or results i 0 →
    now ≡ with_row (decoded_of word) t (record (row_at (decoded_of word) t) { records = paste (row_at (decoded_of word) t).records from results i }) →
    new ≡ with_row now t (record (row_at now t) { records = set (row_at now t).records (from + i) value }) →
    new ≡ with_row (decoded_of word) t (record (row_at (decoded_of word) t) { records = paste (row_at (decoded_of word) t).records from results (i + 1) })
pasted_more word t from i value results now new low few within is first second =
    let row : RowWords = row_at (decoded_of word) t in
    let many = record_words_many word t low in
    changed_again word t (λ row. record row { records = set row.records (from + i) value }) (with_records row (paste row.records from results i)) now new low first second
    ∙ ap (λ (ws : List ℕ). with_row (decoded_of word) t (with_records row ws))
    (ap (λ v. set (paste row.records from results i) (from + i) v) is ∙ paste_more row.records from results i 0 (omega (arith, few, many)) within)

-- the kind word, the results and the words used
module _ (word : Cell → ℕ) (t kind used : ℕ) (results : List ℕ) (low : t < 16) where
  abbrev old : RowWords
  old = row_at (decoded_of word) t

  abbrev begun : List ℕ
  begun = set old.records used kind

  abbrev written : List ℕ
  written = take (used + 1) begun ++ (results ++ drop (used + 1 + length results) begun)

  abbrev last : RowWords
  last = record old { records = written; used = used + 1 + length results }

  written_is : used + 1 + length results ≤ 256 → take (used + 1 + length results) written ≡ take used old.records ++ kind ∷ results
  written_is few =
      let many = record_words_many word t low in
      let long = length-set old.records used kind in
      let first : length (take (used + 1) begun) ≡ used + 1 = length-take-le (used + 1) begun (omega (arith, few, many, long)) in
      ap (λ n. take (n + length results) written) (sym first)
      ∙ take-append-add (take (used + 1) begun) (results ++ drop (used + 1 + length results) begun) (length results)
      ∙ ap (λ (ws : List ℕ). take (used + 1) begun ++ ws) (take-append_seam results (drop (used + 1 + length results) begun))
      ∙ ap (λ (ws : List ℕ). ws ++ results) (take_more_set old.records used kind (omega (arith, few, many)))
      ∙ append_assoc (take used old.records) (kind ∷ []) results

  pub appended_is : (first second third : Decoded) → used ≡ old.used → used + 1 + length results ≤ 256 →
      first ≡ with_row (decoded_of word) t (record old { records = begun }) →
      second ≡ with_row first t (record (row_at first t) { records = take (used + 1) (row_at first t).records ++ (results ++ drop (used + 1 + length results) (row_at first t).records) }) →
      third ≡ with_row second t (record (row_at second t) { used = used + 1 + length results }) →
      IsAppended t kind results (decoded_of word) third
  appended_is first second third is few a b c =
      let both = changed_again word t (λ row. with_records row (take (used + 1) row.records ++ (results ++ drop (used + 1 + length results) row.records))) (with_records old begun) first second low a b in
      let all = changed_again word t (λ row. record row { used = used + 1 + length results }) (with_records old written) second third low both c in
      let row : row_at third t ≡ last = ap (λ (d : Decoded). row_at d t) all ∙ row_at-with_row word t last low in
      record {
        row = record {
          words = ap recorded row ∙ written_is few ∙ ap (λ n. take n old.records ++ kind ∷ results) is;
          used = ap (λ (r : RowWords). r.used) row ∙ ap (λ n. n + 1 + length results) is;
          rest = ap (λ (r : RowWords). record r { used = old.used; records = old.records }) row;
        };
        rest = all ∙ ap (λ (r : RowWords). with_row (decoded_of word) t r) (sym row);
      }
