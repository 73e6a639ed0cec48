-- The lines of threads, out of the words of their rows.
use Rattle.std.proofs.Common.{◌≡◌, ℕ, zero, suc, ◌+◌, ◌==◌, Bool, true, false, List, [], ◌∷◌, ◌++◌, refl, sym, ◌∙◌, ap, cond}
use Rattle.std.proofs.lemmas.Bool.{false≢true}
use Rattle.std.specs.Prelude.{flat_map, map, if◌then◌else◌}
use Rattle.std.specs.List.{enumerate_from, range_with_len}
use Rattle.kernel_model.specs.Dump.{is_free, lines_of_row, row_line, row_lines}
use Rattle.kernel_model.specs.Names.{Names}
use Rattle.kernel_model.specs.Visible.{Row, free_row}
use Rattle.kernel_model.specs.declared.row_state.RowState.{RowState}
use Rattle.kernel_model.specs.declared.row_state.RowState.TheVariants.{Free, Ready, Delayed, Waiting, Ended}
use Rattle.kernel_image.specs.declared.cell.Cell.{Cell}
use Rattle.kernel_image.specs.Decoded.{RowWords, decoded_of, listed, row_of}
use Rattle.kernel_image.specs.Shown.{free, ready, delayed, waiting, wait_of, shown_row, state_of}

-- a choice that was made
pick_true : (b : Bool) (x y : List (List ℕ)) → b ≡ true → cond b x y ≡ x
pick_true true x y is = refl
pick_true false x y is = absurd (false≢true is)

pick_false : (b : Bool) (x y : List (List ℕ)) → b ≡ false → cond b x y ≡ y
pick_false true x y is = absurd (false≢true (sym is))
pick_false false x y is = refl

-- the line of a row, by its state
lines_of : (names : Names) (t template priority : ℕ) (none : Bool) (rest : RowState)
    → lines_of_row names t (cond none free_row (record { template = template; priority = priority; state = cond none Free rest }))
    ≡ cond (is_free (cond none Free rest)) [] (row_line names t (record { template = template; priority = priority; state = cond none Free rest }) ∷ [])
lines_of names t template priority true rest = refl
lines_of names t template priority false rest = refl

-- a row without a thread has no line
pub lines_none : (names : Names) (t : ℕ) (row : RowWords) → is_free (state_of row) ≡ true → lines_of_row names t (shown_row row) ≡ []
lines_none names t row none =
    lines_of names t row.template row.priority (row.state == free) (if row.state == ready then Ready else if row.state == delayed then Delayed row.wake else if row.state == waiting then Waiting (wait_of row) else Ended row.code)
    ∙ pick_true (is_free (state_of row)) [] _ none

-- and one with a thread has one
pub lines_one : (names : Names) (t : ℕ) (row : RowWords) → is_free (state_of row) ≡ false → lines_of_row names t (shown_row row) ≡ row_line names t (record { template = row.template; priority = row.priority; state = state_of row }) ∷ []
lines_one names t row some =
    lines_of names t row.template row.priority (row.state == free) (if row.state == ready then Ready else if row.state == delayed then Delayed row.wake else if row.state == waiting then Waiting (wait_of row) else Ended row.code)
    ∙ pick_false (is_free (state_of row)) [] _ some

-- the lines of numbered rows, number by number
lines_numbered : (line : ℕ → Row → List (List ℕ)) (show : RowWords → Row) (row : ℕ → RowWords) (a n : ℕ)
    → flat_map (λ (t, r). line t r) (enumerate_from a (map show (map row (range_with_len a n)))) ≡ flat_map (λ t. line t (show (row t))) (range_with_len a n)
lines_numbered line show row a zero = refl
lines_numbered line show row a (suc n) = ap (λ (rest : List (List ℕ)). line a (show (row a)) ++ rest) (lines_numbered line show row (a + 1) n)

-- the lines of a thread of the image
abbrev pub lines_of_thread : Names → (Cell → ℕ) → ℕ → List (List ℕ)
lines_of_thread names word t = lines_of_row names t (shown_row (row_of word t))

pub row_lines_are : (names : Names) (word : Cell → ℕ) → flat_map (lines_of_thread names word) (range_with_len 0 16) ≡ row_lines names (map shown_row (decoded_of word).rows)
unfolding decoded_of listed
row_lines_are names word = sym (lines_numbered (lines_of_row names) shown_row (row_of word) 0 16)
