-- The words of a blank device.
use Rattle.std.specs.Prelude.{ℕ, ◌<◌, ◌^◌, List, All, length, replicate, slice_index}
use Rattle.std.proofs.Common.{inl, inr, arith}
use Rattle.std.proofs.lemmas.Bool.{cases_lt}
use Rattle.std.proofs.lemmas.List.{get_or_past}

-- 16,384 words, each 0
unfoldable pub blank_words : List ℕ
blank_words = replicate 16384 0

-- where each word has 32 bits, so has what is read past the end
pub slice_index-lt : (words : List ℕ) (at : ℕ) → All (λ word. word < 2 ^ 32) words → slice_index words at < 2 ^ 32
slice_index-lt words at fits = elim (cases_lt at (length words)) [
  | inl within ↦ fits at 0 within
  | inr past ↦ rw (get_or_past words at 0 past) (omega arith)
]
