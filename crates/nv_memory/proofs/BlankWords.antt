-- What a blank device reads.
use Rattle.std.proofs.Common.{◌≡◌, ℕ, inl, inr, arith, length, replicate, slice_index}
use Rattle.std.proofs.lemmas.Bool.{cases_lt}
use Rattle.std.proofs.lemmas.List.{get_or_past, get_or-replicate, length-replicate}
use Rattle.nv_memory.specs.Blank.{blank_words}

-- zeros read 0, and so does what is past their end
slice_index-zeros : (count at : ℕ) → slice_index (replicate count 0) at ≡ 0
slice_index-zeros count at = elim (cases_lt at count) [
  | inl within ↦ get_or-replicate count at 0 0 within
  | inr past ↦ get_or_past (replicate count 0) at 0 (omega (arith, length-replicate {A = ℕ} count 0))
]

pub slice_index-blank_words : (at : ℕ) → slice_index blank_words at ≡ 0
unfolding blank_words
slice_index-blank_words at = slice_index-zeros 16384 at

pub length-blank_words : length blank_words ≡ 16384
unfolding blank_words
length-blank_words = length-replicate {A = ℕ} 16384 0

-- for callers, to be named by `using`
pub ruleset blank_laws = (slice_index-blank_words, length-blank_words)
