-- Which stores change which words.
use Rattle.std.proofs.Common.{◌≡◌, ◌≢◌, ◌∙◌, ℕ, ◌==◌, Bool, true, false, inl, inr, sym, ap, arith}
use Rattle.std.proofs.Math.Path.{fun_ext}
use Rattle.std.proofs.lemmas.Bool.{cases_eq, cases_Bool}
use Rattle.std.proofs.lemmas.Bool.Decides.{nat_tests}
use Rattle.undo_journal.specs.Undo.{with_word}
use Rattle.persistent_heap.specs.Part.{blanked, ChangesOnly}

pub with_word-same : (words : ℕ → ℕ) (at value : ℕ) → with_word words at value at ≡ value
unfolding with_word
with_word-same words at value = let is : (at == at) ≡ true = grind (arith, nat_tests) in rw is

pub with_word-other : (words : ℕ → ℕ) (at value other : ℕ) → other ≢ at → with_word words at value other ≡ words other
unfolding with_word
with_word-other words at value other ne = let is : (other == at) ≡ false = grind (arith, nat_tests) in rw is

-- a store changes only the part that its word is in
pub blanked-with_word : (part : ℕ → Bool) (words : ℕ → ℕ) (at value : ℕ) → part at ≡ true → blanked part (with_word words at value) ≡ blanked part words
unfolding blanked
blanked-with_word part words at value among = fun_ext (λ other. elim (cases_eq other at) [
  | inl same ↦ rw (same, among)
  | inr ne ↦ rw (with_word-other words at value other ne)
])

-- what changes a part only changes only a wider one
pub ChangesOnly-wider : (part wider : ℕ → Bool) (old new : ℕ → ℕ) → ((at : ℕ) → part at ≡ true → wider at ≡ true) → ChangesOnly part old new → ChangesOnly wider old new
unfolding blanked
ChangesOnly-wider part wider old new includes kept = fun_ext (λ at. elim (cases_Bool (wider at)) [
  | inl is ↦ rw is
  | inr beside ↦
      let outside : part at ≡ false = elim (cases_Bool (part at)) [ inl among ↦ absurd (let clash : true ≡ false = sym (includes at among) ∙ beside in cc) | inr is ↦ is ] in
      let same = rw outside at (ap (λ (f : ℕ → ℕ). f at) kept) in
      rw beside same
])

-- a word outside the part stays
pub ChangesOnly-beside : (part : ℕ → Bool) (old new : ℕ → ℕ) (at : ℕ) → part at ≡ false → ChangesOnly part old new → new at ≡ old at
unfolding blanked
ChangesOnly-beside part old new at beside kept = rw beside at (ap (λ (f : ℕ → ℕ). f at) kept)
