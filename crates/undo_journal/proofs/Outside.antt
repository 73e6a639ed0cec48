-- The words outside the journal, after a write.
use Rattle.std.proofs.Common.{◌≡◌, ℕ, ◌<◌, ◌≤◌, ◌==◌, true, false, inl, inr, List, refl, arith, length, slice_index, slice_set}
use Rattle.std.proofs.Math.Path.{fun_ext}
use Rattle.std.proofs.lemmas.List.{get_or-set_other, get_or-set_same}
use Rattle.std.proofs.lemmas.Bool.{cases_eq}
use Rattle.std.proofs.lemmas.Bool.Decides.{nat_tests}
use Rattle.undo_journal.specs.Undo.{in_journal, outside, with_word, IsPlain}

-- a plain address is outside the journal
pub in_journal-plain : (at : ℕ) → IsPlain at → in_journal at ≡ false
in_journal-plain at plain = grind (arith, nat_tests)

-- outside the journal they are the words themselves
pub outside-beside : (words : List ℕ) (at : ℕ) → in_journal at ≡ false → outside words at ≡ slice_index words at
unfolding outside
outside-beside words at beside = rw beside

pub outside-plain : (words : List ℕ) (at : ℕ) → IsPlain at → outside words at ≡ slice_index words at
outside-plain words at plain = outside-beside words at (in_journal-plain at plain)

-- the magic word
pub outside-zero : (words : List ℕ) → outside words 0 ≡ slice_index words 0
outside-zero words = outside-beside words 0 refl

pub outside-one : (words : List ℕ) → outside words 1 ≡ slice_index words 1
outside-one words = outside-beside words 1 refl

-- a write within the journal doesn't show outside
pub outside-set_within : (words : List ℕ) (at value : ℕ) → in_journal at ≡ true → outside (slice_set words at value) ≡ outside words
unfolding outside
outside-set_within words at value within = fun_ext (λ other. elim (cases_eq other at) [
  | inl same ↦ rw (same, within)
  | inr ne ↦ rw (get_or-set_other words at other value 0 ne)
])

-- of the count
pub outside-set_count : (words : List ℕ) (value : ℕ) → outside (slice_set words 4 value) ≡ outside words
outside-set_count words value = outside-set_within words 4 value refl

-- of a word of an entry
pub outside-set_entry : (words : List ℕ) (at value : ℕ) → 11968 ≤ at → at < 14528 → outside (slice_set words at value) ≡ outside words
outside-set_entry words at value low high = outside-set_within words at value (grind (arith, nat_tests))

-- a write to a plain word shows outside
pub outside-set_plain : (words : List ℕ) (at value : ℕ) → IsPlain at → length words ≡ 16384 → outside (slice_set words at value) ≡ with_word (outside words) at value
unfolding outside with_word
outside-set_plain words at value plain sized = fun_ext (λ other. elim (cases_eq other at) [
  | inl same ↦
      let lt : at < length words = omega (arith, plain.within) in
      let test : (at == at) ≡ true = grind (arith, nat_tests) in
      rw (same, in_journal-plain at plain, get_or-set_same words at value 0 lt, test)
  | inr ne ↦
      let test : (other == at) ≡ false = grind (arith, nat_tests) in
      rw (get_or-set_other words at other value 0 ne, test)
])
