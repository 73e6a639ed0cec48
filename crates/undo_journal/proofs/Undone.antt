-- The undone words, after each kind of write.
use Rattle.std.proofs.Common.{◌≡◌, ◌≢◌, ℕ, zero, suc, ◌+◌, ◌-◌, ◌*◌, ◌<◌, ◌≤◌, ◌==◌, false, List, length, inl, inr, refl, sym, ap, subst, arith, slice_index, slice_set, ◌∙◌}
use Rattle.std.proofs.lemmas.List.{set-get_or, get_or-set_other, get_or-set_same, length-set}
use Rattle.std.proofs.lemmas.Bool.{cases_eq}
use Rattle.std.proofs.lemmas.Bool.Decides.{nat_tests}
use Rattle.undo_journal.specs.Undo.{magic, entries, entry_address, entry_value, restored, undone, outside, durable, with_word, IsPlain, IsJournalled, IsAtRest, IsLast}
use Rattle.undo_journal.proofs.Restoring.{ArePlain, IsBehind, restored-set, restored-set_named, entry_address-set, entry_value-set, restored-suc, plain_behind, behind_fewer, KeepNone, restored_none, restored_first}
use Rattle.undo_journal.proofs.Outside.{outside-set_count, outside-set_entry, outside-set_plain, outside-zero}

-- the entries of a well formed journal are those that word 4 counts
pub entries-journalled : (words : List ℕ) → IsJournalled words → entries words ≡ slice_index words 4
entries-journalled words journalled = rw journalled.formatted

-- and are plain
pub are_plain : (words : List ℕ) → IsJournalled words → ArePlain words (slice_index words 4)
are_plain words journalled = record { few = journalled.few; each = journalled.plain }

-- an empty journal is well formed
pub IsJournalled-at_rest : (words : List ℕ) → IsAtRest words → IsJournalled words
IsJournalled-at_rest words rest = record {
  formatted = rest.formatted;
  few = omega (arith, rest.empty);
  plain = λ k lt. absurd (omega (arith, rest.empty));
}

-- words at rest are undone already
pub undone-at_rest : (words : List ℕ) → IsAtRest words → undone words ≡ words
unfolding undone
undone-at_rest words rest = rw (rest.formatted, rest.empty)

pub durable-at_rest : (words : List ℕ) → IsAtRest words → durable words ≡ outside words
unfolding durable
durable-at_rest words rest = ap outside (undone-at_rest words rest)

-- words of a device that isn't formatted have no entries
pub undone-unformatted : (words : List ℕ) → slice_index words 0 ≢ magic → undone words ≡ words
unfolding undone
undone-unformatted words unformatted = grind (arith, nat_tests)

pub durable-unformatted : (words : List ℕ) → slice_index words 0 ≢ magic → durable words ≡ outside words
unfolding durable
durable-unformatted words unformatted = ap outside (undone-unformatted words unformatted)

-- the undone words of a well formed journal that has entries
pub undone-journalled : (words : List ℕ) → IsJournalled words → 0 < slice_index words 4 → undone words ≡ slice_set (restored (slice_index words 4) words) 4 0
unfolding undone
undone-journalled words journalled some =
    let test : (slice_index words 4 == 0) ≡ false = grind (arith, nat_tests) in
    rw (journalled.formatted, test)

-- outside the journal they are the restored words
pub durable-journalled : (words : List ℕ) → IsJournalled words → durable words ≡ outside (restored (slice_index words 4) words)
unfolding durable restored
durable-journalled words journalled = elim (cases_eq (slice_index words 4) 0) [
  | inl empty ↦ rw (undone-at_rest words (record { formatted = journalled.formatted; empty = empty }), empty)
  | inr some ↦ rw (undone-journalled words journalled (omega arith)) (outside-set_count (restored (slice_index words 4) words) 0)
]

-- words whose magic, count and entries' addresses are the same are well formed too
IsJournalled-same : (words new : List ℕ) → slice_index new 0 ≡ slice_index words 0 → slice_index new 4 ≡ slice_index words 4 → ((k : ℕ) → k < slice_index words 4 → entry_address new k ≡ entry_address words k) → IsJournalled words → IsJournalled new
IsJournalled-same words new same_magic same_count same_address journalled = record {
  formatted = same_magic ∙ journalled.formatted;
  few = omega (arith, same_count, journalled.few);
  plain = λ k lt.
      let lower : k < slice_index words 4 = omega (arith, same_count) in
      subst IsPlain (sym (same_address k lower)) (journalled.plain k lower);
}

-- a write of the address or the old value of a new entry, behind the others
pub IsJournalled-set_entry : (words : List ℕ) (at value : ℕ) → IsJournalled words → 11968 + 2 * slice_index words 4 ≤ at → at < 14528 → IsJournalled (slice_set words at value)
IsJournalled-set_entry words at value journalled low high =
    let apart : IsBehind (slice_index words 4) at = record { behind = λ _. low } in
    let ne0 : 0 ≢ at = omega arith in
    let ne4 : 4 ≢ at = omega arith in
    IsJournalled-same words (slice_set words at value)
    (get_or-set_other words at 0 value 0 ne0)
    (get_or-set_other words at 4 value 0 ne4)
    (λ k lt. entry_address-set k words at value (behind_fewer (suc k) (slice_index words 4) at (omega arith) apart))
    journalled

pub durable-set_entry : (words : List ℕ) (at value : ℕ) → IsJournalled words → 11968 + 2 * slice_index words 4 ≤ at → at < 14528 → durable (slice_set words at value) ≡ durable words
durable-set_entry words at value journalled low high =
    let new = slice_set words at value in
    let count = slice_index words 4 in
    let ne4 : 4 ≢ at = omega arith in
    let same_count : slice_index new 4 ≡ count = get_or-set_other words at 4 value 0 ne4 in
    let shown : restored count new ≡ slice_set (restored count words) at value = restored-set count words at value (are_plain words journalled) (record { behind = λ _. low })
    (λ i lt named. omega (arith, named, (journalled.plain i lt).not_entry (omega arith))) in
    let written : outside (restored (slice_index new 4) new) ≡ outside (restored count words) = rw (same_count, shown) (outside-set_entry (restored count words) at value (omega arith) high) in
    durable-journalled new (IsJournalled-set_entry words at value journalled low high) ∙ written ∙ sym (durable-journalled words journalled)

-- counting one entry more, where that entry keeps a plain address
pub IsJournalled-set_count : (words : List ℕ) (at count : ℕ) → IsJournalled words → length words ≡ 16384 → count ≡ slice_index words 4 + 1 → count ≤ 1280 → entry_address words (slice_index words 4) ≡ at → IsPlain at → IsJournalled (slice_set words 4 count)
IsJournalled-set_count words at count journalled sized next few named plain =
    let new = slice_set words 4 count in
    let lt : 4 < length words = omega arith in
    let counted : slice_index new 4 ≡ count = get_or-set_same words 4 count 0 lt in
    let ne0 : ◌≢◌ {A = ℕ} 0 4 = omega arith in
    record {
      formatted = get_or-set_other words 4 0 count 0 ne0 ∙ journalled.formatted;
      few = omega (arith, counted);
      plain = λ k lt.
          let apart : IsBehind (suc k) 4 = record { behind = λ h. absurd (omega (arith, h)) } in
          let same = entry_address-set k words 4 count apart in
          elim (cases_eq k (slice_index words 4)) [
            | inl last ↦ subst IsPlain (sym (same ∙ ap (entry_address words) last ∙ named)) plain
            | inr ne ↦ subst IsPlain (sym same) (journalled.plain k (omega (arith, counted)))
          ];
    }

-- and the word that stands there now
pub durable-set_count : (words : List ℕ) (at count : ℕ) → IsJournalled words → length words ≡ 16384 → count ≡ slice_index words 4 + 1 → count ≤ 1280 → entry_address words (slice_index words 4) ≡ at → entry_value words (slice_index words 4) ≡ slice_index words at → IsPlain at → durable (slice_set words 4 count) ≡ durable words
durable-set_count words at count journalled sized next few named kept plain =
    let new = slice_set words 4 count in
    let last = slice_index words 4 in
    let lt : 4 < length words = omega arith in
    let counted : slice_index new 4 ≡ suc last = get_or-set_same words 4 count 0 lt ∙ omega arith in
    let ne : at ≢ 4 = plain.not_count in
    let apart : (k : ℕ) → IsBehind k 4 = λ k. record { behind = λ h. absurd (omega (arith, h)) } in
    let address : entry_address new last ≡ at = entry_address-set last words 4 count (apart (suc last)) ∙ named in
    let value : entry_value new last ≡ slice_index new at = entry_value-set last words 4 count (apart (suc last)) ∙ kept ∙ sym (get_or-set_other words 4 at count 0 ne) in
    let undone_last : slice_set new (entry_address new last) (entry_value new last) ≡ new = rw (address, value) (set-get_or new at 0) in
    let shown : restored last new ≡ slice_set (restored last words) 4 count = restored-set last words 4 count (are_plain words journalled) (apart last) (λ i lt e. (journalled.plain i lt).not_count e) in
    let written : outside (restored (slice_index new 4) new) ≡ outside (restored last words) = rw (counted, restored-suc last new, undone_last, shown) (outside-set_count (restored last words) count) in
    durable-journalled new (IsJournalled-set_count words at count journalled sized next few named plain) ∙ written ∙ sym (durable-journalled words journalled)

-- a write to a plain word leaves the journal
pub IsJournalled-set_plain : (words : List ℕ) (at value : ℕ) → IsJournalled words → IsPlain at → IsJournalled (slice_set words at value)
IsJournalled-set_plain words at value journalled plain =
    let ne0 : 0 ≢ at = omega (arith, plain.not_magic) in
    let ne4 : 4 ≢ at = λ e. plain.not_count (sym e) in
    IsJournalled-same words (slice_set words at value)
    (get_or-set_other words at 0 value 0 ne0)
    (get_or-set_other words at 4 value 0 ne4)
    (λ k lt. entry_address-set k words at value (plain_behind (suc k) at (omega (arith, journalled.few)) plain))
    journalled

-- a write to a plain word doesn't change the count
pub count-set_plain : (words : List ℕ) (at value : ℕ) → IsPlain at → slice_index (slice_set words at value) 4 ≡ slice_index words 4
count-set_plain words at value plain =
    let ne4 : 4 ≢ at = λ e. plain.not_count (sym e) in
    get_or-set_other words at 4 value 0 ne4

-- a write to a word that entry k names is undone
pub durable-set_named : (words : List ℕ) (k at value : ℕ) → IsJournalled words → k < slice_index words 4 → entry_address words k ≡ at → durable (slice_set words at value) ≡ durable words
durable-set_named words k at value journalled lt named =
    let new = slice_set words at value in
    let count = slice_index words 4 in
    let plain : IsPlain at = subst IsPlain named (journalled.plain k lt) in
    let same_count = count-set_plain words at value plain in
    let hidden = restored-set_named count k words at value (are_plain words journalled) lt named in
    let written : outside (restored (slice_index new 4) new) ≡ outside (restored count words) = rw (same_count, hidden) in
    durable-journalled new (IsJournalled-set_plain words at value journalled plain) ∙ written ∙ sym (durable-journalled words journalled)

-- a write to the word that the last entry names is undone
pub durable-set_last : (words : List ℕ) (at value : ℕ) → IsJournalled words → IsLast words at → durable (slice_set words at value) ≡ durable words
durable-set_last words at value journalled last = durable-set_named words (slice_index words 4 - 1) at value journalled (omega (arith, last.some)) last.address

-- restoring keeps the number of words
pub length-restored : (k : ℕ) (words : List ℕ) → length (restored k words) ≡ length words
unfolding restored
length-restored zero words = refl
length-restored (suc k) words =
    length-restored k (slice_set words (entry_address words k) (entry_value words k)) ∙ length-set words (entry_address words k) (entry_value words k)

-- a write to a plain word that no entry names stays when the journal is undone
pub durable-set_unnamed : (words : List ℕ) (at value : ℕ) → IsJournalled words → IsPlain at → length words ≡ 16384 → ((i : ℕ) → i < slice_index words 4 → entry_address words i ≢ at) → durable (slice_set words at value) ≡ with_word (durable words) at value
durable-set_unnamed words at value journalled plain sized unnamed =
    let new = slice_set words at value in
    let count = slice_index words 4 in
    let same_count = count-set_plain words at value plain in
    let shown = restored-set count words at value (are_plain words journalled) (plain_behind count at journalled.few plain) unnamed in
    let written : outside (restored (slice_index new 4) new) ≡ with_word (outside (restored count words)) at value = rw (same_count, shown) (outside-set_plain (restored count words) at value plain (length-restored count words ∙ sized)) in
    durable-journalled new (IsJournalled-set_plain words at value journalled plain) ∙ written ∙ ap (λ (f : ℕ → ℕ). with_word f at value) (sym (durable-journalled words journalled))

-- with the count cleared a formatted device is at rest
pub IsAtRest-set_count : (words : List ℕ) → slice_index words 0 ≡ magic → length words ≡ 16384 → IsAtRest (slice_set words 4 0)
IsAtRest-set_count words formatted sized =
    let lt : 4 < length words = omega arith in
    let ne0 : ◌≢◌ {A = ℕ} 0 4 = omega arith in
    record { formatted = get_or-set_other words 4 0 0 0 ne0 ∙ formatted; empty = get_or-set_same words 4 0 0 lt }

-- restoring changes no word that isn't plain
pub slice_index-restored : (k : ℕ) (words : List ℕ) (at : ℕ) → ArePlain words k → (IsPlain at → ⊥) → slice_index (restored k words) at ≡ slice_index words at
slice_index-restored k words at plain beside = restored_none k words at plain (λ i lt e. beside (subst IsPlain e (plain.each i lt)))

-- the undone words of a well formed journal are at rest
pub IsAtRest-undone : (words : List ℕ) → IsJournalled words → length words ≡ 16384 → IsAtRest (undone words)
IsAtRest-undone words journalled sized = elim (cases_eq (slice_index words 4) 0) [
  | inl empty ↦
      let rest : IsAtRest words = record { formatted = journalled.formatted; empty = empty } in
      subst IsAtRest (sym (undone-at_rest words rest)) rest
  | inr some ↦
      let count = slice_index words 4 in
      let magic_stays = slice_index-restored count words 0 (are_plain words journalled) (λ plain. omega (arith, plain.not_magic)) in
      subst IsAtRest (sym (undone-journalled words journalled (omega arith))) (IsAtRest-set_count (restored count words) (magic_stays ∙ journalled.formatted) (length-restored count words ∙ sized))
]

-- undone words are undone for good
pub undone-undone : (words : List ℕ) → IsJournalled words → length words ≡ 16384 → undone (undone words) ≡ undone words
undone-undone words journalled sized = undone-at_rest (undone words) (IsAtRest-undone words journalled sized)

-- and are outside the journal what the words come to
pub outside-undone : (words : List ℕ) → outside (undone words) ≡ durable words
unfolding durable
outside-undone words = refl

-- the magic word is no entry's
pub durable-zero : (words : List ℕ) → IsJournalled words → durable words 0 ≡ slice_index words 0
durable-zero words journalled =
    let count = slice_index words 4 in
    ap (λ (f : ℕ → ℕ). f 0) (durable-journalled words journalled) ∙ outside-zero (restored count words) ∙ slice_index-restored count words 0 (are_plain words journalled) (λ plain. omega (arith, plain.not_magic))

-- undoing doesn't change what the words come to
pub durable-undone : (words : List ℕ) → IsJournalled words → length words ≡ 16384 → durable (undone words) ≡ durable words
unfolding durable
durable-undone words journalled sized = ap outside (undone-undone words journalled sized)

-- a word other than the count comes to the restored one
undone-beside : (words : List ℕ) (at : ℕ) → IsJournalled words → at ≢ 4 → slice_index (undone words) at ≡ slice_index (restored (slice_index words 4) words) at
unfolding restored
undone-beside words at journalled other = elim (cases_eq (slice_index words 4) 0) [
  | inl empty ↦ rw (undone-at_rest words (record { formatted = journalled.formatted; empty = empty }), empty)
  | inr some ↦ rw (undone-journalled words journalled (omega arith)) (get_or-set_other (restored (slice_index words 4) words) 4 at 0 0 other)
]

-- with the journal undone a word is the old value in the first entry that keeps it
pub undone_first : (words : List ℕ) (j at : ℕ) → IsJournalled words → length words ≡ 16384 → j < slice_index words 4 → entry_address words j ≡ at → KeepNone words j at → slice_index (undone words) at ≡ entry_value words j
undone_first words j at journalled sized lt named none =
    let plain : IsPlain at = subst IsPlain named (journalled.plain j lt) in
    undone-beside words at journalled plain.not_count
    ∙ restored_first (slice_index words 4) j words at (are_plain words journalled) lt named none (omega (arith, sized, plain.within))

-- and stays where no entry keeps it
pub undone_none : (words : List ℕ) (at : ℕ) → IsJournalled words → at ≢ 4 → KeepNone words (slice_index words 4) at → slice_index (undone words) at ≡ slice_index words at
undone_none words at journalled other none =
    undone-beside words at journalled other ∙ restored_none (slice_index words 4) words at (are_plain words journalled) none
