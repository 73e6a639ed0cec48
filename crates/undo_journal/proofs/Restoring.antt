-- Restoring entries: which writes it lets through, and which it undoes.
use Rattle.std.proofs.Common.{◌≡◌, ◌≢◌, ◌∙◌, ℕ, zero, suc, ◌+◌, ◌*◌, ◌<◌, ◌≤◌, List, length, inl, inr, refl, sym, ap, subst, arith, add-one, slice_index, slice_set}
use Rattle.std.proofs.lemmas.List.{set_comm, set-set, get_or-set_other, get_or-set_same, length-set}
use Rattle.std.proofs.lemmas.Bool.{cases_eq}
use Rattle.undo_journal.specs.Undo.{entry_address, entry_value, restored, IsPlain}

-- the first k entries keep plain addresses, and are no more than the journal has room for
pub record ArePlain (words : List ℕ) (k : ℕ) : Type 0 where
  pub few : k ≤ 1280
  pub each : (i : ℕ) → i < k → IsPlain (entry_address words i)

-- none of the first k entries is kept at this address
pub record IsBehind (k at : ℕ) : Type 0 where
  pub behind : 11968 ≤ at → 11968 + 2 * k ≤ at

-- a write behind entry i leaves the address that it keeps
pub entry_address-set : (i : ℕ) (words : List ℕ) (at value : ℕ) → IsBehind (suc i) at → entry_address (slice_set words at value) i ≡ entry_address words i
entry_address-set i words at value apart =
    let ne : 11968 + 2 * i ≢ at = λ e. omega (arith, apart.behind (omega arith)) in
    get_or-set_other words at (11968 + 2 * i) value 0 ne

-- and the old value that it keeps
pub entry_value-set : (i : ℕ) (words : List ℕ) (at value : ℕ) → IsBehind (suc i) at → entry_value (slice_set words at value) i ≡ entry_value words i
entry_value-set i words at value apart =
    let ne : 11969 + 2 * i ≢ at = λ e. omega (arith, apart.behind (omega arith)) in
    get_or-set_other words at (11969 + 2 * i) value 0 ne

-- an address behind some entries is behind fewer
pub behind_fewer : (i k at : ℕ) → i ≤ k → IsBehind k at → IsBehind i at
behind_fewer i k at le apart = record { behind = λ h. omega (arith, apart.behind h) }

-- a plain address is behind all entries
pub plain_behind : (k at : ℕ) → k ≤ 1280 → IsPlain at → IsBehind k at
plain_behind k at few plain = record { behind = λ h. omega (arith, plain.not_entry h) }

-- a write behind the first k entries leaves them plain
pub ArePlain-set : (k : ℕ) (words : List ℕ) (at value : ℕ) → IsBehind k at → ArePlain words k → ArePlain (slice_set words at value) k
ArePlain-set k words at value apart plain = record {
  few = plain.few;
  each = λ i lt. subst IsPlain (sym (entry_address-set i words at value (behind_fewer (suc i) k at (omega arith) apart))) (plain.each i lt);
}

-- without the last of them they are plain too
pub ArePlain-fewer : (k : ℕ) (words : List ℕ) → ArePlain words (suc k) → ArePlain words k
ArePlain-fewer k words plain = record { few = omega (arith, plain.few); each = λ i lt. plain.each i (omega arith) }

-- the last entry is restored first
pub restored-suc : (k : ℕ) (words : List ℕ) → restored (suc k) words ≡ restored k (slice_set words (entry_address words k) (entry_value words k))
unfolding restored
restored-suc k words = refl

pub restored-next : (k : ℕ) (words : List ℕ) → restored (k + 1) words ≡ restored k (slice_set words (entry_address words k) (entry_value words k))
restored-next k words = rw add-one (restored-suc k words)

-- restoring lets a write through that no entry names and that is behind the entries
pub restored-set : (k : ℕ) (words : List ℕ) (at value : ℕ) → ArePlain words k → IsBehind k at → ((i : ℕ) → i < k → entry_address words i ≢ at) → restored k (slice_set words at value) ≡ slice_set (restored k words) at value
unfolding restored
restored-set zero words at value plain apart unnamed = refl
restored-set (suc k) words at value plain apart unnamed =
    let last = entry_address words k in
    let old = entry_value words k in
    let last_plain = plain.each k (omega arith) in
    let last_behind = plain_behind (suc k) last plain.few last_plain in
    let fewer = ArePlain-fewer k words plain in
    let same_address = entry_address-set k words at value apart in
    let same_value = entry_value-set k words at value apart in
    let swapped = set_comm words at last value old (λ e. unnamed k (omega arith) (sym e)) in
    rw (same_address, same_value, swapped) (restored-set k (slice_set words last old) at value
    (ArePlain-set k words last old (behind_fewer k (suc k) last (omega arith) last_behind) fewer)
    (behind_fewer k (suc k) at (omega arith) apart)
    (λ i lt e. unnamed i (omega arith) (sym (entry_address-set i words last old (behind_fewer (suc i) (suc k) last (omega arith) last_behind)) ∙ e)))

-- restoring undoes a write to a word that an entry names
pub restored-set_named : (k i : ℕ) (words : List ℕ) (at value : ℕ) → ArePlain words k → i < k → entry_address words i ≡ at → restored k (slice_set words at value) ≡ restored k words
unfolding restored
restored-set_named zero i words at value plain lt named = absurd (omega arith)
restored-set_named (suc k) i words at value plain lt named =
    let last = entry_address words k in
    let old = entry_value words k in
    let at_plain : IsPlain at = subst IsPlain named (plain.each i lt) in
    let apart = plain_behind (suc k) at plain.few at_plain in
    let last_behind = plain_behind (suc k) last plain.few (plain.each k (omega arith)) in
    let fewer = ArePlain-fewer k words plain in
    let same_address = entry_address-set k words at value apart in
    let same_value = entry_value-set k words at value apart in
    rw (same_address, same_value) (elim (cases_eq last at) [
      | inl same ↦ ap (restored k) (subst (λ (j : ℕ). slice_set (slice_set words at value) j old ≡ slice_set words j old) (sym same) (set-set words at value old))
      | inr other ↦
          let lower : i < k = elim (cases_eq i k) [ inl e ↦ absurd (other (subst (λ (j : ℕ). entry_address words j ≡ at) e named)) | inr ne ↦ omega arith ] in
          rw (set_comm words at last value old (λ e. other (sym e))) (restored-set_named k i (slice_set words last old) at value
          (ArePlain-set k words last old (behind_fewer k (suc k) last (omega arith) last_behind) fewer)
          lower
          (entry_address-set i words last old (behind_fewer (suc i) (suc k) last (omega arith) last_behind) ∙ named))
    ])

-- none of the first k entries keeps the word at this address
abbrev pub KeepNone : List ℕ → ℕ → ℕ → Type 0
KeepNone words k at = (i : ℕ) → i < k → entry_address words i ≢ at

-- the words with entry k restored
abbrev next : List ℕ → ℕ → List ℕ
next words k = slice_set words (entry_address words k) (entry_value words k)

-- restoring entry k leaves the addresses up to its own
next_address : (k i : ℕ) (words : List ℕ) → i ≤ k → ArePlain words (suc k) → entry_address (next words k) i ≡ entry_address words i
next_address k i words le plain = entry_address-set i words (entry_address words k) (entry_value words k)
    (plain_behind (suc i) (entry_address words k) (omega (arith, le, plain.few)) (plain.each k (omega arith)))

-- and the old values
next_value : (k i : ℕ) (words : List ℕ) → i ≤ k → ArePlain words (suc k) → entry_value (next words k) i ≡ entry_value words i
next_value k i words le plain = entry_value-set i words (entry_address words k) (entry_value words k)
    (plain_behind (suc i) (entry_address words k) (omega (arith, le, plain.few)) (plain.each k (omega arith)))

-- so those before it are plain as before
next_plain : (k : ℕ) (words : List ℕ) → ArePlain words (suc k) → ArePlain (next words k) k
next_plain k words plain = ArePlain-set k words (entry_address words k) (entry_value words k)
    (plain_behind k (entry_address words k) (omega (arith, plain.few)) (plain.each k (omega arith))) (ArePlain-fewer k words plain)

-- and none of them keeps what none kept
next_none : (k j : ℕ) (words : List ℕ) (at : ℕ) → j ≤ k → ArePlain words (suc k) → KeepNone words j at → KeepNone (next words k) j at
next_none k j words at le plain none i lt e = none i lt (sym (next_address k i words (omega (arith, le, lt)) plain) ∙ e)

-- a word that no entry keeps stays when they are restored
pub restored_none : (k : ℕ) (words : List ℕ) (at : ℕ) → ArePlain words k → KeepNone words k at → slice_index (restored k words) at ≡ slice_index words at
unfolding restored
restored_none zero words at plain none = refl
restored_none (suc k) words at plain none =
    restored_none k (next words k) at (next_plain k words plain)
    (next_none k k words at (omega arith) plain (λ i lt. none i (omega (arith, lt))))
    ∙ get_or-set_other words (entry_address words k) at (entry_value words k) 0 (λ e. none k (omega arith) (sym e))

-- a word comes to the old value in the first entry that keeps it
pub restored_first : (k j : ℕ) (words : List ℕ) (at : ℕ) → ArePlain words k → j < k → entry_address words j ≡ at → KeepNone words j at → at < length words → slice_index (restored k words) at ≡ entry_value words j
unfolding restored
restored_first zero j words at plain lt named none within = absurd (omega (arith, lt))
restored_first (suc k) j words at plain lt named none within = elim (cases_eq j k) [
  | inl last ↦
      restored_none k (next words k) at (next_plain k words plain)
      (next_none k k words at (omega arith) plain (λ i less. none i (omega (arith, less, last))))
      ∙ ap (slice_index (next words k)) (sym named ∙ ap (entry_address words) last)
      ∙ get_or-set_same words (entry_address words k) (entry_value words k) 0 (let same : entry_address words k ≡ at = ap (entry_address words) (sym last) ∙ named in omega (arith, same, within))
      ∙ ap (entry_value words) (sym last)
  | inr before ↦
      let less : j < k = omega (arith, lt, before) in
      let long = length-set words (entry_address words k) (entry_value words k) in
      restored_first k j (next words k) at (next_plain k words plain) less
      (next_address k j words (omega (arith, less)) plain ∙ named)
      (next_none k j words at (omega (arith, less)) plain none) (omega (arith, within, long))
      ∙ next_value k j words (omega (arith, less)) plain
]
