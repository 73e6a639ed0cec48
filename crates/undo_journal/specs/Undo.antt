-- The undo journal as the words hold it, and the words with it undone.
use Rattle.std.specs.Prelude.{◌≡◌, ◌≢◌, ℕ, zero, suc, ◌+◌, ◌-◌, ◌*◌, ◌<◌, ◌≤◌, Bool, ◌==◌, ◌&&◌, ◌||◌, nat_lt, nat_le, if◌then◌else◌, List, slice_index, slice_set}

-- the magic word: word 0 of a formatted device
abbrev pub magic : ℕ
magic = 1229870129

-- how many entries the journal holds: word 4, or none where the device isn't formatted
abbrev pub entries : List ℕ → ℕ
entries words = if slice_index words 0 == magic then slice_index words 4 else 0

-- the address that entry k keeps
abbrev pub entry_address : List ℕ → ℕ → ℕ
entry_address words k = slice_index words (11968 + 2 * k)

-- the old value that entry k keeps
abbrev pub entry_value : List ℕ → ℕ → ℕ
entry_value words k = slice_index words (11969 + 2 * k)

-- the words with the first k entries restored, the last of them first
unfoldable pub restored : ℕ → List ℕ → List ℕ
restored zero words = words
restored (suc k) words = restored k (slice_set words (entry_address words k) (entry_value words k))

-- the words with the journal undone: every entry restored from the last to the first, and 0 in word 4
unfoldable pub undone : List ℕ → List ℕ
undone words = if entries words == 0 then words else slice_set (restored (entries words) words) 4 0

-- the journal is word 4 and the 1,280 entries of two words
abbrev pub in_journal : ℕ → Bool
in_journal at = at == 4 || (nat_le 11968 at && nat_lt at 14528)

-- the words outside the journal, by their address
unfoldable pub outside : List ℕ → ℕ → ℕ
outside words at = if in_journal at then 0 else slice_index words at

-- what the words come to with the journal undone
unfoldable pub durable : List ℕ → ℕ → ℕ
durable words = outside (undone words)

-- words by their address, with one of them changed
unfoldable pub with_word : (ℕ → ℕ) → ℕ → ℕ → ℕ → ℕ
with_word words at value other = if other == at then value else words other

-- an address that the journal may keep: a word of the device outside the journal, and not word 0
pub record IsPlain (at : ℕ) : Type 0 where
  pub not_magic : 0 < at
  pub within : at < 16384
  pub not_count : at ≢ 4
  pub not_entry : 11968 ≤ at → 14528 ≤ at

-- a formatted device whose journal is well formed: at most 1,280 entries, each of a plain address
pub record IsJournalled (words : List ℕ) : Type 0 where
  pub formatted : slice_index words 0 ≡ magic
  pub few : slice_index words 4 ≤ 1280
  pub plain : (k : ℕ) → k < slice_index words 4 → IsPlain (entry_address words k)

-- a formatted device whose journal is empty
pub record IsAtRest (words : List ℕ) : Type 0 where
  pub formatted : slice_index words 0 ≡ magic
  pub empty : slice_index words 4 ≡ 0

-- how many more entries the journal has room for
abbrev pub room_of : List ℕ → ℕ
room_of words = 1280 - slice_index words 4

-- how many writes undo the journal: none where it is empty, else one an entry and one for the count
abbrev pub undoing : List ℕ → ℕ
undoing words = if entries words == 0 then 0 else entries words + 1

-- the entry behind those that count keeps this address, and the word that stands there now
pub record IsReady (words : List ℕ) (at : ℕ) : Type 0 where
  pub address : entry_address words (slice_index words 4) ≡ at
  pub value : entry_value words (slice_index words 4) ≡ slice_index words at

-- the last entry keeps this address
pub record IsLast (words : List ℕ) (at : ℕ) : Type 0 where
  pub some : 0 < slice_index words 4
  pub address : entry_address words (slice_index words 4 - 1) ≡ at
