-- Parts of the words: which of them a call may change, said so that every other word stays.
use Rattle.std.specs.Prelude.{◌≡◌, ℕ, Bool, if◌then◌else◌}

-- words by their address, with those of a part blanked
unfoldable pub blanked : (ℕ → Bool) → (ℕ → ℕ) → ℕ → ℕ
blanked part words at = if part at then 0 else words at

-- no word changed but those of this part
abbrev pub ChangesOnly : (ℕ → Bool) → (ℕ → ℕ) → (ℕ → ℕ) → Type 0
ChangesOnly part old new = blanked part new ≡ blanked part old
