-- What a sink holds after a text was written to it, whole or in part.
use Rattle.std.specs.Prelude.{◌≡◌, ℕ, List, ◌++◌, Option, None, Some, Result, MatchResult}

-- the bytes that a sink tells, then these; a sink that tells none still tells none
unfoldable pub put_to : Option (List ℕ) → List ℕ → Option (List ℕ)
put_to None text = None
put_to (Some held) text = Some (held ++ text)

-- new is old with a part of the text behind it, from the text's first byte on
unfoldable pub IsPart : Option (List ℕ) → Option (List ℕ) → List ℕ → Type 0
IsPart old new text = (done : List ℕ) × (rest : List ℕ) × (done ++ rest ≡ text) × (new ≡ put_to old done)

-- the whole text was written where the call succeeded, and a part of it where it failed
abbrev pub Puts : {T E : Type 0} → Result T E → Option (List ℕ) → Option (List ℕ) → List ℕ → Type 0
Puts result old new text = MatchResult result (λ _. new ≡ put_to old text) (λ _. IsPart old new text)
