-- What a writer has written. Its text is `None` where no memory was left for it.
use Rattle.std.specs.Prelude.{◌≡◌, ℕ, List, ◌++◌, Option, Some}
use Rattle.thread_tree.specs.declared.name.Name.{Name}
use Rattle.thread_tree.specs.declared.token.Token.{Token}
use Rattle.thread_print.specs.CanonicalText.{written}

-- a writer that isn't full at the end wasn't full before, and has these bytes more
pub record Added (old new : Option (List ℕ)) (bytes : List ℕ) : Type 0 where
  pub each : (t : List ℕ) → new ≡ Some t → (b : List ℕ) × (old ≡ Some b) × (t ≡ b ++ bytes)

-- a writer that isn't full at the end wasn't full before, and has these tokens more, each after a space
pub record Wrote (names : List Name) (old new : Option (List ℕ)) (tokens : List Token) : Type 0 where
  pub each : (t : List ℕ) → new ≡ Some t → (b : List ℕ) × (old ≡ Some b) × (t ≡ written names b tokens)
