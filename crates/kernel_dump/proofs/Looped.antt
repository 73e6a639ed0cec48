-- Lines that are put number by number.
use Rattle.std.proofs.Common.{◌≡◌, ℕ, suc, ◌+◌, ◌-◌, ◌<◌, ◌≤◌, List, [], ◌++◌, Option, refl, subst, arith}
use Rattle.std.specs.Prelude.{flat_map}
use Rattle.std.specs.List.{range_with_len}
use Rattle.std.specs.Prelude.{Result}
use Rattle.outer_world.specs.Written.{put_to, IsPart, Puts}
use Rattle.kernel_model.specs.Dump.{text_of}
use Rattle.kernel_model.proofs.Callers.{text_of-append}
use Rattle.kernel_dump.proofs.PutInParts.{IsLeft, IsLeft-all, IsLeft-next, IsLeft-next_part, IsLeft-none}

-- the lines of the numbers below n, and the text of those from i on
abbrev pub lines_below : (ℕ → List (List ℕ)) → ℕ → List (List ℕ)
lines_below lines n = flat_map lines (range_with_len 0 n)

unfoldable pub text_from : (ℕ → List (List ℕ)) → ℕ → ℕ → List ℕ
text_from lines i n = text_of (flat_map lines (range_with_len i (n - i)))

text_from-next : (lines : ℕ → List (List ℕ)) (i n : ℕ) → i < n → text_from lines i n ≡ text_of (lines i) ++ text_from lines (i + 1) n
unfolding text_from
text_from-next lines i n low =
    let more : n - i ≡ suc (n - (i + 1)) = omega arith in
    rw more (text_of-append (lines i) (flat_map lines (range_with_len (i + 1) (n - (i + 1)))))

text_from-none : (lines : ℕ → List (List ℕ)) (i n : ℕ) → n ≤ i → text_from lines i n ≡ []
unfolding text_from
text_from-none lines i n all = let none : n - i ≡ 0 = omega arith in rw none refl

-- at first all lines are left
pub put_none : (old : Option (List ℕ)) (lines : ℕ → List (List ℕ)) (n : ℕ) → IsLeft old old (text_of (lines_below lines n)) (text_from lines 0 n)
unfolding text_from
put_none old lines n = let all : n - 0 ≡ n = omega arith in IsLeft-all old _ _ (rw all refl)

module _ (old now : Option (List ℕ)) (lines : ℕ → List (List ℕ)) (n : ℕ) where
  -- then those of one number less
  pub put_next : (later : Option (List ℕ)) (i : ℕ) → i < n → IsLeft old now (text_of (lines_below lines n)) (text_from lines i n) → later ≡ put_to now (text_of (lines i))
      → IsLeft old later (text_of (lines_below lines n)) (text_from lines (i + 1) n)
  put_next later i low left put =
      IsLeft-next old now later _ (text_of (lines i)) (text_from lines (i + 1) n) (subst (λ (rest : List ℕ). IsLeft old now (text_of (lines_below lines n)) rest) (text_from-next lines i n low) left) put

  -- or a part of those of one number was put
  pub put_part : (later : Option (List ℕ)) (i : ℕ) → i < n → IsLeft old now (text_of (lines_below lines n)) (text_from lines i n) → IsPart now later (text_of (lines i))
      → IsPart old later (text_of (lines_below lines n))
  put_part later i low left part =
      IsLeft-next_part old now later _ (text_of (lines i)) (text_from lines (i + 1) n) (subst (λ (rest : List ℕ). IsLeft old now (text_of (lines_below lines n)) rest) (text_from-next lines i n low) left) part

  -- at last all were put
  pub put_all : (i : ℕ) → n ≤ i → IsLeft old now (text_of (lines_below lines n)) (text_from lines i n) → now ≡ put_to old (text_of (lines_below lines n))
  put_all i all left = IsLeft-none old now _ (subst (λ (rest : List ℕ). IsLeft old now (text_of (lines_below lines n)) rest) (text_from-none lines i n all) left)

-- a text that was put is one that is equal to it
pub puts_same : {T E : Type 0} (result : Result T E) (old new : Option (List ℕ)) (a b : List (List ℕ)) → a ≡ b → Puts result old new (text_of a) → Puts result old new (text_of b)
puts_same result old new a b is puts = subst (λ (lines : List (List ℕ)). Puts result old new (text_of lines)) is puts
