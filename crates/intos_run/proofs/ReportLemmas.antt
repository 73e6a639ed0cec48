-- The lines of the report.
use Rattle.std.proofs.Common.{◌≡◌, ℕ, List, [], ◌∷◌, ◌++◌, Option, Result, Ok, Err, sym, ◌∙◌, ap, subst, append-nil}
use Rattle.outer_world.specs.Causes.{HasCause}
use Rattle.outer_world.specs.Written.{put_to, IsPart, Puts}
use Rattle.outer_world.proofs.Callers.{all_is_part, put_twice, part_of_first, part_of_second}
use Rattle.intos_run.specs.Refusals.{Tells}

-- a line behind a text
pub put_behind : (old middle new : Option (List ℕ)) (a b : List ℕ) → middle ≡ put_to old a → new ≡ put_to middle b → new ≡ put_to old (a ++ (b ++ []))
put_behind old middle new a b first second =
    second ∙ ap (λ (o : Option (List ℕ)). put_to o b) first ∙ put_twice old a b ∙ ap (λ (text : List ℕ). put_to old (a ++ text)) (sym (append-nil b))

-- a part of a line behind a text
pub part_behind : (old middle new : Option (List ℕ)) (a b : List ℕ) → middle ≡ put_to old a → IsPart middle new b → IsPart old new (a ++ (b ++ []))
part_behind old middle new a b first part =
    part_of_second old new a (b ++ []) (part_of_first (put_to old a) new b [] (subst (λ (o : Option (List ℕ)). IsPart o new b) first part))

-- the line of a refusal
pub tells : {T E : Type 0} (r : Result T E) (line : List ℕ) (old new : Option (List ℕ)) (faults now : ℕ) → Puts r old new (line ++ 10 ∷ []) → HasCause faults now r → Tells line old new faults now
tells (Ok value) line old new faults now puts cause = record { part = subst (λ (o : Option (List ℕ)). IsPart old o (line ++ 10 ∷ [])) (sym puts) (all_is_part old (line ++ 10 ∷ [])); whole = λ _. puts }
tells (Err error) line old new faults now puts cause = record { part = puts; whole = λ calm. absurd (calm cause.failed) }
