-- Laws of texts that are written one after another.
use Rattle.std.proofs.Common.{◌≡◌, ℕ, List, [], ◌++◌, Option, None, Some, refl, ap, sym, ◌∙◌, append_assoc, append-nil}
use Rattle.outer_world.specs.Written.{put_to, IsPart}

-- an empty text changes nothing
pub put_nothing : (old : Option (List ℕ)) → put_to old [] ≡ old
unfolding put_to
put_nothing None = refl
put_nothing (Some held) = ap Some (append-nil held)

-- two texts one after the other are one text
pub put_twice : (old : Option (List ℕ)) (a b : List ℕ) → put_to (put_to old a) b ≡ put_to old (a ++ b)
unfolding put_to
put_twice None a b = refl
put_twice (Some held) a b = ap Some (append_assoc held a b)

-- nothing is a part of each text
pub nothing_is_part : (old : Option (List ℕ)) (text : List ℕ) → IsPart old old text
unfolding IsPart
nothing_is_part old text = ([], text, refl, sym (put_nothing old))

-- all of a text is a part of it
pub all_is_part : (old : Option (List ℕ)) (text : List ℕ) → IsPart old (put_to old text) text
unfolding IsPart
all_is_part old text = (text, [], append-nil text, refl)

-- a part of a text is a part of each text that begins with it
pub part_of_first : (old new : Option (List ℕ)) (a b : List ℕ) → IsPart old new a → IsPart old new (a ++ b)
unfolding IsPart
part_of_first old new a b part =
    (part.0, part.1 ++ b, sym (append_assoc part.0 part.1 b) ∙ ap (λ text. text ++ b) part.2, part.3)

-- a part of the second text, behind the whole first one, is a part of both together
pub part_of_second : (old new : Option (List ℕ)) (a b : List ℕ) → IsPart (put_to old a) new b → IsPart old new (a ++ b)
unfolding IsPart
part_of_second old new a b part =
    (a ++ part.0, part.1, append_assoc a part.0 part.1 ∙ ap (λ text. a ++ text) part.2, part.3 ∙ put_twice old a part.0)

-- all these laws, for an attribute `using`
pub ruleset written = (put_nothing, put_twice, nothing_is_part, all_is_part, part_of_first, part_of_second)
