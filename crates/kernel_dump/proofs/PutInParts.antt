-- A text that is put into a sink part by part.
use Rattle.std.proofs.Common.{◌≡◌, ℕ, List, [], ◌∷◌, ◌++◌, Option, sym, ap, subst, ◌∙◌, append_assoc, append-nil}
use Rattle.outer_world.specs.Written.{put_to, IsPart}
use Rattle.outer_world.proofs.Callers.{put_nothing, put_twice, part_of_first, part_of_second}
use Rattle.kernel_model.specs.Dump.{text_of}
use Rattle.kernel_model.proofs.Callers.{text_of-append}

-- a text was put but for this rest
pub record IsLeft (old now : Option (List ℕ)) (text rest : List ℕ) : Type 0 where
  pub done : List ℕ
  pub whole : done ++ rest ≡ text
  pub held : now ≡ put_to old done

-- at first all of it is left
pub IsLeft-all : (old : Option (List ℕ)) (text all : List ℕ) → all ≡ text → IsLeft old old text all
IsLeft-all old text all is = record { done = []; whole = is; held = sym (put_nothing old) }

-- a part more is put
pub IsLeft-next : (old now later : Option (List ℕ)) (text part rest : List ℕ) → IsLeft old now text (part ++ rest)
    → later ≡ put_to now part → IsLeft old later text rest
IsLeft-next old now later text part rest left put = record {
  done = left.done ++ part;
  whole = append_assoc left.done part rest ∙ left.whole;
  held = put ∙ ap (λ (held : Option (List ℕ)). put_to held part) left.held ∙ put_twice old left.done part;
}

-- a part of what is left is put
pub IsLeft-part : (old now later : Option (List ℕ)) (text rest : List ℕ) → IsLeft old now text rest → IsPart now later rest → IsPart old later text
IsLeft-part old now later text rest left put =
    subst (λ (all : List ℕ). IsPart old later all) left.whole
    (part_of_second old later left.done rest (subst (λ (held : Option (List ℕ)). IsPart held later rest) left.held put))

-- a part of the part that comes next is put
pub IsLeft-next_part : (old now later : Option (List ℕ)) (text part rest : List ℕ) → IsLeft old now text (part ++ rest)
    → IsPart now later part → IsPart old later text
IsLeft-next_part old now later text part rest left put =
    IsLeft-part old now later text (part ++ rest) left (part_of_first now later part rest put)

-- nothing of it is left
pub IsLeft-none : (old now : Option (List ℕ)) (text : List ℕ) → IsLeft old now text [] → now ≡ put_to old text
IsLeft-none old now text left = left.held ∙ ap (put_to old) (sym (append-nil left.done) ∙ left.whole)

-- all that is left is put
pub IsLeft-last : (old now later : Option (List ℕ)) (text rest : List ℕ) → IsLeft old now text rest → later ≡ put_to now rest → later ≡ put_to old text
IsLeft-last old now later text rest left put =
    put ∙ ap (λ (held : Option (List ℕ)). put_to held rest) left.held ∙ put_twice old left.done rest ∙ ap (put_to old) left.whole

-- of lines that are left the first one comes next
pub IsLeft-line : (old now : Option (List ℕ)) (text line : List ℕ) (lines all : List (List ℕ)) → all ≡ line ∷ lines
    → IsLeft old now text (text_of all) → IsLeft old now text (text_of (line ∷ []) ++ text_of lines)
IsLeft-line old now text line lines all is left =
    subst (λ (rest : List ℕ). IsLeft old now text rest) (ap text_of is ∙ text_of-append (line ∷ []) lines) left

-- a part of the first line is a part of all lines
pub part_of_line : (old now : Option (List ℕ)) (line : List ℕ) (lines : List (List ℕ))
    → IsPart old now (text_of (line ∷ [])) → IsPart old now (text_of (line ∷ lines))
part_of_line old now line lines part =
    subst (λ (text : List ℕ). IsPart old now text) (sym (text_of-append (line ∷ []) lines)) (part_of_first old now _ (text_of lines) part)

-- the first line was put, and then the lines behind it
module _ (old now later : Option (List ℕ)) (line : List ℕ) (lines : List (List ℕ)) (put : now ≡ put_to old (text_of (line ∷ []))) where
  -- in part
  pub part_of_lines : IsPart now later (text_of lines) → IsPart old later (text_of (line ∷ lines))
  part_of_lines part =
      subst (λ (text : List ℕ). IsPart old later text) (sym (text_of-append (line ∷ []) lines))
      (part_of_second old later _ (text_of lines) (subst (λ (held : Option (List ℕ)). IsPart held later (text_of lines)) put part))

  -- whole
  pub put_lines : later ≡ put_to now (text_of lines) → later ≡ put_to old (text_of (line ∷ lines))
  put_lines more =
      more ∙ ap (λ (held : Option (List ℕ)). put_to held (text_of lines)) put
      ∙ put_twice old _ (text_of lines) ∙ ap (put_to old) (sym (text_of-append (line ∷ []) lines))

-- these laws, for an attribute `using`
pub ruleset parts = (part_of_line, part_of_lines, put_lines)
