-- What a fault says of the grammar.
use Rattle.std.proofs.Common.{◌≡◌, sym, refl, inl, inr, List, [], ◌∷◌, ◌++◌, Result, Ok, Err, IfErr}
use Rattle.thread_tree.specs.declared.token.Placed.{Placed}
use Rattle.thread_tokens.specs.declared.ending.Ending.{Ending}
use Rattle.thread_tokens.specs.declared.ending.Ending.TheVariants as ending
use Rattle.grammar_laws.proofs.Callers.{opened, stuck_begins_none, owing_is_none}
use Rattle.thread_text.specs.Fate.{Fate, fate}
use Rattle.thread_text.specs.Refusals.{Explains}
use Rattle.thread_text.specs.Verdict.{Verdict, Fine, Faulty, none_counted, judged_by, verdict, Answers}
use Rattle.thread_text.specs.declared.fault.TextFault.{TextFault}
use Rattle.thread_text.specs.declared.fault.TextFault.TheVariants as fault
use Rattle.thread_text.proofs.Openness.{Came, all_read, used_up, stuck, long, came}

-- what a verdict says
abbrev Says : List Placed → Ending → Verdict → Type 0
Says tokens end Fine = Unit {0}
Says tokens end (Faulty f) = Explains tokens end f

-- by how far the tokens were read
said : (tokens : List Placed) (end : Ending) (f : Fate) → fate [] none_counted tokens ≡ f → Came [] tokens f → Says tokens end (judged_by f end)
said tokens (ending.End p) _ is (all_read h) = tt
said tokens (ending.BadToken p) _ is (all_read h) = record { ends = refl; is_open = opened tokens [] h }
said tokens (ending.NumberTooLarge p) _ is (all_read h) = record { ends = refl; is_open = opened tokens [] h }
said tokens (ending.TooLong p) _ is (all_read h) = inr (record { ends = refl; is_open = opened tokens [] h })
said tokens (ending.End p) _ is (used_up part rest h) =
    inr (record { ends = refl; is_open = opened tokens (part ∷ rest) h; no_program = owing_is_none tokens part rest h })
said tokens (ending.BadToken p) _ is (used_up part rest h) = record { ends = refl; is_open = opened tokens (part ∷ rest) h }
said tokens (ending.NumberTooLarge p) _ is (used_up part rest h) = record { ends = refl; is_open = opened tokens (part ∷ rest) h }
said tokens (ending.TooLong p) _ is (used_up part rest h) = inr (record { ends = refl; is_open = opened tokens (part ∷ rest) h })
said tokens end _ is (stuck front after {behind} {t} e h none) =
    inl (record { front = front; first = t; behind = behind; in_order = e; at = refl; is_open = opened front after h; refused = stuck_begins_none front t after h none })
said tokens end _ is (long front after {behind} {t} e h) =
    inl (record { front = front; first = t; behind = behind; in_order = e; at = refl; is_open = opened (front ++ t ∷ []) after h; passes = is })

explained : (tokens : List Placed) (end : Ending) (v : Verdict) → verdict tokens end ≡ v → Says tokens end v
unfolding verdict
explained tokens end v is = rw (sym is) (said tokens end (fate [] none_counted tokens) refl (came [] none_counted tokens))

-- the fault of an answer
pub answer_explained : {X : Type 0} (answer : Result X TextFault) (tokens : List Placed) (end : Ending) → Answers answer (verdict tokens end) → IfErr answer (Explains tokens end)
answer_explained (Ok x) tokens end h = tt
answer_explained (Err (fault.Expected place)) tokens end h = explained tokens end _ h
answer_explained (Err (fault.BadToken place)) tokens end h = explained tokens end _ h
answer_explained (Err (fault.NumberTooLarge place)) tokens end h = explained tokens end _ h
answer_explained (Err (fault.TooLong place)) tokens end h = explained tokens end _ h
answer_explained (Err fault.NoMemory) tokens end h = tt
