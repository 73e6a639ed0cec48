-- What becomes of tokens is the same by the parts owed and by the tokens alone.
use Rattle.std.proofs.Common.{◌≡◌, ◌∙◌, ap, refl, if◌then◌else◌, List, [], ◌∷◌, ◌++◌, Option, Some, None, append-nil}
use Rattle.thread_tree.specs.declared.token.Placed.{Placed}
use Rattle.thread_tree.specs.declared.token.Token.{Token}
use Rattle.thread_tree.specs.Grammar.{turn, advance, declared}
use Rattle.thread_tree.specs.Parts.{Part}
use Rattle.thread_text.specs.Bounds.{Counts, counted}
use Rattle.thread_text.specs.Fate.{Fate, StuckAt, LongAt, Step, Goes, Stuck, Long, judged, step, fate}
use Rattle.thread_text.specs.Verdict.{none_counted}
use Rattle.text_bounds.specs.Tally.{Tally, told, within, tallied, none_tallied}
use Rattle.text_bounds.proofs.Agreement.{need_of, ends, stands, fits, Agrees, plain, type_name, type_open, type_field, type_more, Kept, none, on, past, agrees_within, halves}
use Rattle.text_bounds.proofs.Rows.{row}
use Rattle.text_bounds.proofs.Types.{name_row, open_row, field_row, more_row, first_row}

-- a token where a part is owed, and where none is
part_row : (part : Part) (ps : List Part) (t : Token) (c : Counts) (s : Tally) → Agrees (part ∷ ps) c s → Kept ps (told t s) (turn part t) (counted part t c)
part_row part ps t c s (plain f h l) = let a = halves (stands part) _ f in let b = halves (ends part (need_of ps)) (fits ps) a.1 in row part t ps c s a.0 b.0 b.1 l h
part_row part ps t c s (type_name l) = name_row t c s l
part_row part ps t c s (type_open l) = open_row t c s l
part_row part ps t c s (type_field l) = field_row t c s l
part_row part ps t c s (type_more l) = more_row t c s l

none_row : (t : Token) (c : Counts) (s : Tally) → Agrees [] c s → Kept [] (told t s) (declared t) (Some c)
none_row t c s (plain f h l) = first_row t c s l

-- that the rest of the tokens comes to the same, whatever is owed then
abbrev Rest : Tally → List Placed → Type 0
Rest s ts = (after : List Part) (c : Counts) → Agrees after c s → fate after c ts ≡ tallied after s ts

-- what a step of each comes to
abbrev by_parts : Step → Placed → List Placed → Fate
by_parts (Goes after counts) t ts = fate after counts ts
by_parts Stuck t ts = StuckAt (t ∷ ts)
by_parts Long t ts = LongAt (t ∷ ts)

abbrev pub by_tokens : Option (List Part) → Tally → Placed → List Placed → Fate
by_tokens (Some after) s t ts = if within s then tallied after s ts else LongAt (t ∷ ts)
by_tokens None s t ts = StuckAt (t ∷ ts)

-- what is owed when a part turned into these
abbrev behind : Option (List Part) → List Part → Option (List Part)
behind (Some first) ps = Some (first ++ ps)
behind None ps = None

-- where a token is kept and the rest comes to the same, all does
joined : (ps : List Part) (s : Tally) (found : Option (List Part)) (o : Option Counts) (t : Placed) (ts : List Placed) → Kept ps s found o → Rest s ts → by_parts (judged found o ps) t ts ≡ by_tokens (behind found ps) s t ts
unfolding judged
joined ps s found o t ts none rest = refl
joined ps s found o t ts (on {first = first} {c = c} a) rest = rw (agrees_within a) (rest (first ++ ps) c a)
joined ps s found o t ts (past w) rest = rw w refl

joined_first : (s : Tally) (found : Option (List Part)) (c : Counts) (t : Placed) (ts : List Placed) → Kept [] s found (Some c) → Rest s ts → by_parts (judged found (Some c) []) t ts ≡ by_tokens found s t ts
unfolding judged
joined_first s found c t ts none rest = refl
joined_first s found c t ts (on {first = first} a) rest = rw (agrees_within a) (rest (first ++ []) c a ∙ ap (λ l. tallied l s ts) (append-nil first))

-- both are what `fate` and `tallied` make of a token
steps_parts : (s : Step) (t : Placed) (ts : List Placed) → (elim s [ Goes after counts ↦ fate after counts ts | Stuck ↦ StuckAt (t ∷ ts) | Long ↦ LongAt (t ∷ ts) ]) ≡ by_parts s t ts
steps_parts (Goes after counts) t ts = refl
steps_parts Stuck t ts = refl
steps_parts Long t ts = refl

pub steps_tokens : (found : Option (List Part)) (s : Tally) (t : Placed) (ts : List Placed) → by_tokens found s t ts ≡ (elim found [ Some after ↦ if within s then tallied after s ts else LongAt (t ∷ ts) | None ↦ StuckAt (t ∷ ts) ])
steps_tokens (Some after) s t ts = refl
steps_tokens None s t ts = refl

advanced : (part : Part) (ps : List Part) (t : Token) → behind (turn part t) ps ≡ advance (part ∷ ps) t
unfolding advance
advanced part ps t = go (turn part t) where
  go : (found : Option (List Part)) → behind found ps ≡ (elim found as (λ x. Option (List Part)) [ Some first ↦ Some (first ++ ps) | None ↦ None ])
  go (Some first) = refl
  go None = refl

fate_none : (c : Counts) (t : Placed) (ts : List Placed) → fate [] c (t ∷ ts) ≡ by_parts (judged (declared t.token) (Some c) []) t ts
unfolding fate step advance
fate_none c t ts = steps_parts (judged (declared t.token) (Some c) []) t ts

fate_part : (part : Part) (ps : List Part) (c : Counts) (t : Placed) (ts : List Placed) → fate (part ∷ ps) c (t ∷ ts) ≡ by_parts (judged (turn part t.token) (counted part t.token c) ps) t ts
unfolding fate step
fate_part part ps c t ts = steps_parts (judged (turn part t.token) (counted part t.token c) ps) t ts

tallied_none : (s : Tally) (t : Placed) (ts : List Placed) → by_tokens (declared t.token) (told t.token s) t ts ≡ tallied [] s (t ∷ ts)
unfolding tallied advance
tallied_none s t ts = steps_tokens (declared t.token) (told t.token s) t ts

tallied_part : (part : Part) (ps : List Part) (s : Tally) (t : Placed) (ts : List Placed) → by_tokens (behind (turn part t.token) ps) (told t.token s) t ts ≡ tallied (part ∷ ps) s (t ∷ ts)
unfolding tallied
tallied_part part ps s t ts = ap (λ found. by_tokens found (told t.token s) t ts) (advanced part ps t.token) ∙ steps_tokens (advance (part ∷ ps) t.token) (told t.token s) t ts

-- from wherever the counts and the tally agree
same_from : (parts : List Part) (c : Counts) (s : Tally) (tokens : List Placed) → Agrees parts c s → fate parts c tokens ≡ tallied parts s tokens
unfolding fate tallied
same_from [] c s [] a = refl
same_from (part ∷ ps) c s [] a = refl
same_from [] c s (t ∷ ts) a =
    fate_none c t ts ∙ (joined_first (told t.token s) (declared t.token) c t ts (none_row t.token c s a) (λ after counts k. same_from after counts (told t.token s) ts k) ∙ tallied_none s t ts)
same_from (part ∷ ps) c s (t ∷ ts) a =
    fate_part part ps c t ts ∙ (joined ps (told t.token s) (turn part t.token) (counted part t.token c) t ts (part_row part ps t.token c s a) (λ after counts k. same_from after counts (told t.token s) ts k) ∙ tallied_part part ps s t ts)

pub same : (tokens : List Placed) → fate [] none_counted tokens ≡ tallied [] none_tallied tokens
same tokens = same_from [] none_counted none_tallied tokens (plain refl tt (record { same_blocks = refl; few_operators = refl; few_parentheses = refl; few_blocks = refl; type_declared = refl }))
