-- Tokens are too long just where one of them is the first to pass a bound.
use Rattle.std.proofs.Common.{◌≡◌, ◌∙◌, sym, ap, refl, Bool, true, false, if◌then◌else◌, List, [], ◌∷◌, ◌++◌, Option, Some, None}
use Rattle.std.proofs.lemmas.Option.{same_Some}
use Rattle.thread_tree.specs.declared.token.Placed.{Placed}
use Rattle.thread_tree.specs.Grammar.{advance}
use Rattle.thread_tree.specs.Parts.{Part}
use Rattle.grammar_laws.specs.Open.{bare, owed}
use Rattle.grammar_laws.proofs.Callers.{left}
use Rattle.thread_text.specs.Fate.{LongAt, fate}
use Rattle.thread_text.specs.Verdict.{none_counted}
use Rattle.text_bounds.specs.Tally.{Tally, told, within, tallied, none_tallied, tally_of, PassesFirst}
use Rattle.text_bounds.proofs.Induction.{by_tokens, steps_tokens, same}

tallied_by : (parts : List Part) (s : Tally) (t : Placed) (ts : List Placed) → tallied parts s (t ∷ ts) ≡ by_tokens (advance parts t.token) (told t.token s) t ts
unfolding tallied
tallied_by [] s t ts = sym (steps_tokens (advance [] t.token) (told t.token s) t ts)
tallied_by (part ∷ ps) s t ts = sym (steps_tokens (advance (part ∷ ps) t.token) (told t.token s) t ts)

-- a token in front that keeps the bounds
kept_true : (b : Bool) (x : Option Tally) (s : Tally) → (if b then x else None) ≡ Some s → (b ≡ true) × (x ≡ Some s)
kept_true true x s h = (refl, h)
kept_true false x s h = absurd (cc)

long_from : (front : List Placed) (parts after : List Part) (s before : Tally) (t : Placed) (behind : List Placed) → owed parts (bare (front ++ t ∷ [])) ≡ Some after → tally_of front s ≡ Some before → within (told t.token before) ≡ false → tallied parts s (front ++ t ∷ behind) ≡ LongAt (t ∷ behind)
unfolding tally_of
long_from [] parts after s before t behind h k p =
    let l = left parts after t.token [] h in
    let w : within (told t.token s) ≡ false = rw (same_Some s before k) p in
    tallied_by parts s t behind ∙ rw (l.first, w) refl
long_from (u ∷ us) parts after s before t behind h k p =
    let l = left parts after u.token (bare (us ++ t ∷ [])) h in
    let e = kept_true (within (told u.token s)) (tally_of us (told u.token s)) before k in
    tallied_by parts s u (us ++ t ∷ behind) ∙ rw (l.first, e.0) (long_from us l.middle after (told u.token s) before t behind l.rest e.1 p)

pub long : (tokens behind : List Placed) (t : Placed) → PassesFirst [] none_tallied tokens t behind → fate [] none_counted tokens ≡ LongAt (t ∷ behind)
long tokens behind t p = same tokens ∙ (ap (λ l. tallied [] none_tallied l) p.whole ∙ long_from p.front [] p.after none_tallied p.before t behind p.can_stand p.in_front p.past_it)

-- a token in front of the first
one_before : (parts after : List Part) (s : Tally) (u : Placed) (us : List Placed) (t : Placed) (behind : List Placed) → advance parts u.token ≡ Some after → within (told u.token s) ≡ true → PassesFirst after (told u.token s) us t behind → PassesFirst parts s (u ∷ us) t behind
unfolding tally_of
one_before parts after s u us t behind e w p = record {
  front = u ∷ p.front;
  after = p.after;
  before = p.before;
  whole = ap (λ l. u ∷ l) p.whole;
  can_stand = rw (e, owed) p.can_stand;
  in_front = rw (w) p.in_front;
  past_it = p.past_it;
}

first_itself : (parts after : List Part) (s : Tally) (u : Placed) (us : List Placed) → advance parts u.token ≡ Some after → within (told u.token s) ≡ false → PassesFirst parts s (u ∷ us) u us
unfolding tally_of
first_itself parts after s u us e w = record { front = []; after = after; before = s; whole = refl; can_stand = rw (e, owed) refl; in_front = refl; past_it = w }

long_same : (u t : Placed) (us behind : List Placed) → LongAt (u ∷ us) ≡ LongAt (t ∷ behind) → (u ≡ t) × (us ≡ behind)
long_same u t us behind h = (cc, cc)

by_step : (parts : List Part) (s : Tally) (u : Placed) (us : List Placed) (t : Placed) (behind : List Placed) (found : Option (List Part)) (b : Bool) → advance parts u.token ≡ found → within (told u.token s) ≡ b → ((after : List Part) → tallied after (told u.token s) us ≡ LongAt (t ∷ behind) → PassesFirst after (told u.token s) us t behind) → by_tokens found (told u.token s) u us ≡ LongAt (t ∷ behind) → PassesFirst parts s (u ∷ us) t behind
by_step parts s u us t behind None b e w rest h = absurd (cc)
by_step parts s u us t behind (Some after) true e w rest h = one_before parts after s u us t behind e w (rest after (rw (w) at h))
by_step parts s u us t behind (Some after) false e w rest h =
    let k = long_same u t us behind (rw (w) at h) in
    rw (sym k.0, sym k.1) (first_itself parts after s u us e w)

only_from : (tokens : List Placed) (parts : List Part) (s : Tally) (t : Placed) (behind : List Placed) → tallied parts s tokens ≡ LongAt (t ∷ behind) → PassesFirst parts s tokens t behind
unfolding tallied
only_from [] [] s t behind h = absurd (cc)
only_from [] (part ∷ ps) s t behind h = absurd (cc)
only_from (u ∷ us) parts s t behind h = by_step parts s u us t behind (advance parts u.token) (within (told u.token s)) refl refl (λ after k. only_from us after (told u.token s) t behind k) (sym (tallied_by parts s u us) ∙ h)

pub only : (tokens behind : List Placed) (t : Placed) → fate [] none_counted tokens ≡ LongAt (t ∷ behind) → PassesFirst [] none_tallied tokens t behind
only tokens behind t h = only_from tokens [] none_tallied t behind (sym (same tokens) ∙ h)
