-- The kernels of a course, event after event.
use Rattle.std.proofs.Common.{◌≡◌, ℕ, ◌+◌, ◌-◌, ◌<◌, ◌≤◌, List, [], length, take, drop, get_or, slice_get, Option, Some, None, inl, inr, refl, sym, subst, ap, ◌∙◌, arith}
use Rattle.std.proofs.lemmas.List.{length-take-le, length-drop, get_or-drop}
use Rattle.std.proofs.lemmas.List.Elements.{All-get_or}
use Rattle.std.proofs.lemmas.List.Sums.{fold_more}
use Rattle.std.proofs.lemmas.Option.{slice_get_within, slice_get_cases, get_or_from_slice_get, none-some}
use Rattle.undo_journal.specs.Undo.{IsAtRest}
use Rattle.thread_tree.specs.Program.{Program}
use Rattle.thread_machine.specs.declared.context.Ctx.{Ctx}
use Rattle.kernel_model.specs.declared.event.Event.{Event}
use Rattle.kernel_model.specs.declared.event.Event.TheVariants.{Step}
use Rattle.kernel_model.specs.Kernel.{State}
use Rattle.kernel_model.specs.Run.{after, initial, on, one}
use Rattle.kernel_image.specs.Decoded.{Decoded, image_in}
use Rattle.replay_list.specs.Kept.{IsKept, counter_of}
use Rattle.replay_list.specs.Stands.{Stands, KernelStands}
use Rattle.kernel_boots.specs.Courses.{Course, course, from_start, uncut, last, IsUnderWay, IsLive, AreSteps}

-- the laws of the kernels of a run, and of words that are kept for one
abbrev pub RunCounted : Type 0
RunCounted = (p : Program) (events : List Event) (K : State) → (on p K events).events ≡ K.events + length events

abbrev pub Counted : Type 0
Counted = (p : Program) (K : State) (event : Event) → (one p K event).events ≡ K.events + 1

abbrev pub KeptAtRest : Type 0
KeptAtRest = (p : Program) (words : List ℕ) (K : State) → IsAtRest words → Stands p (image_in words) K → IsKept p words K

abbrev pub KeptEvents : Type 0
KeptEvents = (p : Program) (words : List ℕ) (K : State) → IsKept p words K → counter_of words ≡ K.events

pub starts-at : (p : Program) → (initial p).events ≡ 0
unfolding initial
starts-at p = refl

-- no event changes nothing
on-none : (p : Program) (K : State) → on p K [] ≡ K
unfolding on
on-none p K = refl

-- one event more
on-more : (p : Program) (K : State) (events : List Event) (k : ℕ) (event : Event) → k < length events → on p K (take (k + 1) events) ≡ one p (on p K (take k events)) (get_or events k event)
unfolding on
on-more p K events k event within = fold_more (one p) K events k event within

-- the kernel of a course at its beginning
pub uncut-first : (c : Course) → uncut c c.start.events ≡ c.start
uncut-first c =
    let none : c.start.events - c.start.events ≡ 0 = omega arith in
    ap (λ (n : ℕ). on c.program c.start (take n (drop c.start.events c.events))) none ∙ on-none c.program c.start

pub uncut-next : (c : Course) (n : ℕ) (event : Event) → c.start.events ≤ n → slice_get c.events n ≡ Some event → uncut c (n + 1) ≡ one c.program (uncut c n) event
uncut-next c n event began is =
    let s = c.start.events in
    let behind = drop s c.events in
    let on_by_one : n + 1 - s ≡ (n - s) + 1 = omega (arith, began) in
    let within : n - s < length behind = omega (arith, began, slice_get_within c.events n event is, length-drop s c.events) in
    let back : s + (n - s) ≡ n = omega (arith, began) in
    ap (λ (k : ℕ). on c.program c.start (take k behind)) on_by_one
    ∙ on-more c.program c.start behind (n - s) event within
    ∙ ap (one c.program (uncut c n)) (get_or-drop s c.events (n - s) event ∙ ap (λ (k : ℕ). get_or c.events k event) back ∙ get_or_from_slice_get c.events n event event is)

pub uncut-events : RunCounted → (c : Course) (n : ℕ) → c.start.events ≤ n → n ≤ last c → (uncut c n).events ≡ n
uncut-events counted c n began within =
    let s = c.start.events in
    let taken : length (take (n - s) (drop s c.events)) ≡ n - s = length-take-le (n - s) (drop s c.events) (omega (arith, length-drop s c.events, within, began)) in
    omega (arith, counted c.program (take (n - s) (drop s c.events)) c.start, taken, began)

-- from the start, the kernels are those of the uncut run
pub uncut-start : (p : Program) (events : List Event) (n : ℕ) → uncut (from_start p events) n ≡ after p events n
uncut-start p events n =
    let all : n - 0 ≡ n = omega arith in
    ap (λ (s : ℕ). on p (initial p) (take (n - s) (drop s events))) (starts-at p) ∙ ap (λ (k : ℕ). on p (initial p) (take k events)) all

pub last-start : (p : Program) (events : List Event) → last (from_start p events) ≡ length events
last-start p events = omega (arith, starts-at p)

-- where there is no event, all are behind
pub past-unless : (events : List Event) (n : ℕ) → slice_get events n ≡ None → length events ≤ n
past-unless events n none = elim (slice_get_cases events n).1 [
  | inl some ↦ absurd (none-some some.0 (sym none ∙ some.2))
  | inr past ↦ past.0
]

-- what a world told of its events, which stay the same
pub told : (events now : List Event) (n : ℕ) (one more : Option Event) → one ≡ slice_get now n → now ≡ events → one ≡ more → slice_get events n ≡ more
told events now n one more is same was = ap (λ (these : List Event). slice_get these n) (sym same) ∙ sym is ∙ was

-- each of the events is a step
pub is-step : (events : List Event) (n : ℕ) (event : Event) → AreSteps events → slice_get events n ≡ Some event → event ≡ Step
is-step events n event steps is =
    subst (λ (e : Event). e ≡ Step) (get_or_from_slice_get events n event event is) (All-get_or (λ e. e ≡ Step) events n event (slice_get_within events n event is) steps)

-- words that are kept for a kernel are under way on each course from it
pub kept-under_way : KeptEvents → (p : Program) (K : State) (events : List Event) (words : List ℕ) → IsKept p words K → IsUnderWay (course p K events) words
kept-under_way kept_events p K events words kept =
    let c = course p K events in
    let count : counter_of words ≡ K.events = kept_events p words K kept in
    record {
      kept = subst (λ (n : ℕ). IsKept p words (uncut c n)) (sym count) (subst (IsKept p words) (sym (uncut-first c)) kept);
      began = omega (arith, count);
      within = omega (arith, count);
    }

module _ (run_counted : RunCounted) (c : Course) where
  -- a live kernel counts what its image does
  pub live-counts : (d : Decoded) (contexts : List (Option Ctx)) → IsLive c d contexts → (uncut c d.events).events ≡ d.events
  live-counts d contexts live = uncut-events run_counted c d.events live.began live.within

  -- the next event is counted
  pub next-counts : Counted → (d e : Decoded) (old new : List (Option Ctx)) (event : Event) → IsLive c d old → KernelStands c.program e new (one c.program (uncut c d.events) event) → e.events ≡ d.events + 1
  next-counts counted d e old new event live stands =
      stands.image.events ∙ counted c.program (uncut c d.events) event ∙ ap (λ (n : ℕ). n + 1) (live-counts d old live)

  -- and keeps a kernel live
  pub next-live : Counted → (d e : Decoded) (old new : List (Option Ctx)) (event : Event) → IsLive c d old → slice_get c.events d.events ≡ Some event
      → KernelStands c.program e new (one c.program (uncut c d.events) event) → IsLive c e new
  next-live counted d e old new event live is stands =
      let count = next-counts counted d e old new event live stands in
      let less = slice_get_within c.events d.events event is in
      record {
        stands = subst (λ (n : ℕ). KernelStands c.program e new (uncut c n)) (sym count)
            (subst (KernelStands c.program e new) (sym (uncut-next c d.events event live.began is)) stands);
        began = omega (arith, count, live.began);
        within = omega (arith, count, less);
      }

  -- words that are kept for the kernel of a live image are under way, and count what the image does
  pub kept-counts : KeptEvents → (words : List ℕ) (d : Decoded) (contexts : List (Option Ctx)) → IsLive c d contexts → IsKept c.program words (uncut c d.events) → counter_of words ≡ d.events
  kept-counts kept_events words d contexts live kept = kept_events c.program words (uncut c d.events) kept ∙ live-counts d contexts live

  pub kept-goes_on : KeptEvents → (words : List ℕ) (d : Decoded) (contexts : List (Option Ctx)) → IsLive c d contexts → IsKept c.program words (uncut c d.events) → IsUnderWay c words
  kept-goes_on kept_events words d contexts live kept =
      let count = kept-counts kept_events words d contexts live kept in
      record {
        kept = subst (λ (n : ℕ). IsKept c.program words (uncut c n)) (sym count) kept;
        began = omega (arith, count, live.began);
        within = omega (arith, count, live.within);
      }

  -- words at rest of a live kernel are under way, and count what the image does
  pub rest-counts : KeptAtRest → KeptEvents → (words : List ℕ) (contexts : List (Option Ctx)) → IsAtRest words → IsLive c (image_in words) contexts → counter_of words ≡ (image_in words).events
  rest-counts kept kept_events words contexts at_rest live = kept-counts kept_events words (image_in words) contexts live (kept c.program words _ at_rest live.stands.image)

  pub rest-under_way : KeptAtRest → KeptEvents → (words : List ℕ) (contexts : List (Option Ctx)) → IsAtRest words → IsLive c (image_in words) contexts → IsUnderWay c words
  rest-under_way kept kept_events words contexts at_rest live = kept-goes_on kept_events words (image_in words) contexts live (kept c.program words _ at_rest live.stands.image)

  -- a kernel that stands where the words are under way is live, and counts what they do
  pub recovered-counts : (words : List ℕ) (d : Decoded) (contexts : List (Option Ctx)) → IsUnderWay c words → KernelStands c.program d contexts (uncut c (counter_of words)) → d.events ≡ counter_of words
  recovered-counts words d contexts under_way stands = stands.image.events ∙ uncut-events run_counted c (counter_of words) under_way.began under_way.within

  pub recovered-live : (words : List ℕ) (d : Decoded) (contexts : List (Option Ctx)) → IsUnderWay c words → KernelStands c.program d contexts (uncut c (counter_of words)) → IsLive c d contexts
  recovered-live words d contexts under_way stands =
      let count = recovered-counts words d contexts under_way stands in
      record {
        stands = subst (λ (n : ℕ). KernelStands c.program d contexts (uncut c n)) (sym count) stands;
        began = omega (arith, count, under_way.began);
        within = omega (arith, count, under_way.within);
      }

  -- words that a recovery left, which was cut, are under way as before
  pub lost-counts : KeptEvents → (before left : List ℕ) → IsUnderWay c before → IsKept c.program left (uncut c (counter_of before)) → counter_of left ≡ counter_of before
  lost-counts kept_events before left under_way kept = kept_events c.program left (uncut c (counter_of before)) kept ∙ uncut-events run_counted c (counter_of before) under_way.began under_way.within

  pub lost-under_way : KeptEvents → (before left : List ℕ) → IsUnderWay c before → IsKept c.program left (uncut c (counter_of before)) → IsUnderWay c left
  lost-under_way kept_events before left under_way kept =
      let count = lost-counts kept_events before left under_way kept in
      record {
        kept = subst (λ (n : ℕ). IsKept c.program left (uncut c n)) (sym count) kept;
        began = omega (arith, count, under_way.began);
        within = omega (arith, count, under_way.within);
      }
