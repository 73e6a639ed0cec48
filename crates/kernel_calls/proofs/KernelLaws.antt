-- What the calls of lists and the results make of a kernel.
use Rattle.std.proofs.Common.{◌≡◌, ℕ, zero, suc, ◌+◌, List, [], ◌∷◌, Option, Some, None, refl, sym, ap, ◌∙◌}
use Rattle.std.proofs.lemmas.List.{set-set}
use Rattle.std.specs.Prelude.{slice_set, slice_index_or}
use Rattle.thread_tree.specs.Program.{Program}
use Rattle.kernel_model.specs.declared.wait.Wait.{Wait}
use Rattle.kernel_model.specs.Kernel as kernel
use Rattle.kernel_model.specs.Kernel.{Activity, State, Thread, live_in, row_of, row_with, thread_of, with_row, changed, behind, stamped}
use Rattle.kernel_model.specs.Kernel.Activity.{Delayed, Waiting}
use Rattle.kernel_model.specs.Kernel.Row.{Free, Ended, Live}
use Rattle.kernel_model.specs.Serve.{Fate, settle, served, stopped}
use Rattle.kernel_model.specs.Serve.Fate.{Serves, ServesBack, Sleeps, Blocks, Enters, Stops, Goes}
use Rattle.ready_delay_lists.specs.Lists.{stands_behind, stands_timed}
use Rattle.kernel_calls.specs.Calling.{results_of, but_served}

-- the row of a live thread
pub live_row : (r : kernel.Row) (thread : Thread) → live_in r ≡ Some thread → r ≡ Live thread
live_row Free thread e = absurd (let f : ◌≡◌ {A = Option Thread} None (Some thread) = e in cc)
live_row (Ended template priority code) thread e = absurd (let f : ◌≡◌ {A = Option Thread} None (Some thread) = e in cc)
live_row (Live own) thread e =
    let f : ◌≡◌ {A = Option Thread} (Some own) (Some thread) = e in
    let same : own ≡ thread = cc in
    ap Live same

-- a thread that changes where it lives
pub changed-lives : (K : State) (t : ℕ) (thread : Thread) (change : Thread → Thread) → thread_of K t ≡ Some thread → changed K t change ≡ with_row K t (Live (change thread))
changed-lives K t thread change lives = ap (λ (r : kernel.Row). with_row K t (row_with change r)) (live_row (row_of K t) thread lives)

pub behind-lives : (K : State) (t : ℕ) (thread : Thread) (change : Thread → Thread) → thread_of K t ≡ Some thread → behind K t change ≡ record (with_row K t (Live (stamped K.stamp (change thread)))) { stamp = K.stamp + 1 }
behind-lives K t thread change lives =
    ap (λ (L : State). record L { stamp = K.stamp + 1 }) (changed-lives K t thread (λ other. stamped K.stamp (change other)) lives)

-- a thread that was taken out of its lists and is put into others
pub stands-again : (K : State) (t : ℕ) (thread : Thread) (activity : Activity) → stands_behind (with_row K t Free) t thread activity ≡ stands_behind K t thread activity
stands-again K t thread activity =
    ap (λ (rows : List kernel.Row). record K { rows = rows; stamp = K.stamp + 1 }) (set-set K.rows t Free (Live (record thread { activity = activity; stamp = K.stamp })))

pub stands-timed_again : (K : State) (t : ℕ) (thread : Thread) (wake : ℕ) → stands_timed (with_row K t Free) t thread wake ≡ stands_timed K t thread wake
stands-timed_again K t thread wake =
    ap (λ (rows : List kernel.Row). record K { rows = rows }) (set-set K.rows t Free (Live (record thread { activity = Delayed wake })))

-- a thread that blocks, and one that sleeps
pub blocks-lives : (p : Program) (K : State) (t : ℕ) (thread : Thread) (wait : Wait) → thread_of K t ≡ Some thread → stands_behind K t thread (Waiting wait) ≡ settle p t (Blocks wait) K
blocks-lives p K t thread wait lives = sym (behind-lives K t thread (λ other. record other { activity = Waiting wait }) lives)

pub sleeps-lives : (p : Program) (K : State) (t : ℕ) (thread : Thread) (wake : ℕ) → thread_of K t ≡ Some thread → stands_timed K t thread wake ≡ settle p t (Sleeps wake) K
sleeps-lives p K t thread wake lives = sym (changed-lives K t thread (λ other. record other { activity = Delayed wake }) lives)

-- one change of a row after another
twice : (rows : List kernel.Row) (t : ℕ) (f g : kernel.Row → kernel.Row) → slice_set (slice_set rows t (f (slice_index_or rows t Free))) t (g (slice_index_or (slice_set rows t (f (slice_index_or rows t Free))) t Free)) ≡ slice_set rows t (g (f (slice_index_or rows t Free)))
twice [] t f g = refl
twice (r ∷ rows) zero f g = refl
twice (r ∷ rows) (suc t) f g = ap (λ (rest : List kernel.Row). r ∷ rest) (twice rows t f g)

row_with-twice : (f g : Thread → Thread) (r : kernel.Row) → row_with g (row_with f r) ≡ row_with (λ thread. g (f thread)) r
row_with-twice f g Free = refl
row_with-twice f g (Ended template priority code) = refl
row_with-twice f g (Live thread) = refl

-- the results of an action at last: then all of its fate is there
pub served-settles : (p : Program) (t : ℕ) (fate : Fate) (K : State) (results : List ℕ) → results_of fate ≡ Some results → changed (but_served p t fate K) t (served p results) ≡ settle p t fate K
served-settles p t (Serves own) K results e =
    let f : ◌≡◌ {A = Option (List ℕ)} (Some own) (Some results) = e in
    let same : own ≡ results = cc in
    ap (λ (rs : List ℕ). changed K t (served p rs)) (sym same)
served-settles p t (ServesBack own) K results e =
    let f : ◌≡◌ {A = Option (List ℕ)} (Some own) (Some results) = e in
    let same : own ≡ results = cc in
    let both = twice K.rows t (row_with (stamped K.stamp)) (row_with (served p results)) in
    let one = ap (slice_set K.rows t) (row_with-twice (stamped K.stamp) (served p results) (row_of K t)) in
    ap (λ (rows : List kernel.Row). record K { rows = rows; stamp = K.stamp + 1 }) (both ∙ one)
    ∙ ap (λ (rs : List ℕ). behind K t (served p rs)) (sym same)
served-settles p t (Sleeps wake) K results e = absurd (let f : ◌≡◌ {A = Option (List ℕ)} None (Some results) = e in cc)
served-settles p t (Blocks wait) K results e = absurd (let f : ◌≡◌ {A = Option (List ℕ)} None (Some results) = e in cc)
served-settles p t Enters K results e = absurd (let f : ◌≡◌ {A = Option (List ℕ)} None (Some results) = e in cc)
served-settles p t (Stops code) K results e = absurd (let f : ◌≡◌ {A = Option (List ℕ)} None (Some results) = e in cc)
served-settles p t Goes K results e = absurd (let f : ◌≡◌ {A = Option (List ℕ)} None (Some results) = e in cc)

-- an end forgets what the thread last did
pub stops-changed : (p : Program) (t code : ℕ) (change : Thread → Thread) (K : State) → ((thread : Thread) → (change thread).template ≡ thread.template) → ((thread : Thread) → (change thread).priority ≡ thread.priority) → settle p t (Stops code) (changed K t change) ≡ settle p t (Stops code) K
stops-changed p t code change K template priority =
    ap (λ (rows : List kernel.Row). record K { rows = rows }) (twice K.rows t (row_with change) (stopped code) ∙ ap (slice_set K.rows t) (forgets (row_of K t)))
  where
    forgets : (r : kernel.Row) → stopped code (row_with change r) ≡ stopped code r
    forgets Free = refl
    forgets (Ended template priority before) = refl
    forgets (Live thread) = let a = template thread in let b = priority thread in λ i. Ended (a i) (b i) code
