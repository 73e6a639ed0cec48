-- The best row of an image that stands for well-formed rows is the thread that the kernel chooses.
use Rattle.std.proofs.Common.{◌≡◌, ◌≢◌, ℕ, zero, suc, ◌<◌, Bool, true, false, List, [], ◌∷◌, length, Option, Some, None, refl, sym, subst, ◌∙◌, ap, ⊎_elim, inl, inr, ◌⊎◌, arith, ltb, ◌==◌, ◌&&◌, eq-eqb, lt-ltb, true≢false}
use Rattle.std.specs.Prelude.{IfSome, slice_get, slice_index_or}
use Rattle.std.proofs.lemmas.Bool.{cases_eq, cases_lt, or_left, or_right, and_from}
use Rattle.std.proofs.lemmas.List.{get_or_past}
use Rattle.thread_tree.specs.Program.{Program}
use Rattle.kernel_model.specs.Kernel as kernel
use Rattle.kernel_model.specs.Kernel.{Activity, Thread, State, live_in, thread_of, is_ready}
use Rattle.kernel_model.specs.Kernel.Activity.{Ready, Delayed, Waiting}
use Rattle.kernel_model.specs.Kernel.Row.{Free, Ended, Live}
use Rattle.kernel_model.specs.Order.{is_more_urgent, line_of, chosen}
use Rattle.kernel_model.specs.Sound.{IsSound, IsApart, listed}
use Rattle.kernel_image.specs.Agree.{Does, IsThread, Agrees, Both}
use Rattle.kernel_image.specs.Decoded.{Decoded, RowWords, row_at, blank_row}
use Rattle.ready_delay_lists.specs.Best.{AreFormed, IsFirst, IsBest}
use Rattle.ready_delay_lists.proofs.BestLaws.{IsNotBefore, not_before}

-- the rows of a sound kernel are well formed
pub sound_formed : (p : Program) (K : State) → IsSound p K → AreFormed K.rows
sound_formed p K sound = record { sixteen = sound.rows.sixteen; apart = sound.rows.apart }

-- two lists element by element, at a place
Both-at : {X Y : Type 0} (R : X → Y → Type 0) (xs : List X) (ys : List Y) (i : ℕ) (d : X) (e : Y) → Both R xs ys → i < length ys → R (slice_index_or xs i d) (slice_index_or ys i e)
Both-at R [] [] i d e both l = absurd (omega arith)
Both-at R [] (y ∷ ys) i d e both l = absurd both
Both-at R (x ∷ xs) [] i d e both l = absurd both
Both-at R (x ∷ xs) (y ∷ ys) zero d e both l = both.0
Both-at R (x ∷ xs) (y ∷ ys) (suc i) d e both l = Both-at R xs ys i d e both.1 (omega arith)

-- a thread of a ready row
pub record IsReadyThread (row : RowWords) (krow : kernel.Row) (thread : Thread) : Type 0 where
  pub live : krow ≡ Live thread
  pub stands : IsThread row thread
  pub ready : thread.activity ≡ Ready
  pub state : row.state ≡ 1

-- a row whose thread does nothing but run
does_ready : (row : RowWords) (activity : Activity) → Does row activity → row.state ≡ 1 → activity ≡ Ready
does_ready row Ready does one = refl
does_ready row (Delayed wake) does one = absurd (omega (arith, does.0, one))
does_ready row (Waiting wait) does one = absurd (omega (arith, does.0, one))

-- the thread of a row that is ready
ready_thread : (row : RowWords) (krow : kernel.Row) → Agrees row krow → row.state ≡ 1 → (thread : Thread) × IsReadyThread row krow thread
ready_thread row Free is one = absurd (let zero_is : row.state ≡ 0 = is in omega arith)
ready_thread row (Ended template priority code) is one = absurd (omega (arith, is.state))
ready_thread row (Live thread) is one =
    (thread, record { live = refl; stands = is; ready = does_ready row thread.activity is.does one; state = one })

-- a thread that can be chosen is ready
activity_of : (thread : Thread) (activity : Activity) → thread.activity ≡ activity → is_ready thread ≡ true → activity ≡ Ready
activity_of thread Ready e ready = refl
activity_of thread (Delayed wake) e ready =
    let same : is_ready thread ≡ false = rw e refl in absurd (true≢false (sym ready ∙ same))
activity_of thread (Waiting wait) e ready =
    let same : is_ready thread ≡ false = rw e refl in absurd (true≢false (sym ready ∙ same))

live_is : (krow : kernel.Row) (thread : Thread) → live_in krow ≡ Some thread → krow ≡ Live thread
live_is Free thread e = absurd (cc)
live_is (Ended template priority code) thread e = absurd (cc)
live_is (Live own) thread e = cc

-- the row of a thread that can be chosen
ready_row : (row : RowWords) (krow : kernel.Row) (thread : Thread) → Agrees row krow → live_in krow ≡ Some thread → is_ready thread ≡ true → IsReadyThread row krow thread
ready_row row krow thread is e ready =
    let live = live_is krow thread e in
    let stands : IsThread row thread = subst (Agrees row) live is in
    let runs = activity_of thread thread.activity refl ready in
    let state : row.state ≡ 1 = subst (Does row) runs stands.does in
    record { live = live; stands = stands; ready = runs; state = state }

-- the stamps of two ready threads differ
apart_stamps : (a b : Thread) → a.activity ≡ Ready → b.activity ≡ Ready → IsApart (Live a) (Live b) → a.stamp ≢ b.stamp
apart_stamps a b first second apart =
    let half : IfSome (listed a.stamp Ready) (λ s. IfSome (listed b.stamp b.activity) (λ t. s ≢ t)) =
    subst (λ (activity : Activity). IfSome (listed a.stamp activity) (λ s. IfSome (listed b.stamp b.activity) (λ t. s ≢ t))) first apart in
    subst (λ (activity : Activity). IfSome (listed a.stamp Ready) (λ s. IfSome (listed b.stamp activity) (λ t. s ≢ t))) second half

-- the laws of who is served first
abbrev pub Passes : Type 0
Passes = (test : Thread → Bool) (K : State) (t : ℕ) → slice_get (line_of test K.rows) 0 ≡ Some t → (thread : Thread) × (thread_of K t ≡ Some thread) × (test thread ≡ true)

abbrev pub First : Type 0
First = (test : Thread → Bool) (K : State) (t : ℕ) (thread : Thread) → thread_of K t ≡ Some thread → test thread ≡ true → ((u : ℕ) (other : Thread) → thread_of K u ≡ Some other → test other ≡ true → t ≢ u → is_more_urgent (t, thread) (u, other) ≡ true) → slice_get (line_of test K.rows) 0 ≡ Some t

module _ (K : State) (d : Decoded) (formed : AreFormed K.rows) (both : Both Agrees d.rows K.rows) where
  -- a live thread has one of the sixteen rows
  within : (t : ℕ) (thread : Thread) → thread_of K t ≡ Some thread → t < 16
  within t thread e = ⊎_elim (λ l. omega (arith, formed.sixteen, l)) (λ past.
      let row = get_or_past K.rows t Free past in
      let free : live_in Free ≡ Some thread = ap live_in (sym row) ∙ e in absurd (cc)) (cases_lt t (length K.rows))

  -- its row stands for it
  agrees : (t : ℕ) → t < 16 → Agrees (row_at d t) (slice_index_or K.rows t Free)
  agrees t l = Both-at Agrees d.rows K.rows t blank_row Free both (omega (arith, formed.sixteen, l))

  ready_at : (t : ℕ) (thread : Thread) → thread_of K t ≡ Some thread → is_ready thread ≡ true → IsReadyThread (row_at d t) (slice_index_or K.rows t Free) thread
  ready_at t thread e ready = ready_row (row_at d t) (slice_index_or K.rows t Free) thread (agrees t (within t thread e)) e ready

  -- the stamps of two of them differ
  apart : (t u : ℕ) → t ≢ u → t < 16 → u < 16 → IsApart (slice_index_or K.rows t Free) (slice_index_or K.rows u Free) ⊎ IsApart (slice_index_or K.rows u Free) (slice_index_or K.rows t Free)
  apart t u ne first second = ⊎_elim
      (λ l. inl (formed.apart t u Free l (omega (arith, formed.sixteen))))
      (λ le. inr (formed.apart u t Free (let f : u ≢ t = λ e. ne (sym e) in omega arith) (omega (arith, formed.sixteen))))
      (cases_lt t u)

  stamps : (t u : ℕ) (thread other : Thread) → t ≢ u → t < 16 → u < 16 → IsReadyThread (row_at d t) (slice_index_or K.rows t Free) thread → IsReadyThread (row_at d u) (slice_index_or K.rows u Free) other → thread.stamp ≢ other.stamp
  stamps t u thread other ne first second a b = ⊎_elim
      (λ h. apart_stamps thread other a.ready b.ready (subst (λ (row : kernel.Row). IsApart (Live thread) row) b.live (subst (λ (row : kernel.Row). IsApart row (slice_index_or K.rows u Free)) a.live h)))
      (λ h e. apart_stamps other thread b.ready a.ready (subst (λ (row : kernel.Row). IsApart (Live other) row) a.live (subst (λ (row : kernel.Row). IsApart row (slice_index_or K.rows t Free)) b.live h)) (sym e))
      (apart t u ne first second)

  -- a thread of a lesser stamp, or of a greater priority
  more : (t u : ℕ) (thread other : Thread) → IsNotBefore (row_at d u) (row_at d t) → IsThread (row_at d t) thread → IsThread (row_at d u) other → thread.stamp ≢ other.stamp → is_more_urgent (t, thread) (u, other) ≡ true
  more t u thread other less a b ne = ⊎_elim
      (λ same. or_right (ltb other.priority thread.priority) (thread.priority == other.priority && ltb thread.stamp other.stamp)
      (and_from (thread.priority == other.priority) (ltb thread.stamp other.stamp) (eq-eqb thread.priority other.priority same)
      (lt-ltb thread.stamp other.stamp (let le = less.stamp (b.priority ∙ sym same ∙ sym (a.priority)) in omega (arith, le, a.stamp, b.stamp, ne)))))
      (λ differ. or_left (ltb other.priority thread.priority) (thread.priority == other.priority && ltb thread.stamp other.stamp)
      (lt-ltb other.priority thread.priority (omega (arith, less.level, a.priority, b.priority, differ))))
      (cases_eq thread.priority other.priority)

  -- the best one is the most urgent of the kernel's ready threads
  best_is : (first : First) (t : ℕ) → IsFirst d 16 t → chosen K ≡ Some t
  best_is first t h =
      let thread = ready_thread (row_at d t) (slice_index_or K.rows t Free) (agrees t h.within) h.ready in
      let own = thread.1 in
      first is_ready K t thread.0 (ap live_in own.live) (ready-is thread.0 own.ready)
      (λ u other e ready ne.
      let there = within u other e in
      let its = ready_at u other e ready in
      more t u thread.0 other (not_before d u t (h.none_before u there its.state)) own.stands its.stands (stamps t u thread.0 other ne h.within there own its))
    where
      ready-is : (thread : Thread) → thread.activity ≡ Ready → is_ready thread ≡ true
      ready-is thread e = rw e refl

  -- where no row is ready the kernel chooses none
  none_is : (passes : Passes) → ((u : ℕ) → u < 16 → (row_at d u).state ≢ 1) → chosen K ≡ None
  none_is passes none = go (chosen K) refl
    where
      go : (o : Option ℕ) → chosen K ≡ o → chosen K ≡ None
      go None e = e
      go (Some t) e = let head = passes is_ready K t e in absurd (none t (within t head.0 head.1) ((ready_at t head.0 head.1 head.2).state))

  pub chosen_is : (passes : Passes) (first : First) (best : Option ℕ) → IsBest d 16 best → best ≡ chosen K
  unfolding IsBest
  chosen_is passes first None h = sym (none_is passes h)
  chosen_is passes first (Some t) h = sym (best_is first t h)
