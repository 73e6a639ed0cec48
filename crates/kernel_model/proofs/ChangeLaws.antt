-- Who lives in a kernel where a row or a thread has changed, and how changes compose.
use Rattle.std.proofs.Common.{◌≡◌, ◌≢◌, ℕ, zero, suc, ◌+◌, ◌<◌, Bool, true, false, not, ◌&&◌, ◌||◌, ◌==◌, List, [], ◌∷◌, length, set, get_or, Some, None, refl, sym, ap, subst, ◌∙◌, ⊎_elim, arith, eq-eqb, length-set, true≢false}
use Rattle.std.specs.List.{AllByRecursion, list_any}
use Rattle.std.proofs.lemmas.List.{get_or-set_same, get_or-set_other}
use Rattle.std.proofs.lemmas.Bool.{cases_eq, and_from, ne_eqb}
use Rattle.std.proofs.Math.Bool.{and-false}
use Rattle.thread_tree.specs.Program.{Program}
use Rattle.kernel_model.specs.Kernel.{Thread, Row, State, live_in, row_of, thread_of, row_with, with_row, changed, stamped, behind}
use Rattle.kernel_model.specs.Kernel.Row.{Free, Ended, Live}
use Rattle.kernel_model.specs.Order.{Numbered, live_threads}
use Rattle.kernel_model.specs.Serve.{stopped, awake, finish, settle}
use Rattle.kernel_model.specs.Serve.Fate.{Stops, Goes}
use Rattle.kernel_model.specs.Run.{is_ready_at, has_equals}
use Rattle.kernel_model.proofs.RowLemmas.{live_in-Some, live_within, changed-is, set_thread, other_thread}
use Rattle.kernel_model.proofs.OrderLemmas.{IsIn, threads_are, each_has}

-- of two rows put in one place the second stands there
pub set-set : {X : Type 0} (xs : List X) (i : ℕ) (x y : X) → set (set xs i x) i y ≡ set xs i y
set-set [] i x y = refl
set-set (z ∷ zs) zero x y = refl
set-set (z ∷ zs) (suc i) x y = ap (λ us. z ∷ us) (set-set zs i x y)

module _ (K : State) (t : ℕ) where
  -- the kernel has as many rows as before
  pub rows-length : (row : Row) → length (with_row K t row).rows ≡ length K.rows
  rows-length row = length-set K.rows t row

  -- the row that was put
  pub row-own : (row : Row) → t < length K.rows → row_of (with_row K t row) t ≡ row
  row-own row l = get_or-set_same K.rows t row Free l

  -- another row
  pub row-other : (u : ℕ) (row : Row) → u ≢ t → row_of (with_row K t row) u ≡ row_of K u
  row-other u row ne = get_or-set_other K.rows t u row Free ne

  -- a row put twice
  pub with_row-again : (before row : Row) → with_row (with_row K t before) t row ≡ with_row K t row
  with_row-again before row = ap (λ (rows : List Row). record K { rows = rows }) (set-set K.rows t before row)

  module _ (change : Thread → Thread) where
    -- a thread that changed
    pub changed-own : (thread : Thread) → thread_of K t ≡ Some thread → thread_of (changed K t change) t ≡ Some (change thread)
    changed-own thread lives = ap (λ (K' : State). thread_of K' t) (changed-is K t change thread lives)
        ∙ set_thread K t (Live (change thread)) (live_within K t thread lives)

    -- another thread than the one that changed
    pub changed-other : (u : ℕ) → u ≢ t → thread_of (changed K t change) u ≡ thread_of K u
    changed-other u ne = other_thread K u t (row_with change (row_of K t)) ne

    -- a thread that changed and went behind its equals
    pub behind-own : (thread : Thread) → thread_of K t ≡ Some thread → thread_of (behind K t change) t ≡ Some (stamped K.stamp (change thread))
    behind-own thread lives = ap (λ (K' : State). thread_of K' t) (changed-is K t (λ thread. stamped K.stamp (change thread)) thread lives)
        ∙ set_thread K t (Live (stamped K.stamp (change thread))) (live_within K t thread lives)

    -- a thread that changes and goes behind its equals, in its row
    pub behind-is : (thread : Thread) → thread_of K t ≡ Some thread →
        behind K t change ≡ record (with_row K t (Live (stamped K.stamp (change thread)))) { stamp = K.stamp + 1 }
    behind-is thread lives = ap (λ (K' : State). record K' { stamp = K.stamp + 1 })
        (changed-is K t (λ thread. stamped K.stamp (change thread)) thread lives)

    -- a change before an end is of no account where it keeps the template and the priority
    pub stops-changed : (p : Program) (thread : Thread) (code : ℕ) → thread_of K t ≡ Some thread → (change thread).template ≡ thread.template →
        (change thread).priority ≡ thread.priority → settle p t (Stops code) (changed K t change) ≡ settle p t (Stops code) K
    stops-changed p thread code lives template priority =
        let row : row_of K t ≡ Live thread = live_in-Some (row_of K t) thread lives in
        let own : row_of (changed K t change) t ≡ Live (change thread) = live_in-Some (row_of (changed K t change) t) (change thread) (changed-own thread lives) in
        ap (λ (r : Row). with_row (changed K t change) t (stopped code r)) own
        ∙ with_row-again (row_with change (row_of K t)) (Ended (change thread).template (change thread).priority code)
        ∙ ap (λ (n : ℕ). with_row K t (Ended n (change thread).priority code)) template
        ∙ ap (λ (n : ℕ). with_row K t (Ended thread.template n code)) priority
        ∙ sym (ap (λ (r : Row). with_row K t (stopped code r)) row)

  -- the call of a thread that is finished
  pub finish-own : (p : Program) (thread : Thread) (results : List ℕ) → thread_of K t ≡ Some thread →
      thread_of (finish p K t results) t ≡ Some (stamped K.stamp (awake p results thread))
  finish-own p thread results lives = behind-own (awake p results) thread lives

  -- a thread that ends, in its row
  pub stops-is : (p : Program) (thread : Thread) (code : ℕ) → thread_of K t ≡ Some thread → settle p t (Stops code) K ≡ with_row K t (Ended thread.template thread.priority code)
  stops-is p thread code lives = ap (λ (r : Row). with_row K t (stopped code r)) (live_in-Some (row_of K t) thread lives)

  -- who has gone is there no more
  pub goes-own : (p : Program) (thread : Thread) → thread_of K t ≡ Some thread → thread_of (settle p t Goes K) t ≡ None
  goes-own p thread lives = set_thread K t Free (live_within K t thread lives)

  module _ (thread : Thread) where
    -- another ready thread of the priority
    abbrev IsEqual : Numbered → Bool
    IsEqual a = not (a.0 == t) && is_ready_at thread.priority a.1

    none-equal : (xs : List Numbered) → AllByRecursion (λ a. IsEqual a ≡ false) xs → list_any IsEqual xs ≡ false
    none-equal [] all = refl
    none-equal (x ∷ xs) all = ap (λ b. b || list_any IsEqual xs) all.0 ∙ none-equal xs all.1

    each-equal : (xs : List Numbered) → list_any IsEqual xs ≡ false → AllByRecursion (λ a. IsEqual a ≡ false) xs
    each-equal [] e = tt
    each-equal (x ∷ xs) e = go (IsEqual x) refl (each-equal xs)
      where
        go : (b : Bool) → IsEqual x ≡ b → (list_any IsEqual xs ≡ false → AllByRecursion (λ a. IsEqual a ≡ false) xs) →
            AllByRecursion (λ a. IsEqual a ≡ false) (x ∷ xs)
        go true is rest = absurd (true≢false (sym (ap (λ b. b || list_any IsEqual xs) is) ∙ e))
        go false is rest = (is, rest (sym (ap (λ b. b || list_any IsEqual xs) is) ∙ e))

    -- where another ready thread has its priority a thread has equals
    pub equals-some : (u : ℕ) (other : Thread) → thread_of K u ≡ Some other → u ≢ t → is_ready_at thread.priority other ≡ true → has_equals K t thread ≡ true
    equals-some u other lives ne ready = go (has_equals K t thread) refl
      where
        go : (b : Bool) → has_equals K t thread ≡ b → has_equals K t thread ≡ true
        go true is = is
        go false is = let number : 0 + u ≡ u = omega arith in absurd (true≢false
            (sym (and_from (not (u == t)) (is_ready_at thread.priority other) (ap not (ne_eqb u t ne)) ready)
            ∙ subst (λ (n : ℕ). IsEqual (n, other) ≡ false) number
            (each_has (λ a. IsEqual a ≡ false) 0 K.rows (each-equal (live_threads K.rows) is) u other (live_in-Some (row_of K u) other lives))))

    -- where no other ready thread has its priority a thread has no equals
    pub equals-none : ((u : ℕ) (other : Thread) → thread_of K u ≡ Some other → u ≢ t → is_ready_at thread.priority other ≡ false) → has_equals K t thread ≡ false
    equals-none none = none-equal (live_threads K.rows) (all (live_threads K.rows) (threads_are 0 K.rows))
      where
        each : (a : Numbered) → IsIn 0 K.rows a → IsEqual a ≡ false
        each a is = ⊎_elim
            (λ e. ap (λ b. not b && is_ready_at thread.priority a.1) (eq-eqb a.0 t e))
            (λ ne. let number : is.0 ≡ a.0 = (omega arith) ∙ sym is.1 in
            ap (λ b. not (a.0 == t) && b) (none a.0 a.1 (ap live_in (ap (λ k. get_or K.rows k Free) (sym number) ∙ is.2)) ne)
            ∙ and-false (not (a.0 == t)))
            (cases_eq a.0 t)

        all : (xs : List Numbered) → AllByRecursion (IsIn 0 K.rows) xs → AllByRecursion (λ a. IsEqual a ≡ false) xs
        all [] are = tt
        all (x ∷ xs) are = (each x are.0, all xs are.1)
