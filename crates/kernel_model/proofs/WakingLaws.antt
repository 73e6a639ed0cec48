-- A tick wakes one row after another.
use Rattle.std.proofs.Common.{◌≡◌, ◌≢◌, ℕ, zero, suc, ◌+◌, ◌-◌, ◌<◌, ◌≤◌, List, fold, Option, Some, None, refl, sym, ap, subst, ◌∙◌, ⊎_elim, arith}
use Rattle.std.specs.List.{range_with_len}
use Rattle.std.proofs.lemmas.List.FromFn.{length-range_with_len}
use Rattle.std.proofs.lemmas.Bool.{cases_eq}
use Rattle.thread_tree.specs.Program.{Program}
use Rattle.kernel_model.specs.Kernel.{Thread, State, thread_of, stamped}
use Rattle.kernel_model.specs.Order.{chosen}
use Rattle.kernel_model.specs.Serve.{finish, awake}
use Rattle.kernel_model.specs.Run.{row_count, woken_by, woken, all_woken, rotated, tick}
use Rattle.kernel_model.specs.Waking.{woken_rows, next_tick}
use Rattle.kernel_model.proofs.ServeLemmas.{behind-other}
use Rattle.kernel_model.proofs.ChangeLaws.{finish-own}
use Rattle.kernel_model.proofs.StampLaws.{each_woken-stamps}

-- a fold over numbers, with one number more
pub fold-range_more : {Y : Type 0} (f : Y → ℕ → Y) (y : Y) (a n : ℕ) → fold f y (range_with_len a (suc n)) ≡ f (fold f y (range_with_len a n)) (a + n)
fold-range_more f y a zero = ap (f y) (omega arith)
fold-range_more f y a (suc n) = fold-range_more f (f y a) (a + 1) n
    ∙ ap (f (fold f (f y a) (range_with_len (a + 1) n))) (omega arith)

-- what a waking does to the row of a thread
abbrev woken_so : Program → State → ℕ → Option Thread → State
woken_so p K t o = elim o [
  | None ↦ K
  | Some thread ↦ elim (woken_by p K.ticks thread.activity) [ None ↦ K | Some results ↦ finish p K t results ]
]

abbrev finished_so : Program → State → ℕ → Option (List ℕ) → State
finished_so p K t o = elim o [ None ↦ K | Some results ↦ finish p K t results ]

module _ (p : Program) (K : State) (t : ℕ) where
  -- where no thread lives nothing changes
  pub woken-none : thread_of K t ≡ None → woken p K t ≡ K
  woken-none none = ap (woken_so p K t) none

  -- who isn't woken stays
  pub woken-asleep : (thread : Thread) → thread_of K t ≡ Some thread → woken_by p K.ticks thread.activity ≡ None → woken p K t ≡ K
  woken-asleep thread lives none = ap (woken_so p K t) lives ∙ ap (finished_so p K t) none

  -- the call of who is woken is finished
  pub woken-some : (thread : Thread) (results : List ℕ) → thread_of K t ≡ Some thread → woken_by p K.ticks thread.activity ≡ Some results →
      woken p K t ≡ finish p K t results
  woken-some thread results lives some = ap (woken_so p K t) lives ∙ ap (finished_so p K t) some

  -- a waking lets all other rows stay
  pub woken-other : (u : ℕ) → u ≢ t → thread_of (woken p K t) u ≡ thread_of K u
  woken-other u ne = go (thread_of K t)
    where
      by : (o : Option (List ℕ)) → thread_of (finished_so p K t o) u ≡ thread_of K u
      by None = refl
      by (Some results) = behind-other K u t (awake p results) ne

      go : (o : Option Thread) → thread_of (woken_so p K t o) u ≡ thread_of K u
      go None = refl
      go (Some thread) = by (woken_by p K.ticks thread.activity)

  -- a waking lets the tick count stay
  pub woken-ticks : (woken p K t).ticks ≡ K.ticks
  woken-ticks = go (thread_of K t)
    where
      by : (o : Option (List ℕ)) → (finished_so p K t o).ticks ≡ K.ticks
      by None = refl
      by (Some results) = refl

      go : (o : Option Thread) → (woken_so p K t o).ticks ≡ K.ticks
      go None = refl
      go (Some thread) = by (woken_by p K.ticks thread.activity)

-- no row is looked at before the first
pub rows-begin : (p : Program) (K : State) → woken_rows p 0 K ≡ K
unfolding woken_rows
rows-begin p K = refl

-- one row after another
pub rows-in_turn : (p : Program) (K : State) (count : ℕ) → woken_rows p (count + 1) K ≡ woken p (woken_rows p count K) count
unfolding woken_rows
rows-in_turn p K count =
    let more : count + 1 ≡ suc count = omega arith in
    let same : 0 + count ≡ count = omega arith in
    ap (λ (n : ℕ). fold (woken p) K (range_with_len 0 n)) more ∙ fold-range_more (woken p) K 0 count
    ∙ ap (λ (n : ℕ). woken p (fold (woken p) K (range_with_len 0 count)) n) same

-- sixteen rows are all
pub rows-all : (p : Program) (K : State) → all_woken p K ≡ woken_rows p row_count K
unfolding woken_rows all_woken
rows-all p K = refl

-- a tick wakes all rows, and then lets who was chosen go behind its equals
pub rows-tick : (p : Program) (K : State) → tick p K ≡ rotated (woken_rows p row_count (next_tick K)) (chosen K)
rows-tick p K = ap (λ K'. rotated K' (chosen K)) (rows-all p (next_tick K))

-- each row gives one stamp at most
pub rows-stamps : (p : Program) (K : State) (count : ℕ) → (woken_rows p count K).stamp ≤ K.stamp + count
unfolding woken_rows
rows-stamps p K count = subst (λ (n : ℕ). (fold (woken p) K (range_with_len 0 count)).stamp ≤ K.stamp + n) (length-range_with_len 0 count)
    (each_woken-stamps p (range_with_len 0 count) K)

-- the same of a number and the one behind it
module _ (p : Program) (P : ℕ → State → Type 0) (K : State) where
  rows-each : P 0 K → ((n : ℕ) → P n (woken_rows p n K) → P (n + 1) (woken p (woken_rows p n K) n)) → (count : ℕ) → P count (woken_rows p count K)
  rows-each first more zero = subst (P 0) (sym (rows-begin p K)) first
  rows-each first more (suc n) =
      let e : n + 1 ≡ suc n = omega arith in
      subst (λ (m : ℕ). P m (woken_rows p m K)) e (subst (P (n + 1)) (sym (rows-in_turn p K n)) (more n (rows-each first more n)))

-- the tick count stays
pub rows-ticks : (p : Program) (K : State) (count : ℕ) → (woken_rows p count K).ticks ≡ K.ticks
rows-ticks p K count = rows-each p (λ n L. L.ticks ≡ K.ticks) K refl (λ n e. woken-ticks p (woken_rows p n K) n ∙ e) count

-- rows that weren't looked at stay
pub rows-later : (p : Program) (K : State) (count t : ℕ) → count ≤ t → thread_of (woken_rows p count K) t ≡ thread_of K t
rows-later p K count t le = rows-each p (λ n L. n ≤ t → thread_of L t ≡ thread_of K t) K (λ h. refl)
    (λ n stays h. woken-other p (woken_rows p n K) n t (λ e. absurd (omega arith)) ∙ stays (omega arith)) count le

-- who isn't woken stays
pub rows-kept : (p : Program) (K : State) (count t : ℕ) (thread : Thread) → thread_of K t ≡ Some thread → woken_by p K.ticks thread.activity ≡ None →
    thread_of (woken_rows p count K) t ≡ Some thread
rows-kept p K count t thread lives none = rows-each p (λ n L. thread_of L t ≡ Some thread) K lives
    (λ n stays. ⊎_elim
    (λ e. let L = woken_rows p n K in let own : thread_of L n ≡ Some thread = ap (thread_of L) (sym e) ∙ stays in
    ap (λ (L' : State). thread_of L' t) (woken-asleep p L n thread own (ap (λ k. woken_by p k thread.activity) (rows-ticks p K n) ∙ none)) ∙ stays)
    (λ ne. woken-other p (woken_rows p n K) n t ne ∙ stays)
    (cases_eq t n)) count

-- where nobody of the first rows is to be woken nothing changes
pub rows-none : (p : Program) (K : State) (count : ℕ) → ((u : ℕ) (other : Thread) → u < count → thread_of K u ≡ Some other → woken_by p K.ticks other.activity ≡ None) →
    woken_rows p count K ≡ K
rows-none p K count none = rows-each p (λ n L. n ≤ count → L ≡ K) K (λ h. refl)
    (λ n same h. ap (λ L. woken p L n) (same (omega arith)) ∙ stays n (omega arith) (thread_of K n) refl) count (omega arith)
  where
    stays : (n : ℕ) → n < count → (o : Option Thread) → thread_of K n ≡ o → woken p K n ≡ K
    stays n l None e = woken-none p K n e
    stays n l (Some other) e = woken-asleep p K n other e (none n other l e)

module _ (p : Program) (K : State) (t : ℕ) (thread : Thread) (results : List ℕ) (lives : thread_of K t ≡ Some thread)
    (due : woken_by p K.ticks thread.activity ≡ Some results)
    (none : (u : ℕ) (other : Thread) → u < t → thread_of K u ≡ Some other → woken_by p K.ticks other.activity ≡ None) where
  -- behind its waking nobody up to the least that is to be woken is to be woken
  awake-first : (u : ℕ) (other : Thread) → u < t + 1 → thread_of (woken p K t) u ≡ Some other → woken_by p (woken p K t).ticks other.activity ≡ None
  awake-first u other l is = ⊎_elim
      (λ e. let own : Some other ≡ Some (stamped K.stamp (awake p results thread)) =
      sym is ∙ ap (thread_of (woken p K t)) e ∙ ap (λ (L : State). thread_of L t) (woken-some p K t thread results lives due) ∙ finish-own K t p thread results lives in
      let same : other ≡ stamped K.stamp (awake p results thread) = cc in
      ap (λ (x : Thread). woken_by p (woken p K t).ticks x.activity) same)
      (λ ne. ap (λ k. woken_by p k other.activity) (woken-ticks p K t)
      ∙ none u other (omega arith) (sym (woken-other p K t u ne) ∙ is))
      (cases_eq u t)

  -- from the least that is to be woken on, its waking can come first
  awake-then : (k : ℕ) → woken_rows p (t + 1 + k) K ≡ woken_rows p (t + 1 + k) (woken p K t)
  awake-then zero =
      let e : t + 1 ≡ t + 1 + 0 = omega arith in
      ap (λ n. woken_rows p n K) (sym e) ∙ rows-in_turn p K t ∙ ap (λ (L : State). woken p L t) (rows-none p K t none)
      ∙ sym (rows-none p (woken p K t) (t + 1) awake-first) ∙ ap (λ n. woken_rows p n (woken p K t)) e
  awake-then (suc k) =
      let e : t + 1 + k + 1 ≡ t + 1 + suc k = omega arith in
      ap (λ n. woken_rows p n K) (sym e) ∙ rows-in_turn p K (t + 1 + k) ∙ ap (λ (L : State). woken p L (t + 1 + k)) (awake-then k)
      ∙ sym (rows-in_turn p (woken p K t) (t + 1 + k)) ∙ ap (λ n. woken_rows p n (woken p K t)) e

  -- the least that is to be woken can be woken first
  pub rows-least : t < row_count → all_woken p K ≡ all_woken p (woken p K t)
  rows-least l =
      let e : t + 1 + (16 - (t + 1)) ≡ row_count = omega arith in
      rows-all p K ∙ ap (λ n. woken_rows p n K) (sym e) ∙ awake-then (16 - (t + 1)) ∙ ap (λ n. woken_rows p n (woken p K t)) e ∙ sym (rows-all p (woken p K t))

-- where nobody is to be woken all stay
pub rows-nobody : (p : Program) (K : State) → ((u : ℕ) (other : Thread) → u < row_count → thread_of K u ≡ Some other → woken_by p K.ticks other.activity ≡ None) → all_woken p K ≡ K
rows-nobody p K none = rows-all p K ∙ rows-none p K row_count none
