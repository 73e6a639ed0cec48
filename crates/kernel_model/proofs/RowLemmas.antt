-- The rows of a kernel, where one of them changes.
use Rattle.std.proofs.Common.{◌≡◌, ◌≢◌, ℕ, zero, suc, ◌+◌, ◌<◌, ◌≤◌, List, [], ◌∷◌, length, get_or, set, All, AllPairs, Option, Some, None, IfSome, refl, sym, ap, subst, ◌∙◌, ⊎_elim, arith, length-set}
use Rattle.std.proofs.lemmas.List.{get_or-set_same, get_or-set_other, get_or_past}
use Rattle.std.proofs.lemmas.List.Elements.{All-set, All-weaker}
use Rattle.std.proofs.lemmas.Bool.{cases_eq, cases_lt}
use Rattle.kernel_model.specs.Kernel.{Activity, Thread, Row, State, live_in, row_of, thread_of, row_with, with_row, changed, stamped, behind}
use Rattle.kernel_model.specs.Kernel.Activity.{Ready, Delayed, Waiting}
use Rattle.kernel_model.specs.Kernel.Row.{Free, Ended, Live}
use Rattle.kernel_model.specs.Sound.{IsSoundThread, IsSoundRow, listed, stamp_in, IsPast, IsApart, AreSoundRows}
use Rattle.thread_tree.specs.Program.{Program}

-- a row where a thread lives
pub live_in-Some : (row : Row) (thread : Thread) → live_in row ≡ Some thread → row ≡ Live thread
live_in-Some Free thread e = absurd (cc)
live_in-Some (Ended template priority code) thread e = absurd (cc)
live_in-Some (Live own) thread e = cc

-- a number past all rows has no live thread
pub within : (rows : List Row) (t : ℕ) (thread : Thread) → get_or rows t Free ≡ Live thread → t < length rows
within rows t thread e = ⊎_elim (λ h. h) (λ h. absurd (past h)) (cases_lt t (length rows))
  where
    past : length rows ≤ t → ⊥
    past h = let f : Free ≡ Live thread = sym (get_or_past rows t Free h) ∙ e in absurd (cc)

-- an element doesn't depend on the default
pub same_default : {X : Type 0} (xs : List X) (i : ℕ) (d e : X) → i < length xs → get_or xs i d ≡ get_or xs i e
same_default [] i d e l = absurd (omega arith)
same_default (x ∷ xs) zero d e l = refl
same_default (x ∷ xs) (suc i) d e l = same_default xs i d e (omega arith)

-- stamps that differ, the other way round
pub IsApart-sym : (a b : Row) → IsApart a b → IsApart b a
IsApart-sym a b h = flip (stamp_in a) (stamp_in b) h
  where
    flip : (s t : Option ℕ) → IfSome s (λ s. IfSome t (λ t. s ≢ t)) → IfSome t (λ t. IfSome s (λ s. t ≢ s))
    flip None None h = tt
    flip None (Some t) h = tt
    flip (Some s) None h = tt
    flip (Some s) (Some t) h = λ e. h (sym e)

-- stamps that differ from a row's, at a row with the same stamp
pub IsApart-same : (a b c : Row) → stamp_in a ≡ stamp_in b → IsApart b c → IsApart a c
IsApart-same a b c e h = subst (λ (s : Option ℕ). IfSome s (λ s. IfSome (stamp_in c) (λ t. s ≢ t))) (sym e) h

-- a row without a stamp
pub IsApart-none : (a b : Row) → stamp_in a ≡ None → IsApart a b
IsApart-none a b e = subst (λ (s : Option ℕ). IfSome s (λ s. IfSome (stamp_in b) (λ t. s ≢ t))) (sym e) tt

-- a past stamp by which a thread stands in a list
past-listed : (stamp : ℕ) (row : Row) → IsPast stamp row → IfSome (stamp_in row) (λ own. own < stamp)
past-listed stamp Free h = tt
past-listed stamp (Ended template priority code) h = tt
past-listed stamp (Live thread) h = go thread.activity
  where
    go : (a : Activity) → IfSome (listed thread.stamp a) (λ own. own < stamp)
    go Ready = h
    go (Delayed wake) = tt
    go (Waiting wait) = h

-- a row with the next stamp
pub IsApart-next : (a b : Row) (stamp : ℕ) → stamp_in a ≡ Some stamp → IsPast stamp b → IsApart a b
IsApart-next a b stamp e h = subst (λ (s : Option ℕ). IfSome s (λ s. IfSome (stamp_in b) (λ t. s ≢ t))) (sym e) (below (stamp_in b) (past-listed stamp b h))
  where
    below : (t : Option ℕ) → IfSome t (λ own. own < stamp) → IfSome t (λ t. stamp ≢ t)
    below None h = tt
    below (Some t) h = λ e. absurd (omega arith)

-- a past stamp stays past
pub IsPast-more : (stamp : ℕ) (row : Row) → IsPast stamp row → IsPast (stamp + 1) row
IsPast-more stamp Free h = tt
IsPast-more stamp (Ended template priority code) h = tt
IsPast-more stamp (Live thread) h = omega arith

-- two rows have stamps that differ
pub apart_at : (rows : List Row) (i j : ℕ) (d : Row) → AllPairs IsApart rows → i < length rows → j < length rows → i ≢ j →
    IsApart (get_or rows i d) (get_or rows j d)
apart_at rows i j d h k l ne = ⊎_elim
    (λ below. h i j d below l)
    (λ above. IsApart-sym (get_or rows j d) (get_or rows i d) (h j i d (strictly above) k))
    (cases_lt i j)
  where
    strictly : j ≤ i → j < i
    strictly above = ⊎_elim (λ l. l) (λ l. absurd (ne (omega arith))) (cases_lt j i)

-- the same of equal rows
same_rows : (x y u v : Row) → u ≡ x → v ≡ y → IsApart x y → IsApart u v
same_rows x y u v e f h = subst (λ (w : Row). IsApart w v) (sym e) (subst (λ (w : Row). IsApart x w) (sym f) h)

-- all stamps differ where that of the changed row differs from all others
pub apart-set : (rows : List Row) (i : ℕ) (row : Row) → AllPairs IsApart rows →
    ((k : ℕ) (d : Row) → k < length rows → k ≢ i → IsApart row (get_or rows k d)) → AllPairs IsApart (set rows i row)
apart-set rows i row h new = λ a b d below l. choose a b d below (subst (λ (n : ℕ). b < n) (length-set rows i row) l)
  where
    choose : (a b : ℕ) (d : Row) → a < b → b < length rows → IsApart (get_or (set rows i row) a d) (get_or (set rows i row) b d)
    choose a b d below l = ⊎_elim
        (λ e. same_rows row (get_or rows b d) (get_or (set rows i row) a d) (get_or (set rows i row) b d)
        (ap (λ k. get_or (set rows i row) k d) e ∙ get_or-set_same rows i row d (omega arith))
        (get_or-set_other rows i b row d (λ f. absurd (omega arith)))
        (new b d l (λ f. absurd (omega arith))))
        (λ ne. ⊎_elim
        (λ e. same_rows (get_or rows a d) row (get_or (set rows i row) a d) (get_or (set rows i row) b d)
        (get_or-set_other rows i a row d ne)
        (ap (λ k. get_or (set rows i row) k d) e ∙ get_or-set_same rows i row d (omega arith))
        (IsApart-sym row (get_or rows a d) (new a d (omega arith) ne)))
        (λ other. same_rows (get_or rows a d) (get_or rows b d) (get_or (set rows i row) a d) (get_or (set rows i row) b d)
        (get_or-set_other rows i a row d ne)
        (get_or-set_other rows i b row d other)
        (h a b d below l))
        (cases_eq b i))
        (cases_eq a i)

module _ (p : Program) (ticks : ℕ) (queues : List (List ℕ)) (counts : List ℕ) (stamp : ℕ) (rows : List Row) where
  -- a row that changes and keeps its stamp
  pub set-same : AreSoundRows p ticks queues counts stamp rows → (i : ℕ) (row : Row) → i < length rows →
      IsSoundRow p ticks queues counts row → IsPast stamp row → stamp_in row ≡ stamp_in (get_or rows i Free) →
      AreSoundRows p ticks queues counts stamp (set rows i row)
  set-same h i row l new below same = record {
    sixteen = length-set rows i row ∙ h.sixteen;
    each = All-set (IsSoundRow p ticks queues counts) rows i row new h.each;
    past = All-set (IsPast stamp) rows i row below h.past;
    apart = apart-set rows i row h.apart (λ k d m ne. IsApart-same row (get_or rows i d) (get_or rows k d)
        (same ∙ ap stamp_in (same_default rows i Free d l)) (apart_at rows i k d h.apart l m (λ e. ne (sym e))));
  }

  -- a row that changes and has no stamp any more
  pub set-none : AreSoundRows p ticks queues counts stamp rows → (i : ℕ) (row : Row) →
      IsSoundRow p ticks queues counts row → IsPast stamp row → stamp_in row ≡ None →
      AreSoundRows p ticks queues counts stamp (set rows i row)
  set-none h i row new below none = record {
    sixteen = length-set rows i row ∙ h.sixteen;
    each = All-set (IsSoundRow p ticks queues counts) rows i row new h.each;
    past = All-set (IsPast stamp) rows i row below h.past;
    apart = apart-set rows i row h.apart (λ k d m ne. IsApart-none row (get_or rows k d) none);
  }

  -- the next stamp rises
  pub next_stamp : AreSoundRows p ticks queues counts stamp rows → AreSoundRows p ticks queues counts (stamp + 1) rows
  next_stamp h = record {
    sixteen = h.sixteen;
    each = h.each;
    past = All-weaker (IsPast stamp) (IsPast (stamp + 1)) (IsPast-more stamp) rows h.past;
    apart = h.apart;
  }

  -- a row that changes and gets the next stamp
  pub set-next : AreSoundRows p ticks queues counts stamp rows → (i : ℕ) (row : Row) →
      IsSoundRow p ticks queues counts row → IsPast (stamp + 1) row → stamp_in row ≡ Some stamp →
      AreSoundRows p ticks queues counts (stamp + 1) (set rows i row)
  set-next h i row new below next = record {
    sixteen = length-set rows i row ∙ h.sixteen;
    each = All-set (IsSoundRow p ticks queues counts) rows i row new h.each;
    past = All-set (IsPast (stamp + 1)) rows i row below
        (All-weaker (IsPast stamp) (IsPast (stamp + 1)) (IsPast-more stamp) rows h.past);
    apart = apart-set rows i row h.apart (λ k d m ne. IsApart-next row (get_or rows k d) stamp next (h.past k d m));
  }

-- the number of a live thread is one of a row
pub live_within : (K : State) (t : ℕ) (thread : Thread) → thread_of K t ≡ Some thread → t < length K.rows
live_within K t thread e = within K.rows t thread (live_in-Some (row_of K t) thread e)

-- the row of a live thread is sound
pub live_sound : (p : Program) (K : State) (t : ℕ) (thread : Thread) → AreSoundRows p K.ticks K.queues K.counts K.stamp K.rows →
    thread_of K t ≡ Some thread →
    IsSoundThread p K.ticks K.queues K.counts thread.template thread.priority thread.local thread.debt thread.activity
live_sound p K t thread h e =
    let row : row_of K t ≡ Live thread = live_in-Some (row_of K t) thread e in
    subst (IsSoundRow p K.ticks K.queues K.counts) row (h.each t Free (within K.rows t thread row))

-- the stamp of a live thread is past
pub live_past : (stamp : ℕ) (K : State) (t : ℕ) (thread : Thread) → All (IsPast stamp) K.rows → thread_of K t ≡ Some thread → thread.stamp < stamp
live_past stamp K t thread all e = let row : row_of K t ≡ Live thread = live_in-Some (row_of K t) thread e in
    subst (IsPast stamp) row (all t Free (within K.rows t thread row))

-- a thread that changes, in its row
pub changed-is : (K : State) (t : ℕ) (change : Thread → Thread) (thread : Thread) → thread_of K t ≡ Some thread →
    changed K t change ≡ with_row K t (Live (change thread))
changed-is K t change thread e = ap (λ row. with_row K t (row_with change row)) (live_in-Some (row_of K t) thread e)

-- the rows of the kernel where a thread changes and keeps its stamp
pub rows-changed : (p : Program) (K : State) (t : ℕ) (change : Thread → Thread) (thread : Thread) →
    AreSoundRows p K.ticks K.queues K.counts K.stamp K.rows → thread_of K t ≡ Some thread →
    IsSoundRow p K.ticks K.queues K.counts (Live (change thread)) → (change thread).stamp ≡ thread.stamp →
    stamp_in (Live (change thread)) ≡ stamp_in (Live thread) →
    AreSoundRows p K.ticks K.queues K.counts K.stamp (changed K t change).rows
rows-changed p K t change thread h e new keeps same =
    subst (λ (K' : State). AreSoundRows p K.ticks K.queues K.counts K.stamp K'.rows) (sym (changed-is K t change thread e))
    (set-same p K.ticks K.queues K.counts K.stamp K.rows h t (Live (change thread)) (live_within K t thread e) new
    (subst (λ (s : ℕ). s < K.stamp) (sym keeps) (live_past K.stamp K t thread h.past e))
    (same ∙ ap stamp_in (sym (live_in-Some (row_of K t) thread e))))

-- the rows of the kernel where a thread changes and has no stamp any more
pub rows-changed_none : (p : Program) (K : State) (t : ℕ) (change : Thread → Thread) (thread : Thread) →
    AreSoundRows p K.ticks K.queues K.counts K.stamp K.rows → thread_of K t ≡ Some thread →
    IsSoundRow p K.ticks K.queues K.counts (Live (change thread)) → (change thread).stamp ≡ thread.stamp →
    stamp_in (Live (change thread)) ≡ None →
    AreSoundRows p K.ticks K.queues K.counts K.stamp (changed K t change).rows
rows-changed_none p K t change thread h e new keeps none =
    subst (λ (K' : State). AreSoundRows p K.ticks K.queues K.counts K.stamp K'.rows) (sym (changed-is K t change thread e))
    (set-none p K.ticks K.queues K.counts K.stamp K.rows h t (Live (change thread)) new
    (subst (λ (s : ℕ). s < K.stamp) (sym keeps) (live_past K.stamp K t thread h.past e)) none)

-- the rows of the kernel where a thread changes and goes behind its equals
pub rows-behind : (p : Program) (K : State) (t : ℕ) (change : Thread → Thread) (thread : Thread) →
    AreSoundRows p K.ticks K.queues K.counts K.stamp K.rows → thread_of K t ≡ Some thread →
    IsSoundRow p K.ticks K.queues K.counts (Live (change thread)) →
    AreSoundRows p K.ticks K.queues K.counts (K.stamp + 1) (behind K t change).rows
rows-behind p K t change thread h e new =
    subst (λ (K' : State). AreSoundRows p K.ticks K.queues K.counts (K.stamp + 1) K'.rows)
    (sym (changed-is K t (λ thread. stamped K.stamp (change thread)) thread e))
    (go (change thread).activity refl)
  where
    row : Row
    row = Live (stamped K.stamp (change thread))

    go : (a : Activity) → (change thread).activity ≡ a → AreSoundRows p K.ticks K.queues K.counts (K.stamp + 1) (set K.rows t row)
    go Ready is = set-next p K.ticks K.queues K.counts K.stamp K.rows h t row new (omega arith) (ap (listed K.stamp) is)
    go (Delayed wake) is = set-none p K.ticks K.queues K.counts (K.stamp + 1) K.rows
        (next_stamp p K.ticks K.queues K.counts K.stamp K.rows h) t row new (omega arith) (ap (listed K.stamp) is)
    go (Waiting wait) is = set-next p K.ticks K.queues K.counts K.stamp K.rows h t row new (omega arith) (ap (listed K.stamp) is)

-- another thread than the one whose row is set
pub other_thread : (K : State) (t u : ℕ) (row : Row) → t ≢ u → thread_of (with_row K u row) t ≡ thread_of K t
other_thread K t u row ne = ap live_in (get_or-set_other K.rows u t row Free ne)

-- the thread of the row that is set
pub set_thread : (K : State) (t : ℕ) (row : Row) → t < length K.rows → thread_of (with_row K t row) t ≡ live_in row
set_thread K t row l = ap live_in (get_or-set_same K.rows t row Free l)
