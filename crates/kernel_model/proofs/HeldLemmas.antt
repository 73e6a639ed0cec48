-- The rows of a kernel stay sound where the items of a queue or the count of a semaphore change.
use Rattle.std.proofs.Common.{◌≡◌, ℕ, ◌<◌, true, false, ◌&&◌, ◌==◌, List, [], length, get_or, set, refl, sym, ap, ◌∙◌, ⊎_elim, eq-eqb}
use Rattle.std.proofs.lemmas.List.{get_or-set_same, get_or-set_other}
use Rattle.std.proofs.lemmas.Bool.{cases_eq}
use Rattle.kernel_model.specs.declared.wait.Wait.{Wait}
use Rattle.kernel_model.specs.declared.what.What.{What}
use Rattle.kernel_model.specs.declared.what.What.TheVariants.{Send, Receive, Take}
use Rattle.kernel_model.specs.Kernel.{Activity, Thread, Row}
use Rattle.kernel_model.specs.Kernel.Activity.{Ready, Delayed, Waiting}
use Rattle.kernel_model.specs.Kernel.Row.{Free, Ended, Live}
use Rattle.kernel_model.specs.Order.{is_same_what}
use Rattle.kernel_model.specs.Calls.{capacity_of}
use Rattle.kernel_model.specs.Sound.{IsHeld, IsDoing, IsSoundRow, AreSoundRows}
use Rattle.kernel_model.proofs.RowLemmas.{same_default}
use Rattle.thread_tree.specs.LocalState.{LocalState}
use Rattle.thread_tree.specs.Program.{Program}

module _ (p : Program) (queues : List (List ℕ)) (counts : List ℕ) (queue : ℕ) (items : List ℕ) (l : queue < length queues) where
  -- waits last at other queues, and at this one where it is full for its senders and empty for its receivers
  pub held-items : (what : What) (target : ℕ) → IsHeld p queues counts what target →
      (is_same_what what Send && target == queue ≡ true → length items ≡ capacity_of p queue) →
      (is_same_what what Receive && target == queue ≡ true → items ≡ []) →
      IsHeld p (set queues queue items) counts what target
  held-items Send target held full empty = ⊎_elim
      (λ e. ap (λ k. length (get_or (set queues queue items) k [])) e ∙ ap length (get_or-set_same queues queue items [] l)
      ∙ full (eq-eqb target queue e) ∙ ap (capacity_of p) (sym e))
      (λ ne. ap length (get_or-set_other queues queue target items [] ne) ∙ held)
      (cases_eq target queue)
  held-items Receive target held full empty = ⊎_elim
      (λ e. ap (λ k. get_or (set queues queue items) k []) e ∙ get_or-set_same queues queue items [] l ∙ empty (eq-eqb target queue e))
      (λ ne. get_or-set_other queues queue target items [] ne ∙ held)
      (cases_eq target queue)
  held-items Take target held full empty = held

module _ (p : Program) (queues : List (List ℕ)) (counts : List ℕ) (semaphore count : ℕ) where
  -- waits last where nobody waits for the semaphore
  pub held-count : (what : What) (target : ℕ) → IsHeld p queues counts what target →
      is_same_what what Take && target == semaphore ≡ false → IsHeld p queues (set counts semaphore count) what target
  held-count Send target held other = held
  held-count Receive target held other = held
  held-count Take target held other = get_or-set_other counts semaphore target count 0
      (λ e. absurd (let f : target == semaphore ≡ true = eq-eqb target semaphore e in cc)) ∙ held

module _ (p : Program) (ticks : ℕ) (queues queues' : List (List ℕ)) (counts counts' : List ℕ) (stamp : ℕ) (rows : List Row) where
  -- the rows stay sound where each wait lasts
  pub rows-held : AreSoundRows p ticks queues counts stamp rows →
      ((k : ℕ) (thread : Thread) (wait : Wait) → get_or rows k Free ≡ Live thread → thread.activity ≡ Waiting wait →
      IsHeld p queues counts wait.what wait.target → IsHeld p queues' counts' wait.what wait.target) →
      AreSoundRows p ticks queues' counts' stamp rows
  rows-held h lasts = record {
    sixteen = h.sixteen;
    each = λ k d l. row k (get_or rows k d) (same_default rows k Free d l) (h.each k d l);
    past = h.past;
    apart = h.apart;
  }
    where
      doing : (k : ℕ) (thread : Thread) (local : LocalState) (debt : ℕ) (a : Activity) → get_or rows k Free ≡ Live thread → thread.activity ≡ a →
          IsDoing p ticks queues counts local debt a → IsDoing p ticks queues' counts' local debt a
      doing k thread local debt Ready e is d = d
      doing k thread local debt (Delayed wake) e is d = d
      doing k thread local debt (Waiting wait) e is d =
          record { call = d.call; later = d.later; held = lasts k thread wait e is d.held; room = d.room }

      row : (k : ℕ) (r : Row) → get_or rows k Free ≡ r → IsSoundRow p ticks queues counts r → IsSoundRow p ticks queues' counts' r
      row k Free e s = tt
      row k (Ended template priority code) e s = s
      row k (Live thread) e s = record {
        known = s.known;
        paid = s.paid;
        doing = doing k thread thread.local thread.debt thread.activity e refl s.doing;
      }
