-- Which call a delayed or waiting thread awaits, and how many results it has.
use Rattle.std.proofs.Common.{◌≡◌, ℕ, ◌+◌, ◌≤◌, Bool, true, false, cond, ◌&&◌, ◌==◌, List, [], length, Option, Some, None, option_map, option_and_then, refl, sym, ap, subst, ◌∙◌, arith, true≢false, eqb-true}
use Rattle.std.proofs.lemmas.Bool.{and_parts}
use Rattle.kernel_model.specs.declared.wait.Wait.{Wait}
use Rattle.kernel_model.specs.declared.what.What.{What}
use Rattle.kernel_model.specs.declared.what.What.TheVariants.{Send, Receive, Take}
use Rattle.kernel_model.specs.Kernel.{Activity, Thread, State, thread_of}
use Rattle.kernel_model.specs.Kernel.Activity.{Ready, Delayed, Waiting}
use Rattle.kernel_model.specs.Order.{is_same_what, waits_for, first}
use Rattle.kernel_model.specs.Serve.{timed_out, next_words, words_of}
use Rattle.kernel_model.specs.Act.{call_of}
use Rattle.kernel_model.specs.Run.{record_room, woken_by}
use Rattle.kernel_model.specs.Sound.{IsDelayed, IsWaiting, IsDoing, IsSound, next_call, is_delay, awaited_by}
use Rattle.kernel_model.specs.Relived.{is_open}
use Rattle.kernel_model.specs.Awaits.{kind_of_what, kind_awaited, IsAwaiting}
use Rattle.kernel_model.proofs.OrderLemmas.{head_of_line}
use Rattle.kernel_model.proofs.ServeLemmas.{sound_thread}
use Rattle.thread_tree.specs.declared.action.Call.{Call}
use Rattle.thread_tree.specs.declared.action.Call.TheVariants as call
use Rattle.thread_tree.specs.declared.block.Block.{Block}
use Rattle.thread_tree.specs.declared.block.Stmt.{Stmt, out-Stmt}
use Rattle.thread_tree.specs.declared.block.Stmt.TheOpen.{Stmt-F}
use Rattle.thread_tree.specs.declared.block.Stmt.TheOpen as stmt
use Rattle.thread_tree.specs.Kinds.{Action, action_layer, action_of, kind_of_call, operands_of_call, taking, is_unrecorded, result_count}
use Rattle.thread_tree.specs.LocalState.{LocalState, next_statement, next_action}
use Rattle.thread_tree.specs.Program.{Program}

-- an action that is this call
pub record IsCallOf (c : Call) (o : Option Action) : Type 0 where
  pub called : Action
  pub is : o ≡ Some called
  pub kind : called.kind ≡ kind_of_call c
  pub given : called.given ≡ 0

-- the action of a statement that is a call, by its layer
layer-call : (p : Program) (s : Stmt-F Stmt Block) (c : Call) → call_of s ≡ Some c → IsCallOf c (action_layer p s)
layer-call p (stmt.Call place d to) c e = let f : Some d ≡ Some c = e in let same : d ≡ c = cc in record {
  called = record { kind = kind_of_call d; given = 0; operands = operands_of_call d; names = taking to };
  is = refl;
  kind = ap kind_of_call same;
  given = refl;
}
layer-call p _ c e = absurd (let f : ◌≡◌ {A = Option Call} None (Some c) = e in cc)

-- the action of the call that comes next
next-call : (p : Program) (local : LocalState) (c : Call) → next_call local ≡ Some c → IsCallOf c (next_action p local)
next-call p local c e = go (next_statement local.top.todo) e
  where
    go : (o : Option Stmt) → option_and_then (λ s. call_of (out-Stmt s)) o ≡ Some c →
        IsCallOf c (elim o [ None ↦ None | Some statement ↦ action_of p statement ])
    go None e = absurd (let f : ◌≡◌ {A = Option Call} None (Some c) = e in cc)
    go (Some s) e = layer-call p (out-Stmt s) c e

-- the kind of a delay
delay-kind : (c : Call) → is_delay c ≡ true → kind_of_call c ≡ 4
delay-kind (call.Delay ticks) e = refl
delay-kind _ e = absurd (true≢false (sym e))

-- the kind of the call that can wait
abbrev kind_in : Option (What × ℕ) → ℕ
kind_in None = 0
kind_in (Some w) = kind_of_what w.0

-- the kind of a call that waits
wait-kind : (p : Program) (c : Call) (what : What) (target : ℕ) → awaited_by p c ≡ Some (what, target) → kind_of_call c ≡ kind_of_what what
wait-kind p (call.Send queue value limit) what target e = ap kind_in e
wait-kind p (call.Receive queue limit) what target e = ap kind_in e
wait-kind p (call.Take semaphore limit) what target e = ap kind_in e
wait-kind p _ what target e = absurd (let f : ◌≡◌ {A = Option (What × ℕ)} None (Some (what, target)) = e in cc)

-- such calls leave records, with as many results as their ends by time have
what-recorded : (what : What) → is_unrecorded (kind_of_what what) ≡ false
what-recorded Send = refl
what-recorded Receive = refl
what-recorded Take = refl

what-many : (p : Program) (what : What) (target : ℕ) → result_count (kind_of_what what) 0 ≡ length (timed_out p what target)
what-many p Send target = refl
what-many p Receive target = refl
what-many p Take target = refl

-- a thread at an open call
awaiting-from : (p : Program) (thread : Thread) (c : Call) (count : ℕ) → is_open thread.activity ≡ true → next_call thread.local ≡ Some c →
    kind_of_call c ≡ kind_awaited thread.activity → is_unrecorded (kind_awaited thread.activity) ≡ false →
    result_count (kind_awaited thread.activity) 0 ≡ count → thread.debt + next_words p thread.local ≤ record_room → IsAwaiting p thread count
awaiting-from p thread c count unfinished next kind recorded many room = let at = next-call p thread.local c next in
    let is : at.called.kind ≡ kind_awaited thread.activity = at.kind ∙ kind in
    let kept : is_unrecorded at.called.kind ≡ false = ap is_unrecorded is ∙ recorded in
    let has : result_count at.called.kind at.called.given ≡ count = ap (result_count at.called.kind) at.given ∙ ap (λ k. result_count k 0) is ∙ many in
    let words : next_words p thread.local ≡ 1 + count = ap words_of at.is
    ∙ ap (λ b. cond b 0 (1 + result_count at.called.kind at.called.given)) kept ∙ ap (λ n. 1 + n) has in
    record {
      unfinished = unfinished;
      awaited = at.called;
      next = at.is;
      kind = is;
      given_none = at.given;
      recorded = kept;
      many = has;
      room = omega arith;
    }

-- what a thread awaits by what it does
module _ (p : Program) (ticks : ℕ) (queues : List (List ℕ)) (counts : List ℕ) (thread : Thread) where
  delayed-awaits : (wake : ℕ) → thread.activity ≡ Delayed wake → IsDelayed p ticks wake thread.local thread.debt → IsAwaiting p thread 0
  delayed-awaits wake is d = go (next_call thread.local) refl d.call
    where
      go : (o : Option Call) → next_call thread.local ≡ o → option_map is_delay o ≡ Some true → IsAwaiting p thread 0
      go None e call = absurd (let f : ◌≡◌ {A = Option Bool} None (Some true) = call in cc)
      go (Some c) e call = let f : Some (is_delay c) ≡ Some true = call in let delays : is_delay c ≡ true = cc in
          awaiting-from p thread c 0 (ap is_open is) e (delay-kind c delays ∙ sym (ap kind_awaited is))
          (ap (λ a. is_unrecorded (kind_awaited a)) is) (ap (λ a. result_count (kind_awaited a) 0) is) d.room

  waiting-awaits : (wait : Wait) → thread.activity ≡ Waiting wait → IsWaiting p ticks queues counts wait thread.local thread.debt →
      IsAwaiting p thread (length (timed_out p wait.what wait.target))
  waiting-awaits wait is d = go (next_call thread.local) refl d.call
    where
      go : (o : Option Call) → next_call thread.local ≡ o → option_and_then (awaited_by p) o ≡ Some (wait.what, wait.target) →
          IsAwaiting p thread (length (timed_out p wait.what wait.target))
      go None e call = absurd (let f : ◌≡◌ {A = Option (What × ℕ)} None (Some (wait.what, wait.target)) = call in cc)
      go (Some c) e call = awaiting-from p thread c (length (timed_out p wait.what wait.target)) (ap is_open is) e
          (wait-kind p c wait.what wait.target call ∙ sym (ap kind_awaited is))
          (ap (λ a. is_unrecorded (kind_awaited a)) is ∙ what-recorded wait.what)
          (ap (λ a. result_count (kind_awaited a) 0) is ∙ what-many p wait.what wait.target) d.room

module _ (p : Program) (K : State) (t : ℕ) (thread : Thread) where
  -- a delayed thread awaits no result
  pub delayed-calls : (wake : ℕ) → IsSound p K → thread_of K t ≡ Some thread → thread.activity ≡ Delayed wake → IsAwaiting p thread 0
  delayed-calls wake h lives is = delayed-awaits p K.ticks K.queues K.counts thread wake is
      (subst (IsDoing p K.ticks K.queues K.counts thread.local thread.debt) is (sound_thread p K h t thread lives).doing)

  -- a waiting thread awaits as many results as the end of its wait by time has
  pub waiting-calls : (wait : Wait) → IsSound p K → thread_of K t ≡ Some thread → thread.activity ≡ Waiting wait →
      IsAwaiting p thread (length (timed_out p wait.what wait.target))
  waiting-calls wait h lives is = waiting-awaits p K.ticks K.queues K.counts thread wait is
      (subst (IsDoing p K.ticks K.queues K.counts thread.local thread.debt) is (sound_thread p K h t thread lives).doing)

  -- whom a tick wakes awaits as many results as the tick has for it
  pub woken-calls : (tick : ℕ) (results : List ℕ) → IsSound p K → thread_of K t ≡ Some thread → woken_by p tick thread.activity ≡ Some results →
      IsAwaiting p thread (length results)
  woken-calls tick results h lives wakes = go thread.activity refl wakes
    where
      given : (b : Bool) (own : List ℕ) → cond b (Some own) None ≡ Some results → own ≡ results
      given true own e = let f : Some own ≡ Some results = e in cc
      given false own e = absurd (let f : ◌≡◌ {A = Option (List ℕ)} None (Some results) = e in cc)

      go : (a : Activity) → thread.activity ≡ a → woken_by p tick a ≡ Some results → IsAwaiting p thread (length results)
      go Ready is e = absurd (let f : ◌≡◌ {A = Option (List ℕ)} None (Some results) = e in cc)
      go (Delayed wake) is e = subst (λ (rs : List ℕ). IsAwaiting p thread (length rs)) (given (wake == tick) [] e) (delayed-calls wake h lives is)
      go (Waiting wait) is e = subst (λ (rs : List ℕ). IsAwaiting p thread (length rs)) (given (wait.until == tick) (timed_out p wait.what wait.target) e)
          (waiting-calls wait h lives is)

-- waits for the same end by time alike
same-end : (p : Program) (a b : What) (target : ℕ) → is_same_what a b ≡ true → timed_out p a target ≡ timed_out p b target
same-end p Send Send target e = refl
same-end p Send Receive target e = absurd (true≢false (sym e))
same-end p Send Take target e = absurd (true≢false (sym e))
same-end p Receive Send target e = absurd (true≢false (sym e))
same-end p Receive Receive target e = refl
same-end p Receive Take target e = absurd (true≢false (sym e))
same-end p Take Send target e = absurd (true≢false (sym e))
same-end p Take Receive target e = absurd (true≢false (sym e))
same-end p Take Take target e = refl

-- who waits for this awaits as many results as the end of the wait by time has
pub awaited-calls : (p : Program) (K : State) (what : What) (target u : ℕ) (thread : Thread) → IsSound p K → thread_of K u ≡ Some thread →
    waits_for what target thread ≡ true → IsAwaiting p thread (length (timed_out p what target))
awaited-calls p K what target u thread h lives waits = go thread.activity refl waits
  where
    go : (a : Activity) → thread.activity ≡ a →
        elim a [ Ready ↦ false | Delayed wake ↦ false | Waiting wait ↦ is_same_what wait.what what && wait.target == target ] ≡ true →
        IsAwaiting p thread (length (timed_out p what target))
    go Ready is e = absurd (true≢false (sym e))
    go (Delayed wake) is e = absurd (true≢false (sym e))
    go (Waiting wait) is e = let same = and_parts (is_same_what wait.what what) (wait.target == target) e in
        subst (λ (rs : List ℕ). IsAwaiting p thread (length rs))
        (ap (timed_out p wait.what) (eqb-true wait.target target same.1) ∙ same-end p wait.what what target same.0)
        (waiting-calls p K u thread wait h lives is)

-- the first that waits for this lives, waits for it, and awaits so many results
pub first-calls : (p : Program) (K : State) (what : What) (target u : ℕ) → IsSound p K → first K what target ≡ Some u →
    (thread : Thread) × (thread_of K u ≡ Some thread) × (waits_for what target thread ≡ true) × IsAwaiting p thread (length (timed_out p what target))
first-calls p K what target u h e = let head = head_of_line (waits_for what target) K u e in
    (head.0, head.1, head.2, awaited-calls p K what target u head.0 h head.1 head.2)
