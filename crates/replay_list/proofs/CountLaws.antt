-- The records that give a thread back are those of its actions, and it passed as many.
use Rattle.std.proofs.Common.{◌≡◌, ℕ, ◌+◌, ◌-◌, ◌*◌, ◌<◌, ◌==◌, ◌/◌, ◌%◌, Bool, true, false, List, [], ◌∷◌, Option, Some, None, refl, ap, sym, subst, ◌∙◌, arith, length, if◌then◌else◌, eqb-true}
use Rattle.std.specs.Prelude.{◌&&◌, slice_index, option_and_then}
use Rattle.std.proofs.lemmas.Bool.{cond-false, cond_both, false≢true}
use Rattle.thread_tree.specs.declared.action.Call.{Call}
use Rattle.thread_tree.specs.declared.action.Call.TheVariants as call
use Rattle.thread_tree.specs.declared.block.Stmt.{Stmt, out-Stmt}
use Rattle.thread_tree.specs.declared.block.Stmt.TheOpen.{Stmt-F}
use Rattle.thread_tree.specs.declared.block.Stmt.TheOpen as stmt
use Rattle.thread_tree.specs.Program.{Program}
use Rattle.thread_tree.specs.Kinds.{Action, action_of, action_layer, kind_of_call, kind_word, result_count, results}
use Rattle.thread_tree.specs.LocalState.{LocalState, bind}
use Rattle.thread_tree.specs.Ahead.{Ahead, Arrival, ahead}
use Rattle.thread_tree.specs.Ahead.Arrival.{AtAction, Finished, Watchdog}
use Rattle.thread_tree.specs.Relive.{Start, Record, Life, started, records, passed_by, passed, relived, opened, begun, relive}
use Rattle.kernel_model.specs.Kernel.{Thread}
use Rattle.kernel_model.specs.Relived.{is_open, life_of}
use Rattle.kernel_image.specs.Decoded.{RowWords}
use Rattle.replay_list.specs.Records.{results_of, start_in, IsFit, AreFit}
use Rattle.replay_list.specs.Stands.{IsLife}

-- two tests that both pass
both-true : (a b : Bool) → (a && b) ≡ true → (a ≡ true) × (b ≡ true)
both-true true b e = (refl, e)
both-true false b e = absurd (false≢true e)

-- kinds are small
call-few : (c : Call) → kind_of_call c < 256
call-few (call.Print items) = omega arith
call-few c = omega arith

-- the kind of an action, if there is one
abbrev kind_in : Option Action → ℕ
kind_in None = 0
kind_in (Some action) = action.kind

layer-few : {S B : Type 0} (p : Program) (layer : Stmt-F S B) → kind_in (action_layer p layer) < 256
layer-few p (stmt.Let at e) = omega arith
layer-few p (stmt.Set at e) = omega arith
layer-few p (stmt.Apply to callee arguments) = omega arith
layer-few p (stmt.If e then_block else_block) = omega arith
layer-few p (stmt.While e body) = omega arith
layer-few p (stmt.Ploop place body) = omega arith
layer-few p (stmt.Break place) = omega arith
layer-few p (stmt.Return place value) = omega arith
layer-few p (stmt.Atomic place to body) = omega arith
layer-few p (stmt.Call place c to) = call-few c

kind-few : (p : Program) (s : Stmt) (action : Action) → action_of p s ≡ Some action → action.kind < 256
kind-few p s action e = subst (λ n. n < 256) (ap kind_in e) (layer-few p (out-Stmt s))

-- the kind word of an action tells how many results it has
results_of-kind_word : (kind given : ℕ) → kind < 256 → results_of (kind_word kind given) ≡ result_count kind given
results_of-kind_word kind given few = cond_both (kind == 16) (16 + 256 * given) kind (λ w. results_of w ≡ result_count kind given)
    (λ yes.
    let is : kind ≡ 16 = eqb-true kind 16 yes in
    let low : (16 + 256 * given) % 256 ≡ kind = omega (arith, is) in
    let high : (16 + 256 * given) / 256 ≡ given = omega arith in
    ap (λ k. result_count k ((16 + 256 * given) / 256)) low ∙ ap (λ g. result_count kind g) high)
    (λ other.
    let low : kind % 256 ≡ kind = omega (arith, few) in
    ap (λ k. result_count k (kind / 256)) low
    ∙ ap (λ n. slice_index results (kind - 1) + n) (cond-false (kind == 16) (kind / 256) 0 other ∙ sym (cond-false (kind == 16) given 0 other)))

-- the kind word of an action's record tells how many results it has
pub results_told : (p : Program) (s : Stmt) (action : Action) → action_of p s ≡ Some action →
    results_of (kind_word action.kind action.given) ≡ result_count action.kind action.given
results_told p s action is = results_of-kind_word action.kind action.given (kind-few p s action is)

-- the kind word of a call is its kind
pub word_of_call : (c : Call) → kind_word (kind_of_call c) 0 ≡ kind_of_call c
word_of_call (call.Print items) = refl
word_of_call c = refl

-- how many records a life passed, if there is one
abbrev passed_in : Option Life → ℕ
passed_in None = 0
passed_in (Some life) = life.passed

module _ (p : Program) where
  -- a record that is passed fits, and counts
  record IsPassed (r : Record) (life later : Life) : Type 0 where
    pub fit : IsFit r
    pub one : later.passed ≡ life.passed + 1

  by_records : (r : Record) (life later : Life) (s : Stmt) (action : Action) (next : Life) → action_of p s ≡ Some action → (b : Bool) → records action r ≡ b → next.passed ≡ life.passed + 1 → (if b then Some next else None) ≡ Some later → IsPassed r life later
  by_records r life later s action next is true fits one e =
      let tests = both-true (kind_word action.kind action.given == r.kind) (result_count action.kind action.given == length r.results) fits in
      let kind : kind_word action.kind action.given ≡ r.kind = eqb-true _ _ tests.0 in
      let many : result_count action.kind action.given ≡ length r.results = eqb-true _ _ tests.1 in
      record {
        fit = ap results_of (sym kind) ∙ results_told p s action is ∙ many;
        one = sym (ap passed_in e) ∙ one;
      }
  by_records r life later s action next is false fits one e = absurd (let f : ◌≡◌ {A = Option Life} None (Some later) = e in cc)

  passed-from : (r : Record) (life later : Life) → passed p r life ≡ Some later → IsPassed r life later
  passed-from r life later e = go (ahead p life.local).arrival e
    where
      a : Ahead
      a = ahead p life.local

      by : (s : Stmt) (o : Option Action) → action_of p s ≡ o → option_and_then (λ action. passed_by p r life (ahead p life.local) action) o ≡ Some later → IsPassed r life later
      by s None is e = absurd (let f : ◌≡◌ {A = Option Life} None (Some later) = e in cc)
      by s (Some action) is e = by_records r life later s action
          (record { local = bind p (ahead p life.local).local r.results; moves = life.moves + (ahead p life.local).moves; passed = life.passed + 1 }) is (records action r) refl refl e

      go : (arrival : Arrival) → elim arrival [
        | AtAction statement ↦ option_and_then (λ action. passed_by p r life (ahead p life.local) action) (action_of p statement)
        | Finished ↦ None
        | Watchdog ↦ None
      ] ≡ Some later → IsPassed r life later
      go (AtAction s) e = by s (action_of p s) refl e
      go Finished e = absurd (let f : ◌≡◌ {A = Option Life} None (Some later) = e in cc)
      go Watchdog e = absurd (let f : ◌≡◌ {A = Option Life} None (Some later) = e in cc)

  -- a life that went on to an open call passed no record
  opened-from : (life later : Life) → opened p life ≡ Some later → later.passed ≡ life.passed
  opened-from life later e = go (ahead p life.local).arrival e
    where
      go : (arrival : Arrival) → elim arrival [
        | AtAction statement ↦ Some (record life { local = (ahead p life.local).local; moves = life.moves + (ahead p life.local).moves })
        | Finished ↦ None
        | Watchdog ↦ None
      ] ≡ Some later → later.passed ≡ life.passed
      go (AtAction s) e = sym (ap passed_in e)
      go Finished e = absurd (let f : ◌≡◌ {A = Option Life} None (Some later) = e in cc)
      go Watchdog e = absurd (let f : ◌≡◌ {A = Option Life} None (Some later) = e in cc)

  -- records that were passed from a life on
  record ArePassed (rs : List Record) (o : Option Life) (last : Life) : Type 0 where
    pub first : Life
    pub is : o ≡ Some first
    pub fit : AreFit rs
    pub many : last.passed ≡ first.passed + length rs

  relived-from : (rs : List Record) (o : Option Life) (last : Life) → relived p rs o ≡ Some last → ArePassed rs o last
  relived-from [] o last e = record { first = last; is = e; fit = tt; many = omega arith }
  relived-from (r ∷ rs) o last e = go o (relived-from rs (option_and_then (passed p r) o) last e)
    where
      go : (o : Option Life) → ArePassed rs (option_and_then (passed p r) o) last → ArePassed (r ∷ rs) o last
      go None rest = absurd (let f : ◌≡◌ {A = Option Life} None (Some rest.first) = rest.is in cc)
      go (Some life) rest =
          let one = passed-from r life rest.first rest.is in
          record { first = life; is = refl; fit = (one.fit, rest.fit); many = omega (arith, one.one, rest.many) }

  -- a life that begins passed none
  begun-none : (o : Option LocalState) (first : Life) → option_and_then (λ s. Some (begun s)) o ≡ Some first → first.passed ≡ 0
  begun-none None first e = absurd (let f : ◌≡◌ {A = Option Life} None (Some first) = e in cc)
  begun-none (Some s) first e = sym (ap passed_in e)

  relived-counts : (start : Start) (rs : List Record) (last : Life) → relived p rs (option_and_then (λ s. Some (begun s)) (started p start)) ≡ Some last → AreFit rs × (last.passed ≡ length rs)
  relived-counts start rs last e =
      let all = relived-from rs (option_and_then (λ s. Some (begun s)) (started p start)) last e in
      let none = begun-none (started p start) all.first all.is in
      (all.fit, omega (arith, all.many, none))

  relive-counts : (start : Start) (rs : List Record) (is_open : Bool) (last : Life) → relive p start rs is_open ≡ Some last → AreFit rs × (last.passed ≡ length rs)
  relive-counts start rs false last e = relived-counts start rs last e
  relive-counts start rs true last e = go (relived p rs (option_and_then (λ s. Some (begun s)) (started p start))) refl e
    where
      go : (o : Option Life) → relived p rs (option_and_then (λ s. Some (begun s)) (started p start)) ≡ o → option_and_then (opened p) o ≡ Some last → AreFit rs × (last.passed ≡ length rs)
      go None up e = absurd (let f : ◌≡◌ {A = Option Life} None (Some last) = e in cc)
      go (Some life) up e =
          let all = relived-counts start rs life up in
          let same = opened-from life last e in
          (all.0, omega (arith, all.1, same))

-- the records of a live thread each fit, and are as many as it passed
pub counts_records : (p : Program) (row : RowWords) (thread : Thread) (life : IsLife p row thread) → AreFit life.records × (thread.passed ≡ length life.records)
counts_records p row thread life = relive-counts p (start_in row) life.records (is_open thread.activity) (life_of thread) life.relived.lives
