-- What a thread does keeps it one that its start and its records give back.
use Rattle.std.proofs.Common.{◌≡◌, ℕ, ◌+◌, true, false, cond, ◌==◌, List, [], ◌∷◌, ◌++◌, length, Option, Some, None, slice_get, option_and_then, refl, sym, ap, subst, ◌∙◌, eq-eqb}
use Rattle.std.proofs.lemmas.Bool.{and_from, cond-true, cond-false}
use Rattle.std.proofs.lemmas.List.{length-map}
use Rattle.std.proofs.lemmas.List.Sums.{sum_by_push}
use Rattle.kernel_model.specs.Kernel.{Activity, Thread}
use Rattle.kernel_model.specs.Kernel.Activity.{Ready}
use Rattle.kernel_model.specs.Serve.{words_of, served, awake, turned}
use Rattle.kernel_model.specs.Calls.{born}
use Rattle.kernel_model.specs.Run.{arrived}
use Rattle.kernel_model.specs.Placed.{IsPlaced}
use Rattle.kernel_model.specs.Relived.{is_open, life_of, words_in, record_of, IsRelived}
use Rattle.kernel_model.proofs.ActLemmas.{ahead-before}
use Rattle.kernel_model.proofs.KeptLaws.{relived-kept}
use Rattle.kernel_model.proofs.PlacedLemmas.{moved-placed, bind-placed, inside-placed}
use Rattle.kernel_model.proofs.TurnLemmas.{ahead-placed, birth-placed, turn-inside}
use Rattle.thread_tree.specs.declared.local.Local.{Local}
use Rattle.thread_tree.specs.declared.block.Block.{Block}
use Rattle.thread_tree.specs.declared.block.Stmt.{Stmt, out-Stmt}
use Rattle.thread_tree.specs.declared.tree.Tree.{Tree}
use Rattle.thread_tree.specs.Program.{Program, Template, program_of}
use Rattle.thread_tree.specs.Kinds.{Action, action_of, is_unrecorded, result_count, record_words_of, kind_word}
use Rattle.thread_tree.specs.LocalState.{LocalState, next_action, after_first, bind, loop_block, birth}
use Rattle.thread_tree.specs.Ahead.{Arrival, ahead}
use Rattle.thread_tree.specs.Ahead.Arrival.{AtAction, Finished, Watchdog}
use Rattle.thread_tree.specs.Actions.{Spot, loops, inside, spot_at, names_in, values_of}
use Rattle.thread_tree.specs.Relive.{Start, Record, Life, where_as_many, started, records, passed_by, passed, relived, opened, begun, relive}
use Rattle.thread_tree.specs.Relive.Start.{Birth, Loop}

-- a value that follows from one
followed : {X Y : Type 0} (f : X → Option Y) (o : Option X) (x : X) → o ≡ Some x → option_and_then f o ≡ f x
followed f o x e = ap (option_and_then f) e

-- the words of the record of an action that leaves one
words-recorded : (action : Action) (results : List ℕ) → is_unrecorded action.kind ≡ false → length results ≡ result_count action.kind action.given →
    record_words_of action.kind action.given ≡ words_in (record_of action results)
words-recorded action results recorded many =
    cond-false (is_unrecorded action.kind) 0 (1 + result_count action.kind action.given) recorded ∙ ap (λ n. 1 + n) (sym many)

module _ (p : Program) where
  -- one record more
  relived-more : (rs : List Record) (r : Record) (life : Option Life) → relived p (rs ++ r ∷ []) life ≡ option_and_then (passed p r) (relived p rs life)
  relived-more [] r life = refl
  relived-more (x ∷ rs) r life = relived-more rs r (option_and_then (passed p x) life)

  -- a life that arrived at an action and passes it by
  passes : (r : Record) (life : Life) (statement : Stmt) (action : Action) → (ahead p life.local).arrival ≡ AtAction statement → action_of p statement ≡ Some action →
      records action r ≡ true →
      passed p r life ≡ Some (record { local = bind p (ahead p life.local).local r.results; moves = life.moves + (ahead p life.local).moves; passed = life.passed + 1 })
  passes r life statement action at is fits =
      ap (λ (arrival : Arrival). elim arrival [
        | AtAction statement ↦ option_and_then (λ action. passed_by p r life (ahead p life.local) action) (action_of p statement)
        | Finished ↦ None
        | Watchdog ↦ None
      ]) at
      ∙ followed (λ action. passed_by p r life (ahead p life.local) action) (action_of p statement) action is
      ∙ cond-true (records action r) (Some (record { local = bind p (ahead p life.local).local r.results; moves = life.moves + (ahead p life.local).moves; passed = life.passed + 1 })) None fits

  -- a life that goes on to the action that is open
  opens : (life : Life) (statement : Stmt) → (ahead p life.local).arrival ≡ AtAction statement →
      opened p life ≡ Some (record life { local = (ahead p life.local).local; moves = life.moves + (ahead p life.local).moves })
  opens life statement at = ap (λ (arrival : Arrival). elim arrival [
    | AtAction statement ↦ Some (record life { local = (ahead p life.local).local; moves = life.moves + (ahead p life.local).moves })
    | Finished ↦ None
    | Watchdog ↦ None
  ]) at

  -- a life that went on arrived at an action
  opened-from : (life later : Life) → opened p life ≡ Some later → (statement : Stmt) × ((ahead p life.local).arrival ≡ AtAction statement)
  opened-from life later e = go (ahead p life.local).arrival refl e
    where
      go : (arrival : Arrival) → (ahead p life.local).arrival ≡ arrival → elim arrival [
        | AtAction statement ↦ Some (record life { local = (ahead p life.local).local; moves = life.moves + (ahead p life.local).moves })
        | Finished ↦ None
        | Watchdog ↦ None
      ] ≡ Some later → (statement : Stmt) × ((ahead p life.local).arrival ≡ AtAction statement)
      go (AtAction statement) at e = (statement, at)
      go Finished at e = absurd (let f : ◌≡◌ {A = Option Life} None (Some later) = e in cc)
      go Watchdog at e = absurd (let f : ◌≡◌ {A = Option Life} None (Some later) = e in cc)

  -- a record fits its action
  fits : (action : Action) (results : List ℕ) → length results ≡ result_count action.kind action.given → records action (record_of action results) ≡ true
  fits action results many = and_from (kind_word action.kind action.given == kind_word action.kind action.given) (result_count action.kind action.given == length results)
      (eq-eqb _ _ refl) (eq-eqb _ _ (sym many))

  -- the birth of a thread
  pub born-relived : (number : ℕ) (t : Template) (arguments : List ℕ) (stamp : ℕ) → slice_get p.templates number ≡ Some t →
      length arguments ≡ length t.parameters → IsRelived p (Birth number arguments) [] (born number t arguments stamp)
  born-relived number t arguments stamp e many = record {
    lives = ap (option_and_then (λ s. Some (begun s)))
        (followed (λ t. where_as_many t.parameters arguments (birth t arguments)) (slice_get p.templates number) t e
        ∙ cond-true (length t.parameters == length arguments) (Some (birth t arguments)) None (eq-eqb _ _ (sym many)));
    owes = refl;
  }

  module _ (start : Start) (rs : List Record) (thread : Thread) (h : IsRelived p start rs thread) where
    -- the life up to the records
    life_up : Option Life
    life_up = relived p rs (option_and_then (λ s. Some (begun s)) (started p start))

    -- a ready thread has no open call
    closed : thread.activity ≡ Ready → life_up ≡ Some (life_of thread)
    unfolding life_up
    closed ready = subst (λ (a : Activity). relive p start rs (is_open a) ≡ Some (life_of thread)) ready h.lives

    -- an action of a ready thread is served
    pub served-relived : (statement : Stmt) (action : Action) (results : List ℕ) → thread.activity ≡ Ready →
        (ahead p thread.local).arrival ≡ AtAction statement → action_of p statement ≡ Some action → is_unrecorded action.kind ≡ false →
        length results ≡ result_count action.kind action.given →
        IsRelived p start (rs ++ record_of action results ∷ []) (served p results (arrived (ahead p thread.local) thread))
    unfolding life_up
    served-relived statement action results ready at is recorded many = record {
      lives = subst (λ (a : Activity). relive p start (rs ++ record_of action results ∷ []) (is_open a) ≡ Some (life_of (served p results (arrived (ahead p thread.local) thread)))) (sym ready)
          (relived-more rs (record_of action results) (option_and_then (λ s. Some (begun s)) (started p start))
          ∙ followed (passed p (record_of action results)) life_up (life_of thread) (closed ready)
          ∙ passes (record_of action results) (life_of thread) statement action at is (fits action results many));
      owes = sum_by_push words_in rs (record_of action results) ∙ ap (λ n. n + words_in (record_of action results)) h.owes
          ∙ ap (λ n. thread.debt + n) (sym (words-recorded action results recorded many)
          ∙ sym (ap words_of (ap (λ (o : Option Stmt). elim o [ None ↦ None | Some statement ↦ action_of p statement ]) (ahead-before p thread.local statement at) ∙ is)));
    }

    -- a ready thread comes to a call that stays open
    pub opened-relived : (statement : Stmt) (activity : Activity) → thread.activity ≡ Ready → (ahead p thread.local).arrival ≡ AtAction statement →
        is_open activity ≡ true → IsRelived p start rs (record (arrived (ahead p thread.local) thread) { activity = activity })
    unfolding life_up
    opened-relived statement activity ready at is = record {
      lives = ap (λ b. cond b (option_and_then (opened p) life_up) life_up) is
          ∙ followed (opened p) life_up (life_of thread) (closed ready) ∙ opens (life_of thread) statement at;
      owes = h.owes;
    }

    -- an open call is finished
    pub finished-relived : (action : Action) (results : List ℕ) → is_open thread.activity ≡ true → next_action p thread.local ≡ Some action →
        is_unrecorded action.kind ≡ false → length results ≡ result_count action.kind action.given →
        IsRelived p start (rs ++ record_of action results ∷ []) (awake p results thread)
    unfolding life_up
    finished-relived action results unfinished next recorded many = go life_up refl
        (ap (λ b. cond b (option_and_then (opened p) life_up) life_up) (sym unfinished) ∙ h.lives)
      where
        by : (life : Life) → life_up ≡ Some life → opened p life ≡ Some (life_of thread) → IsRelived p start (rs ++ record_of action results ∷ []) (awake p results thread)
        by life up e =
            let at = opened-from life (life_of thread) e in
            let later : Life = record life { local = (ahead p life.local).local; moves = life.moves + (ahead p life.local).moves } in
            let both : Some later ≡ Some (life_of thread) = sym (opens life at.0 at.1) ∙ e in
            let same : later ≡ life_of thread = cc in
            let stands : next_action p later.local ≡ action_of p at.0 =
            ap (λ (o : Option Stmt). elim o [ None ↦ None | Some statement ↦ action_of p statement ]) (ahead-before p life.local at.0 at.1) in
            let is : action_of p at.0 ≡ Some action = sym stands ∙ ap (λ (l : Life). next_action p l.local) same ∙ next in
            record {
              lives = relived-more rs (record_of action results) (option_and_then (λ s. Some (begun s)) (started p start))
                  ∙ followed (passed p (record_of action results)) life_up life up
                  ∙ passes (record_of action results) life at.0 action at.1 is (fits action results many)
                  ∙ ap (λ (l : Life). Some (record { local = bind p l.local results; moves = l.moves; passed = l.passed + 1 })) same;
              owes = sum_by_push words_in rs (record_of action results) ∙ ap (λ n. n + words_in (record_of action results)) h.owes
                  ∙ ap (λ n. thread.debt + n) (sym (words-recorded action results recorded many) ∙ sym (ap words_of next));
            }

        go : (o : Option Life) → life_up ≡ o → option_and_then (opened p) o ≡ Some (life_of thread) →
            IsRelived p start (rs ++ record_of action results ∷ []) (awake p results thread)
        go None up e = absurd (let f : ◌≡◌ {A = Option Life} None (Some (life_of thread)) = e in cc)
        go (Some life) up e = by life up e

    -- a turn of a persistent loop begins anew
    pub turned-relived : (statement : Stmt) (block : Block) → thread.activity ≡ Ready → IsPlaced p thread.local →
        (ahead p thread.local).arrival ≡ AtAction statement → loop_block (out-Stmt statement) ≡ Some block → (ahead p thread.local).local.below ≡ [] →
        (number : ℕ)
        × (slice_get (loops p) number ≡ Some (spot_at statement (names_in (ahead p thread.local).local.top.locals) (after_first (ahead p thread.local).local.top.todo)))
        × IsRelived p (Loop number (values_of (ahead p thread.local).local.top.locals)) [] (turned (arrived (ahead p thread.local) thread))
    turned-relived statement block ready placed at is alone =
        let local : LocalState = (ahead p thread.local).local in
        let spot : Spot = spot_at statement (names_in local.top.locals) (after_first local.top.todo) in
        let law = turn-inside p local statement block (ahead-placed p thread.local placed) alone (ahead-before p thread.local statement at) is in (
          law.0,
          law.1,
          record {
            lives = subst (λ (a : Activity). relive p (Loop law.0 (values_of local.top.locals)) [] (is_open a) ≡ Some (life_of (turned (arrived (ahead p thread.local) thread)))) (sym ready)
                (ap (option_and_then (λ s. Some (begun s)))
                (followed (λ spot. where_as_many spot.scope (values_of local.top.locals) (inside spot (values_of local.top.locals))) (slice_get (loops p) law.0) spot law.1
                ∙ cond-true (length spot.scope == length (values_of local.top.locals)) (Some (inside spot (values_of local.top.locals))) None
                (eq-eqb _ _ (length-map local.top.locals (λ (l : Local). l.name) ∙ sym (length-map local.top.locals (λ (l : Local). l.value)))))
                ∙ ap (λ (s : LocalState). Some (begun s)) (sym law.2));
            owes = refl;
          },
        )

-- a thread that its start and its records give back stands where the program of a tree has it
pub relived-placed : (tree : Tree) (start : Start) (rs : List Record) (thread : Thread) → IsRelived (program_of tree) start rs thread →
    IsPlaced (program_of tree) thread.local
relived-placed tree = let p = program_of tree in relived-kept p (IsPlaced p) (record {
  born = birth-placed tree;
  entered = inside-placed p;
  moved = moved-placed p;
  bound = bind-placed p;
})
