-- What a thread has at its start, and its moves and the results of its actions keep, it has always.
use Rattle.std.proofs.Common.{◌≡◌, ℕ, zero, suc, ◌+◌, Bool, ◌==◌, List, [], ◌∷◌, length, Option, Some, None, MatchOption, slice_get, option_and_then, refl, sym, ap, subst, ◌∙◌, eqb-true}
use Rattle.std.specs.Prelude.{⊤}
use Rattle.std.proofs.lemmas.Bool.{cond_both}
use Rattle.kernel_model.specs.Kernel.{Thread}
use Rattle.kernel_model.specs.Relived.{is_open, IsRelived}
use Rattle.kernel_model.proofs.ActLemmas.{ahead-before}
use Rattle.thread_tree.specs.declared.block.Stmt.{Stmt}
use Rattle.thread_tree.specs.Program.{Program, Template}
use Rattle.thread_tree.specs.Kinds.{Action, action_of}
use Rattle.thread_tree.specs.LocalState.{LocalState, move, next_action, bind, birth}
use Rattle.thread_tree.specs.Ahead.{Ahead, Arrival, stops, goes_on, ahead_by, most_moves, ahead}
use Rattle.thread_tree.specs.Ahead.Arrival.{AtAction, Finished, Watchdog}
use Rattle.thread_tree.specs.Actions.{Spot, loops, inside}
use Rattle.thread_tree.specs.Relive.{Start, Record, Life, where_as_many, started, records, passed_by, passed, relived, opened, begun, relive}
use Rattle.thread_tree.specs.Relive.Start.{Birth, Loop}

-- what each start of a thread has, and each move and each result of an action keeps
pub record IsKept (p : Program) (P : LocalState → Type 0) : Type 0 where
  pub born : (number : ℕ) (t : Template) (arguments : List ℕ) → slice_get p.templates number ≡ Some t → length arguments ≡ length t.parameters → P (birth t arguments)
  pub entered : (number : ℕ) (spot : Spot) (values : List ℕ) → slice_get (loops p) number ≡ Some spot → length values ≡ length spot.scope → P (inside spot values)
  pub moved : (s t : LocalState) → P s → move p s ≡ Some t → P t
  pub bound : (s : LocalState) (action : Action) (results : List ℕ) → P s → next_action p s ≡ Some action → P (bind p s results)

module _ (p : Program) (P : LocalState → Type 0) (moved : (s t : LocalState) → P s → move p s ≡ Some t → P t) where
  -- a thread that has no move left
  stops-kept : (s : LocalState) (o : Option LocalState) → P s → P (stops s o).local
  stops-kept s None h = h
  stops-kept s (Some next) h = h

  -- a thread that makes its next move, if there is one
  goes_on-kept : (go : LocalState → Ahead) (s : LocalState) (o : Option LocalState) → move p s ≡ o → P s →
      ((next : LocalState) → P next → P (go next).local) → P (goes_on go s o).local
  goes_on-kept go s None is h all = h
  goes_on-kept go s (Some next) is h all = all next (moved s next h is)

  -- a thread that makes so many moves at most
  ahead_by-kept : (n : ℕ) (s : LocalState) → P s → P (ahead_by p n s).local
  unfolding ahead_by
  ahead_by-kept zero s h = stops-kept s (move p s) h
  ahead_by-kept (suc n) s h = goes_on-kept (λ next. ahead_by p n next) s (move p s) refl h (λ next g. ahead_by-kept n next g)

  -- what each move keeps, running ahead keeps
  pub ahead-kept : (s : LocalState) → P s → P (ahead p s).local
  ahead-kept s h = ahead_by-kept most_moves s h

module _ (p : Program) (P : LocalState → Type 0) (kept : IsKept p P) where
  -- a life whose local state has it, if there is one
  abbrev LivesIfSome : Option Life → Type 0
  LivesIfSome o = MatchOption o ⊤ (λ life. P life.local)

  -- a local state that has it, if there is one
  abbrev HasIfSome : Option LocalState → Type 0
  HasIfSome o = MatchOption o ⊤ P

  -- a state with as many values as names
  many-has : (names values : List ℕ) (s : LocalState) → (length values ≡ length names → P s) → HasIfSome (where_as_many names values s)
  many-has names values s h = cond_both (length names == length values) (Some s) None HasIfSome
      (λ e. h (sym (eqb-true (length names) (length values) e))) (λ e. tt)

  -- the state at a start
  started-has : (start : Start) → HasIfSome (started p start)
  started-has (Birth number arguments) = go (slice_get p.templates number) refl
    where
      go : (o : Option Template) → slice_get p.templates number ≡ o → HasIfSome (option_and_then (λ t. where_as_many t.parameters arguments (birth t arguments)) o)
      go None e = tt
      go (Some t) e = many-has t.parameters arguments (birth t arguments) (kept.born number t arguments e)
  started-has (Loop number values) = go (slice_get (loops p) number) refl
    where
      go : (o : Option Spot) → slice_get (loops p) number ≡ o → HasIfSome (option_and_then (λ spot. where_as_many spot.scope values (inside spot values)) o)
      go None e = tt
      go (Some spot) e = many-has spot.scope values (inside spot values) (kept.entered number spot values e)

  -- a life that begins
  begun-lives : (o : Option LocalState) → HasIfSome o → LivesIfSome (option_and_then (λ s. Some (begun s)) o)
  begun-lives None h = tt
  begun-lives (Some s) h = h

  -- one record more
  passed-lives : (r : Record) (life : Life) → P life.local → LivesIfSome (passed p r life)
  passed-lives r life h = go (ahead p life.local).arrival refl
    where
      a : Ahead
      a = ahead p life.local

      by : (statement : Stmt) → a.arrival ≡ AtAction statement → (o : Option Action) → action_of p statement ≡ o →
          LivesIfSome (option_and_then (λ action. passed_by p r life a action) o)
      by statement at None is = tt
      by statement at (Some action) is = cond_both (records action r)
          (Some (record { local = bind p a.local r.results; moves = life.moves + a.moves; passed = life.passed + 1 })) None LivesIfSome
          (λ e. kept.bound a.local action r.results (ahead-kept p P kept.moved life.local h)
          (ap (λ (o : Option Stmt). elim o [ None ↦ None | Some statement ↦ action_of p statement ]) (ahead-before p life.local statement at) ∙ is))
          (λ e. tt)

      go : (arrival : Arrival) → a.arrival ≡ arrival → LivesIfSome (elim arrival [
        | AtAction statement ↦ option_and_then (λ action. passed_by p r life a action) (action_of p statement)
        | Finished ↦ None
        | Watchdog ↦ None
      ])
      go (AtAction statement) at = by statement at (action_of p statement) refl
      go Finished at = tt
      go Watchdog at = tt

  -- one record more of a life, if there is one
  next-lives : (r : Record) (o : Option Life) → LivesIfSome o → LivesIfSome (option_and_then (passed p r) o)
  next-lives r None h = tt
  next-lives r (Some life) h = passed-lives r life h

  -- all records
  relived-lives : (rs : List Record) (o : Option Life) → LivesIfSome o → LivesIfSome (relived p rs o)
  relived-lives [] o h = h
  relived-lives (r ∷ rs) o h = relived-lives rs (option_and_then (passed p r) o) (next-lives r o h)

  -- an action that is still open
  opened-lives : (life : Life) → P life.local → LivesIfSome (opened p life)
  opened-lives life h = go (ahead p life.local).arrival
    where
      go : (arrival : Arrival) → LivesIfSome (elim arrival [
        | AtAction statement ↦ Some (record life { local = (ahead p life.local).local; moves = life.moves + (ahead p life.local).moves })
        | Finished ↦ None
        | Watchdog ↦ None
      ])
      go (AtAction statement) = ahead-kept p P kept.moved life.local h
      go Finished = tt
      go Watchdog = tt

  -- an action that is still open of a life, if there is one
  open-lives : (o : Option Life) → LivesIfSome o → LivesIfSome (option_and_then (opened p) o)
  open-lives None h = tt
  open-lives (Some life) h = opened-lives life h

  -- the life that a start and records give back, if they do
  relive-lives : (start : Start) (rs : List Record) (is_open : Bool) → LivesIfSome (relive p start rs is_open)
  relive-lives start rs is_open =
      let life : Option Life = relived p rs (option_and_then (λ s. Some (begun s)) (started p start)) in
      let h : LivesIfSome life = relived-lives rs (option_and_then (λ s. Some (begun s)) (started p start)) (begun-lives (started p start) (started-has start)) in
      cond_both is_open (option_and_then (opened p) life) life LivesIfSome (λ e. open-lives life h) (λ e. h)

  -- a thread that its start and its records give back has it
  pub relived-kept : (start : Start) (rs : List Record) (thread : Thread) → IsRelived p start rs thread → P thread.local
  relived-kept start rs thread h = subst LivesIfSome h.lives (relive-lives start rs (is_open thread.activity))
