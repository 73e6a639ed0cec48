-- A step keeps all live threads ready, and what they have to do is written in the program.
use Rattle.std.proofs.Common.{◌≡◌, ℕ, zero, suc, ◌+◌, ◌-◌, cond, List, [], ◌∷◌, ◌++◌, length, get_or, set, replicate, Option, Some, None, MatchOption, refl, subst}
use Rattle.std.specs.Prelude.{IsTrue, ⊤, nat_lt, nat_le}
use Rattle.std.specs.List.{AllByRecursion}
use Rattle.std.proofs.lemmas.Bool.{cond_both, false≢true}
use Rattle.kernel_model.specs.Kernel.{Thread, Row, State, live_in, row_of, thread_of, row_with, changed}
use Rattle.kernel_model.specs.Kernel.Activity.{Ready}
use Rattle.kernel_model.specs.Kernel.Row.{Free, Ended, Live}
use Rattle.kernel_model.specs.Order.{chosen}
use Rattle.kernel_model.specs.Serve.{Effect, answers, served, stopped, settle, settled}
use Rattle.kernel_model.specs.Serve.Fate.{Serves, Stops}
use Rattle.kernel_model.specs.Calls.{print, console_room}
use Rattle.kernel_model.specs.Transactions.{BlockEnd, block}
use Rattle.kernel_model.specs.Transactions.BlockEnd.{Gave, Aborted, Fault}
use Rattle.kernel_model.specs.Act.{effect_of_call, effect_of_end, effect_of_layer, effect_of, need, printed_line}
use Rattle.kernel_model.specs.Run.{record_room, ordinary_end, watchdog, no_record_room, arrived, performed, step_of, step}
use Rattle.thread_tree.specs.declared.local.Local.{Local}
use Rattle.thread_tree.specs.declared.action.Call.{Call}
use Rattle.thread_tree.specs.declared.action.Call.TheVariants as call
use Rattle.thread_tree.specs.declared.block.Block.{Block}
use Rattle.thread_tree.specs.declared.block.Stmt.{Stmt, Stmt-F, out-Stmt}
use Rattle.thread_tree.specs.declared.block.Stmt.TheOpen as stmt
use Rattle.thread_tree.specs.Program.{Program, program_of}
use Rattle.thread_tree.specs.Ahead.{Ahead, Arrival, ahead}
use Rattle.thread_tree.specs.Ahead.Arrival.{AtAction, Finished, Watchdog}
use Rattle.thread_tree.specs.declared.tree.Tree.{Tree}
use Rattle.thread_tree.specs.LocalState.{LocalState}
use Rattle.kernel_model.proofs.Callers.{IsWrittenState, bind-written, ahead-written, arrival-written}
use Rattle.served_program.specs.Served.{is_served_action, is_served_call, is_served}
use Rattle.served_program.proofs.Callers.{served_action}

module _ (p : Program) where
  -- a thread that is ready, and has things to do that are written in the program
  pub record IsServedThread (thread : Thread) : Type 0 where
    pub ready : thread.activity ≡ Ready
    pub todo : IsWrittenState p thread.local

  -- an arrival at an action is one at a served action
  abbrev Arrives : Arrival → Type 0
  Arrives arrival = (s : Stmt) → arrival ≡ AtAction s → IsTrue (is_served_action (out-Stmt s))

  -- a row where such a thread lives, or none
  abbrev pub IsServedRow : Row → Type 0
  IsServedRow Free = ⊤
  IsServedRow (Ended template priority code) = ⊤
  IsServedRow (Live thread) = IsServedThread thread

  abbrev pub AreServedRows : List Row → Type 0
  AreServedRows rows = AllByRecursion IsServedRow rows

  -- a kernel all of whose live threads are such
  abbrev pub IsServedKernel : State → Type 0
  IsServedKernel K = AreServedRows K.rows

  -- rows of which one is another
  set_rows : (rows : List Row) (t : ℕ) (row : Row) → AreServedRows rows → IsServedRow row → AreServedRows (set rows t row)
  set_rows [] t row h g = tt
  set_rows (first ∷ rows) zero row h g = (g, h.1)
  set_rows (first ∷ rows) (suc t) row h g = (h.0, set_rows rows t row h.1 g)

  -- the row of a number
  row_at : (rows : List Row) (t : ℕ) → AreServedRows rows → IsServedRow (get_or rows t Free)
  row_at [] t h = tt
  row_at (first ∷ rows) zero h = h.0
  row_at (first ∷ rows) (suc t) h = row_at rows t h.1

  -- the thread of a row
  thread_in : (row : Row) → IsServedRow row → MatchOption (live_in row) ⊤ IsServedThread
  thread_in Free h = tt
  thread_in (Ended template priority code) h = tt
  thread_in (Live thread) h = h

  -- the thread of a number is ready
  ready_in : (o : Option Thread) (thread : Thread) → MatchOption o ⊤ IsServedThread → o ≡ Some thread → thread.activity ≡ Ready
  ready_in None thread h e = absurd (let f : ◌≡◌ {A = Option Thread} None (Some thread) = e in cc)
  ready_in (Some own) thread h e = let f : ◌≡◌ {A = Option Thread} (Some own) (Some thread) = e in let same : own ≡ thread = cc in subst (λ (x : Thread). x.activity ≡ Ready) same h.ready

  pub ready_thread : (K : State) (t : ℕ) (thread : Thread) → IsServedKernel K → thread_of K t ≡ Some thread → thread.activity ≡ Ready
  ready_thread K t thread h e = ready_in (thread_of K t) thread (thread_in (row_of K t) (row_at K.rows t h)) e

  -- a row whose thread changes
  changed_row : (change : Thread → Thread) (row : Row) → ((thread : Thread) → IsServedThread thread → IsServedThread (change thread)) → IsServedRow row → IsServedRow (row_with change row)
  changed_row change Free all h = tt
  changed_row change (Ended template priority code) all h = tt
  changed_row change (Live thread) all h = all thread h

  changed_kernel : (K : State) (t : ℕ) (change : Thread → Thread) → ((thread : Thread) → IsServedThread thread → IsServedThread (change thread)) → IsServedKernel K → IsServedKernel (changed K t change)
  changed_kernel K t change all h = set_rows K.rows t (row_with change (row_of K t)) h (changed_row change (row_of K t) all (row_at K.rows t h))

  -- a row whose thread ends
  stopped_row : (code : ℕ) (row : Row) → IsServedRow row → IsServedRow (stopped code row)
  stopped_row code Free h = tt
  stopped_row code (Ended template priority before) h = tt
  stopped_row code (Live thread) h = tt

  stops : (K : State) (t code : ℕ) → IsServedKernel K → IsServedKernel (settle p t (Stops code) K)
  stops K t code h = set_rows K.rows t (stopped code (row_of K t)) h (stopped_row code (row_of K t) (row_at K.rows t h))

  -- an action that is finished with results
  serves : (K : State) (t : ℕ) (results : List ℕ) → IsServedKernel K → IsServedKernel (settle p t (Serves results) K)
  serves K t results h =
      changed_kernel K t (served p results) (λ thread g. record { ready = g.ready; todo = bind-written p thread.local results g.todo }) h

  -- a print
  prints : (K : State) (t : ℕ) (bytes : List ℕ) → IsServedKernel K → IsServedKernel (settled p t (print K bytes))
  prints K t bytes h =
      cond_both (nat_le (length K.console + length bytes) console_room) (answers (1 ∷ []) (record K { console = K.console ++ bytes })) (answers (0 ∷ []) K) (λ (effect : Effect). IsServedKernel (settled p t effect))
      (λ fits. serves (record K { console = K.console ++ bytes }) t (1 ∷ []) h)
      (λ full. serves K t (0 ∷ []) h)

  -- the end of a block
  ends : (K : State) (t given : ℕ) (how : BlockEnd) → IsServedKernel K → IsServedKernel (settled p t (effect_of_end K given how))
  ends K t given (Gave objects values) h = serves (record K { objects = objects }) t (1 ∷ values) h
  ends K t given Aborted h = serves K t (replicate (given + 1) 0) h
  ends K t given (Fault code) h = stops K t code h

  -- a served call
  calls : (K : State) (t : ℕ) (locals : List Local) (c : Call) → IsTrue (is_served_call c) → IsServedKernel K → IsServedKernel (settled p t (effect_of_call p K t locals c))
  calls K t locals (call.Print items) is h = prints K t (printed_line locals items) h
  calls K t locals c is h = absurd (false≢true is)

  -- a served action
  acts : (K : State) (t : ℕ) (locals : List Local) (x : Stmt-F Stmt Block) → IsTrue (is_served_action x) → IsServedKernel K → IsServedKernel (settled p t (effect_of_layer p K t locals x))
  acts K t locals (stmt.Let at e) is h = absurd (false≢true is)
  acts K t locals (stmt.Set at e) is h = absurd (false≢true is)
  acts K t locals (stmt.Apply to callee arguments) is h = absurd (false≢true is)
  acts K t locals (stmt.If e then_block other) is h = absurd (false≢true is)
  acts K t locals (stmt.While e body) is h = absurd (false≢true is)
  acts K t locals (stmt.Ploop place body) is h = absurd (false≢true is)
  acts K t locals (stmt.Break place) is h = absurd (false≢true is)
  acts K t locals (stmt.Return place value) is h = absurd (false≢true is)
  acts K t locals (stmt.Atomic place to body) is h = ends K t (length to - 1) (block p K.objects locals (length to - 1) body) h
  acts K t locals (stmt.Call place c to) is h = calls K t locals c is h

  -- what a thread performs where it arrives
  performs : (K : State) (t : ℕ) (a : Ahead) (thread : Thread) → Arrives a.arrival → IsServedKernel K → IsServedKernel (performed p K t a thread)
  performs K t a thread arrives h = go a.arrival arrives
    where
      go : (arrival : Arrival) → Arrives arrival → IsServedKernel (elim arrival [
        | Finished ↦ settle p t (Stops ordinary_end) K
        | Watchdog ↦ settle p t (Stops watchdog) K
        | AtAction statement ↦ cond (nat_lt record_room (thread.debt + need p t a.local.top.locals statement))
            (settle p t (Stops no_record_room) K)
            (settled p t (effect_of p K t a.local.top.locals statement))
      ])
      go Finished g = stops K t ordinary_end h
      go Watchdog g = stops K t watchdog h
      go (AtAction statement) g =
          cond_both (nat_lt record_room (thread.debt + need p t a.local.top.locals statement)) (settle p t (Stops no_record_room) K) (settled p t (effect_of p K t a.local.top.locals statement)) IsServedKernel
          (λ full. stops K t no_record_room h)
          (λ room. acts K t a.local.top.locals (out-Stmt statement) (g statement refl) h)

module _ (tree : Tree) (is : IsTrue (is_served tree)) where
  abbrev p : Program
  p = program_of tree

  -- a thread with things to do of the program arrives at a served action, if at an action
  arrives : (s : LocalState) → IsWrittenState p s → Arrives p (ahead p s).arrival
  arrives s h statement at = let found = arrival-written tree s statement h at in served_action tree found.0 statement is found.1

  -- the step of a thread
  steps : (K : State) (t : ℕ) (thread : Thread) → IsServedThread p thread → IsServedKernel p K → IsServedKernel p (step_of p K t thread)
  steps K t thread g h =
      performs p (changed K t (arrived (ahead p thread.local))) t (ahead p thread.local) thread (arrives thread.local g.todo)
      (changed_kernel p K t (arrived (ahead p thread.local)) (λ own of. record { ready = of.ready; todo = ahead-written tree thread.local g.todo }) h)

  -- the step of the chosen thread
  pub step_served : (K : State) → IsServedKernel p K → IsServedKernel p (step p K)
  step_served K h = go (chosen K)
    where
      live : (t : ℕ) (o : Option Thread) → MatchOption o ⊤ (IsServedThread p) → IsServedKernel p (elim o [ None ↦ K | Some thread ↦ step_of p K t thread ])
      live t None g = h
      live t (Some thread) g = steps K t thread g h

      go : (o : Option ℕ) → IsServedKernel p (elim o [ None ↦ K | Some t ↦ elim (thread_of K t) [ None ↦ K | Some thread ↦ step_of p K t thread ] ])
      go None = h
      go (Some t) = live t (thread_of K t) (thread_in p (row_of K t) (row_at p K.rows t h))
