-- What was recorded of a life relives to it.
use Rattle.std.proofs.Common.{◌≡◌, ℕ, ◌+◌, List, [], ◌∷◌, ◌++◌, length, true, false, Option, Some, None, refl, ap, ◌∙◌, arith}
use Rattle.std.specs.Prelude.{◌==◌, option_and_then}
use Rattle.std.proofs.lemmas.Bool.Decides.{nat_tests}
use Rattle.thread_tree.specs.declared.block.Stmt.{Stmt}
use Rattle.thread_tree.specs.Program.{Program}
use Rattle.thread_tree.specs.Kinds.{Action, action_of, kind_word, result_count}
use Rattle.thread_tree.specs.LocalState.{bind}
use Rattle.thread_tree.specs.Ahead.{Ahead, ahead}
use Rattle.thread_tree.specs.Ahead.Arrival.{AtAction, Finished, Watchdog}
use Rattle.thread_tree.specs.Relive.{Start, Record, Life, begun, opened, passed, passed_by, records, relive, relived, started}
use Rattle.thread_machine.specs.Lives.{IsRecordOf, Lives, passing}
use Rattle.thread_machine.specs.Lives.Lives.{Begins, Passes}

same_test : (m n : ℕ) → m ≡ n → (m == n) ≡ true
same_test m n is = grind (arith, nat_tests)

record_taken : (action : Action) (r : Record) → IsRecordOf action r → records action r ≡ true
record_taken action r is =
    rw (same_test (kind_word action.kind action.given) r.kind is.kind, same_test (result_count action.kind action.given) (length r.results) is.results) refl

taken_by_record : (p : Program) (r : Record) (life : Life) (a : Ahead) (action : Action) → records action r ≡ true → passed_by p r life a action ≡ Some (record { local = bind p a.local r.results; moves = life.moves + a.moves; passed = life.passed + 1 })
taken_by_record p r life a action is = rw is refl

-- a life passes by the action that it arrives at, with the results of a record of it
pub passed_is : (p : Program) (r : Record) (life : Life) (statement : Stmt) (action : Action) → (ahead p life.local).arrival ≡ AtAction statement → action_of p statement ≡ Some action → IsRecordOf action r → passed p r life ≡ Some (passing p life r)
passed_is p r life statement action arrives is taken =
    let a = ahead p life.local in
    ap (λ arrival. elim arrival as (λ _. Option Life) [ AtAction s ↦ option_and_then (λ x. passed_by p r life a x) (action_of p s) | Finished ↦ None | Watchdog ↦ None ]) arrives
    ∙ ap (λ o. option_and_then (λ x. passed_by p r life a x) o) is
    ∙ taken_by_record p r life a action (record_taken action r taken)

relived_more : (p : Program) (rs : List Record) (r : Record) (life : Option Life) → relived p (rs ++ r ∷ []) life ≡ option_and_then (passed p r) (relived p rs life)
relived_more p [] r life = refl
relived_more p (x ∷ rs) r life = relived_more p rs r (option_and_then (passed p x) life)

lived : (p : Program) (start : Start) (rs : List Record) (life : Life) → Lives p start rs life → relived p rs (option_and_then (λ s. Some (begun s)) (started p start)) ≡ Some life
lived p start rs life (Begins q from s is) = ap (λ o. option_and_then (λ s. Some (begun s)) o) is
lived p start rs life (Passes q from front before r statement action lives arrives is taken) =
    relived_more p front r (option_and_then (λ s. Some (begun s)) (started p start))
    ∙ ap (λ o. option_and_then (passed p r) o) (lived p start front before lives)
    ∙ passed_is p r before statement action arrives is taken

-- each life's records relive to its local state, its moves, and as many records passed by
pub relive_is : (p : Program) (start : Start) (rs : List Record) (life : Life) → Lives p start rs life → relive p start rs false ≡ Some life
relive_is p start rs life lives = lived p start rs life lives

opened_is : (p : Program) (life : Life) (statement : Stmt) → (ahead p life.local).arrival ≡ AtAction statement → opened p life ≡ Some (let a = ahead p life.local in record life { local = a.local; moves = life.moves + a.moves })
opened_is p life statement arrives =
    let a = ahead p life.local in
    ap (λ arrival. elim arrival as (λ _. Option Life) [ AtAction s ↦ Some (record life { local = a.local; moves = life.moves + a.moves }) | Finished ↦ None | Watchdog ↦ None ]) arrives

-- with an action that is still open they relive to the state at it
pub relive_open_is : (p : Program) (start : Start) (rs : List Record) (life : Life) (statement : Stmt) → Lives p start rs life → (ahead p life.local).arrival ≡ AtAction statement → relive p start rs true ≡ Some (let a = ahead p life.local in record life { local = a.local; moves = life.moves + a.moves })
relive_open_is p start rs life statement lives arrives =
    ap (λ o. option_and_then (opened p) o) (lived p start rs life lives) ∙ opened_is p life statement arrives
