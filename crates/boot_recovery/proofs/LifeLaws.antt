-- Reliving a thread record after record.
use Rattle.std.proofs.Common.{◌≡◌, ◌≢◌, ℕ, zero, suc, ◌+◌, ◌-◌, ◌<◌, ◌≤◌, List, [], ◌∷◌, ◌++◌, Bool, true, false, refl, ap, sym, subst, ◌∙◌, arith, length, take, drop, slice_index, append_assoc, length-append, length-drop}
use Rattle.std.proofs.lemmas.Bool.Decides.{nat_tests}
use Rattle.std.proofs.lemmas.Option.{none-some}
use Rattle.std.proofs.lemmas.List.{take-append-drop, drop_more, get_or-drop, length-take-le}
use Rattle.std.proofs.lemmas.List.Sums.{sum_by-cons}
use Rattle.std.proofs.Math.Seq.{take-append_seam, drop-append_seam, drop-nil}
use Rattle.std.specs.Prelude.{if◌then◌else◌, Option, Some, None, sum_by, option_and_then, IsSomeAnd}
use Rattle.thread_tree.specs.declared.block.Stmt.{Stmt}
use Rattle.thread_tree.specs.Program.{Program}
use Rattle.thread_tree.specs.Kinds.{Action, action_of, kind_word, result_count}
use Rattle.thread_tree.specs.LocalState.{LocalState, next_action, bind}
use Rattle.thread_tree.specs.Ahead.{Ahead, Arrival, ahead}
use Rattle.thread_tree.specs.Ahead.Arrival.{AtAction, Finished, Watchdog}
use Rattle.thread_tree.specs.Relive.{Record, Life, started, records, passed_by, passed, relived, opened, begun}
use Rattle.kernel_model.specs.Kernel.{Thread}
use Rattle.kernel_model.specs.Relived.{is_open, life_of, words_in}
use Rattle.kernel_model.proofs.Callers.{ahead-before}
use Rattle.kernel_image.specs.Agree.{IsThread}
use Rattle.kernel_image.specs.Decoded.{RowWords}
use Rattle.replay_list.specs.Records.{encoded, recorded, results_of, start_in}
use Rattle.replay_list.specs.Stands.{IsLife}
use Rattle.replay_list.proofs.Callers.{results_told}
use Rattle.boot_recovery.proofs.RowLaws.{ready_closed, other_open}
use Rattle.boot_recovery.specs.Remaining.{lived, Remains, IsGivenBack}

-- a record that is passed by is the one of the action that comes next
pub record Passes (p : Program) (r : Record) (life : Life) : Type 0 where
  pub action : Action
  pub next : next_action p (ahead p life.local).local ≡ Some action
  pub many : length r.results ≡ result_count action.kind action.given
  pub told : results_of r.kind ≡ length r.results
  pub gives : passed p r life ≡ Some (record { local = bind p (ahead p life.local).local r.results; moves = life.moves + (ahead p life.local).moves; passed = life.passed + 1 })

abbrev by_arrival : Program → Record → Life → Ahead → Arrival → Option Life
by_arrival p r life a arrival = elim arrival [
  | AtAction statement ↦ option_and_then (λ action. passed_by p r life a action) (action_of p statement)
  | Finished ↦ None
  | Watchdog ↦ None
]

abbrev by_record : Program → Record → Life → Ahead → Bool → Option Life
by_record p r life a b = if b then Some (record { local = bind p a.local r.results; moves = life.moves + a.moves; passed = life.passed + 1 }) else None

passes_by : (p : Program) (r : Record) (life final : Life) (st : Stmt) (action : Action) (b : Bool) → (ahead p life.local).arrival ≡ AtAction st → action_of p st ≡ Some action → records action r ≡ b → by_record p r life (ahead p life.local) b ≡ Some final → Passes p r life
passes_by p r life final st action false arrives is recorded given = absurd (none-some final given)
passes_by p r life final st action true arrives is recorded given =
    let kind : kind_word action.kind action.given ≡ r.kind = grind (arith, nat_tests) in
    let many : result_count action.kind action.given ≡ length r.results = grind (arith, nat_tests) in
    record {
      action = action;
      next = ap (λ (o : Option Stmt). elim o [ None ↦ None | Some statement ↦ action_of p statement ]) (ahead-before p life.local st arrives) ∙ is;
      many = sym many;
      told = ap results_of (sym kind) ∙ results_told p st action is ∙ many;
      gives = ap (by_arrival p r life (ahead p life.local)) arrives ∙ ap (option_and_then (λ action. passed_by p r life (ahead p life.local) action)) is ∙ ap (by_record p r life (ahead p life.local)) recorded;
    }

passes_action : (p : Program) (r : Record) (life final : Life) (st : Stmt) (o : Option Action) → (ahead p life.local).arrival ≡ AtAction st → action_of p st ≡ o → option_and_then (λ action. passed_by p r life (ahead p life.local) action) o ≡ Some final → Passes p r life
passes_action p r life final st None arrives is given = absurd (none-some final given)
passes_action p r life final st (Some action) arrives is given = passes_by p r life final st action (records action r) arrives is refl given

passes_arrival : (p : Program) (r : Record) (life final : Life) (arrival : Arrival) → (ahead p life.local).arrival ≡ arrival → by_arrival p r life (ahead p life.local) arrival ≡ Some final → Passes p r life
passes_arrival p r life final (AtAction st) arrives given = passes_action p r life final st (action_of p st) arrives refl given
passes_arrival p r life final Finished arrives given = absurd (none-some final given)
passes_arrival p r life final Watchdog arrives given = absurd (none-some final given)

passes : (p : Program) (r : Record) (life final : Life) → passed p r life ≡ Some final → Passes p r life
passes p r life final given = passes_arrival p r life final (ahead p life.local).arrival refl given

-- where a life ends early, no records give a thread
relived_none : (p : Program) (rs : List Record) → relived p rs None ≡ None
relived_none p [] = refl
relived_none p (r ∷ rs) = relived_none p rs

lived_none : (p : Program) (rs : List Record) (still : Bool) → lived p rs still None ≡ None
lived_none p rs true = ap (option_and_then (opened p)) (relived_none p rs)
lived_none p rs false = relived_none p rs

lived_passes : (p : Program) (r : Record) (rs : List Record) (still : Bool) (life final : Life) → lived p (r ∷ rs) still (Some life) ≡ Some final → (next : Life) × (passed p r life ≡ Some next)
lived_passes p r rs still life final is = go (passed p r life) refl is where
  go : (o : Option Life) → passed p r life ≡ o → lived p rs still o ≡ Some final → (next : Life) × (passed p r life ≡ Some next)
  go None given is = absurd (none-some final (sym (lived_none p rs still) ∙ is))
  go (Some next) given is = (next, given)

-- words behind others
abbrev tail_of : List ℕ → List ℕ
tail_of [] = []
tail_of (x ∷ xs) = xs

drop_plus : (a n : ℕ) (xs : List ℕ) → drop (a + n) xs ≡ drop n (drop a xs)
drop_plus zero n xs = ap (λ (m : ℕ). drop m xs) (omega arith)
drop_plus (suc a) n [] = drop-nil (suc a + n) ∙ sym (drop-nil n)
drop_plus (suc a) n (x ∷ xs) = let e : suc a + n ≡ suc (a + n) = omega arith in rw e (drop_plus a n xs)

-- one record is read and passed by
pub record Turns (p : Program) (row : RowWords) (from : ℕ) (local : LocalState) (before now : ℕ) (thread : Thread) : Type 0 where
  pub action : Action
  pub next : next_action p (ahead p local).local ≡ Some action
  pub many : results_of (slice_index row.records from) ≡ result_count action.kind action.given
  pub fits : from + 1 + results_of (slice_index row.records from) ≤ 256
  pub goes : Remains p row (from + 1 + results_of (slice_index row.records from)) (bind p (ahead p local).local (take (results_of (slice_index row.records from)) (drop (from + 1) row.records))) before (now + (ahead p local).moves) thread

module _ (p : Program) (row : RowWords) (from : ℕ) (local : LocalState) (before now moves count : ℕ) (thread : Thread) (behind : List ℕ) (sized : length row.records ≡ 256) (counted : now ≡ before + moves) where
  turns_by : (rs : List Record) → drop from row.records ≡ encoded rs ++ behind → from + length (encoded rs) ≡ row.used → lived p rs (is_open thread.activity) (Some (record { local = local; moves = moves; passed = count })) ≡ Some (life_of thread) → from < row.used → Turns p row from local before now thread
  turns_by [] words used lives some = absurd (omega (arith, used, some))
  turns_by (r ∷ rs) words used lives some =
      let life : Life = record { local = local; moves = moves; passed = count } in
      let given = lived_passes p r rs (is_open thread.activity) life (life_of thread) lives in
      let passing = passes p r life given.0 given.1 in
      let kind : slice_index row.records from ≡ r.kind = ap (λ (m : ℕ). slice_index row.records m) (omega arith) ∙ sym (get_or-drop from row.records 0 0) ∙ ap (λ (ws : List ℕ). slice_index ws 0) words in
      let told : results_of (slice_index row.records from) ≡ length r.results = ap results_of kind ∙ passing.told in
      let one : length (drop from row.records) ≡ suc (length ((r.results ++ encoded rs) ++ behind)) = ap length words in
      let all : length (drop from row.records) ≡ length row.records - from = length-drop from row.records in
      let whole : length ((r.results ++ encoded rs) ++ behind) ≡ length (r.results ++ encoded rs) + length behind = length-append (r.results ++ encoded rs) behind in
      let part : length (r.results ++ encoded rs) ≡ length r.results + length (encoded rs) = length-append r.results (encoded rs) in
      let low : from < length row.records = omega (arith, one, all) in
      let after : drop (from + 1) row.records ≡ r.results ++ (encoded rs ++ behind) = ap tail_of (sym (drop_more row.records from 0 low) ∙ words) ∙ append_assoc r.results (encoded rs) behind in
      let read : take (length r.results) (drop (from + 1) row.records) ≡ r.results = ap (take (length r.results)) after ∙ take-append_seam r.results (encoded rs ++ behind) in
      let rest : drop (from + 1 + length r.results) row.records ≡ encoded rs ++ behind = drop_plus (from + 1) (length r.results) row.records ∙ ap (drop (length r.results)) after ∙ drop-append_seam r.results (encoded rs ++ behind) in
      let goes : Remains p row (from + 1 + length r.results) (bind p (ahead p local).local r.results) before (now + (ahead p local).moves) thread = record {
        records = rs;
        behind = behind;
        moves = moves + (ahead p local).moves;
        passed = count + 1;
        words = rest;
        count = omega (arith, used, part);
        counted = omega (arith, counted);
        lives = ap (lived p rs (is_open thread.activity)) (sym passing.gives) ∙ lives;
      } in
      record {
        action = passing.action;
        next = passing.next;
        many = told ∙ passing.many;
        fits = omega (arith, told, one, all, whole, part, sized);
        goes = subst (λ (n : ℕ). Remains p row (from + 1 + n) (bind p (ahead p local).local (take n (drop (from + 1) row.records))) before (now + (ahead p local).moves) thread) (sym told)
            (subst (λ (ws : List ℕ). Remains p row (from + 1 + length r.results) (bind p (ahead p local).local ws) before (now + (ahead p local).moves) thread) (sym read) goes);
      }

pub turns : (p : Program) (row : RowWords) (from : ℕ) (local : LocalState) (before now : ℕ) (thread : Thread) → length row.records ≡ 256 → Remains p row from local before now thread → from < row.used → Turns p row from local before now thread
turns p row from local before now thread sized r some = turns_by p row from local before now r.moves r.passed thread r.behind sized r.counted r.records r.words r.count r.lives some

-- a thread's row begins with all its records to come
words_owed : (rs : List Record) → length (encoded rs) ≡ sum_by words_in rs
words_owed [] = refl
words_owed (r ∷ rs) =
    let rest = words_owed rs in
    let part = length-append r.results (encoded rs) in
    let sum = sum_by-cons words_in r rs in
    omega (arith, rest, part, sum)

pub begins : (p : Program) (row : RowWords) (local : LocalState) (now : ℕ) (thread : Thread) → started p (start_in row) ≡ Some local → IsLife p row thread → Remains p row 0 local now now thread
begins p row local now thread is life =
    let owed = words_owed life.records in
    let owes = life.relived.owes in
    let used = life.used in
    record {
      records = life.records;
      behind = drop row.used row.records;
      moves = 0;
      passed = 0;
      words = sym (take-append-drop row.used row.records) ∙ ap (λ (ws : List ℕ). ws ++ drop row.used row.records) life.words;
      count = omega (arith, owed, owes, used);
      counted = omega arith;
      lives = ap (λ (o : Option LocalState). lived p life.records (is_open thread.activity) (option_and_then (λ s. Some (begun s)) o)) (sym is) ∙ life.relived.lives;
    }

pub life_starts : (p : Program) (row : RowWords) (thread : Thread) → IsLife p row thread → (s : LocalState) × (started p (start_in row) ≡ Some s)
life_starts p row thread life = go (started p (start_in row)) refl where
  go : (o : Option LocalState) → started p (start_in row) ≡ o → (s : LocalState) × (started p (start_in row) ≡ Some s)
  go None is = absurd (none-some (life_of thread) (sym (lived_none p life.records (is_open thread.activity)) ∙ ap (λ (o : Option LocalState). lived p life.records (is_open thread.activity) (option_and_then (λ s. Some (begun s)) o)) (sym is) ∙ life.relived.lives))
  go (Some s) is = (s, is)

-- and ends with none
abbrev local_in : LocalState → Option Life → LocalState
local_in s None = s
local_in s (Some life) = life.local

abbrev moves_in : Option Life → ℕ
moves_in None = 0
moves_in (Some life) = life.moves

pub record Ends (p : Program) (local : LocalState) (before now : ℕ) (thread : Thread) : Type 0 where
  pub moves : ℕ
  pub passed : ℕ
  pub counted : now ≡ before + moves
  pub lives : lived p [] (is_open thread.activity) (Some (record { local = local; moves = moves; passed = passed })) ≡ Some (life_of thread)

ends_by : (p : Program) (row : RowWords) (from : ℕ) (local : LocalState) (before now moves count : ℕ) (thread : Thread) (rs : List Record) → from + length (encoded rs) ≡ row.used → row.used ≤ from → now ≡ before + moves → lived p rs (is_open thread.activity) (Some (record { local = local; moves = moves; passed = count })) ≡ Some (life_of thread) → Ends p local before now thread
ends_by p row from local before now moves count thread [] used all counted lives = record { moves = moves; passed = count; counted = counted; lives = lives }
ends_by p row from local before now moves count thread (r ∷ rs) used all counted lives = absurd (omega (arith, used, all))

ends : (p : Program) (row : RowWords) (from : ℕ) (local : LocalState) (before now : ℕ) (thread : Thread) → Remains p row from local before now thread → row.used ≤ from → Ends p local before now thread
ends p row from local before now thread r all = ends_by p row from local before now r.moves r.passed thread r.records r.count all r.counted r.lives

closed_by : (p : Program) (local : LocalState) (before now moves count : ℕ) (thread : Thread) (still : Bool) → still ≡ false → now ≡ before + moves → lived p [] still (Some (record { local = local; moves = moves; passed = count })) ≡ Some (life_of thread) → IsGivenBack local before now thread
closed_by p local before now moves count thread true is counted lives = absurd (let f : ◌≡◌ {A = Bool} true false = is in cc)
closed_by p local before now moves count thread false is counted lives =
    let same = ap moves_in lives in
    record { local = ap (local_in local) lives; counted = omega (arith, counted, same) }

pub closes : (p : Program) (row : RowWords) (from : ℕ) (local : LocalState) (before now : ℕ) (thread : Thread) → Remains p row from local before now thread → row.used ≤ from → is_open thread.activity ≡ false → IsGivenBack local before now thread
closes p row from local before now thread r all is = let e = ends p row from local before now thread r all in closed_by p local before now e.moves e.passed thread (is_open thread.activity) is e.counted e.lives

abbrev open_at : Life → Ahead → Arrival → Option Life
open_at life a arrival = elim arrival [
  | AtAction statement ↦ Some (record life { local = a.local; moves = life.moves + a.moves })
  | Finished ↦ None
  | Watchdog ↦ None
]

opened_by : (local : LocalState) (before now moves count : ℕ) (thread : Thread) (a : Ahead) (arrival : Arrival) → now ≡ before + moves → open_at (record { local = local; moves = moves; passed = count }) a arrival ≡ Some (life_of thread) → IsGivenBack a.local before (now + a.moves) thread
opened_by local before now moves count thread a (AtAction st) counted lives =
    let same = ap moves_in lives in
    record { local = ap (local_in local) lives; counted = omega (arith, counted, same) }
opened_by local before now moves count thread a Finished counted lives = absurd (none-some (life_of thread) lives)
opened_by local before now moves count thread a Watchdog counted lives = absurd (none-some (life_of thread) lives)

open_by : (p : Program) (local : LocalState) (before now moves count : ℕ) (thread : Thread) (still : Bool) → still ≡ true → now ≡ before + moves → lived p [] still (Some (record { local = local; moves = moves; passed = count })) ≡ Some (life_of thread) → IsGivenBack (ahead p local).local before (now + (ahead p local).moves) thread
open_by p local before now moves count thread false is counted lives = absurd (let f : ◌≡◌ {A = Bool} false true = is in cc)
open_by p local before now moves count thread true is counted lives = opened_by local before now moves count thread (ahead p local) (ahead p local).arrival counted lives

pub opens : (p : Program) (row : RowWords) (from : ℕ) (local : LocalState) (before now : ℕ) (thread : Thread) → Remains p row from local before now thread → row.used ≤ from → is_open thread.activity ≡ true → IsGivenBack (ahead p local).local before (now + (ahead p local).moves) thread
opens p row from local before now thread r all is = let e = ends p row from local before now thread r all in open_by p local before now e.moves e.passed thread (is_open thread.activity) is e.counted e.lives

-- a thread that is ready is given back by its records, and another one by the way to its open call
pub arrived_ready : (p : Program) (row : RowWords) (from : ℕ) (local : LocalState) (before now : ℕ) (thread : Thread) → IsThread row thread → row.used ≤ from → Remains p row from local before now thread → row.state ≡ 1 → IsGivenBack local before now thread
arrived_ready p row from local before now thread is all r ready = closes p row from local before now thread r all (ready_closed row thread.activity is.does ready)

pub arrived_open : (p : Program) (row : RowWords) (from : ℕ) (local new : LocalState) (before now after : ℕ) (thread : Thread) → IsThread row thread → row.used ≤ from → Remains p row from local before now thread → row.state ≢ 1 → new ≡ (ahead p local).local → after ≡ now + (ahead p local).moves → IsGivenBack new before after thread
arrived_open p row from local new before now after thread is all r other moved stepped =
    let back = opens p row from local before now thread r all (other_open row thread.activity is.does other) in
    record { local = moved ∙ back.local; counted = stepped ∙ back.counted }

-- what the code of one turn needs, and what it does
pub one_turn : (p : Program) (row : RowWords) (from : ℕ) (local : LocalState) (now : ℕ) → length row.records ≡ 256 → from < row.used → (more : (before : ℕ) × (known : Thread) × Remains p row from local before now known) → Turns p row from local more.0 now more.1
one_turn p row from local now sized some more = turns p row from local more.0 now more.1 sized more.2 some

pub turn_action : (p : Program) (row : RowWords) (from count : ℕ) (local : LocalState) (before now : ℕ) (thread : Thread) (words : List ℕ) → length row.records ≡ 256 → Turns p row from local before now thread → count ≡ results_of (slice_index row.records from) → words ≡ take count (drop (from + 1) row.records) → IsSomeAnd (next_action p (ahead p local).local) (λ (action : Action). length words ≡ result_count action.kind action.given)
turn_action p row from count local before now thread words sized turn many read =
    let fits = turn.fits in
    let long : length (drop (from + 1) row.records) ≡ length row.records - (from + 1) = length-drop (from + 1) row.records in
    let all : length words ≡ count = ap length read ∙ length-take-le count (drop (from + 1) row.records) (omega (arith, long, sized, fits, many)) in
    subst (λ (o : Option Action). IsSomeAnd o (λ (action : Action). length words ≡ result_count action.kind action.given)) (sym turn.next) (all ∙ many ∙ turn.many)

pub turned_to : (p : Program) (row : RowWords) (from count : ℕ) (local new : LocalState) (before now after : ℕ) (thread : Thread) (words : List ℕ) → length row.records ≡ 256 → Remains p row from local before now thread → from < row.used → count ≡ results_of (slice_index row.records from) → words ≡ take count (drop (from + 1) row.records) → new ≡ bind p (ahead p local).local words → after ≡ now + (ahead p local).moves → Remains p row (from + 1 + count) new before after thread
turned_to p row from count local new before now after thread words sized remains some many read bound stepped =
    let goes = (turns p row from local before now thread sized remains some).goes in
    let n : ℕ = results_of (slice_index row.records from) in
    let given : new ≡ bind p (ahead p local).local (take n (drop (from + 1) row.records)) = bound ∙ ap (λ (ws : List ℕ). bind p (ahead p local).local ws) (read ∙ ap (λ (m : ℕ). take m (drop (from + 1) row.records)) many) in
    subst (λ (m : ℕ). Remains p row (from + 1 + m) new before after thread) (sym many)
    (subst (λ (s : LocalState). Remains p row (from + 1 + n) s before after thread) (sym given)
    (subst (λ (m : ℕ). Remains p row (from + 1 + n) (bind p (ahead p local).local (take n (drop (from + 1) row.records))) before m thread) (sym stepped) goes))
