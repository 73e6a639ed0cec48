-- A thread gets the results of the call at which it stands: its record, its context and its lists.
use Rattle.std.proofs.Common.{◌≡◌, ℕ, zero, suc, ◌+◌, ◌<◌, Bool, true, false, List, [], ◌∷◌, Option, Some, None, length, refl, sym, ap, subst, ◌∙◌}
use Rattle.std.proofs.lemmas.List.{set-get_or}
use Rattle.std.specs.Prelude.{map, slice_set, slice_index_or}
use Rattle.thread_tree.specs.Kinds.{Action, is_unrecorded, kind_word, result_count}
use Rattle.thread_tree.specs.LocalState.{LocalState, next_action, bind}
use Rattle.thread_tree.specs.Program.{Program}
use Rattle.thread_machine.specs.declared.context.Ctx.{Ctx}
use Rattle.thread_machine.specs.Context.{local_of}
use Rattle.kernel_model.specs.Kernel as kernel
use Rattle.kernel_model.specs.Kernel.{State, Thread, row_of, thread_of, with_row, changed, stamped}
use Rattle.kernel_model.specs.Kernel.Activity.{Ready}
use Rattle.kernel_model.specs.Kernel.Row.{Free, Ended, Live}
use Rattle.kernel_model.specs.Relived.{is_open}
use Rattle.kernel_model.specs.Serve.{asleep, awake, served, finish}
use Rattle.kernel_image.specs.Agree.{Agrees, Both, IsThread}
use Rattle.kernel_image.specs.Decoded.{Decoded, RowWords, row_at, blank_row}
use Rattle.kernel_image.specs.Unread.{links_of}
use Rattle.ready_delay_lists.specs.Lists.{AreListed, links_in, unlisted, stands_behind}
use Rattle.replay_list.specs.Finished.{IsUnfinished, IsFinished}
use Rattle.thread_tree.specs.Relive.{relive}
use Rattle.replay_list.specs.Records.{IsAppended, IsRecorded, start_in}
use Rattle.replay_list.specs.Stands.{IsLife, HasLife}
use Rattle.kernel_calls.specs.Matches.{Matches, HoldsContext, IsHeld, context_at, seen_row, nobody}
use Rattle.kernel_calls.specs.Calling.{IsAwaited, IsServing}
use Rattle.kernel_calls.proofs.KernelLaws.{live_row, changed-lives, behind-lives}
use Rattle.kernel_calls.proofs.FrameLaws.{itself, other_than, matches-same, matches-changed}

-- a row with one record more has the life of the thread whose call is finished: the law of `standing_laws`
abbrev pub Finished : Type 0
Finished = (p : Program) (old new : RowWords) (thread : Thread) (action : Action) (results : List ℕ) → IsLife p old thread → IsRecorded (kind_word action.kind action.given) results old new → is_open thread.activity ≡ true → next_action p thread.local ≡ Some action → is_unrecorded action.kind ≡ false → length results ≡ result_count action.kind action.given → IsLife p new (awake p results thread)

-- lists whose kernel has a row with the same template, priority, stamp and activity
both_replaced : {X Y : Type 0} (R : X → Y → Type 0) (xs : List X) (ys : List Y) (t : ℕ) (a b : Y) → ((x : X) → R x a → R x b) → Both R xs (slice_set ys t a) → Both R xs (slice_set ys t b)
both_replaced R [] [] t a b follows both = tt
both_replaced R [] (y ∷ ys) zero a b follows both = absurd both
both_replaced R [] (y ∷ ys) (suc t) a b follows both = absurd both
both_replaced R (x ∷ xs) [] t a b follows both = absurd both
both_replaced R (x ∷ xs) (y ∷ ys) zero a b follows both = (follows x both.0, both.1)
both_replaced R (x ∷ xs) (y ∷ ys) (suc t) a b follows both = (both.0, both_replaced R xs ys t a b follows both.1)

-- a thread that changes nothing of what its lists go by
pub listed_same : (d : Decoded) (K : State) (t : ℕ) (thread later : Thread) → thread_of K t ≡ Some thread → ((row : RowWords) → IsThread row thread → IsThread row later) → AreListed d K → AreListed d (with_row K t (Live later))
listed_same d K t thread later lives follows listed = record {
  rows = both_replaced Agrees d.rows K.rows t (Live thread) (Live later) follows
      (subst (Both Agrees d.rows) (sym (ap (λ (r : kernel.Row). slice_set K.rows t r) (sym (live_row (row_of K t) thread lives)) ∙ set-get_or K.rows t Free)) listed.rows);
  stamp = listed.stamp;
  links = listed.links;
}

pub listed_finished : (p : Program) (d : Decoded) (K : State) (t : ℕ) (thread : Thread) (results : List ℕ) → thread_of K t ≡ Some thread → AreListed d (stands_behind K t thread Ready) → AreListed d (finish p K t results)
listed_finished p d K t thread results lives listed =
    subst (AreListed d) (sym (behind-lives K t thread (awake p results) lives)) (record {
      rows = both_replaced Agrees d.rows K.rows t (Live (record thread { activity = Ready; stamp = K.stamp })) (Live (stamped K.stamp (awake p results thread)))
          (λ row is. record { template = is.template; priority = is.priority; stamp = is.stamp; does = is.does }) listed.rows;
      stamp = listed.stamp;
      links = listed.links;
    })

-- a row with one record more stands in the lists as before
both_row : (rows : List RowWords) (krows : List kernel.Row) (t : ℕ) (row : RowWords) → ((r : kernel.Row) → Agrees (slice_index_or rows t blank_row) r → Agrees row r) → Both Agrees rows krows → Both Agrees (slice_set rows t row) krows
both_row [] [] t row follows both = tt
both_row [] (r ∷ krows) t row follows both = absurd both
both_row (w ∷ rows) [] t row follows both = absurd both
both_row (w ∷ rows) (r ∷ krows) zero row follows both = (follows r both.0, both.1)
both_row (w ∷ rows) (r ∷ krows) (suc t) row follows both = (both.0, both_row rows krows t row follows both.1)

agrees_more : (kind : ℕ) (results : List ℕ) (old new : RowWords) (r : kernel.Row) → IsRecorded kind results old new → Agrees old r → Agrees new r
agrees_more kind results old new Free more is = ap (λ (row : RowWords). row.state) more.rest ∙ is
agrees_more kind results old new (Ended template priority code) more is =
    let h = subst (λ (row : RowWords). Agrees row (Ended template priority code)) (sym more.rest) is in
    record { state = h.state; template = h.template; priority = h.priority; code = h.code }
agrees_more kind results old new (Live thread) more is =
    let h : IsThread (record new { used = old.used; records = old.records }) thread = subst (λ (row : RowWords). IsThread row thread) (sym more.rest) is in
    record { template = h.template; priority = h.priority; stamp = h.stamp; does = h.does }

links_kept : (rows : List RowWords) (t : ℕ) (row : RowWords) → links_of row ≡ links_of (slice_index_or rows t blank_row) → map links_of (slice_set rows t row) ≡ map links_of rows
links_kept [] t row same = refl
links_kept (w ∷ rows) zero row same = ap (λ (first : List ℕ). first ∷ map links_of rows) same
links_kept (w ∷ rows) (suc t) row same = ap (λ (rest : List (List ℕ)). links_of w ∷ rest) (links_kept rows t row same)

pub listed_recorded : (d e : Decoded) (K : State) (t kind : ℕ) (results : List ℕ) → IsAppended t kind results d e → AreListed d K → AreListed e K
listed_recorded d e K t kind results more listed = subst (λ (c : Decoded). AreListed c K) (sym more.rest) (record {
  rows = both_row d.rows K.rows t (row_at e t) (λ r is. agrees_more kind results (row_at d t) (row_at e t) r more.row is) listed.rows;
  stamp = listed.stamp;
  links = ap (λ (rows : List (List ℕ)). record (links_in d) { of_rows = rows }) (links_kept d.rows t (row_at e t) (ap links_of more.row.rest)) ∙ listed.links;
})

held_context : (p : Program) (b : Bool) (found : Option Ctx) (thread : Thread) → b ≡ true → HoldsContext p b found (Live thread) → IsHeld p found thread
held_context p false found thread e holds = absurd (cc)
held_context p true None thread e holds = absurd holds
held_context p true (Some ctx) thread e holds = record { ctx = ctx; is = refl; context = holds }

pub context_held : (p : Program) (caller : ℕ) (whose : ℕ → Bool) (d : Decoded) (contexts : List (Option Ctx)) (K : State) (t : ℕ) (thread : Thread) → Matches p caller whose d contexts K → thread_of K t ≡ Some thread → whose t ≡ true → IsHeld p (context_at contexts t) thread
context_held p caller whose d contexts K t thread matches lives held =
    held_context p (whose t) (context_at contexts t) thread held
    (subst (HoldsContext p (whose t) (context_at contexts t)) (live_row (row_of K t) thread lives) (matches.restored t))

pub unfinished_at : (p : Program) (contexts : List (Option Ctx)) (t : ℕ) (thread : Thread) (action : Action) (results : List ℕ) (held : IsHeld p (context_at contexts t) thread) → next_action p thread.local ≡ Some action → length results ≡ result_count action.kind action.given → IsUnfinished p contexts t results held.ctx action
unfinished_at p contexts t thread action results held next many = record {
  there = held.is;
  context = held.context.context;
  next = ap (next_action p) held.context.local ∙ next;
  many = many;
}

-- a context that was given the results is that of the thread which has them
given_context : (p : Program) (b : Bool) (t : ℕ) (results : List ℕ) (thread after : Thread) (held old new : List (Option Ctx)) (ctx : Ctx) (action : Action) (d e : Decoded) → local_of p ctx ≡ thread.local → after.local ≡ bind p thread.local results → (finished : IsFinished p t results ctx action d e old new) → HoldsContext p b (Some finished.given.later) (Live after)
given_context p false t results thread after held old new ctx action d e at bound finished = tt
given_context p true t results thread after held old new ctx action d e at bound finished = record {
  local = finished.given.bound ∙ ap (λ (local : LocalState). bind p local results) at ∙ sym bound;
  context = finished.given.context;
}

-- the call of a thread that was delayed or waited is finished: first its record and its context, then its lists
pub matches-woken : Finished → (p : Program) (caller : ℕ) (whose : ℕ → Bool) (d middle e : Decoded) (contexts later : List (Option Ctx)) (K : State) (t : ℕ) (thread : Thread) (results : List ℕ) (ctx : Ctx)
    → t < 16
    → (awaited : IsAwaited p caller whose d contexts K t thread results)
    → local_of p ctx ≡ thread.local
    → IsFinished p t results ctx awaited.awaiting.awaited d middle contexts later
    → AreListed e (finish p K t results)
    → unlisted e ≡ unlisted middle
    → Matches p caller whose e later (finish p K t results)
matches-woken law p caller whose d middle e contexts later K t thread results ctx low awaited at finished listed is =
    let matches = awaited.matches in
    let awaiting = awaited.awaiting in
    let becomes = behind-lives K t thread (awake p results) awaited.lives in
    let apart = other_than t caller awaited.another in
    let there = subst (λ (b : Bool). HasLife p (row_at d t) (seen_row b (row_of K t))) apart (matches.lives t) in
    let old : IsLife p (row_at d t) thread = subst (HasLife p (row_at d t)) (live_row (row_of K t) thread awaited.lives) there in
    let life : IsLife p (row_at middle t) (awake p results thread) = law p (row_at d t) (row_at middle t) thread awaiting.awaited results old finished.appended.row awaiting.unfinished awaiting.next awaiting.recorded (sym awaiting.many) in
    let new : IsLife p (row_at middle t) (stamped K.stamp (awake p results thread)) = record { records = life.records; words = life.words; relived = record { lives = life.relived.lives; owes = life.relived.owes }; used = life.used; few = life.few } in
    subst (λ (cs : List (Option Ctx)). Matches p caller whose e cs (finish p K t results)) (sym finished.given.put)
    (subst (Matches p caller whose e (slice_set contexts t (Some finished.given.later))) (sym becomes)
    (matches-same p caller whose d e contexts K t (row_at middle t) (Live (stamped K.stamp (awake p results thread))) (K.stamp + 1) (Some finished.given.later) low matches
    (subst (AreListed e) becomes listed)
    (is ∙ ap unlisted finished.appended.rest)
    (subst (λ (b : Bool). HasLife p (row_at middle t) (seen_row b (Live (stamped K.stamp (awake p results thread))))) (sym apart) new)
    (given_context p (whose t) t results thread (stamped K.stamp (awake p results thread)) contexts contexts later ctx awaiting.awaited d middle at refl finished)))

-- the caller gets the results of its action
pub matches-served : Finished → (p : Program) (whose : ℕ → Bool) (d e : Decoded) (contexts later : List (Option Ctx)) (K : State) (t : ℕ) (thread : Thread) (results : List ℕ) (ctx : Ctx)
    → t < 16
    → (serving : IsServing p whose d contexts K t thread results)
    → local_of p ctx ≡ thread.local
    → IsFinished p t results ctx serving.action d e contexts later
    → Matches p nobody whose e later (changed K t (served p results))
matches-served law p whose d e contexts later K t thread results ctx low serving at finished =
    let matches = serving.matches in
    let becomes = changed-lives K t thread (served p results) serving.lives in
    let there = subst (λ (b : Bool). HasLife p (row_at d t) (seen_row b (row_of K t))) (itself t) (matches.lives t) in
    let old : IsLife p (row_at d t) (asleep 0 thread) = subst (λ (r : kernel.Row). HasLife p (row_at d t) (seen_row true r)) (live_row (row_of K t) thread serving.lives) there in
    let life : IsLife p (row_at e t) (awake p results (asleep 0 thread)) = law p (row_at d t) (row_at e t) (asleep 0 thread) serving.action results old finished.appended.row refl serving.next serving.recorded serving.many in
    let new : IsLife p (row_at e t) (served p results thread) = record { records = life.records; words = life.words; relived = record { lives = ap (λ (b : Bool). relive p (start_in (row_at e t)) life.records b) (ap is_open serving.ready) ∙ life.relived.lives; owes = life.relived.owes }; used = life.used; few = life.few } in
    let kept : AreListed e K = listed_recorded d e K t (kind_word serving.action.kind serving.action.given) results finished.appended matches.listed in
    subst (λ (cs : List (Option Ctx)). Matches p nobody whose e cs (changed K t (served p results))) (sym finished.given.put)
    (subst (Matches p nobody whose e (slice_set contexts t (Some finished.given.later))) (sym becomes)
    (matches-changed p whose d e contexts K t (row_at e t) (Live (served p results thread)) K.stamp (Some finished.given.later) low matches
    (listed_same e K t thread (served p results thread) serving.lives (λ row is. record { template = is.template; priority = is.priority; stamp = is.stamp; does = is.does }) kept)
    (ap unlisted finished.appended.rest)
    new
    (given_context p (whose t) t results thread (served p results thread) contexts contexts later ctx serving.action d e at refl finished)))
