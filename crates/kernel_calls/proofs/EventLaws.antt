-- From a kernel that stands to the midst of an event, and back.
use Rattle.std.proofs.Common.{◌≡◌, ◌≢◌, ℕ, zero, suc, ◌+◌, ◌*◌, ◌<◌, ◌≤◌, ◌==◌, ⊎_elim, Bool, true, false, List, [], ◌∷◌, Option, Some, None, length, refl, sym, ap, subst, ◌∙◌, arith}
use Rattle.std.proofs.lemmas.Bool.{cases_lt}
use Rattle.std.proofs.lemmas.List.{get_or_past}
use Rattle.std.specs.Prelude.{IfSome, slice_index_or}
use Rattle.thread_tree.specs.declared.block.Stmt.{Stmt}
use Rattle.thread_tree.specs.Ahead.{ahead}
use Rattle.thread_tree.specs.Ahead.Arrival.{AtAction}
use Rattle.thread_tree.specs.Program.{Program}
use Rattle.thread_machine.specs.declared.context.Ctx.{Ctx}
use Rattle.kernel_model.specs.Kernel as kernel
use Rattle.kernel_model.specs.Kernel.{Activity, State, Thread, live_in, row_of, thread_of, with_row, changed}
use Rattle.kernel_model.specs.Kernel.Activity.{Ready, Delayed, Waiting}
use Rattle.kernel_model.specs.Kernel.Row.{Free, Ended, Live}
use Rattle.kernel_model.specs.Relived.{is_open}
use Rattle.kernel_model.specs.Run.{arrived}
use Rattle.kernel_model.specs.Sound.{IsSound}
use Rattle.kernel_image.specs.Agree.{Agrees, Both}
use Rattle.kernel_image.specs.Decoded.{Decoded, RowWords, row_at, blank_row}
use Rattle.ready_delay_lists.specs.Lists.{unlisted}
use Rattle.ready_delay_lists.proofs.Callers.{listed_from}
use Rattle.replay_list.specs.Stands.{Stands, KernelStands, IsRow, IsLife, HasLife, HasContext}
use Rattle.replay_list.proofs.Callers.{both_get_or, both_length, rows_agree, shows_parts}
use Rattle.kernel_calls.specs.Matches.{Matches, HoldsContext, context_at, seen_row, nobody, everybody}
use Rattle.kernel_calls.specs.Calling.{HoldsOpen, of_open}
use Rattle.kernel_calls.proofs.KernelLaws.{live_row, changed-lives}
use Rattle.kernel_calls.proofs.FrameLaws.{itself, other_than, unchanged}
use Rattle.kernel_calls.proofs.PutLaws.{matches-put}
use Rattle.kernel_calls.proofs.ResultLaws.{listed_same}

-- a row has the life of a thread that ran ahead to its action, which is open there: the law of `standing_laws`
abbrev pub Opened : Type 0
Opened = (p : Program) (row : RowWords) (thread : Thread) (s : Stmt) (activity : Activity) → IsLife p row thread → thread.activity ≡ Ready → (ahead p thread.local).arrival ≡ AtAction s → is_open activity ≡ true → IsLife p row (record (arrived (ahead p thread.local) thread) { activity = activity })

-- a row where no caller is, and that of nobody
not_seen : (p : Program) (rows : List RowWords) (krows : List kernel.Row) (u : ℕ) → length krows ≡ 16 → Both (IsRow p) rows krows → HasLife p (slice_index_or rows u blank_row) (seen_row (u == nobody) (slice_index_or krows u Free))
not_seen p rows krows u sixteen both = ⊎_elim
    (λ (low : u < length krows).
    let row = both_get_or (IsRow p) rows krows u blank_row Free both low in
    subst (λ (b : Bool). HasLife p (slice_index_or rows u blank_row) (seen_row b (slice_index_or krows u Free))) (sym (other_than u nobody (omega (arith, low, sixteen)))) row.1)
    (λ past.
    subst (λ (r : kernel.Row). HasLife p (slice_index_or rows u blank_row) (seen_row (u == nobody) r)) (sym (get_or_past krows u Free past)) (none (u == nobody)))
    (cases_lt u (length krows))
  where
    none : (b : Bool) → HasLife p (slice_index_or rows u blank_row) (seen_row b Free)
    none true = tt
    none false = tt

-- a kernel that stands, with the contexts that are held
pub begins : (p : Program) (whose : ℕ → Bool) (d : Decoded) (contexts : List (Option Ctx)) (K : State) → Stands p d K → length contexts ≡ 16 → ((u : ℕ) → HoldsContext p (whose u) (context_at contexts u) (row_of K u)) → Matches p nobody whose d contexts K
begins p whose d contexts K stands places restored = record {
  sixteen = stands.sound.rows.sixteen;
  places = places;
  listed = listed_from p d K (rows_agree p d.rows K.rows stands.rows) stands.stamp stands.unread;
  lives = λ u. not_seen p d.rows K.rows u stands.sound.rows.sixteen stands.rows;
  restored = restored;
  ticks = stands.ticks;
  queues = stands.queues;
  counts = stands.counts;
  console = stands.console;
  objects = stands.objects;
  layout = stands.layout;
  unread = stands.unread;
}

-- all contexts are held where each live thread has its own, and there is none for the other rows
pub all_held : (p : Program) (contexts : List (Option Ctx)) (krows : List kernel.Row) (u : ℕ) → Both (HasContext p) contexts krows → HasContext p (context_at contexts u) (slice_index_or krows u Free)
all_held p [] [] u both = tt
all_held p [] (r ∷ krows) u both = absurd both
all_held p (found ∷ contexts) [] u both = absurd both
all_held p (None ∷ contexts) (r ∷ krows) zero both = both.0
all_held p (Some ctx ∷ contexts) (r ∷ krows) zero both = both.0
all_held p (found ∷ contexts) (r ∷ krows) (suc u) both = all_held p contexts krows u both.1

pub begins_all : (p : Program) (d : Decoded) (contexts : List (Option Ctx)) (K : State) → KernelStands p d contexts K → Matches p nobody everybody d contexts K
begins_all p d contexts K stands = begins p everybody d contexts K stands.image
    (both_length (HasContext p) contexts K.rows stands.restored ∙ stands.image.sound.rows.sixteen)
    (λ u. all_held p contexts K.rows u stands.restored)

-- and back
both_contexts : (p : Program) (contexts : List (Option Ctx)) (krows : List kernel.Row) → length contexts ≡ length krows → ((u : ℕ) → HasContext p (context_at contexts u) (slice_index_or krows u Free)) → Both (HasContext p) contexts krows
both_contexts p [] [] many held = tt
both_contexts p [] (r ∷ krows) many held = absurd (omega (arith, many))
both_contexts p (found ∷ contexts) [] many held = absurd (omega (arith, many))
both_contexts p (None ∷ contexts) (r ∷ krows) many held = (held 0, both_contexts p contexts krows (omega (arith, many)) (λ u. held (suc u)))
both_contexts p (Some ctx ∷ contexts) (r ∷ krows) many held = (held 0, both_contexts p contexts krows (omega (arith, many)) (λ u. held (suc u)))

both_rows : (p : Program) (rows : List RowWords) (krows : List kernel.Row) → Both Agrees rows krows → ((u : ℕ) → u < length krows → HasLife p (slice_index_or rows u blank_row) (slice_index_or krows u Free)) → Both (IsRow p) rows krows
both_rows p [] [] both lives = tt
both_rows p [] (r ∷ krows) both lives = absurd both
both_rows p (row ∷ rows) [] both lives = absurd both
both_rows p (row ∷ rows) (r ∷ krows) both lives =
    ((both.0, lives 0 (omega arith)), both_rows p rows krows both.1 (λ u low. lives (suc u) (omega (arith, low))))

pub stands_again : (p : Program) (d : Decoded) (contexts : List (Option Ctx)) (K : State) → Matches p nobody everybody d contexts K → IsSound p K → d.events ≡ K.events → K.stamp ≤ 16 + 17 * K.events → KernelStands p d contexts K
stands_again p d contexts K matches sound events few =
    let rows = both_rows p d.rows K.rows matches.listed.rows (λ u low. subst (λ (b : Bool). HasLife p (row_at d u) (seen_row b (row_of K u))) (other_than u nobody (omega (arith, low, matches.sixteen))) (matches.lives u)) in
    record {
      image = record {
        sound = sound;
        shows = shows_parts p d K sound events matches.ticks rows matches.queues matches.counts matches.console matches.objects;
        events = events;
        ticks = matches.ticks;
        rows = rows;
        queues = matches.queues;
        counts = matches.counts;
        console = matches.console;
        objects = matches.objects;
        layout = matches.layout;
        unread = matches.unread;
        stamp = matches.listed.stamp;
        few_stamps = few;
      };
      restored = both_contexts p contexts K.rows (matches.places ∙ sym matches.sixteen) matches.restored;
    }

-- the contexts of the threads that are delayed or wait are enough for a call
pub open_held : (K : State) → HoldsOpen (of_open K) K
open_held K u = go (thread_of K u) refl
  where
    go : (o : Option Thread) → thread_of K u ≡ o → IfSome o (λ thread. is_open thread.activity ≡ true → of_open K u ≡ true)
    go None e = tt
    go (Some thread) e = λ unfinished. ap (λ (o : Option Thread). elim o [ None ↦ false | Some thread ↦ is_open thread.activity ]) e ∙ unfinished

pub all_open_held : (K : State) → HoldsOpen everybody K
all_open_held K u = go (thread_of K u)
  where
    go : (o : Option Thread) → IfSome o (λ thread. is_open thread.activity ≡ true → everybody u ≡ true)
    go None = tt
    go (Some thread) = λ unfinished. refl

-- a ready thread ran ahead to its action: it is the caller
pub arrives : Opened → (p : Program) (whose held : ℕ → Bool) (d : Decoded) (contexts later : List (Option Ctx)) (K : State) (t : ℕ) (thread : Thread) (s : Stmt)
    → t < 16
    → Matches p nobody whose d contexts K
    → thread_of K t ≡ Some thread
    → thread.activity ≡ Ready
    → (ahead p thread.local).arrival ≡ AtAction s
    → length later ≡ 16
    → HoldsContext p (held t) (context_at later t) (Live (arrived (ahead p thread.local) thread))
    → ((u : ℕ) → u ≢ t → HoldsContext p (held u) (context_at later u) (row_of K u))
    → Matches p t held d later (changed K t (arrived (ahead p thread.local)))
arrives law p whose held d contexts later K t thread s low matches lives ready at places own others =
    subst (Matches p t held d later) (sym (changed-lives K t thread (arrived (ahead p thread.local)) lives))
    (matches-put p nobody t whose held d d contexts later K t (row_at d t) (Live (arrived (ahead p thread.local) thread)) K.stamp low matches places
    (listed_same d K t thread (arrived (ahead p thread.local) thread) lives (λ row is. record { template = is.template; priority = is.priority; stamp = is.stamp; does = is.does }) matches.listed)
    (ap unlisted (sym (unchanged d t)))
    (subst (λ (b : Bool). HasLife p (row_at d t) (seen_row b (Live (arrived (ahead p thread.local) thread)))) (sym (itself t))
    (law p (row_at d t) thread s (Delayed 0) life ready at refl))
    (λ u apart. seen_by u apart)
    own others)
  where
    life : IsLife p (row_at d t) thread
    life =
        let there = subst (λ (b : Bool). HasLife p (row_at d t) (seen_row b (row_of K t))) (other_than t nobody (omega (arith, low))) (matches.lives t) in
        subst (HasLife p (row_at d t)) (live_row (row_of K t) thread lives) there

    none : (u : ℕ) (b : Bool) → HasLife p (row_at d u) (seen_row b Free)
    none u true = tt
    none u false = tt

    not_called : (u : ℕ) → HasLife p (row_at d u) (row_of K u)
    not_called u = ⊎_elim
        (λ (inside : u < length K.rows). subst (λ (b : Bool). HasLife p (row_at d u) (seen_row b (row_of K u))) (other_than u nobody (omega (arith, inside, matches.sixteen))) (matches.lives u))
        (λ past. subst (HasLife p (row_at d u)) (sym (get_or_past K.rows u Free past)) (none u false))
        (cases_lt u (length K.rows))

    seen_by : (u : ℕ) → u ≢ t → HasLife p (row_at d u) (seen_row (u == t) (row_of K u))
    seen_by u apart =
        subst (λ (b : Bool). HasLife p (row_at d u) (seen_row b (row_of K u))) (sym (other_than u t apart)) (not_called u)
