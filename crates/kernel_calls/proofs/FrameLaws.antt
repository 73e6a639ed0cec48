-- The frame of all calls, by what becomes of the row.
use Rattle.std.proofs.Common.{◌≡◌, ◌≢◌, ℕ, ◌<◌, ◌==◌, ◌||◌, ◌⊎◌, ⊎_elim, Bool, true, false, List, Option, Some, None, length, refl, sym, ap, subst, ◌∙◌, arith}
use Rattle.std.proofs.lemmas.Bool.{cases_eq}
use Rattle.std.proofs.lemmas.Bool.Decides.{nat_tests}
use Rattle.std.proofs.lemmas.List.{length-set, set-get_or, get_or_past}
use Rattle.std.specs.Prelude.{slice_set, slice_index_or}
use Rattle.thread_tree.specs.Program.{Program}
use Rattle.thread_tree.specs.Relive.{Life, relive}
use Rattle.thread_machine.specs.declared.context.Ctx.{Ctx}
use Rattle.kernel_model.specs.Kernel as kernel
use Rattle.kernel_model.specs.Kernel.{Activity, State, Thread, live_in, row_of, thread_of, with_row}
use Rattle.kernel_model.specs.Kernel.Row.{Free, Ended, Live}
use Rattle.kernel_model.specs.Relived.{is_open}
use Rattle.kernel_model.specs.Serve.{asleep}
use Rattle.kernel_image.specs.Decoded as image
use Rattle.kernel_image.specs.Decoded.{Decoded, RowWords, row_at, blank_row}
use Rattle.kernel_image.specs.Shown.{objects_in}
use Rattle.kernel_image.specs.Unread.{unread}
use Rattle.kernel_model.specs.Objects.{first_place}
use Rattle.persistent_objects.specs.Layout.{IsLaidOut}
use Rattle.ready_delay_lists.specs.Lists.{AreListed, unlisted}
use Rattle.replay_list.specs.Stands.{IsLife, HasLife, items_in, counts_in, console_in}
use Rattle.kernel_calls.specs.Matches.{Matches, HasSameLife, HoldsContext, context_at, seen_row, nobody}
use Rattle.kernel_calls.specs.Calling.{also}
use Rattle.kernel_calls.proofs.KernelLaws.{live_row}
use Rattle.kernel_calls.proofs.PutLaws.{context_put, context_other, matches-put}

-- a number is itself, and no other one
pub itself : (n : ℕ) → (n == n) ≡ true
itself n = grind (arith, nat_tests)

pub other_than : (u t : ℕ) → u ≢ t → (u == t) ≡ false
other_than u t apart = grind (arith, nat_tests, apart)

-- a row that changes to itself
pub unchanged : (d : Decoded) (t : ℕ) → image.with_row d t (row_at d t) ≡ d
unchanged d t = ap (λ (rows : List RowWords). record d { rows = rows }) (set-get_or d.rows t blank_row)

-- the life and the context of each other one, where nobody is the caller afterwards
pub lives_on : (p : Program) (caller : ℕ) (whose : ℕ → Bool) (d : Decoded) (contexts : List (Option Ctx)) (K : State) → Matches p caller whose d contexts K → (u : ℕ) → u ≢ caller → HasLife p (row_at d u) (seen_row (u == nobody) (row_of K u))
lives_on p caller whose d contexts K matches u apart = ⊎_elim
    (λ (past : u ≡ nobody).
    let free : row_of K u ≡ Free = get_or_past K.rows u Free (omega (arith, past, matches.sixteen)) in
    subst (λ (r : kernel.Row). HasLife p (row_at d u) (seen_row (u == nobody) r)) (sym free) (none (u == nobody)))
    (λ (within : u ≢ nobody).
    subst (λ (b : Bool). HasLife p (row_at d u) (seen_row b (row_of K u))) (other_than u caller apart ∙ sym (other_than u nobody within)) (matches.lives u))
    (cases_eq u nobody)
  where
    none : (b : Bool) → HasLife p (row_at d u) (seen_row b Free)
    none true = tt
    none false = tt

pub same_life : (p : Program) (row : RowWords) (thread later : Thread) → HasSameLife thread later → IsLife p row thread → IsLife p row later
same_life p row thread later same life = record {
  records = life.records;
  words = life.words;
  relived = record {
    lives = ap (relive p _ life.records) same.unfinished ∙ life.relived.lives ∙ ap (λ (l : Life). Some l) (sym same.life);
    owes = life.relived.owes ∙ sym same.debt;
  };
  used = life.used ∙ sym same.debt;
  few = life.few;
}

-- the caller is seen as if it were delayed, whatever it does
seen_life : (p : Program) (row : RowWords) (thread later : Thread) (b : Bool) → HasSameLife thread later → HasLife p row (seen_row b (Live thread)) → HasLife p row (seen_row b (Live later))
seen_life p row thread later true same life = same_life p row (asleep 0 thread) (asleep 0 later) (record { unfinished = refl; life = same.life; debt = same.debt }) life
seen_life p row thread later false same life = same_life p row thread later same life

same_context : (p : Program) (b : Bool) (found : Option Ctx) (thread later : Thread) → later.local ≡ thread.local → HoldsContext p b found (Live thread) → HoldsContext p b found (Live later)
same_context p false found thread later same holds = tt
same_context p true None thread later same holds = absurd holds
same_context p true (Some ctx) thread later same holds = record { local = holds.local ∙ sym same; context = holds.context }

-- the frame, where the caller and whose contexts are held stay
pub matches-same : (p : Program) (caller : ℕ) (whose : ℕ → Bool) (d e : Decoded) (contexts : List (Option Ctx)) (K : State) (t : ℕ) (row : RowWords) (r : kernel.Row) (stamp : ℕ) (found : Option Ctx)
    → t < 16
    → Matches p caller whose d contexts K
    → AreListed e (record (with_row K t r) { stamp = stamp })
    → unlisted e ≡ unlisted (image.with_row d t row)
    → HasLife p row (seen_row (t == caller) r)
    → HoldsContext p (whose t) found r
    → Matches p caller whose e (slice_set contexts t found) (record (with_row K t r) { stamp = stamp })
matches-same p caller whose d e contexts K t row r stamp found low matches listed is life holds =
    matches-put p caller caller whose whose d e contexts (slice_set contexts t found) K t row r stamp low matches
    (length-set contexts t found ∙ matches.places) listed is life (λ u apart. matches.lives u)
    (subst (λ (o : Option Ctx). HoldsContext p (whose t) o r) (sym (context_put contexts t found (omega (arith, low, matches.places)))) holds)
    (λ u apart. subst (λ (o : Option Ctx). HoldsContext p (whose u) o (row_of K u)) (sym (context_other contexts t u found apart)) (matches.restored u))

-- the frame, where the caller is done, and nobody is the caller afterwards
pub matches-changed : (p : Program) (whose : ℕ → Bool) (d e : Decoded) (contexts : List (Option Ctx)) (K : State) (t : ℕ) (row : RowWords) (r : kernel.Row) (stamp : ℕ) (found : Option Ctx)
    → t < 16
    → Matches p t whose d contexts K
    → AreListed e (record (with_row K t r) { stamp = stamp })
    → unlisted e ≡ unlisted (image.with_row d t row)
    → HasLife p row r
    → HoldsContext p (whose t) found r
    → Matches p nobody whose e (slice_set contexts t found) (record (with_row K t r) { stamp = stamp })
matches-changed p whose d e contexts K t row r stamp found low matches listed is life holds =
    matches-put p t nobody whose whose d e contexts (slice_set contexts t found) K t row r stamp low matches
    (length-set contexts t found ∙ matches.places) listed is
    (subst (λ (b : Bool). HasLife p row (seen_row b r)) (sym (other_than t nobody (omega (arith, low)))) life)
    (lives_on p t whose d contexts K matches)
    (subst (λ (o : Option Ctx). HoldsContext p (whose t) o r) (sym (context_put contexts t found (omega (arith, low, matches.places)))) holds)
    (λ u apart. subst (λ (o : Option Ctx). HoldsContext p (whose u) o (row_of K u)) (sym (context_other contexts t u found apart)) (matches.restored u))

-- a live thread stands in other lists, and its life and its context are as before
pub matches-relisted : (p : Program) (caller : ℕ) (whose : ℕ → Bool) (d e : Decoded) (contexts : List (Option Ctx)) (K : State) (t : ℕ) (thread later : Thread) (stamp : ℕ)
    → t < 16
    → Matches p caller whose d contexts K
    → thread_of K t ≡ Some thread
    → HasSameLife thread later
    → AreListed e (record (with_row K t (Live later)) { stamp = stamp })
    → unlisted e ≡ unlisted d
    → Matches p caller whose e contexts (record (with_row K t (Live later)) { stamp = stamp })
matches-relisted p caller whose d e contexts K t thread later stamp low matches lives same listed is =
    matches-put p caller caller whose whose d e contexts contexts K t (row_at d t) (Live later) stamp low matches matches.places listed
    (is ∙ sym (ap unlisted (unchanged d t)))
    (seen_life p (row_at d t) thread later (t == caller) same
    (subst (λ (r : kernel.Row). HasLife p (row_at d t) (seen_row (t == caller) r)) (live_row (row_of K t) thread lives) (matches.lives t)))
    (λ u apart. matches.lives u)
    (same_context p (whose t) (context_at contexts t) thread later (ap (λ (l : Life). l.local) same.life)
    (subst (HoldsContext p (whose t) (context_at contexts t)) (live_row (row_of K t) thread lives) (matches.restored t)))
    (λ u apart. matches.restored u)

-- the caller is delayed or waits
pub matches-open : (p : Program) (whose : ℕ → Bool) (d e : Decoded) (contexts : List (Option Ctx)) (K : State) (t : ℕ) (thread : Thread) (activity : Activity) (own stamp : ℕ)
    → t < 16
    → Matches p t whose d contexts K
    → thread_of K t ≡ Some thread
    → is_open activity ≡ true
    → AreListed e (record (with_row K t (Live (record thread { activity = activity; stamp = own }))) { stamp = stamp })
    → unlisted e ≡ unlisted d
    → Matches p nobody whose e contexts (record (with_row K t (Live (record thread { activity = activity; stamp = own }))) { stamp = stamp })
matches-open p whose d e contexts K t thread activity own stamp low matches lives unfinished listed is =
    matches-put p t nobody whose whose d e contexts contexts K t (row_at d t) (Live (record thread { activity = activity; stamp = own })) stamp low matches matches.places listed
    (is ∙ sym (ap unlisted (unchanged d t)))
    (subst (λ (b : Bool). HasLife p (row_at d t) (seen_row b (Live (record thread { activity = activity; stamp = own })))) (sym (other_than t nobody (omega (arith, low)))) life)
    (lives_on p t whose d contexts K matches)
    (same_context p (whose t) (context_at contexts t) thread (record thread { activity = activity; stamp = own }) refl
    (subst (HoldsContext p (whose t) (context_at contexts t)) (live_row (row_of K t) thread lives) (matches.restored t)))
    (λ u apart. matches.restored u)
  where
    seen : IsLife p (row_at d t) (asleep 0 thread)
    seen =
        let there = subst (λ (r : kernel.Row). HasLife p (row_at d t) (seen_row (t == t) r)) (live_row (row_of K t) thread lives) (matches.lives t) in
        subst (λ (b : Bool). HasLife p (row_at d t) (seen_row b (Live thread))) (itself t) there

    life : IsLife p (row_at d t) (record thread { activity = activity; stamp = own })
    life = same_life p (row_at d t) (asleep 0 thread) (record thread { activity = activity; stamp = own }) (record { unfinished = unfinished; life = refl; debt = refl }) seen

-- where no thread lives there is no life and no context
no_life : (p : Program) (row : RowWords) (b : Bool) (r : kernel.Row) → live_in r ≡ None → HasLife p row (seen_row b r)
no_life p row true Free none = tt
no_life p row false Free none = tt
no_life p row true (Ended template priority code) none = tt
no_life p row false (Ended template priority code) none = tt
no_life p row b (Live thread) none = absurd (let f : ◌≡◌ {A = Option Thread} None (Some thread) = sym none in cc)

no_context : (p : Program) (b : Bool) (r : kernel.Row) → live_in r ≡ None → HoldsContext p b None r
no_context p false r none = tt
no_context p true Free none = tt
no_context p true (Ended template priority code) none = tt
no_context p true (Live thread) none = absurd (let f : ◌≡◌ {A = Option Thread} None (Some thread) = sym none in cc)

-- a thread that isn't the caller, or whose call isn't over, is no more
pub matches-left : (p : Program) (caller : ℕ) (whose : ℕ → Bool) (d e : Decoded) (contexts : List (Option Ctx)) (K : State) (t : ℕ) (row : RowWords) (r : kernel.Row)
    → t < 16
    → Matches p caller whose d contexts K
    → live_in r ≡ None
    → AreListed e (with_row K t r)
    → unlisted e ≡ unlisted (image.with_row d t row)
    → Matches p caller whose e (slice_set contexts t None) (with_row K t r)
matches-left p caller whose d e contexts K t row r low matches none listed is =
    matches-same p caller whose d e contexts K t row r K.stamp None low matches listed is (no_life p row (t == caller) r none) (no_context p (whose t) r none)

-- the caller, or one that ran and came to no action, is no more: its own context needn't have been held
pub matches-ended : (p : Program) (caller : ℕ) (whose : ℕ → Bool) (d e : Decoded) (contexts : List (Option Ctx)) (K : State) (t : ℕ) (row : RowWords) (r : kernel.Row)
    → t < 16
    → (caller ≡ t) ⊎ (caller ≡ nobody)
    → Matches p caller whose d contexts K
    → live_in r ≡ None
    → AreListed e (with_row K t r)
    → unlisted e ≡ unlisted (image.with_row d t row)
    → Matches p nobody (also t whose) e (slice_set contexts t None) (with_row K t r)
matches-ended p caller whose d e contexts K t row r low own matches none listed is =
    matches-put p caller nobody whose (also t whose) d e contexts (slice_set contexts t None) K t row r K.stamp low matches
    (length-set contexts t None ∙ matches.places) listed is
    (no_life p row (t == nobody) r none)
    (λ u apart. ⊎_elim
    (λ (mine : caller ≡ t). lives_on p caller whose d contexts K matches u (λ e. apart (e ∙ mine)))
    (λ (nobodys : caller ≡ nobody). subst (λ (c : ℕ). HasLife p (row_at d u) (seen_row (u == c) (row_of K u))) nobodys (matches.lives u)) own)
    (subst (λ (o : Option Ctx). HoldsContext p (also t whose t) o r) (sym (context_put contexts t None (omega (arith, low, matches.places)))) (no_context p (also t whose t) r none))
    (λ u apart. subst (λ (b : Bool). HoldsContext p (b || whose u) (context_at (slice_set contexts t None) u) (row_of K u)) (sym (other_than u t apart))
    (subst (λ (o : Option Ctx). HoldsContext p (whose u) o (row_of K u)) (sym (context_other contexts t u None apart)) (matches.restored u)))

-- no row changes: the image has other parts, and so has the kernel
pub matches-parts : (p : Program) (caller : ℕ) (whose : ℕ → Bool) (d e : Decoded) (contexts : List (Option Ctx)) (K L : State)
    → Matches p caller whose d contexts K
    → L.rows ≡ K.rows
    → AreListed e L
    → e.rows ≡ d.rows
    → e.ticks ≡ L.ticks
    → items_in p e ≡ L.queues
    → counts_in p e ≡ L.counts
    → console_in e ≡ L.console
    → objects_in p e.heap e.live ≡ L.objects
    → IsLaidOut e.heap e.first_hole first_place L.objects
    → unread e ≡ unread d
    → Matches p caller whose e contexts L
matches-parts p caller whose d e contexts K L matches rows listed words ticks queues counts console objects layout same = record {
  sixteen = ap length rows ∙ matches.sixteen;
  places = matches.places;
  listed = listed;
  lives = λ u.
      subst (λ (ws : List RowWords). HasLife p (slice_index_or ws u blank_row) (seen_row (u == caller) (row_of L u))) (sym words)
      (subst (λ (rs : List kernel.Row). HasLife p (row_at d u) (seen_row (u == caller) (slice_index_or rs u Free))) (sym rows) (matches.lives u));
  restored = λ u. subst (λ (rs : List kernel.Row). HoldsContext p (whose u) (context_at contexts u) (slice_index_or rs u Free)) (sym rows) (matches.restored u);
  ticks = ticks;
  queues = queues;
  counts = counts;
  console = console;
  objects = objects;
  layout = layout;
  unread = same ∙ matches.unread;
}

-- fewer contexts are held
pub matches-fewer : (p : Program) (caller : ℕ) (whose held : ℕ → Bool) (d : Decoded) (contexts : List (Option Ctx)) (K : State) → ((u : ℕ) → held u ≡ true → whose u ≡ true) → Matches p caller whose d contexts K → Matches p caller held d contexts K
matches-fewer p caller whose held d contexts K fewer matches = record {
  sixteen = matches.sixteen;
  places = matches.places;
  listed = matches.listed;
  lives = matches.lives;
  restored = λ u. weaker u (held u) refl;
  ticks = matches.ticks;
  queues = matches.queues;
  counts = matches.counts;
  console = matches.console;
  objects = matches.objects;
  layout = matches.layout;
  unread = matches.unread;
}
  where
    weaker : (u : ℕ) (b : Bool) → held u ≡ b → HoldsContext p b (context_at contexts u) (row_of K u)
    weaker u false e = tt
    weaker u true e = subst (λ (b : Bool). HoldsContext p b (context_at contexts u) (row_of K u)) (fewer u e) (matches.restored u)

-- the count of events is no part of it: neither in the words nor in the kernel
pub matches-counted : (p : Program) (caller : ℕ) (whose : ℕ → Bool) (d : Decoded) (contexts : List (Option Ctx)) (K : State) (stored told : ℕ) → Matches p caller whose d contexts K → Matches p caller whose (record d { events = stored }) contexts (record K { events = told })
matches-counted p caller whose d contexts K stored told matches = record {
  sixteen = matches.sixteen;
  places = matches.places;
  listed = record { rows = matches.listed.rows; stamp = matches.listed.stamp; links = matches.listed.links };
  lives = matches.lives;
  restored = matches.restored;
  ticks = matches.ticks;
  queues = matches.queues;
  counts = matches.counts;
  console = matches.console;
  objects = matches.objects;
  layout = matches.layout;
  unread = matches.unread;
}
