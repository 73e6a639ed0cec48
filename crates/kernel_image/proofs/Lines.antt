-- Rows that stand for the rows of a kernel show the same lists.
use Rattle.std.proofs.Common.{◌≡◌, ℕ, ◌+◌, ◌==◌, List, [], ◌∷◌, Bool, true, false, inl, inr, ◌⊎◌, refl, ap, sym, subst, ◌∙◌}
use Rattle.std.proofs.lemmas.Bool.{false≢true}
use Rattle.std.specs.Prelude.{map, filter, filter_map, if◌then◌else◌, nat_lt, Option, None, option_map}
use Rattle.std.specs.List.{enumerate_from, range_with_len, cons_option}
use Rattle.kernel_model.specs.declared.wait.Wait.{Wait}
use Rattle.kernel_model.specs.declared.wait.TheConstants.{NEVER}
use Rattle.kernel_model.specs.declared.what.What.{What}
use Rattle.kernel_model.specs.declared.row_state.RowState.TheVariants as state
use Rattle.kernel_model.specs.Kernel as kernel
use Rattle.kernel_model.specs.Kernel.{Activity, Thread, live_in}
use Rattle.kernel_model.specs.Kernel.Activity.{Ready, Delayed, Waiting}
use Rattle.kernel_model.specs.Kernel.Row.{Free, Ended, Live}
use Rattle.kernel_model.specs.Order as order
use Rattle.kernel_model.specs.Order.{in_order, inserted}
use Rattle.kernel_model.specs.Run as run
use Rattle.kernel_model.specs.Show as show
use Rattle.kernel_model.specs.Visible.{Row, free_row}
use Rattle.kernel_image.specs.Decoded.{RowWords}
use Rattle.kernel_image.proofs.CellLaws.{by_test}
use Rattle.kernel_image.specs.Agree.{Does, IsThread, Agrees, Both}
use Rattle.kernel_image.specs.Shown.{Numbered, is_live, is_more_urgent, by_urgency, line_of, is_ready_at, waits_for, wake_tick, shown_row, state_of, what_of}

-- a numbered row stands for a numbered thread
abbrev pub IsNumbered : Numbered → order.Numbered → Type 0
IsNumbered a b = (a.0 ≡ b.0) × IsThread a.1 b.1

-- two lists with one thing more, which stands first or second in both
Both-choice : {X Y : Type 0} (R : X → Y → Type 0) (x : X) (y : Y) (a : X) (b : Y) (xs : List X) (ys : List Y) (xs' : List X) (ys' : List Y) (later later' : Bool) → later ≡ later' → R x y → R a b → Both R xs ys → Both R xs' ys' → Both R (if later then a ∷ xs' else x ∷ a ∷ xs) (if later' then b ∷ ys' else y ∷ b ∷ ys)
Both-choice R x y a b xs ys xs' ys' true true same r s both both' = (s, both')
Both-choice R x y a b xs ys xs' ys' false false same r s both both' = (r, (s, both))
Both-choice R x y a b xs ys xs' ys' true false same r s both both' = absurd (false≢true (sym same))
Both-choice R x y a b xs ys xs' ys' false true same r s both both' = absurd (false≢true same)

-- one thing more, put in order
Both-inserted : {X Y : Type 0} (R : X → Y → Type 0) (before : X → X → Bool) (before' : Y → Y → Bool) → ((a b : X) (c d : Y) → R a c → R b d → before a b ≡ before' c d) → (x : X) (y : Y) (xs : List X) (ys : List Y) → R x y → Both R xs ys → Both R (inserted before x xs) (inserted before' y ys)
Both-inserted R before before' agree x y [] [] r both = (r, tt)
Both-inserted R before before' agree x y [] (b ∷ ys) r both = absurd both
Both-inserted R before before' agree x y (a ∷ xs) [] r both = absurd both
Both-inserted R before before' agree x y (a ∷ xs) (b ∷ ys) r both =
    Both-choice R x y a b xs ys (inserted before x xs) (inserted before' y ys) (before a x) (before' b y) (agree a x b y both.0 r) r both.0 both.1 (Both-inserted R before before' agree x y xs ys r both.1)

Both-in_order : {X Y : Type 0} (R : X → Y → Type 0) (before : X → X → Bool) (before' : Y → Y → Bool) → ((a b : X) (c d : Y) → R a c → R b d → before a b ≡ before' c d) → (xs : List X) (ys : List Y) → Both R xs ys → Both R (in_order before xs) (in_order before' ys)
Both-in_order R before before' agree [] [] both = tt
Both-in_order R before before' agree [] (y ∷ ys) both = absurd both
Both-in_order R before before' agree (x ∷ xs) [] both = absurd both
Both-in_order R before before' agree (x ∷ xs) (y ∷ ys) both =
    Both-inserted R before before' agree x y (in_order before xs) (in_order before' ys) both.0 (Both-in_order R before before' agree xs ys both.1)

-- those that pass tests which agree
Both-kept : {X Y : Type 0} (R : X → Y → Type 0) (x : X) (y : Y) (xs : List X) (ys : List Y) (passes passes' : Bool) → passes ≡ passes' → R x y → Both R xs ys → Both R (if passes then x ∷ xs else xs) (if passes' then y ∷ ys else ys)
Both-kept R x y xs ys true true same r both = (r, both)
Both-kept R x y xs ys false false same r both = both
Both-kept R x y xs ys true false same r both = absurd (false≢true (sym same))
Both-kept R x y xs ys false true same r both = absurd (false≢true same)

Both-filter : {X Y : Type 0} (R : X → Y → Type 0) (test : X → Bool) (test' : Y → Bool) → ((a : X) (b : Y) → R a b → test a ≡ test' b) → (xs : List X) (ys : List Y) → Both R xs ys → Both R (filter test xs) (filter test' ys)
Both-filter R test test' agree [] [] both = tt
Both-filter R test test' agree [] (y ∷ ys) both = absurd both
Both-filter R test test' agree (x ∷ xs) [] both = absurd both
Both-filter R test test' agree (x ∷ xs) (y ∷ ys) both =
    Both-kept R x y (filter test xs) (filter test' ys) (test x) (test' y) (agree x y both.0) both.0 (Both-filter R test test' agree xs ys both.1)

-- their numbers
Both-numbers : (xs : List Numbered) (ys : List order.Numbered) → Both IsNumbered xs ys → map (λ (a : Numbered). a.0) xs ≡ map (λ (b : order.Numbered). b.0) ys
Both-numbers [] [] both = refl
Both-numbers [] (y ∷ ys) both = absurd both
Both-numbers (x ∷ xs) [] both = absurd both
Both-numbers (x ∷ xs) (y ∷ ys) both = let rest = Both-numbers xs ys both.1 in λ i. both.0.0 i ∷ rest i

-- live rows and live threads
is_live-does : (row : RowWords) (activity : Activity) → Does row activity → is_live row ≡ true
is_live-does row Ready does = rw does refl
is_live-does row (Delayed wake) does = rw (does.0) refl
is_live-does row (Waiting wait) does = rw (does.0) refl

Both-live : (n : ℕ) (rows : List RowWords) (krows : List kernel.Row) → Both Agrees rows krows → Both IsNumbered (filter (λ (a : Numbered). is_live a.1) (enumerate_from n rows)) (filter_map (λ (a : ℕ × kernel.Row). option_map (λ (thread : Thread). (a.0, thread)) (live_in a.1)) (enumerate_from n krows))
Both-live n [] [] both = tt
Both-live n [] (k ∷ krows) both = absurd both
Both-live n (row ∷ rows) [] both = absurd both
Both-live n (row ∷ rows) (Free ∷ krows) both =
    let dead : is_live row ≡ false = rw (both.0) refl in
    rw dead (Both-live (n + 1) rows krows both.1)
Both-live n (row ∷ rows) ((Ended template priority code) ∷ krows) both =
    let dead : is_live row ≡ false = rw (both.0.state) refl in
    rw dead (Both-live (n + 1) rows krows both.1)
Both-live n (row ∷ rows) ((Live thread) ∷ krows) both =
    let live : is_live row ≡ true = is_live-does row thread.activity both.0.does in
    rw live ((refl, both.0), Both-live (n + 1) rows krows both.1)

-- the order is the same
urgency-agrees : (a b : Numbered) (c d : order.Numbered) → IsNumbered a c → IsNumbered b d → is_more_urgent a b ≡ order.is_more_urgent c d
urgency-agrees a b c d first second = rw (first.1.priority, second.1.priority, first.1.stamp, second.1.stamp) refl

-- the lines of those that pass tests which agree
pub line_of-agrees : (test : RowWords → Bool) (ktest : Thread → Bool) → ((row : RowWords) (thread : Thread) → IsThread row thread → test row ≡ ktest thread) → (rows : List RowWords) (krows : List kernel.Row) → Both Agrees rows krows → line_of test rows ≡ order.line_of ktest krows
unfolding by_urgency order.by_urgency
line_of-agrees test ktest agree rows krows both =
    Both-numbers _ _ (Both-filter IsNumbered (λ (a : Numbered). test a.1) (λ (b : order.Numbered). ktest b.1) (λ a b same. agree a.1 b.1 same.1) _ _
    (Both-in_order IsNumbered is_more_urgent order.is_more_urgent urgency-agrees _ _ (Both-live 0 rows krows both)))

-- what is shown of a row
state_of-does : (row : RowWords) (activity : Activity) → Does row activity → state_of row ≡ show.shown_activity activity
state_of-does row Ready does = rw does refl
state_of-does row (Delayed wake) does = rw (does.0, does.1) refl
state_of-does row (Waiting wait) does = rw (does.0) (ap state.Waiting (does.1))

not_free : (row : RowWords) (activity : Activity) → Does row activity → (row.state == 0) ≡ false
not_free row Ready does = rw does refl
not_free row (Delayed wake) does = rw (does.0) refl
not_free row (Waiting wait) does = rw (does.0) refl

else_of : {X : Type 0} (test : Bool) (x y : X) → test ≡ false → (if test then x else y) ≡ y
else_of true x y fails = absurd (false≢true (sym fails))
else_of false x y fails = refl

shown_row-agrees : (row : RowWords) (krow : kernel.Row) → Agrees row krow → shown_row row ≡ show.shown_row krow
shown_row-agrees row Free is = rw is refl
shown_row-agrees row (Ended template priority code) is = rw (is.state, is.template, is.priority, is.code) refl
shown_row-agrees row (Live thread) is =
    let there = not_free row thread.activity is.does in
    let does = state_of-does row thread.activity is.does in
    let shown : Row = record { template = row.template; priority = row.priority; state = state_of row } in
    else_of (row.state == 0) free_row shown there ∙ (λ i. record { template = is.template i; priority = is.priority i; state = does i })

pub rows-agree : (rows : List RowWords) (krows : List kernel.Row) → Both Agrees rows krows → map shown_row rows ≡ map show.shown_row krows
rows-agree [] [] both = refl
rows-agree [] (k ∷ krows) both = absurd both
rows-agree (row ∷ rows) [] both = absurd both
rows-agree (row ∷ rows) (krow ∷ krows) both =
    let first = shown_row-agrees row krow both.0 in
    let rest = rows-agree rows krows both.1 in
    λ i. first i ∷ rest i

-- the lines
ready_by : (priority : ℕ) (row : RowWords) (thread : Thread) (activity : Activity) → thread.activity ≡ activity → IsThread row thread → is_ready_at priority row ≡ run.is_ready_at priority thread
ready_by priority row thread Ready same is =
    let does : Does row Ready = subst (Does row) same is.does in
    rw (same, does, is.priority) refl
ready_by priority row thread (Delayed wake) same is =
    let does : Does row (Delayed wake) = subst (Does row) same is.does in
    rw (same, does.0) refl
ready_by priority row thread (Waiting wait) same is =
    let does : Does row (Waiting wait) = subst (Does row) same is.does in
    rw (same, does.0) refl

is_ready_at-agrees : (priority : ℕ) (row : RowWords) (thread : Thread) → IsThread row thread → is_ready_at priority row ≡ run.is_ready_at priority thread
is_ready_at-agrees priority row thread is = ready_by priority row thread thread.activity refl is

pub ready-agrees : (rows : List RowWords) (krows : List kernel.Row) → Both Agrees rows krows → (priority : ℕ) → line_of (is_ready_at priority) rows ≡ order.line_of (run.is_ready_at priority) krows
ready-agrees rows krows both priority = line_of-agrees (is_ready_at priority) (run.is_ready_at priority) (is_ready_at-agrees priority) rows krows both

ready_lists-from : (rows : List RowWords) (krows : List kernel.Row) → Both Agrees rows krows → (priorities : List ℕ) → map (λ priority. line_of (is_ready_at priority) rows) priorities ≡ map (λ priority. order.line_of (run.is_ready_at priority) krows) priorities
ready_lists-from rows krows both [] = refl
ready_lists-from rows krows both (priority ∷ priorities) =
    let first = ready-agrees rows krows both priority in
    let rest = ready_lists-from rows krows both priorities in
    λ i. first i ∷ rest i

pub ready_lists-agree : (rows : List RowWords) (krows : List kernel.Row) → Both Agrees rows krows → map (λ priority. line_of (is_ready_at priority) rows) (range_with_len 0 8) ≡ map (λ priority. order.line_of (run.is_ready_at priority) krows) (range_with_len 0 8)
ready_lists-agree rows krows both = ready_lists-from rows krows both (range_with_len 0 8)

-- the threads that wait for something
waits_by : (what : What) (target : ℕ) (row : RowWords) (thread : Thread) (activity : Activity) → thread.activity ≡ activity → IsThread row thread → waits_for what target row ≡ order.waits_for what target thread
waits_by what target row thread Ready same is =
    let does : Does row Ready = subst (Does row) same is.does in
    rw (same, does) refl
waits_by what target row thread (Delayed wake) same is =
    let does : Does row (Delayed wake) = subst (Does row) same is.does in
    rw (same, does.0) refl
waits_by what target row thread (Waiting wait) same is =
    let does : Does row (Waiting wait) = subst (Does row) same is.does in
    let what_same : what_of row.what ≡ wait.what = ap (λ (w : Wait). w.what) (does.1) in
    let target_same : row.target ≡ wait.target = ap (λ (w : Wait). w.target) (does.1) in
    rw (same, does.0, what_same, target_same) refl

pub waiting-agree : (rows : List RowWords) (krows : List kernel.Row) → Both Agrees rows krows → (what : What) (target : ℕ) → line_of (waits_for what target) rows ≡ order.line_of (order.waits_for what target) krows
waiting-agree rows krows both what target = line_of-agrees (waits_for what target) (order.waits_for what target) (λ row thread is. waits_by what target row thread thread.activity refl is) rows krows both

-- the threads that a tick wakes
abbrev pub Timed : Type 0
Timed = ℕ × ℕ

-- whether a tick comes before another
abbrev pub is_sooner : Timed → Timed → Bool
is_sooner a b = nat_lt a.1 b.1

-- the tick that wakes the thread of a row, and a thread, with its number
abbrev pub woken_row : Numbered → Option Timed
woken_row a = option_map (λ tick. (a.0, tick)) (wake_tick a.1)

abbrev pub woken_thread : order.Numbered → Option Timed
woken_thread a = option_map (λ tick. (a.0, tick)) (show.wake_tick a.1.activity)

-- the live thread of a row, with its number
abbrev pub numbered_live : ℕ × kernel.Row → Option order.Numbered
numbered_live a = option_map (λ thread. (a.0, thread)) (live_in a.1)

wake-does : (row : RowWords) (activity : Activity) → Does row activity → wake_tick row ≡ show.wake_tick activity
wake-does row Ready does = rw does refl
wake-does row (Delayed wake) does = rw (does.0, does.1) refl
wake-does row (Waiting wait) does =
    let until : row.wake ≡ wait.until = ap (λ (w : Wait). w.until) (does.1) in
    by_test (wait.until == NEVER) _ (λ never. rw (does.0, until, never) refl) (λ timed. rw (does.0, until, timed) refl)

dead-wakes : (row : RowWords) → ((row.state ≡ 0) ⊎ (row.state ≡ 4)) → wake_tick row ≡ None
dead-wakes row (inl free) = rw free refl
dead-wakes row (inr ended) = rw ended refl

abbrev pub timed_at : ℕ → Option ℕ → Option Timed
timed_at n o = option_map (λ tick. (n, tick)) o

timed-from : (n : ℕ) (rows : List RowWords) (krows : List kernel.Row) → Both Agrees rows krows →
    filter_map woken_row (enumerate_from n rows) ≡ filter_map woken_thread (filter_map numbered_live (enumerate_from n krows))
timed-from n [] [] both = refl
timed-from n [] (k ∷ krows) both = absurd both
timed-from n (row ∷ rows) [] both = absurd both
timed-from n (row ∷ rows) (Free ∷ krows) both =
    let none = dead-wakes row (inl (both.0)) in
    ap (λ (o : Option ℕ). cons_option (timed_at n o) (filter_map woken_row (enumerate_from (n + 1) rows))) none ∙ timed-from (n + 1) rows krows both.1
timed-from n (row ∷ rows) ((Ended template priority code) ∷ krows) both =
    let none = dead-wakes row (inr (both.0.state)) in
    ap (λ (o : Option ℕ). cons_option (timed_at n o) (filter_map woken_row (enumerate_from (n + 1) rows))) none ∙ timed-from (n + 1) rows krows both.1
timed-from n (row ∷ rows) ((Live thread) ∷ krows) both =
    let same = wake-does row thread.activity both.0.does in
    let rest = timed-from (n + 1) rows krows both.1 in
    λ i. cons_option (timed_at n (same i)) (rest i)

pub timed-agree : (rows : List RowWords) (krows : List kernel.Row) → Both Agrees rows krows →
    in_order is_sooner (filter_map woken_row (enumerate_from 0 rows))
    ≡ in_order is_sooner (filter_map woken_thread (filter_map numbered_live (enumerate_from 0 krows)))
timed-agree rows krows both = ap (in_order is_sooner) (timed-from 0 rows krows both)
