-- Who is chosen and who is served first: live threads that pass the test, and none passes it where there is none.
use Rattle.std.proofs.Common.{◌≡◌, ℕ, zero, suc, ◌+◌, Bool, true, false, cond, List, [], ◌∷◌, map, get_or, filter, filter_map, Option, Some, None, slice_get, option_map, refl, sym, ap, subst, ◌∙◌, arith, true≢false}
use Rattle.std.specs.List.{enumerate_from, AllByRecursion}
use Rattle.std.proofs.lemmas.Bool.{cond-true, cond-false}
use Rattle.kernel_model.specs.Kernel.{Thread, Row, State, live_in, row_of, thread_of}
use Rattle.kernel_model.specs.Kernel.Row.{Free, Ended, Live}
use Rattle.kernel_model.specs.Order.{inserted, in_order, Numbered, live_threads, is_more_urgent, by_urgency, line_of}
use Rattle.kernel_model.proofs.RowLemmas.{live_in-Some}

-- a list of which P holds, with one thing more
pub inserted-All : {X : Type 0} (P : X → Type 0) (before : X → X → Bool) (x : X) (ys : List X) → P x →
    AllByRecursion P ys → AllByRecursion P (inserted before x ys)
inserted-All P before x [] h all = (h, tt)
inserted-All P before x (y ∷ ys) h all = go (before y x) (inserted-All P before x ys h all.1)
  where
    go : (b : Bool) → AllByRecursion P (inserted before x ys) → AllByRecursion P (cond b (y ∷ inserted before x ys) (x ∷ y ∷ ys))
    go true rest = (all.0, rest)
    go false rest = (h, all)

-- a list in order
pub in_order-All : {X : Type 0} (P : X → Type 0) (before : X → X → Bool) (xs : List X) → AllByRecursion P xs →
    AllByRecursion P (in_order before xs)
in_order-All P before [] all = tt
in_order-All P before (x ∷ xs) all = inserted-All P before x (in_order before xs) all.0 (in_order-All P before xs all.1)

-- what holds of all holds of those that pass a test, and they pass it
pub passing : {X : Type 0} (P : X → Type 0) (test : X → Bool) (xs : List X) → AllByRecursion P xs →
    AllByRecursion (λ x. P x × (test x ≡ true)) (filter test xs)
passing P test [] all = tt
passing P test (x ∷ xs) all = go (test x) refl (passing P test xs all.1)
  where
    go : (b : Bool) → test x ≡ b → AllByRecursion (λ x. P x × (test x ≡ true)) (filter test xs) →
        AllByRecursion (λ x. P x × (test x ≡ true)) (cond b (x ∷ filter test xs) (filter test xs))
    go true is rest = ((all.0, is), rest)
    go false is rest = rest

-- none of these passes the test
abbrev pub NonePass : {X : Type 0} → (X → Bool) → List X → Type 0
NonePass test xs = AllByRecursion (λ x. test x ≡ false) xs

-- where no thing is left none passes
pub none_left : {X : Type 0} (test : X → Bool) (xs : List X) → filter test xs ≡ [] → NonePass test xs
none_left test [] e = tt
none_left test (x ∷ xs) e = go (test x) refl (none_left test xs)
  where
    go : (b : Bool) → test x ≡ b → (filter test xs ≡ [] → NonePass test xs) → NonePass test (x ∷ xs)
    go true is rest = absurd (let f : x ∷ filter test xs ≡ [] = sym (cond-true (test x) (x ∷ filter test xs) (filter test xs) is) ∙ e in cc)
    go false is rest = (is, rest (sym (cond-false (test x) (x ∷ filter test xs) (filter test xs) is) ∙ e))

-- what holds of a list where a thing was inserted holds of the thing and of the list before
pub inserted-parts : {X : Type 0} (P : X → Type 0) (before : X → X → Bool) (x : X) (ys : List X) →
    AllByRecursion P (inserted before x ys) → P x × AllByRecursion P ys
inserted-parts P before x [] all = (all.0, tt)
inserted-parts P before x (y ∷ ys) all = go (before y x) (inserted-parts P before x ys) all
  where
    go : (b : Bool) → (AllByRecursion P (inserted before x ys) → P x × AllByRecursion P ys) →
        AllByRecursion P (cond b (y ∷ inserted before x ys) (x ∷ y ∷ ys)) → P x × AllByRecursion P (y ∷ ys)
    go true rest all = ((rest all.1).0, (all.0, (rest all.1).1))
    go false rest all = all

-- what holds of a list in order held of the list before
pub in_order-parts : {X : Type 0} (P : X → Type 0) (before : X → X → Bool) (xs : List X) →
    AllByRecursion P (in_order before xs) → AllByRecursion P xs
in_order-parts P before [] all = tt
in_order-parts P before (x ∷ xs) all =
    let parts = inserted-parts P before x (in_order before xs) all in
    (parts.0, in_order-parts P before xs parts.1)

-- what holds of those that pass a test holds of each that passes it
pub passing-parts : {X : Type 0} (P : X → Type 0) (test : X → Bool) (xs : List X) → AllByRecursion P (filter test xs) →
    AllByRecursion (λ x. test x ≡ true → P x) xs
passing-parts P test [] all = tt
passing-parts P test (x ∷ xs) all = go (test x) refl (passing-parts P test xs) all
  where
    go : (b : Bool) → test x ≡ b → (AllByRecursion P (filter test xs) → AllByRecursion (λ x. test x ≡ true → P x) xs) →
        AllByRecursion P (cond b (x ∷ filter test xs) (filter test xs)) → AllByRecursion (λ x. test x ≡ true → P x) (x ∷ xs)
    go true is rest all = (λ passes. all.0, rest all.1)
    go false is rest all = (λ passes. absurd (true≢false (sym passes ∙ is)), rest all)

-- a live thread of these rows, by its number, where the first row has the number n
abbrev pub IsIn : ℕ → List Row → Numbered → Type 0
IsIn n rows a = (k : ℕ) × (a.0 ≡ n + k) × (get_or rows k Free ≡ Live a.1)

-- the threads of rows from the number n on
abbrev pub threads_from : ℕ → List Row → List Numbered
threads_from n rows = filter_map (λ (t, row). option_map (λ thread. (t, thread)) (live_in row)) (enumerate_from n rows)

weaken : (n : ℕ) (row : Row) (rows : List Row) (xs : List Numbered) → AllByRecursion (IsIn (n + 1) rows) xs →
    AllByRecursion (IsIn n (row ∷ rows)) xs
weaken n row rows [] all = tt
weaken n row rows (x ∷ xs) all = ((suc all.0.0, omega arith, all.0.2), weaken n row rows xs all.1)

-- each is one of them
pub threads_are : (n : ℕ) (rows : List Row) → AllByRecursion (IsIn n rows) (threads_from n rows)
threads_are n [] = tt
threads_are n (Free ∷ rows) = weaken n Free rows (threads_from (n + 1) rows) (threads_are (n + 1) rows)
threads_are n (Ended template priority code ∷ rows) =
    weaken n (Ended template priority code) rows (threads_from (n + 1) rows) (threads_are (n + 1) rows)
threads_are n (Live thread ∷ rows) =
    ((0, omega arith, refl), weaken n (Live thread) rows (threads_from (n + 1) rows) (threads_are (n + 1) rows))

next : (P : Numbered → Type 0) (n k : ℕ) (thread : Thread) → P (n + 1 + k, thread) → P (n + suc k, thread)
next P n k thread h = subst (λ (m : ℕ). P (m, thread)) (omega arith) h

-- what holds of all holds of each
pub each_has : (P : Numbered → Type 0) (n : ℕ) (rows : List Row) → AllByRecursion P (threads_from n rows) →
    (k : ℕ) (thread : Thread) → get_or rows k Free ≡ Live thread → P (n + k, thread)
each_has P n [] all k thread e = absurd (let f : Free ≡ Live thread = e in cc)
each_has P n (Free ∷ rows) all zero thread e = absurd (let f : Free ≡ Live thread = e in cc)
each_has P n (Free ∷ rows) all (suc k) thread e = next P n k thread (each_has P (n + 1) rows all k thread e)
each_has P n (Ended template priority code ∷ rows) all zero thread e =
    absurd (let f : Ended template priority code ≡ Live thread = e in cc)
each_has P n (Ended template priority code ∷ rows) all (suc k) thread e = next P n k thread (each_has P (n + 1) rows all k thread e)
each_has P n (Live own ∷ rows) all zero thread e = let f : own ≡ thread = cc in
    subst (λ (x : Thread). P (n + 0, x)) f (subst (λ (m : ℕ). P (m, own)) (omega arith) all.0)
each_has P n (Live own ∷ rows) all (suc k) thread e = next P n k thread (each_has P (n + 1) rows all.1 k thread e)

-- the first of a line is a live thread that passes the test
pub head_of_line : (test : Thread → Bool) (K : State) (t : ℕ) → slice_get (line_of test K.rows) 0 ≡ Some t →
    (thread : Thread) × (thread_of K t ≡ Some thread) × (test thread ≡ true)
unfolding by_urgency
head_of_line test K t e = go (filter (λ a. test a.1) (by_urgency K.rows))
    (passing (IsIn 0 K.rows) (λ a. test a.1) (by_urgency K.rows) (in_order-All (IsIn 0 K.rows) is_more_urgent (live_threads K.rows) (threads_are 0 K.rows)))
    e
  where
    go : (xs : List Numbered) → AllByRecursion (λ a. IsIn 0 K.rows a × (test a.1 ≡ true)) xs → slice_get (map (λ a. a.0) xs) 0 ≡ Some t →
        (thread : Thread) × (thread_of K t ≡ Some thread) × (test thread ≡ true)
    go [] all e = absurd (let f : ◌≡◌ {A = Option ℕ} None (Some t) = e in cc)
    go (x ∷ xs) all e =
        let same : x.0 ≡ t = cc in
        let number : t ≡ all.0.0.0 = sym same ∙ all.0.0.1 ∙ omega arith in
        (x.1, ap live_in (ap (λ k. get_or K.rows k Free) number ∙ all.0.0.2), all.0.1)

-- where a line is empty no live thread passes the test
pub empty_line : (test : Thread → Bool) (K : State) → slice_get (line_of test K.rows) 0 ≡ None →
    (t : ℕ) (thread : Thread) → thread_of K t ≡ Some thread → test thread ≡ false
unfolding by_urgency
empty_line test K e t thread is =
    each_has (λ a. test a.1 ≡ false) 0 K.rows
    (in_order-parts (λ a. test a.1 ≡ false) is_more_urgent (live_threads K.rows) (none_left (λ a. test a.1) (by_urgency K.rows) (go (filter (λ a. test a.1) (by_urgency K.rows)) e)))
    t thread (live_in-Some (row_of K t) thread is)
  where
    go : (xs : List Numbered) → slice_get (map (λ a. a.0) xs) 0 ≡ None → xs ≡ []
    go [] e = refl
    go (x ∷ xs) e = absurd (let f : ◌≡◌ {A = Option ℕ} (Some x.0) None = e in cc)
