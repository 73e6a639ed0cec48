-- The counts of declarations stay within their limits where the rules are kept.
use Rattle.std.proofs.Common.{◌≡◌, ℕ, ◌+◌, ◌≤◌, Bool, List, [], ◌∷◌, ◌++◌, Ok, Err, refl, arith, cond, drop, take, take-append-drop, Some}
use Rattle.std.proofs.lemmas.Bool.Decides.{nat_tests}
use Rattle.std.specs.List.{count_by, fold, slice_get}
use Rattle.std.proofs.lemmas.List.Sums.{fold-append}
use Rattle.thread_check.proofs.Steps.{take_at}
use Rattle.thread_tree.specs.declared.place.Place.{Place}
use Rattle.thread_tree.specs.declared.tree.Decl.{Decl}
use Rattle.thread_tree.specs.declared.tree.Decl.TheVariants as decl
use Rattle.thread_check.specs.declared.fault.Kind.{Kind}
use Rattle.thread_check.specs.declared.sort.Sort.{Sort}
use Rattle.thread_check.specs.declared.sort.Sort.TheVariants as sort
use Rattle.thread_check.specs.Verdict.{Answer, Verdict, ◌>>◌, within_limit}
use Rattle.thread_check.specs.Scope.{Scope}
use Rattle.thread_check.specs.Names.{Names, sort_of_declaration}
use Rattle.thread_check.specs.Uses.{same_sort}
use Rattle.thread_check.specs.Declarations.{is_of_sort, count_of, declared, declaration_rule, IsFew}

-- a count with one item more
count_by-push : {A : Type 0} (p : A → Bool) (xs : List A) (x : A) → count_by p (xs ++ x ∷ []) ≡ count_by p xs + cond (p x) 1 0
count_by-push p xs x = fold-append (λ n y. n + cond (p y) 1 0) 0 xs (x ∷ [])

-- a count only rises
fold-rises : {A : Type 0} (p : A → Bool) (n : ℕ) (xs : List A) → n ≤ fold (λ m y. m + cond (p y) 1 0) n xs
fold-rises p n [] = omega arith
fold-rises p n (x ∷ xs) = let h : n + cond (p x) 1 0 ≤ fold (λ m y. m + cond (p y) 1 0) (n + cond (p x) 1 0) xs = fold-rises p (n + cond (p x) 1 0) xs in omega arith

-- the first ones count no more than all
count_by-take : {A : Type 0} (p : A → Bool) (xs : List A) (i : ℕ) → count_by p (take i xs) ≤ count_by p xs
count_by-take p xs i =
    let h : count_by p (take i xs) ≤ count_by p (take i xs ++ drop i xs) = rw (fold-append (λ n y. n + cond (p y) 1 0) 0 (take i xs) (drop i xs)) (fold-rises p _ (drop i xs)) in
    rw (take-append-drop i xs) at h

-- one declaration more counts as one of its sort
count_of-push : (wanted : Sort) (ds : List Decl) (d : Decl) → count_of wanted (ds ++ d ∷ []) ≡ count_of wanted ds + cond (is_of_sort wanted d) 1 0
unfolding count_of
count_of-push wanted ds d = count_by-push (is_of_sort wanted) ds d

-- the count of the first ones up to and with a place
pub count_of_take : (wanted : Sort) (ds : List Decl) (i : ℕ) (d : Decl) → slice_get ds i ≡ Some d → count_of wanted (take (i + 1) ds) ≡ count_of wanted (take i ds) + cond (is_of_sort wanted d) 1 0
count_of_take wanted ds i d there = rw (take_at ds i d there) (count_of-push wanted (take i ds) d)

-- no declaration counts as none
pub count_of_none : (wanted : Sort) → count_of wanted [] ≡ 0
unfolding count_of
count_of_none wanted = refl

-- no declaration is few
pub few_none : IsFew []
unfolding count_of
few_none = record {
  types = omega arith;
  objects = omega arith;
  queues = omega arith;
  semaphores = omega arith;
  functions = omega arith;
  threads = omega arith;
  starts = omega arith;
}

-- the first ones count no more than all
pub count_of_take_le : (wanted : Sort) (ds : List Decl) (i : ℕ) → count_of wanted (take i ds) ≤ count_of wanted ds
unfolding count_of
count_of_take_le wanted ds i = count_by-take (is_of_sort wanted) ds i

-- a first rule that is kept
pub kept_first : {A : Type 0} (v : Verdict) (rest : Answer A) (a : A) → v >> rest ≡ Ok a → v ≡ Ok tt
kept_first (Ok u) rest a kept = refl
kept_first (Err fault) rest a kept = cc

-- a second rule that is kept
pub kept_second : {A : Type 0} (v : Verdict) (rest : Answer A) (a : A) → v >> rest ≡ Ok a → rest ≡ Ok a
kept_second (Ok u) rest a kept = kept
kept_second (Err fault) rest a kept = cc

-- a count that doesn't pass its limit
pub within_limit-kept : (place : Place) (counted : Kind) (limit count : ℕ) → within_limit place counted limit count ≡ Ok tt → count ≤ limit
unfolding within_limit
within_limit-kept place counted limit count kept = grind (arith, nat_tests)

-- how many declarations of a sort there may be
limit_of : Sort → ℕ
limit_of sort.Local = 0
limit_of sort.Kind = 32
limit_of sort.Object = 64
limit_of sort.Queue = 16
limit_of sort.Semaphore = 16
limit_of sort.Function = 64
limit_of sort.Thread = 32
limit_of sort.Start = 16

-- one declaration more where its sort has room
few_by : (ds : List Decl) (d : Decl) → IsFew ds → count_of (sort_of_declaration d) ds + 1 ≤ limit_of (sort_of_declaration d) → IsFew (ds ++ d ∷ [])
unfolding sort_of_declaration same_sort limit_of
few_by ds (decl.Kind name fields) few room = record {
  types = let e : count_of sort.Kind (ds ++ decl.Kind name fields ∷ []) ≡ count_of sort.Kind ds + 1 = count_of-push sort.Kind ds (decl.Kind name fields) in omega arith;
  objects = let e : count_of sort.Object (ds ++ decl.Kind name fields ∷ []) ≡ count_of sort.Object ds + 0 = count_of-push sort.Object ds (decl.Kind name fields) in omega arith;
  queues = let e : count_of sort.Queue (ds ++ decl.Kind name fields ∷ []) ≡ count_of sort.Queue ds + 0 = count_of-push sort.Queue ds (decl.Kind name fields) in omega arith;
  semaphores = let e : count_of sort.Semaphore (ds ++ decl.Kind name fields ∷ []) ≡ count_of sort.Semaphore ds + 0 = count_of-push sort.Semaphore ds (decl.Kind name fields) in omega arith;
  functions = let e : count_of sort.Function (ds ++ decl.Kind name fields ∷ []) ≡ count_of sort.Function ds + 0 = count_of-push sort.Function ds (decl.Kind name fields) in omega arith;
  threads = let e : count_of sort.Thread (ds ++ decl.Kind name fields ∷ []) ≡ count_of sort.Thread ds + 0 = count_of-push sort.Thread ds (decl.Kind name fields) in omega arith;
  starts = let e : count_of sort.Start (ds ++ decl.Kind name fields ∷ []) ≡ count_of sort.Start ds + 0 = count_of-push sort.Start ds (decl.Kind name fields) in omega arith;
}
few_by ds (decl.Object name kind) few room = record {
  types = let e : count_of sort.Kind (ds ++ decl.Object name kind ∷ []) ≡ count_of sort.Kind ds + 0 = count_of-push sort.Kind ds (decl.Object name kind) in omega arith;
  objects = let e : count_of sort.Object (ds ++ decl.Object name kind ∷ []) ≡ count_of sort.Object ds + 1 = count_of-push sort.Object ds (decl.Object name kind) in omega arith;
  queues = let e : count_of sort.Queue (ds ++ decl.Object name kind ∷ []) ≡ count_of sort.Queue ds + 0 = count_of-push sort.Queue ds (decl.Object name kind) in omega arith;
  semaphores = let e : count_of sort.Semaphore (ds ++ decl.Object name kind ∷ []) ≡ count_of sort.Semaphore ds + 0 = count_of-push sort.Semaphore ds (decl.Object name kind) in omega arith;
  functions = let e : count_of sort.Function (ds ++ decl.Object name kind ∷ []) ≡ count_of sort.Function ds + 0 = count_of-push sort.Function ds (decl.Object name kind) in omega arith;
  threads = let e : count_of sort.Thread (ds ++ decl.Object name kind ∷ []) ≡ count_of sort.Thread ds + 0 = count_of-push sort.Thread ds (decl.Object name kind) in omega arith;
  starts = let e : count_of sort.Start (ds ++ decl.Object name kind ∷ []) ≡ count_of sort.Start ds + 0 = count_of-push sort.Start ds (decl.Object name kind) in omega arith;
}
few_by ds (decl.Queue name capacity channel) few room = record {
  types = let e : count_of sort.Kind (ds ++ decl.Queue name capacity channel ∷ []) ≡ count_of sort.Kind ds + 0 = count_of-push sort.Kind ds (decl.Queue name capacity channel) in omega arith;
  objects = let e : count_of sort.Object (ds ++ decl.Queue name capacity channel ∷ []) ≡ count_of sort.Object ds + 0 = count_of-push sort.Object ds (decl.Queue name capacity channel) in omega arith;
  queues = let e : count_of sort.Queue (ds ++ decl.Queue name capacity channel ∷ []) ≡ count_of sort.Queue ds + 1 = count_of-push sort.Queue ds (decl.Queue name capacity channel) in omega arith;
  semaphores = let e : count_of sort.Semaphore (ds ++ decl.Queue name capacity channel ∷ []) ≡ count_of sort.Semaphore ds + 0 = count_of-push sort.Semaphore ds (decl.Queue name capacity channel) in omega arith;
  functions = let e : count_of sort.Function (ds ++ decl.Queue name capacity channel ∷ []) ≡ count_of sort.Function ds + 0 = count_of-push sort.Function ds (decl.Queue name capacity channel) in omega arith;
  threads = let e : count_of sort.Thread (ds ++ decl.Queue name capacity channel ∷ []) ≡ count_of sort.Thread ds + 0 = count_of-push sort.Thread ds (decl.Queue name capacity channel) in omega arith;
  starts = let e : count_of sort.Start (ds ++ decl.Queue name capacity channel ∷ []) ≡ count_of sort.Start ds + 0 = count_of-push sort.Start ds (decl.Queue name capacity channel) in omega arith;
}
few_by ds (decl.Semaphore name count maximum) few room = record {
  types = let e : count_of sort.Kind (ds ++ decl.Semaphore name count maximum ∷ []) ≡ count_of sort.Kind ds + 0 = count_of-push sort.Kind ds (decl.Semaphore name count maximum) in omega arith;
  objects = let e : count_of sort.Object (ds ++ decl.Semaphore name count maximum ∷ []) ≡ count_of sort.Object ds + 0 = count_of-push sort.Object ds (decl.Semaphore name count maximum) in omega arith;
  queues = let e : count_of sort.Queue (ds ++ decl.Semaphore name count maximum ∷ []) ≡ count_of sort.Queue ds + 0 = count_of-push sort.Queue ds (decl.Semaphore name count maximum) in omega arith;
  semaphores = let e : count_of sort.Semaphore (ds ++ decl.Semaphore name count maximum ∷ []) ≡ count_of sort.Semaphore ds + 1 = count_of-push sort.Semaphore ds (decl.Semaphore name count maximum) in omega arith;
  functions = let e : count_of sort.Function (ds ++ decl.Semaphore name count maximum ∷ []) ≡ count_of sort.Function ds + 0 = count_of-push sort.Function ds (decl.Semaphore name count maximum) in omega arith;
  threads = let e : count_of sort.Thread (ds ++ decl.Semaphore name count maximum ∷ []) ≡ count_of sort.Thread ds + 0 = count_of-push sort.Thread ds (decl.Semaphore name count maximum) in omega arith;
  starts = let e : count_of sort.Start (ds ++ decl.Semaphore name count maximum ∷ []) ≡ count_of sort.Start ds + 0 = count_of-push sort.Start ds (decl.Semaphore name count maximum) in omega arith;
}
few_by ds (decl.Function name parameters body) few room = record {
  types = let e : count_of sort.Kind (ds ++ decl.Function name parameters body ∷ []) ≡ count_of sort.Kind ds + 0 = count_of-push sort.Kind ds (decl.Function name parameters body) in omega arith;
  objects = let e : count_of sort.Object (ds ++ decl.Function name parameters body ∷ []) ≡ count_of sort.Object ds + 0 = count_of-push sort.Object ds (decl.Function name parameters body) in omega arith;
  queues = let e : count_of sort.Queue (ds ++ decl.Function name parameters body ∷ []) ≡ count_of sort.Queue ds + 0 = count_of-push sort.Queue ds (decl.Function name parameters body) in omega arith;
  semaphores = let e : count_of sort.Semaphore (ds ++ decl.Function name parameters body ∷ []) ≡ count_of sort.Semaphore ds + 0 = count_of-push sort.Semaphore ds (decl.Function name parameters body) in omega arith;
  functions = let e : count_of sort.Function (ds ++ decl.Function name parameters body ∷ []) ≡ count_of sort.Function ds + 1 = count_of-push sort.Function ds (decl.Function name parameters body) in omega arith;
  threads = let e : count_of sort.Thread (ds ++ decl.Function name parameters body ∷ []) ≡ count_of sort.Thread ds + 0 = count_of-push sort.Thread ds (decl.Function name parameters body) in omega arith;
  starts = let e : count_of sort.Start (ds ++ decl.Function name parameters body ∷ []) ≡ count_of sort.Start ds + 0 = count_of-push sort.Start ds (decl.Function name parameters body) in omega arith;
}
few_by ds (decl.Thread name parameters priority body) few room = record {
  types = let e : count_of sort.Kind (ds ++ decl.Thread name parameters priority body ∷ []) ≡ count_of sort.Kind ds + 0 = count_of-push sort.Kind ds (decl.Thread name parameters priority body) in omega arith;
  objects = let e : count_of sort.Object (ds ++ decl.Thread name parameters priority body ∷ []) ≡ count_of sort.Object ds + 0 = count_of-push sort.Object ds (decl.Thread name parameters priority body) in omega arith;
  queues = let e : count_of sort.Queue (ds ++ decl.Thread name parameters priority body ∷ []) ≡ count_of sort.Queue ds + 0 = count_of-push sort.Queue ds (decl.Thread name parameters priority body) in omega arith;
  semaphores = let e : count_of sort.Semaphore (ds ++ decl.Thread name parameters priority body ∷ []) ≡ count_of sort.Semaphore ds + 0 = count_of-push sort.Semaphore ds (decl.Thread name parameters priority body) in omega arith;
  functions = let e : count_of sort.Function (ds ++ decl.Thread name parameters priority body ∷ []) ≡ count_of sort.Function ds + 0 = count_of-push sort.Function ds (decl.Thread name parameters priority body) in omega arith;
  threads = let e : count_of sort.Thread (ds ++ decl.Thread name parameters priority body ∷ []) ≡ count_of sort.Thread ds + 1 = count_of-push sort.Thread ds (decl.Thread name parameters priority body) in omega arith;
  starts = let e : count_of sort.Start (ds ++ decl.Thread name parameters priority body ∷ []) ≡ count_of sort.Start ds + 0 = count_of-push sort.Start ds (decl.Thread name parameters priority body) in omega arith;
}
few_by ds (decl.Start place name numbers) few room = record {
  types = let e : count_of sort.Kind (ds ++ decl.Start place name numbers ∷ []) ≡ count_of sort.Kind ds + 0 = count_of-push sort.Kind ds (decl.Start place name numbers) in omega arith;
  objects = let e : count_of sort.Object (ds ++ decl.Start place name numbers ∷ []) ≡ count_of sort.Object ds + 0 = count_of-push sort.Object ds (decl.Start place name numbers) in omega arith;
  queues = let e : count_of sort.Queue (ds ++ decl.Start place name numbers ∷ []) ≡ count_of sort.Queue ds + 0 = count_of-push sort.Queue ds (decl.Start place name numbers) in omega arith;
  semaphores = let e : count_of sort.Semaphore (ds ++ decl.Start place name numbers ∷ []) ≡ count_of sort.Semaphore ds + 0 = count_of-push sort.Semaphore ds (decl.Start place name numbers) in omega arith;
  functions = let e : count_of sort.Function (ds ++ decl.Start place name numbers ∷ []) ≡ count_of sort.Function ds + 0 = count_of-push sort.Function ds (decl.Start place name numbers) in omega arith;
  threads = let e : count_of sort.Thread (ds ++ decl.Start place name numbers ∷ []) ≡ count_of sort.Thread ds + 0 = count_of-push sort.Thread ds (decl.Start place name numbers) in omega arith;
  starts = let e : count_of sort.Start (ds ++ decl.Start place name numbers ∷ []) ≡ count_of sort.Start ds + 1 = count_of-push sort.Start ds (decl.Start place name numbers) in omega arith;
}

-- the counts after a declaration without a fault
pub few_after : (names : Names) (loops : ℕ) (d : Decl) (scope : Scope) → declaration_rule names loops d ≡ Ok scope → IsFew names.declarations → IsFew (names.declarations ++ d ∷ [])
unfolding declaration_rule declared sort_of_declaration limit_of
few_after names loops (decl.Kind name fields) scope kept few = few_by names.declarations _ few (within_limit-kept _ _ _ _ (kept_second _ _ tt (kept_first _ _ scope kept)))
few_after names loops (decl.Object name kind) scope kept few = few_by names.declarations _ few (within_limit-kept _ _ _ _ (kept_second _ _ tt (kept_first _ _ scope kept)))
few_after names loops (decl.Queue name capacity channel) scope kept few = few_by names.declarations _ few (within_limit-kept _ _ _ _ (kept_second _ _ tt (kept_first _ _ scope kept)))
few_after names loops (decl.Semaphore name count maximum) scope kept few = few_by names.declarations _ few (within_limit-kept _ _ _ _ (kept_second _ _ tt (kept_first _ _ scope kept)))
few_after names loops (decl.Function name parameters body) scope kept few = few_by names.declarations _ few (within_limit-kept _ _ _ _ (kept_second _ _ tt (kept_first _ _ scope kept)))
few_after names loops (decl.Thread name parameters priority body) scope kept few = few_by names.declarations _ few (within_limit-kept _ _ _ _ (kept_second _ _ tt (kept_first _ _ scope kept)))
few_after names loops (decl.Start place name numbers) scope kept few = few_by names.declarations _ few (within_limit-kept _ _ _ _ (kept_first _ _ scope kept))
