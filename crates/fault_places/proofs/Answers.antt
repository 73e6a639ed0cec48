-- The answer of rules of which the first fault counts, from all the faults that they find.
use Rattle.std.proofs.Common.{◌≡◌, Bool, true, false, if◌then◌else◌, List, [], ◌∷◌, ◌++◌, Ok, Err, refl, ap, ap₂, ◌∙◌}
use Rattle.thread_check.specs.declared.fault.CheckFault.{CheckFault}
use Rattle.thread_check.specs.Verdict.{Verdict, Answer, fine, ◌>>=◌, ◌>>◌}
use Rattle.thread_check.specs.Faults.{fault_in}
use Rattle.fault_places.specs.Found.{Found, leaves, found_by, ◌+>◌, ◌+>=◌, answer_of, answer, first_of}

-- the verdict of rules that find these faults
abbrev pub verdict_of : List CheckFault → Verdict
verdict_of faults = answer_of faults tt

pub record Finds (v : Verdict) (faults : List CheckFault) : Type 0 where
  pub same : v ≡ verdict_of faults

-- the answer of rules that find and leave this
pub record Gives {A : Type 0} (r : Answer A) (x : Found A) : Type 0 where
  pub same : r ≡ answer x

one_law : (v : Verdict) → v ≡ verdict_of (found_by v)
one_law (Ok u) = refl
one_law (Err fault) = refl

-- one rule
pub one : (v : Verdict) → Finds v (found_by v)
one v = record { same = one_law v }

-- no rule
pub none : Finds fine []
none = record { same = refl }

-- no rule, and what is left
pub left_as : {A : Type 0} (a : A) → Gives (Ok a) (leaves a)
left_as a = record { same = refl }

then_law : {A : Type 0} (fs : List CheckFault) (x : Found A) → (verdict_of fs >> answer x) ≡ answer (fs +> x)
then_law [] x = refl
then_law (f ∷ fs) x = refl

both_law : (fs gs : List CheckFault) → (verdict_of fs >> verdict_of gs) ≡ verdict_of (fs ++ gs)
both_law [] gs = refl
both_law (f ∷ fs) gs = refl

passes_law : {A B : Type 0} (fs : List CheckFault) (a : A) (g : A → Found B) → (answer_of fs a >>= λ left. answer (g left)) ≡ answer (record { faults = fs; left = a } +>= g)
passes_law [] a g = refl
passes_law (f ∷ fs) a g = refl

-- a rule that leaves nothing, and then another
pub ahead : {A : Type 0} {v : Verdict} {r : Answer A} {fs : List CheckFault} {x : Found A} → Finds v fs → Gives r x → Gives (v >> r) (fs +> x)
ahead {fs} {x} e h = record { same = ap₂ (λ a b. a >> b) e.same h.same ∙ then_law fs x }

-- two rules that leave nothing
pub both : {v w : Verdict} {fs gs : List CheckFault} → Finds v fs → Finds w gs → Finds (v >> w) (fs ++ gs)
both {fs} {gs} e h = record { same = ap₂ (λ a b. a >> b) e.same h.same ∙ both_law fs gs }

passes_back : {A B : Type 0} (r : Answer A) (k : A → Answer B) (g : A → Found B) → ((a : A) → Gives (k a) (g a)) → (r >>= k) ≡ (r >>= λ a. answer (g a))
passes_back (Ok a) k g each = (each a).same
passes_back (Err fault) k g each = refl

-- a rule, and then another with what it leaves
pub passes : {A B : Type 0} {r : Answer A} {x : Found A} (k : A → Answer B) (g : A → Found B) → Gives r x → ((a : A) → Gives (k a) (g a)) → Gives (r >>= k) (x +>= g)
passes {x} k g e each = record { same = ap (λ a. a >>= k) e.same ∙ (passes_back (answer x) k g each ∙ passes_law x.faults x.left g) }

-- rules joined with the last in brackets
brackets : {A : Type 0} (v w : Verdict) (r : Answer A) → (v >> w >> r) ≡ ((v >> w) >> r)
brackets (Ok u) w r = refl
brackets (Err fault) w r = refl

-- the faults of two rules together, where the rules are asked one after the other
pub joined : {A : Type 0} (v w : Verdict) {r : Answer A} {fs : List CheckFault} {x : Found A} → Finds (v >> w) fs → Gives r x → Gives (v >> w >> r) (fs +> x)
joined v w {r} e h = record { same = brackets v w r ∙ (ahead e h).same }

brackets_of_three : {A : Type 0} (v w u : Verdict) (r : Answer A) → (v >> w >> u >> r) ≡ ((v >> w >> u) >> r)
brackets_of_three (Ok x) (Ok y) u r = refl
brackets_of_three (Ok x) (Err fault) u r = refl
brackets_of_three (Err fault) w u r = refl

pub joined_three : {A : Type 0} (v w u : Verdict) {r : Answer A} {fs : List CheckFault} {x : Found A} → Finds (v >> w >> u) fs → Gives r x → Gives (v >> w >> u >> r) (fs +> x)
joined_three v w u {r} e h = record { same = brackets_of_three v w u r ∙ (ahead e h).same }

pub joined_finds : (v w : Verdict) {u : Verdict} {fs gs : List CheckFault} → Finds (v >> w) fs → Finds u gs → Finds (v >> w >> u) (fs ++ gs)
joined_finds v w {u} e h = record { same = brackets v w u ∙ (both e h).same }

-- a second rule that is asked only where the first is kept
pub both_if : (v w : Verdict) (fs gs : List CheckFault) → Finds v fs → (v ≡ fine → Finds w gs) → Finds (v >> w) (fs ++ gs)
both_if (Ok u) w [] gs e h = h refl
both_if (Ok u) w (f ∷ fs) gs e h = absurd (let wrong = e.same in cc)
both_if (Err fault) w [] gs e h = absurd (let wrong = e.same in cc)
both_if (Err fault) w (f ∷ fs) gs e h = record { same = e.same }

-- the first of two rules is kept where both are
pub fine_first : (v w : Verdict) → (v >> w) ≡ fine → v ≡ fine
fine_first (Ok u) w is = refl
fine_first (Err fault) w is = is

-- a third rule behind two
pub joined_if : (v w u : Verdict) (fs gs : List CheckFault) → Finds (v >> w) fs → (v ≡ fine → Finds u gs) → Finds (v >> w >> u) (fs ++ gs)
joined_if v w u fs gs e h = record { same = brackets v w u ∙ (both_if (v >> w) u fs gs e (λ passed. h (fine_first v w passed))).same }

-- two rules of which one is kept, with their faults in one order or the other
pub second_fine : (b : Bool) (v w : Verdict) → v ≡ fine → Finds (v >> w) (if b then found_by w ++ found_by v else found_by v ++ found_by w)
second_fine b (Err fault) w is = absurd (cc)
second_fine true (Ok u) (Ok x) is = none
second_fine true (Ok u) (Err fault) is = one (Err fault)
second_fine false (Ok u) w is = one w

pub first_fine : (b : Bool) (v w : Verdict) → w ≡ fine → Finds (v >> w) (if b then found_by w ++ found_by v else found_by v ++ found_by w)
first_fine b v (Err fault) is = absurd (cc)
first_fine true (Ok u) (Ok x) is = none
first_fine false (Ok u) (Ok x) is = none
first_fine true (Err fault) (Ok x) is = one (Err fault)
first_fine false (Err fault) (Ok x) is = one (Err fault)

first_at : {A : Type 0} (fs : List CheckFault) (a : A) → fault_in (answer_of fs a) ≡ first_of fs
first_at [] a = refl
first_at (f ∷ fs) a = refl

-- the fault of an answer
pub first_is : {A : Type 0} {r : Answer A} {x : Found A} → Gives r x → fault_in r ≡ first_of x.faults
first_is {x} e = ap fault_in e.same ∙ first_at x.faults x.left
