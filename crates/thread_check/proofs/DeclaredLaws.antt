-- A name that is used as of a sort is declared so in the program.
use Rattle.std.proofs.Common.{◌≡◌, ℕ, ◌+◌, ◌<◌, ◌==◌, Bool, true, false, not, arith, cond, eqb, List, [], ◌∷◌, ◌++◌, length, Option, Some, None, IsSome, option_map, Ok, Err, refl, sym, ap, ◌∙◌, subst, ⊎_elim, inl, inr, ◌⊎◌}
use Rattle.std.proofs.lemmas.List.{length-map}
use Rattle.std.specs.List.{find, position_or_len}
use Rattle.thread_tree.specs.declared.place.At.{At}
use Rattle.thread_tree.specs.declared.tree.Decl.{Decl}
use Rattle.thread_tree.specs.declared.tree.Decl.TheVariants as decl
use Rattle.thread_tree.specs.Program.{Kind, Queue, Semaphore, Template, sorted, names_of}
use Rattle.thread_check.specs.declared.fault.CheckFault.TheVariants.{NotAllowedHere}
use Rattle.thread_check.specs.declared.sort.Sort.{Sort}
use Rattle.thread_check.specs.declared.sort.Sort.TheVariants as sort
use Rattle.thread_check.specs.Verdict.{Verdict, fine}
use Rattle.thread_check.specs.Scope.{Scope, is_local}
use Rattle.thread_check.specs.Names.{Names, declares, declaration_of, sort_of, sort_of_declaration, arity_of_declaration}
use Rattle.thread_check.specs.Uses.{used, fitting, same_sort}

-- sorts that the test calls one are one
same_sorts : (a b : Sort) → same_sort a b ≡ true → a ≡ b
unfolding same_sort
same_sorts sort.Local sort.Local same = refl
same_sorts sort.Kind sort.Kind same = refl
same_sorts sort.Object sort.Object same = refl
same_sorts sort.Queue sort.Queue same = refl
same_sorts sort.Semaphore sort.Semaphore same = refl
same_sorts sort.Function sort.Function same = refl
same_sorts sort.Thread sort.Thread same = refl
same_sorts sort.Start sort.Start same = refl
same_sorts a b same = absurd (cc)

-- a name that fits where a sort must stand is of that sort
fits_as : (wanted : Sort) (at : At) (found : Option Sort) → fitting wanted at found ≡ Ok tt → found ≡ Some wanted
fits_as wanted at None kept = absurd (let f : ◌≡◌ {A = Verdict} (fitting wanted at None) (Ok tt) = kept in cc)
fits_as wanted at (Some found) kept = go (same_sort found wanted) refl kept
  where
    go : (b : Bool) → same_sort found wanted ≡ b → cond b fine (Err (NotAllowedHere at.place)) ≡ Ok tt → Some found ≡ Some wanted
    go true same e = ap Some (same_sorts found wanted same)
    go false same e = absurd (let f : ◌≡◌ {A = Verdict} (Err (NotAllowedHere at.place)) (Ok tt) = e in cc)

-- a used name that is no local is declared as of its sort
pub declared_as : (names : Names) (scope : Scope) (wanted : Sort) (at : At) → same_sort sort.Local wanted ≡ false → used names scope wanted at ≡ Ok tt → option_map sort_of_declaration (declaration_of names at.name) ≡ Some wanted
unfolding used sort_of
declared_as names scope wanted at other kept = go (is_local scope.locals at.name) kept
  where
    go : (b : Bool) → fitting wanted at (cond b (Some sort.Local) (option_map sort_of_declaration (declaration_of names at.name))) ≡ Ok tt → option_map sort_of_declaration (declaration_of names at.name) ≡ Some wanted
    go true e = absurd (let f : ◌≡◌ {A = Verdict} (Err (NotAllowedHere at.place)) (Ok tt) = sym (ap (λ b. cond b fine (Err (NotAllowedHere at.place))) other) ∙ e in cc)
    go false e = fits_as wanted at (option_map sort_of_declaration (declaration_of names at.name)) e

-- what has a sort is declared
pub record OfSort (wanted : Sort) (o : Option Decl) : Type 0 where
  pub it : Decl
  pub there : o ≡ Some it
  pub of_sort : sort_of_declaration it ≡ wanted

-- a declaration of a sort
pub of_sort : (wanted : Sort) (o : Option Decl) → option_map sort_of_declaration o ≡ Some wanted → OfSort wanted o
of_sort wanted None e = absurd (cc)
of_sort wanted (Some d) e = record { it = d; there = refl; of_sort = cc }

-- a choice between a first and the rest
choice : (b : Bool) (d x : Decl) (rest : Option Decl) → cond b (Some d) rest ≡ Some x → ((b ≡ true) × (d ≡ x)) ⊎ ((b ≡ false) × (rest ≡ Some x))
choice true d x rest e = inl (refl, cc)
choice false d x rest e = inr (refl, e)

-- sorts that differ
different : (d x : Decl) (wanted : Sort) → d ≡ x → sort_of_declaration x ≡ wanted → sort_of_declaration d ≡ wanted
different d x wanted same e = ap sort_of_declaration same ∙ e

-- a type that is in scope is a type of the program
pub kind_there : (ds more : List Decl) (name : ℕ) (x : Decl) → find (declares name) ds ≡ Some x → sort_of_declaration x ≡ sort.Kind → IsSome (find (λ kind. kind.name == name) (sorted (ds ++ more)).kinds)
unfolding declares sort_of_declaration
kind_there [] more name x e of = absurd (cc)
kind_there (decl.Kind at fields ∷ ds) more name x e of = ⊎_elim (λ yes. subst (λ b. IsSome (cond b (Some (record { name = at.name; fields = names_of fields })) (find (λ (kind : Kind). kind.name == name) (sorted (ds ++ more)).kinds))) (sym yes.0) refl) (λ no. subst (λ b. IsSome (cond b (Some (record { name = at.name; fields = names_of fields })) (find (λ (kind : Kind). kind.name == name) (sorted (ds ++ more)).kinds))) (sym no.0) (kind_there ds more name x no.1 of)) (choice (eqb at.name name) (decl.Kind at fields) x (find (declares name) ds) e)
kind_there (decl.Object at kind ∷ ds) more name x e of = ⊎_elim (λ yes. let wrong : sort.Object ≡ sort.Kind = different (decl.Object at kind) x sort.Kind yes.1 of in absurd (cc)) (λ no. kind_there ds more name x no.1 of) (choice (eqb at.name name) (decl.Object at kind) x (find (declares name) ds) e)
kind_there (decl.Queue at capacity channel ∷ ds) more name x e of = ⊎_elim (λ yes. let wrong : sort.Queue ≡ sort.Kind = different (decl.Queue at capacity channel) x sort.Kind yes.1 of in absurd (cc)) (λ no. kind_there ds more name x no.1 of) (choice (eqb at.name name) (decl.Queue at capacity channel) x (find (declares name) ds) e)
kind_there (decl.Semaphore at count maximum ∷ ds) more name x e of = ⊎_elim (λ yes. let wrong : sort.Semaphore ≡ sort.Kind = different (decl.Semaphore at count maximum) x sort.Kind yes.1 of in absurd (cc)) (λ no. kind_there ds more name x no.1 of) (choice (eqb at.name name) (decl.Semaphore at count maximum) x (find (declares name) ds) e)
kind_there (decl.Function at parameters body ∷ ds) more name x e of = ⊎_elim (λ yes. let wrong : sort.Function ≡ sort.Kind = different (decl.Function at parameters body) x sort.Kind yes.1 of in absurd (cc)) (λ no. kind_there ds more name x no.1 of) (choice (eqb at.name name) (decl.Function at parameters body) x (find (declares name) ds) e)
kind_there (decl.Thread at parameters priority body ∷ ds) more name x e of = ⊎_elim (λ yes. let wrong : sort.Thread ≡ sort.Kind = different (decl.Thread at parameters priority body) x sort.Kind yes.1 of in absurd (cc)) (λ no. kind_there ds more name x no.1 of) (choice (eqb at.name name) (decl.Thread at parameters priority body) x (find (declares name) ds) e)
kind_there (decl.Start place at numbers ∷ ds) more name x e of = kind_there ds more name x e of

-- a queue that is in scope is a queue of the program
pub queue_there : (ds more : List Decl) (name : ℕ) (x : Decl) → find (declares name) ds ≡ Some x → sort_of_declaration x ≡ sort.Queue → IsSome (find (λ queue. queue.name == name) (sorted (ds ++ more)).queues)
unfolding declares sort_of_declaration
queue_there [] more name x e of = absurd (cc)
queue_there (decl.Kind at fields ∷ ds) more name x e of = ⊎_elim (λ yes. let wrong : sort.Kind ≡ sort.Queue = different (decl.Kind at fields) x sort.Queue yes.1 of in absurd (cc)) (λ no. queue_there ds more name x no.1 of) (choice (eqb at.name name) (decl.Kind at fields) x (find (declares name) ds) e)
queue_there (decl.Object at kind ∷ ds) more name x e of = ⊎_elim (λ yes. let wrong : sort.Object ≡ sort.Queue = different (decl.Object at kind) x sort.Queue yes.1 of in absurd (cc)) (λ no. queue_there ds more name x no.1 of) (choice (eqb at.name name) (decl.Object at kind) x (find (declares name) ds) e)
queue_there (decl.Queue at capacity channel ∷ ds) more name x e of = ⊎_elim (λ yes. subst (λ b. IsSome (cond b (Some (record { name = at.name; capacity = capacity.value; channel = option_map (λ number. number.value) channel })) (find (λ (queue : Queue). queue.name == name) (sorted (ds ++ more)).queues))) (sym yes.0) refl) (λ no. subst (λ b. IsSome (cond b (Some (record { name = at.name; capacity = capacity.value; channel = option_map (λ number. number.value) channel })) (find (λ (queue : Queue). queue.name == name) (sorted (ds ++ more)).queues))) (sym no.0) (queue_there ds more name x no.1 of)) (choice (eqb at.name name) (decl.Queue at capacity channel) x (find (declares name) ds) e)
queue_there (decl.Semaphore at count maximum ∷ ds) more name x e of = ⊎_elim (λ yes. let wrong : sort.Semaphore ≡ sort.Queue = different (decl.Semaphore at count maximum) x sort.Queue yes.1 of in absurd (cc)) (λ no. queue_there ds more name x no.1 of) (choice (eqb at.name name) (decl.Semaphore at count maximum) x (find (declares name) ds) e)
queue_there (decl.Function at parameters body ∷ ds) more name x e of = ⊎_elim (λ yes. let wrong : sort.Function ≡ sort.Queue = different (decl.Function at parameters body) x sort.Queue yes.1 of in absurd (cc)) (λ no. queue_there ds more name x no.1 of) (choice (eqb at.name name) (decl.Function at parameters body) x (find (declares name) ds) e)
queue_there (decl.Thread at parameters priority body ∷ ds) more name x e of = ⊎_elim (λ yes. let wrong : sort.Thread ≡ sort.Queue = different (decl.Thread at parameters priority body) x sort.Queue yes.1 of in absurd (cc)) (λ no. queue_there ds more name x no.1 of) (choice (eqb at.name name) (decl.Thread at parameters priority body) x (find (declares name) ds) e)
queue_there (decl.Start place at numbers ∷ ds) more name x e of = queue_there ds more name x e of

-- a semaphore that is in scope is a semaphore of the program
pub semaphore_there : (ds more : List Decl) (name : ℕ) (x : Decl) → find (declares name) ds ≡ Some x → sort_of_declaration x ≡ sort.Semaphore → IsSome (find (λ semaphore. semaphore.name == name) (sorted (ds ++ more)).semaphores)
unfolding declares sort_of_declaration
semaphore_there [] more name x e of = absurd (cc)
semaphore_there (decl.Kind at fields ∷ ds) more name x e of = ⊎_elim (λ yes. let wrong : sort.Kind ≡ sort.Semaphore = different (decl.Kind at fields) x sort.Semaphore yes.1 of in absurd (cc)) (λ no. semaphore_there ds more name x no.1 of) (choice (eqb at.name name) (decl.Kind at fields) x (find (declares name) ds) e)
semaphore_there (decl.Object at kind ∷ ds) more name x e of = ⊎_elim (λ yes. let wrong : sort.Object ≡ sort.Semaphore = different (decl.Object at kind) x sort.Semaphore yes.1 of in absurd (cc)) (λ no. semaphore_there ds more name x no.1 of) (choice (eqb at.name name) (decl.Object at kind) x (find (declares name) ds) e)
semaphore_there (decl.Queue at capacity channel ∷ ds) more name x e of = ⊎_elim (λ yes. let wrong : sort.Queue ≡ sort.Semaphore = different (decl.Queue at capacity channel) x sort.Semaphore yes.1 of in absurd (cc)) (λ no. semaphore_there ds more name x no.1 of) (choice (eqb at.name name) (decl.Queue at capacity channel) x (find (declares name) ds) e)
semaphore_there (decl.Semaphore at count maximum ∷ ds) more name x e of = ⊎_elim (λ yes. subst (λ b. IsSome (cond b (Some (record { name = at.name; count = count.value; maximum = maximum.value })) (find (λ (semaphore : Semaphore). semaphore.name == name) (sorted (ds ++ more)).semaphores))) (sym yes.0) refl) (λ no. subst (λ b. IsSome (cond b (Some (record { name = at.name; count = count.value; maximum = maximum.value })) (find (λ (semaphore : Semaphore). semaphore.name == name) (sorted (ds ++ more)).semaphores))) (sym no.0) (semaphore_there ds more name x no.1 of)) (choice (eqb at.name name) (decl.Semaphore at count maximum) x (find (declares name) ds) e)
semaphore_there (decl.Function at parameters body ∷ ds) more name x e of = ⊎_elim (λ yes. let wrong : sort.Function ≡ sort.Semaphore = different (decl.Function at parameters body) x sort.Semaphore yes.1 of in absurd (cc)) (λ no. semaphore_there ds more name x no.1 of) (choice (eqb at.name name) (decl.Function at parameters body) x (find (declares name) ds) e)
semaphore_there (decl.Thread at parameters priority body ∷ ds) more name x e of = ⊎_elim (λ yes. let wrong : sort.Thread ≡ sort.Semaphore = different (decl.Thread at parameters priority body) x sort.Semaphore yes.1 of in absurd (cc)) (λ no. semaphore_there ds more name x no.1 of) (choice (eqb at.name name) (decl.Thread at parameters priority body) x (find (declares name) ds) e)
semaphore_there (decl.Start place at numbers ∷ ds) more name x e of = semaphore_there ds more name x e of

-- the template of a thread
pub record IsTemplateOf (x : Decl) (o : Option Template) : Type 0 where
  pub template : Template
  pub there : o ≡ Some template
  pub parameters : length template.parameters ≡ arity_of_declaration x

-- a thread that is in scope is a template of the program
pub template_there : (ds more : List Decl) (name : ℕ) (x : Decl) → find (declares name) ds ≡ Some x → sort_of_declaration x ≡ sort.Thread → IsTemplateOf x (find (λ template. template.name == name) (sorted (ds ++ more)).templates)
unfolding declares sort_of_declaration arity_of_declaration
template_there [] more name x e of = absurd (cc)
template_there (decl.Kind at fields ∷ ds) more name x e of = ⊎_elim (λ yes. let wrong : sort.Kind ≡ sort.Thread = different (decl.Kind at fields) x sort.Thread yes.1 of in absurd (cc)) (λ no. template_there ds more name x no.1 of) (choice (eqb at.name name) (decl.Kind at fields) x (find (declares name) ds) e)
template_there (decl.Object at kind ∷ ds) more name x e of = ⊎_elim (λ yes. let wrong : sort.Object ≡ sort.Thread = different (decl.Object at kind) x sort.Thread yes.1 of in absurd (cc)) (λ no. template_there ds more name x no.1 of) (choice (eqb at.name name) (decl.Object at kind) x (find (declares name) ds) e)
template_there (decl.Queue at capacity channel ∷ ds) more name x e of = ⊎_elim (λ yes. let wrong : sort.Queue ≡ sort.Thread = different (decl.Queue at capacity channel) x sort.Thread yes.1 of in absurd (cc)) (λ no. template_there ds more name x no.1 of) (choice (eqb at.name name) (decl.Queue at capacity channel) x (find (declares name) ds) e)
template_there (decl.Semaphore at count maximum ∷ ds) more name x e of = ⊎_elim (λ yes. let wrong : sort.Semaphore ≡ sort.Thread = different (decl.Semaphore at count maximum) x sort.Thread yes.1 of in absurd (cc)) (λ no. template_there ds more name x no.1 of) (choice (eqb at.name name) (decl.Semaphore at count maximum) x (find (declares name) ds) e)
template_there (decl.Function at parameters body ∷ ds) more name x e of = ⊎_elim (λ yes. let wrong : sort.Function ≡ sort.Thread = different (decl.Function at parameters body) x sort.Thread yes.1 of in absurd (cc)) (λ no. template_there ds more name x no.1 of) (choice (eqb at.name name) (decl.Function at parameters body) x (find (declares name) ds) e)
template_there (decl.Thread at parameters priority body ∷ ds) more name x e of = ⊎_elim (λ yes. subst (λ b. IsTemplateOf x (cond b (Some (record { name = at.name; parameters = names_of parameters; priority = priority.value; body = body })) (find (λ (template : Template). template.name == name) (sorted (ds ++ more)).templates))) (sym yes.0) (record { template = (record { name = at.name; parameters = names_of parameters; priority = priority.value; body = body }); there = refl; parameters = length-map parameters (λ at. at.name) ∙ ap arity_of_declaration yes.1 })) (λ no. subst (λ b. IsTemplateOf x (cond b (Some (record { name = at.name; parameters = names_of parameters; priority = priority.value; body = body })) (find (λ (template : Template). template.name == name) (sorted (ds ++ more)).templates))) (sym no.0) (template_there ds more name x no.1 of)) (choice (eqb at.name name) (decl.Thread at parameters priority body) x (find (declares name) ds) e)
template_there (decl.Start place at numbers ∷ ds) more name x e of = template_there ds more name x e of

-- what is found has a number below how many there are
pub found_within : {X : Type 0} (test : X → Bool) (xs : List X) → IsSome (find test xs) → position_or_len test xs < length xs
found_within {X} test [] some = absurd (let f : ◌≡◌ {A = Bool} false true = some in cc)
found_within {X} test (x ∷ xs) some = go (test x) some (found_within test xs)
  where
    go : (b : Bool) → IsSome (cond b (Some x) (find test xs)) → (IsSome (find test xs) → position_or_len test xs < length xs) → cond (not b) (1 + position_or_len test xs) 0 < length (x ∷ xs)
    go true found behind = omega arith
    go false found behind = let rest : position_or_len test xs < length xs = behind found in omega arith
