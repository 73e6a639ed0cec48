-- The types of objects and the templates of starts are declared.
use Rattle.std.proofs.Common.{◌≡◌, ℕ, ◌+◌, ◌==◌, Bool, true, false, eqb, List, [], ◌∷◌, ◌++◌, length, All, Option, IsSome, IfSome, Ok, Err, refl, sym, ap, ◌∙◌, subst, append_assoc, if◌then◌else◌}
use Rattle.std.proofs.lemmas.Bool.{eqb-true}
use Rattle.std.proofs.lemmas.List.{length-map}
use Rattle.std.specs.List.{find}
use Rattle.std.specs.Option.{option_map_or}
use Rattle.thread_tree.specs.declared.place.At.{At}
use Rattle.thread_tree.specs.declared.place.Place.{Place}
use Rattle.thread_tree.specs.declared.place.Num.{Num}
use Rattle.thread_tree.specs.declared.tree.Tree.{Tree}
use Rattle.thread_tree.specs.declared.tree.Decl.{Decl}
use Rattle.thread_tree.specs.declared.tree.Decl.TheVariants as decl
use Rattle.thread_tree.specs.Program.{Kind, Object, Template, Start, sorted, values_of, program_of}
use Rattle.thread_tree.specs.Limits.{kind_named, template_named}
use Rattle.thread_check.specs.declared.fault.CheckFault.TheVariants.{WrongCount}
use Rattle.thread_check.specs.declared.fault.Kind.TheVariants as kind
use Rattle.thread_check.specs.declared.sort.Sort.TheVariants as sort
use Rattle.thread_check.specs.Verdict.{fine, ◌>>◌, same_count, within_limit}
use Rattle.thread_check.specs.Scope.{Scope, no_scope}
use Rattle.thread_check.specs.Names.{Names, declaration_of, arity, arity_of_declaration}
use Rattle.thread_check.specs.Uses.{used, same_sort}
use Rattle.thread_check.specs.Declarations.{count_of, declaration_rule, declarations_rule, after_declaration, with_declaration}
use Rattle.thread_check.specs.Faults.{no_names}
use Rattle.thread_check.proofs.DeclaredLaws.{declared_as, of_sort, kind_there, template_there}
use Rattle.thread_check.proofs.FewLaws.{kept_first, kept_second}
use Rattle.thread_check.proofs.KeptLaws.{first_kept, All-nil, All-cons}

-- an object that is kept has a type of the program
object_known : (names : Names) (loops : ℕ) (at type_name : At) (scope : Scope) (ds : List Decl) → declaration_rule names loops (decl.Object at type_name) ≡ Ok scope → IsSome (find (λ kind. kind.name == type_name.name) (sorted ((names.declarations ++ decl.Object at type_name ∷ []) ++ ds)).kinds)
unfolding declaration_rule same_sort
object_known names loops at type_name scope ds kept =
    let with : Names = with_declaration (decl.Object at type_name) names in
    let of = of_sort sort.Kind (declaration_of with type_name.name) (declared_as with (no_scope loops) sort.Kind type_name refl (kept_first (used with (no_scope loops) sort.Kind type_name) _ scope (kept_second _ _ scope kept))) in
    kind_there with.declarations ds type_name.name of.it of.there of.of_sort

-- counts that are the same
same_count-kept : (place : Place) (wanted count : ℕ) → same_count place wanted count ≡ Ok tt → count ≡ wanted
unfolding same_count
same_count-kept place wanted count kept = by_test (eqb count wanted) refl kept
  where
    by_test : (b : Bool) → eqb count wanted ≡ b → (if b then fine else Err (WrongCount place)) ≡ Ok tt → count ≡ wanted
    by_test true e k = eqb-true count wanted e
    by_test false e k = absurd (cc)

-- a start has a template of the program with as many parameters
record IsKnownStart (start : Start) (o : Option Template) : Type 0 where
  there : IsSome o
  arguments : IfSome o (λ t. length t.parameters ≡ length start.arguments)

-- a start that is kept has a template of the program
start_known : (names : Names) (loops : ℕ) (place : Place) (at : At) (numbers : List Num) (scope : Scope) (ds : List Decl) → declaration_rule names loops (decl.Start place at numbers) ≡ Ok scope → IsKnownStart (record { template = at.name; arguments = values_of numbers }) (find (λ template. template.name == at.name) (sorted (names.declarations ++ ds)).templates)
unfolding declaration_rule arity same_sort
start_known names loops place at numbers scope ds kept =
    let rest = kept_second (within_limit place kind.Starts 16 (count_of sort.Start names.declarations + 1)) (used names (no_scope loops) sort.Thread at >> same_count at.place (arity names at.name) (length numbers) >> Ok (no_scope loops)) scope kept in
    let of = of_sort sort.Thread (declaration_of names at.name) (declared_as names (no_scope loops) sort.Thread at refl (kept_first _ _ scope rest)) in
    let t = template_there names.declarations ds at.name of.it of.there of.of_sort in
    let count : length numbers ≡ arity names at.name = same_count-kept at.place (arity names at.name) (length numbers) (kept_first (same_count at.place (arity names at.name) (length numbers)) _ scope (kept_second (used names (no_scope loops) sort.Thread at) _ scope rest)) in
    let known : arity names at.name ≡ arity_of_declaration of.it = ap (λ o. option_map_or arity_of_declaration o 0) of.there in
    let long : length (values_of numbers) ≡ length numbers = length-map numbers (λ number. number.value) in
    subst (IsKnownStart (record { template = at.name; arguments = values_of numbers })) (sym t.there) (record { there = refl; arguments = t.parameters ∙ sym known ∙ sym count ∙ sym long })

-- each object has a type of the program
objects_known : (whole : List Decl) (names : Names) (loops end : ℕ) (ds : List Decl) → names.declarations ++ ds ≡ whole → declarations_rule names loops ds ≡ Ok end → All (λ o. IsSome (find (λ kind. kind.name == o.kind) (sorted whole).kinds)) (sorted ds).objects
objects_known whole names loops end [] all kept = All-nil (λ (o : Object). IsSome (find (λ (kind : Kind). kind.name == o.kind) (sorted whole).kinds))
objects_known whole names loops end (decl.Kind at fields ∷ ds) all kept = let p = first_kept names loops (decl.Kind at fields) ds end kept in objects_known whole (after_declaration (decl.Kind at fields) p.left names) p.left.loops end ds (append_assoc names.declarations (decl.Kind at fields ∷ []) ds ∙ all) p.after
objects_known whole names loops end (decl.Object at type_name ∷ ds) all kept =
    let p = first_kept names loops (decl.Object at type_name) ds end kept in
    let known = object_known names loops at type_name p.left ds p.kept in
    All-cons (λ (o : Object). IsSome (find (λ (kind : Kind). kind.name == o.kind) (sorted whole).kinds)) (record { name = at.name; kind = type_name.name }) (sorted ds).objects (subst (λ w. IsSome (find (λ (kind : Kind). kind.name == type_name.name) (sorted w).kinds)) (append_assoc names.declarations (decl.Object at type_name ∷ []) ds ∙ all) known) (objects_known whole (after_declaration (decl.Object at type_name) p.left names) p.left.loops end ds (append_assoc names.declarations (decl.Object at type_name ∷ []) ds ∙ all) p.after)
objects_known whole names loops end (decl.Queue at capacity channel ∷ ds) all kept = let p = first_kept names loops (decl.Queue at capacity channel) ds end kept in objects_known whole (after_declaration (decl.Queue at capacity channel) p.left names) p.left.loops end ds (append_assoc names.declarations (decl.Queue at capacity channel ∷ []) ds ∙ all) p.after
objects_known whole names loops end (decl.Semaphore at count maximum ∷ ds) all kept = let p = first_kept names loops (decl.Semaphore at count maximum) ds end kept in objects_known whole (after_declaration (decl.Semaphore at count maximum) p.left names) p.left.loops end ds (append_assoc names.declarations (decl.Semaphore at count maximum ∷ []) ds ∙ all) p.after
objects_known whole names loops end (decl.Function at parameters body ∷ ds) all kept = let p = first_kept names loops (decl.Function at parameters body) ds end kept in objects_known whole (after_declaration (decl.Function at parameters body) p.left names) p.left.loops end ds (append_assoc names.declarations (decl.Function at parameters body ∷ []) ds ∙ all) p.after
objects_known whole names loops end (decl.Thread at parameters priority body ∷ ds) all kept = let p = first_kept names loops (decl.Thread at parameters priority body) ds end kept in objects_known whole (after_declaration (decl.Thread at parameters priority body) p.left names) p.left.loops end ds (append_assoc names.declarations (decl.Thread at parameters priority body ∷ []) ds ∙ all) p.after
objects_known whole names loops end (decl.Start place at numbers ∷ ds) all kept = let p = first_kept names loops (decl.Start place at numbers) ds end kept in objects_known whole (after_declaration (decl.Start place at numbers) p.left names) p.left.loops end ds (append_assoc names.declarations (decl.Start place at numbers ∷ []) ds ∙ all) p.after

-- each start has a template of the program
starts_known : (whole : List Decl) (names : Names) (loops end : ℕ) (ds : List Decl) → names.declarations ++ ds ≡ whole → declarations_rule names loops ds ≡ Ok end → All (λ s. IsKnownStart s (find (λ template. template.name == s.template) (sorted whole).templates)) (sorted ds).starts
starts_known whole names loops end [] all kept = All-nil (λ (s : Start). IsKnownStart s (find (λ (template : Template). template.name == s.template) (sorted whole).templates))
starts_known whole names loops end (decl.Kind at fields ∷ ds) all kept = let p = first_kept names loops (decl.Kind at fields) ds end kept in starts_known whole (after_declaration (decl.Kind at fields) p.left names) p.left.loops end ds (append_assoc names.declarations (decl.Kind at fields ∷ []) ds ∙ all) p.after
starts_known whole names loops end (decl.Object at type_name ∷ ds) all kept = let p = first_kept names loops (decl.Object at type_name) ds end kept in starts_known whole (after_declaration (decl.Object at type_name) p.left names) p.left.loops end ds (append_assoc names.declarations (decl.Object at type_name ∷ []) ds ∙ all) p.after
starts_known whole names loops end (decl.Queue at capacity channel ∷ ds) all kept = let p = first_kept names loops (decl.Queue at capacity channel) ds end kept in starts_known whole (after_declaration (decl.Queue at capacity channel) p.left names) p.left.loops end ds (append_assoc names.declarations (decl.Queue at capacity channel ∷ []) ds ∙ all) p.after
starts_known whole names loops end (decl.Semaphore at count maximum ∷ ds) all kept = let p = first_kept names loops (decl.Semaphore at count maximum) ds end kept in starts_known whole (after_declaration (decl.Semaphore at count maximum) p.left names) p.left.loops end ds (append_assoc names.declarations (decl.Semaphore at count maximum ∷ []) ds ∙ all) p.after
starts_known whole names loops end (decl.Function at parameters body ∷ ds) all kept = let p = first_kept names loops (decl.Function at parameters body) ds end kept in starts_known whole (after_declaration (decl.Function at parameters body) p.left names) p.left.loops end ds (append_assoc names.declarations (decl.Function at parameters body ∷ []) ds ∙ all) p.after
starts_known whole names loops end (decl.Thread at parameters priority body ∷ ds) all kept = let p = first_kept names loops (decl.Thread at parameters priority body) ds end kept in starts_known whole (after_declaration (decl.Thread at parameters priority body) p.left names) p.left.loops end ds (append_assoc names.declarations (decl.Thread at parameters priority body ∷ []) ds ∙ all) p.after
starts_known whole names loops end (decl.Start place at numbers ∷ ds) all kept =
    let p = first_kept names loops (decl.Start place at numbers) ds end kept in
    let known = start_known names loops place at numbers p.left (decl.Start place at numbers ∷ ds) p.kept in
    All-cons (λ (s : Start). IsKnownStart s (find (λ (template : Template). template.name == s.template) (sorted whole).templates)) (record { template = at.name; arguments = values_of numbers }) (sorted ds).starts (subst (λ w. IsKnownStart (record { template = at.name; arguments = values_of numbers }) (find (λ (template : Template). template.name == at.name) (sorted w).templates)) all known) (starts_known whole (after_declaration (decl.Start place at numbers) p.left names) p.left.loops end ds (append_assoc names.declarations (decl.Start place at numbers ∷ []) ds ∙ all) p.after)

-- each object of a program that keeps the rules has a type
pub program_objects : (tree : Tree) (end : ℕ) → declarations_rule no_names 0 tree.decls ≡ Ok end → All (λ o. IsSome (kind_named (program_of tree) o.kind)) (program_of tree).objects
program_objects tree end kept = objects_known tree.decls no_names 0 end tree.decls refl kept

-- each start of a program that keeps the rules has a template
pub program_starts : (tree : Tree) (end : ℕ) → declarations_rule no_names 0 tree.decls ≡ Ok end → All (λ s. IsSome (template_named (program_of tree) s.template)) (program_of tree).starts
program_starts tree end kept = λ k d below. (starts_known tree.decls no_names 0 end tree.decls refl kept k d below).there

-- each start of a program that keeps the rules has as many arguments
pub program_arguments : (tree : Tree) (end : ℕ) → declarations_rule no_names 0 tree.decls ≡ Ok end → All (λ s. IfSome (template_named (program_of tree) s.template) (λ t. length t.parameters ≡ length s.arguments)) (program_of tree).starts
program_arguments tree end kept = λ k d below. (starts_known tree.decls no_names 0 end tree.decls refl kept k d below).arguments
