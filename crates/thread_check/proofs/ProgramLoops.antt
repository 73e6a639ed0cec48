-- The persistent loops of a program are those that the check counted.
use Rattle.std.proofs.Common.{◌≡◌, ℕ, ◌+◌, ◌≤◌, List, [], ◌∷◌, ◌++◌, length, All, Option, true, Ok, refl, sym, ap, subst, append_assoc, arith}
use Rattle.std.proofs.lemmas.List.{append-nil}
use Rattle.std.specs.List.{flat_map}
use Rattle.thread_tree.specs.declared.place.At.{At}
use Rattle.thread_tree.specs.declared.place.Num.{Num}
use Rattle.thread_tree.specs.declared.place.Place.{Place}
use Rattle.thread_tree.specs.declared.block.Block.{Block}
use Rattle.thread_tree.specs.declared.tree.Tree.{Tree}
use Rattle.thread_tree.specs.declared.tree.Decl.{Decl}
use Rattle.thread_tree.specs.declared.tree.Decl.TheVariants as decl
use Rattle.thread_tree.specs.Program.{Body, sorted, names_of, program_of}
use Rattle.thread_tree.specs.Actions.{Spot, spots_in, loops}
use Rattle.thread_check.specs.declared.fault.Kind.TheVariants as kind
use Rattle.thread_check.specs.declared.sort.Sort.TheVariants as sort
use Rattle.thread_check.specs.Verdict.{◌>>◌, in_range, same_count, within_limit}
use Rattle.thread_check.specs.Scope.{Scope, no_scope, with_local}
use Rattle.thread_check.specs.Names.{Names, arity}
use Rattle.thread_check.specs.Uses.{used}
use Rattle.thread_check.specs.Statements.{block_rule}
use Rattle.thread_check.specs.Declarations.{count_of, declared, channel_rule, parameter_declared, parameters_rule, declaration_rule, declarations_rule, after_declaration, with_declaration}
use Rattle.thread_check.specs.Faults.{no_names}
use Rattle.thread_check.proofs.FewLaws.{kept_second}
use Rattle.thread_check.proofs.KeptLaws.{passes, first_kept}
use Rattle.thread_check.proofs.PeakLaws.{value_of_ok}
use Rattle.thread_check.proofs.LoopLaws.{Counts, loops_of, counts_none, counts_both, body_has}

-- the spots of a body
abbrev spots_of_body : Body → List Spot
spots_of_body body = spots_in body.block body.parameters []

-- parameters are the locals, and no loops
record IsBegun (parameters : List ℕ) (loops : ℕ) (scope : Scope) : Type 0 where
  locals : scope.locals ≡ parameters
  same : scope.loops ≡ loops

-- parameters begin a body
begins : (names : Names) (ats : List At) (scope end : Scope) → parameters_rule names ats scope ≡ Ok end → IsBegun (scope.locals ++ names_of ats) scope.loops end
begins names [] scope end kept =
    let e : scope ≡ end = value_of_ok _ _ kept in
    subst (IsBegun (scope.locals ++ []) scope.loops) e (record { locals = sym (append-nil scope.locals); same = refl })
begins names (at ∷ ats) scope end kept =
    let rest : IsBegun ((scope.locals ++ at.name ∷ []) ++ names_of ats) scope.loops end = begins names ats (with_local at.name scope) end (kept_second (parameter_declared names scope at) (parameters_rule names ats (with_local at.name scope)) end kept) in
    rw (append_assoc scope.locals (at.name ∷ []) (names_of ats)) at rest

-- a body that begins with parameters has its loops
begun_has : (with names : Names) (ats : List At) (body : Block) (loops : ℕ) (start end : Scope) → parameters_rule with ats (no_scope loops) ≡ Ok start → block_rule names body start ≡ Ok end → Counts (loops_of (spots_in body (names_of ats) [])) loops end.loops
begun_has with names ats body loops start end first rest =
    let begun : IsBegun (names_of ats) loops start = begins with ats (no_scope loops) start first in
    let counts = body_has names body start end [] rest in
    subst (λ l. Counts (loops_of (spots_in body l [])) loops end.loops) begun.locals (subst (λ n. Counts (loops_of (spots_in body start.locals [])) n end.loops) begun.same counts)

-- a function has its loops
function_has : (names : Names) (loops : ℕ) (name : At) (parameters : List At) (body : Block) (scope : Scope) → declaration_rule names loops (decl.Function name parameters body) ≡ Ok scope → Counts (loops_of (spots_in body (names_of parameters) [])) loops scope.loops
unfolding declaration_rule
function_has names loops name parameters body scope kept =
    let in_body : Names = record names { in_function = true } in
    let with : Names = with_declaration (decl.Function name parameters body) names in
    let p = passes (parameters_rule with parameters (no_scope loops)) (λ start. block_rule in_body body start) scope (kept_second _ _ scope kept) in
    begun_has with in_body parameters body loops p.left scope p.kept p.after

-- a thread has its loops
thread_has : (names : Names) (loops : ℕ) (name : At) (parameters : List At) (priority : Num) (body : Block) (scope : Scope) → declaration_rule names loops (decl.Thread name parameters priority body) ≡ Ok scope → Counts (loops_of (spots_in body (names_of parameters) [])) loops scope.loops
unfolding declaration_rule
thread_has names loops name parameters priority body scope kept =
    let with : Names = with_declaration (decl.Thread name parameters priority body) names in
    let p = passes (parameters_rule with parameters (no_scope loops)) (λ start. in_range priority 0 7 >> block_rule with body start) scope (kept_second _ _ scope kept) in
    begun_has with with parameters body loops p.left scope p.kept (kept_second (in_range priority 0 7) (block_rule with body p.left) scope p.after)

kind_has : (names : Names) (loops : ℕ) (name : At) (fields : List At) (scope : Scope) → declaration_rule names loops (decl.Kind name fields) ≡ Ok scope → scope.loops ≡ loops
unfolding declaration_rule
kind_has names loops name fields scope kept = sym (ap (λ (s : Scope). s.loops) (value_of_ok (no_scope loops) scope (kept_second _ _ scope (kept_second _ _ scope kept))))

object_has : (names : Names) (loops : ℕ) (name kind : At) (scope : Scope) → declaration_rule names loops (decl.Object name kind) ≡ Ok scope → scope.loops ≡ loops
unfolding declaration_rule
object_has names loops name kind scope kept = sym (ap (λ (s : Scope). s.loops) (value_of_ok (no_scope loops) scope (kept_second _ _ scope (kept_second _ _ scope kept))))

queue_has : (names : Names) (loops : ℕ) (name : At) (capacity : Num) (channel : Option Num) (scope : Scope) → declaration_rule names loops (decl.Queue name capacity channel) ≡ Ok scope → scope.loops ≡ loops
unfolding declaration_rule
queue_has names loops name capacity channel scope kept = sym (ap (λ (s : Scope). s.loops) (value_of_ok (no_scope loops) scope (kept_second (channel_rule names channel) _ scope (kept_second (in_range capacity 1 48) _ scope (kept_second (declared names sort.Queue kind.Queues 16 name) _ scope kept)))))

semaphore_has : (names : Names) (loops : ℕ) (name : At) (count maximum : Num) (scope : Scope) → declaration_rule names loops (decl.Semaphore name count maximum) ≡ Ok scope → scope.loops ≡ loops
unfolding declaration_rule
semaphore_has names loops name count maximum scope kept = sym (ap (λ (s : Scope). s.loops) (value_of_ok (no_scope loops) scope (kept_second (in_range maximum 1 65535) _ scope (kept_second (in_range count 0 maximum.value) _ scope (kept_second (declared names sort.Semaphore kind.Semaphores 16 name) _ scope kept)))))

start_has : (names : Names) (loops : ℕ) (place : Place) (name : At) (numbers : List Num) (scope : Scope) → declaration_rule names loops (decl.Start place name numbers) ≡ Ok scope → scope.loops ≡ loops
unfolding declaration_rule
start_has names loops place name numbers scope kept = sym (ap (λ (s : Scope). s.loops) (value_of_ok (no_scope loops) scope (kept_second (same_count name.place (arity names name.name) (length numbers)) _ scope (kept_second (used names (no_scope loops) sort.Thread name) _ scope (kept_second (within_limit place kind.Starts 16 (count_of sort.Start names.declarations + 1)) _ scope kept)))))

-- declarations one after another have their loops
declarations_have : (names : Names) (before end : ℕ) (ds : List Decl) → declarations_rule names before ds ≡ Ok end → Counts (loops_of (flat_map spots_of_body (sorted ds).bodies)) before end
declarations_have names before end [] kept = counts_none before end (value_of_ok _ _ kept)
declarations_have names before end (decl.Kind name fields ∷ ds) kept = let p = first_kept names before (decl.Kind name fields) ds end kept in subst (λ n. Counts (loops_of (flat_map spots_of_body (sorted ds).bodies)) n end) (kind_has names before name fields p.left p.kept) (declarations_have (after_declaration (decl.Kind name fields) p.left names) p.left.loops end ds p.after)
declarations_have names before end (decl.Object name kind ∷ ds) kept = let p = first_kept names before (decl.Object name kind) ds end kept in subst (λ n. Counts (loops_of (flat_map spots_of_body (sorted ds).bodies)) n end) (object_has names before name kind p.left p.kept) (declarations_have (after_declaration (decl.Object name kind) p.left names) p.left.loops end ds p.after)
declarations_have names before end (decl.Queue name capacity channel ∷ ds) kept = let p = first_kept names before (decl.Queue name capacity channel) ds end kept in subst (λ n. Counts (loops_of (flat_map spots_of_body (sorted ds).bodies)) n end) (queue_has names before name capacity channel p.left p.kept) (declarations_have (after_declaration (decl.Queue name capacity channel) p.left names) p.left.loops end ds p.after)
declarations_have names before end (decl.Semaphore name count maximum ∷ ds) kept = let p = first_kept names before (decl.Semaphore name count maximum) ds end kept in subst (λ n. Counts (loops_of (flat_map spots_of_body (sorted ds).bodies)) n end) (semaphore_has names before name count maximum p.left p.kept) (declarations_have (after_declaration (decl.Semaphore name count maximum) p.left names) p.left.loops end ds p.after)
declarations_have names before end (decl.Function name parameters body ∷ ds) kept =
    let p = first_kept names before (decl.Function name parameters body) ds end kept in
    counts_both (spots_in body (names_of parameters) []) (flat_map spots_of_body (sorted ds).bodies) before p.left.loops end (function_has names before name parameters body p.left p.kept) (declarations_have (after_declaration (decl.Function name parameters body) p.left names) p.left.loops end ds p.after)
declarations_have names before end (decl.Thread name parameters priority body ∷ ds) kept =
    let p = first_kept names before (decl.Thread name parameters priority body) ds end kept in
    counts_both (spots_in body (names_of parameters) []) (flat_map spots_of_body (sorted ds).bodies) before p.left.loops end (thread_has names before name parameters priority body p.left p.kept) (declarations_have (after_declaration (decl.Thread name parameters priority body) p.left names) p.left.loops end ds p.after)
declarations_have names before end (decl.Start place name numbers ∷ ds) kept = let p = first_kept names before (decl.Start place name numbers) ds end kept in subst (λ n. Counts (loops_of (flat_map spots_of_body (sorted ds).bodies)) n end) (start_has names before place name numbers p.left p.kept) (declarations_have (after_declaration (decl.Start place name numbers) p.left names) p.left.loops end ds p.after)

-- the loops of a program that keeps the rules
pub program_has : (tree : Tree) (end : ℕ) → declarations_rule no_names 0 tree.decls ≡ Ok end → (length (loops (program_of tree)) ≤ 64) × All (λ spot. length spot.scope ≤ 16) (loops (program_of tree))
program_has tree end kept =
    let counts = declarations_have no_names 0 end tree.decls kept in
    let few : end ≤ 64 = counts.most (omega arith) in
    (omega (arith, counts.count), counts.few)
