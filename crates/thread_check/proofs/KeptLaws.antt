-- What a rule that is kept says of what it ruled.
use Rattle.std.proofs.Common.{◌≡◌, ℕ, ◌+◌, ◌≤◌, zero, suc, List, [], ◌∷◌, ◌++◌, length, All, Option, Some, None, Ok, Err, IfSome, option_map, refl, arith, length-append, append_assoc}
use Rattle.std.proofs.lemmas.Bool.Decides.{nat_tests}
use Rattle.std.proofs.lemmas.List.{length-map, append-nil}
use Rattle.thread_tree.specs.declared.place.At.{At}
use Rattle.thread_tree.specs.declared.place.Num.{Num}
use Rattle.thread_tree.specs.declared.block.Block.{Block}
use Rattle.thread_tree.specs.declared.tree.Decl.{Decl}
use Rattle.thread_tree.specs.declared.tree.Decl.TheVariants as decl
use Rattle.thread_tree.specs.Program.{sorted, names_of}
use Rattle.thread_tree.specs.Limits.{IsFitQueue, IsFitSemaphore, IsFitTemplate}
use Rattle.thread_check.specs.Verdict.{Answer, ◌>>=◌, in_range}
use Rattle.thread_check.specs.Scope.{Scope, no_scope, with_local}
use Rattle.thread_check.specs.Names.{Names}
use Rattle.thread_check.specs.Declarations.{field_declared, fields_rule, channel_rule, parameter_declared, parameters_rule, IsFew, declaration_rule, declarations_rule, after_declaration}
use Rattle.thread_check.proofs.FewLaws.{kept_first, kept_second, within_limit-kept, few_after}

-- an answer that is kept up to its end
pub record Passes {A B : Type 0} (first : Answer A) (rest : A → Answer B) (end : B) : Type 0 where
  pub left : A
  pub kept : first ≡ Ok left
  pub after : rest left ≡ Ok end

-- a first rule that leaves something, and what follows it
pub passes : {A B : Type 0} (first : Answer A) (rest : A → Answer B) (end : B) → first >>= rest ≡ Ok end → Passes first rest end
passes (Ok a) rest end kept = record { left = a; kept = refl; after = kept }
passes (Err fault) rest end kept = absurd (cc)

-- the first of several declarations that are kept
pub first_kept : (names : Names) (loops : ℕ) (d : Decl) (ds : List Decl) (end : ℕ) → declarations_rule names loops (d ∷ ds) ≡ Ok end → Passes (declaration_rule names loops d) (λ scope. declarations_rule (after_declaration d scope names) scope.loops ds) end
first_kept names loops d ds end kept =
    passes (declaration_rule names loops d) (λ scope. declarations_rule (after_declaration d scope names) scope.loops ds) end kept

-- all of no list
pub All-nil : {A : Type 0} (P : A → Type 0) → All P []
All-nil P = λ k d below. absurd (omega arith)

-- all of a list with one item more in front
pub All-cons : {A : Type 0} (P : A → Type 0) (x : A) (xs : List A) → P x → All P xs → All P (x ∷ xs)
All-cons P x xs first rest zero d below = first
All-cons P x xs first rest (suc k) d below = rest k d (omega arith)

-- a number that is in its range
pub in_range-kept : (number : Num) (least most : ℕ) → in_range number least most ≡ Ok tt → (least ≤ number.value) × (number.value ≤ most)
unfolding in_range
in_range-kept number least most kept = (grind (arith, nat_tests), grind (arith, nat_tests))

-- the fields of a type are at most ten
pub fields_rule-kept : (before ats : List At) → fields_rule before ats ≡ Ok tt → length before ≤ 10 → length before + length ats ≤ 10
unfolding field_declared
fields_rule-kept before [] kept few = omega arith
fields_rule-kept before (at ∷ ats) kept few =
    let this : length before + 1 ≤ 10 = within_limit-kept _ _ _ _ (kept_second _ _ tt (kept_first _ _ tt kept)) in
    let long : length (before ++ at ∷ []) ≡ length before + 1 = length-append before (at ∷ []) in
    let rest : length (before ++ at ∷ []) + length ats ≤ 10 = fields_rule-kept (before ++ at ∷ []) ats (kept_second _ _ tt kept) (omega arith) in
    omega arith

-- the parameters of a body are at most eight, and its first locals
pub parameters_rule-kept : (names : Names) (ats : List At) (scope end : Scope) → parameters_rule names ats scope ≡ Ok end → length scope.locals ≤ 8 → length scope.locals + length ats ≤ 8
unfolding parameter_declared
parameters_rule-kept names [] scope end kept few = omega arith
parameters_rule-kept names (at ∷ ats) scope end kept few =
    let this : length scope.locals + 1 ≤ 8 = within_limit-kept _ _ _ _ (kept_second _ _ tt (kept_first _ _ end kept)) in
    let long : length (scope.locals ++ at.name ∷ []) ≡ length scope.locals + 1 = length-append scope.locals (at.name ∷ []) in
    let rest : length (scope.locals ++ at.name ∷ []) + length ats ≤ 8 = parameters_rule-kept names ats (with_local at.name scope) end (kept_second _ _ end kept) (omega arith) in
    omega arith

-- an input channel is at most fifteen
channel_rule-kept : (names : Names) (c : Option Num) → channel_rule names c ≡ Ok tt → IfSome (option_map (λ number. number.value) c) (λ value. value ≤ 15)
unfolding channel_rule
channel_rule-kept names None fine = tt
channel_rule-kept names (Some number) fine = (in_range-kept number 0 15 (kept_second _ _ tt fine)).1

-- a queue fits
queue_fits : (names : Names) (loops : ℕ) (name : At) (capacity : Num) (channel : Option Num) (scope : Scope) → declaration_rule names loops (decl.Queue name capacity channel) ≡ Ok scope → IsFitQueue (record { name = name.name; capacity = capacity.value; channel = option_map (λ number. number.value) channel })
unfolding declaration_rule
queue_fits names loops name capacity channel scope kept =
    let rest = kept_second _ _ scope kept in
    let size = in_range-kept capacity 1 48 (kept_first _ _ scope rest) in
    record { least = size.0; most = size.1; channel = channel_rule-kept names channel (kept_first _ _ scope (kept_second _ _ scope rest)) }

-- a semaphore fits
semaphore_fits : (names : Names) (loops : ℕ) (name : At) (count maximum : Num) (scope : Scope) → declaration_rule names loops (decl.Semaphore name count maximum) ≡ Ok scope → IsFitSemaphore (record { name = name.name; count = count.value; maximum = maximum.value })
unfolding declaration_rule
semaphore_fits names loops name count maximum scope kept =
    let rest = kept_second _ _ scope kept in
    let start = in_range-kept count 0 maximum.value (kept_first _ _ scope rest) in
    let most = in_range-kept maximum 1 65535 (kept_first _ _ scope (kept_second _ _ scope rest)) in
    record { count = start.1; least = most.0; most = most.1 }

-- a type has few fields
kind_fits : (names : Names) (loops : ℕ) (name : At) (fields : List At) (scope : Scope) → declaration_rule names loops (decl.Kind name fields) ≡ Ok scope → length (names_of fields) ≤ 10
unfolding declaration_rule
kind_fits names loops name fields scope kept =
    let few : 0 + length fields ≤ 10 = fields_rule-kept [] fields (kept_first _ _ scope (kept_second _ _ scope kept)) (omega arith) in
    let long : length (names_of fields) ≡ length fields = length-map fields (λ at. at.name) in
    omega arith

-- a function has few parameters
function_fits : (names : Names) (loops : ℕ) (name : At) (parameters : List At) (body : Block) (scope : Scope) → declaration_rule names loops (decl.Function name parameters body) ≡ Ok scope → length (names_of parameters) ≤ 8
unfolding declaration_rule
function_fits names loops name parameters body scope kept =
    let p = passes _ _ scope (kept_second _ _ scope kept) in
    let few : 0 + length parameters ≤ 8 = parameters_rule-kept _ parameters (no_scope loops) p.left p.kept (omega arith) in
    let long : length (names_of parameters) ≡ length parameters = length-map parameters (λ at. at.name) in
    omega arith

-- a template has few parameters and a priority
template_fits : (names : Names) (loops : ℕ) (name : At) (parameters : List At) (priority : Num) (body : Block) (scope : Scope) → declaration_rule names loops (decl.Thread name parameters priority body) ≡ Ok scope → IsFitTemplate (record { name = name.name; parameters = names_of parameters; priority = priority.value; body = body })
unfolding declaration_rule
template_fits names loops name parameters priority body scope kept =
    let p = passes _ _ scope (kept_second _ _ scope kept) in
    let few : 0 + length parameters ≤ 8 = parameters_rule-kept _ parameters (no_scope loops) p.left p.kept (omega arith) in
    let long : length (names_of parameters) ≡ length parameters = length-map parameters (λ at. at.name) in
    record { parameters = omega arith; priority = (in_range-kept priority 0 7 (kept_first _ _ scope p.after)).1 }

-- what each of the kinds keeps
pub each_kind : (names : Names) (loops end : ℕ) (ds : List Decl) → declarations_rule names loops ds ≡ Ok end → All (λ kind. length kind.fields ≤ 10) (sorted ds).kinds
each_kind names loops end [] kept = All-nil (λ kind. length kind.fields ≤ 10)
each_kind names loops end (decl.Kind name fields ∷ ds) kept = let p = first_kept names loops (decl.Kind name fields) ds end kept in All-cons (λ kind. length kind.fields ≤ 10) _ _ (kind_fits names loops name fields p.left p.kept) (each_kind (after_declaration (decl.Kind name fields) p.left names) p.left.loops end ds p.after)
each_kind names loops end (decl.Object name kind ∷ ds) kept = let p = first_kept names loops (decl.Object name kind) ds end kept in each_kind (after_declaration (decl.Object name kind) p.left names) p.left.loops end ds p.after
each_kind names loops end (decl.Queue name capacity channel ∷ ds) kept = let p = first_kept names loops (decl.Queue name capacity channel) ds end kept in each_kind (after_declaration (decl.Queue name capacity channel) p.left names) p.left.loops end ds p.after
each_kind names loops end (decl.Semaphore name count maximum ∷ ds) kept = let p = first_kept names loops (decl.Semaphore name count maximum) ds end kept in each_kind (after_declaration (decl.Semaphore name count maximum) p.left names) p.left.loops end ds p.after
each_kind names loops end (decl.Function name parameters body ∷ ds) kept = let p = first_kept names loops (decl.Function name parameters body) ds end kept in each_kind (after_declaration (decl.Function name parameters body) p.left names) p.left.loops end ds p.after
each_kind names loops end (decl.Thread name parameters priority body ∷ ds) kept = let p = first_kept names loops (decl.Thread name parameters priority body) ds end kept in each_kind (after_declaration (decl.Thread name parameters priority body) p.left names) p.left.loops end ds p.after
each_kind names loops end (decl.Start place name numbers ∷ ds) kept = let p = first_kept names loops (decl.Start place name numbers) ds end kept in each_kind (after_declaration (decl.Start place name numbers) p.left names) p.left.loops end ds p.after

-- what each of the queues keeps
pub each_queue : (names : Names) (loops end : ℕ) (ds : List Decl) → declarations_rule names loops ds ≡ Ok end → All IsFitQueue (sorted ds).queues
each_queue names loops end [] kept = All-nil IsFitQueue
each_queue names loops end (decl.Kind name fields ∷ ds) kept = let p = first_kept names loops (decl.Kind name fields) ds end kept in each_queue (after_declaration (decl.Kind name fields) p.left names) p.left.loops end ds p.after
each_queue names loops end (decl.Object name kind ∷ ds) kept = let p = first_kept names loops (decl.Object name kind) ds end kept in each_queue (after_declaration (decl.Object name kind) p.left names) p.left.loops end ds p.after
each_queue names loops end (decl.Queue name capacity channel ∷ ds) kept = let p = first_kept names loops (decl.Queue name capacity channel) ds end kept in All-cons IsFitQueue _ _ (queue_fits names loops name capacity channel p.left p.kept) (each_queue (after_declaration (decl.Queue name capacity channel) p.left names) p.left.loops end ds p.after)
each_queue names loops end (decl.Semaphore name count maximum ∷ ds) kept = let p = first_kept names loops (decl.Semaphore name count maximum) ds end kept in each_queue (after_declaration (decl.Semaphore name count maximum) p.left names) p.left.loops end ds p.after
each_queue names loops end (decl.Function name parameters body ∷ ds) kept = let p = first_kept names loops (decl.Function name parameters body) ds end kept in each_queue (after_declaration (decl.Function name parameters body) p.left names) p.left.loops end ds p.after
each_queue names loops end (decl.Thread name parameters priority body ∷ ds) kept = let p = first_kept names loops (decl.Thread name parameters priority body) ds end kept in each_queue (after_declaration (decl.Thread name parameters priority body) p.left names) p.left.loops end ds p.after
each_queue names loops end (decl.Start place name numbers ∷ ds) kept = let p = first_kept names loops (decl.Start place name numbers) ds end kept in each_queue (after_declaration (decl.Start place name numbers) p.left names) p.left.loops end ds p.after

-- what each of the semaphores keeps
pub each_semaphore : (names : Names) (loops end : ℕ) (ds : List Decl) → declarations_rule names loops ds ≡ Ok end → All IsFitSemaphore (sorted ds).semaphores
each_semaphore names loops end [] kept = All-nil IsFitSemaphore
each_semaphore names loops end (decl.Kind name fields ∷ ds) kept = let p = first_kept names loops (decl.Kind name fields) ds end kept in each_semaphore (after_declaration (decl.Kind name fields) p.left names) p.left.loops end ds p.after
each_semaphore names loops end (decl.Object name kind ∷ ds) kept = let p = first_kept names loops (decl.Object name kind) ds end kept in each_semaphore (after_declaration (decl.Object name kind) p.left names) p.left.loops end ds p.after
each_semaphore names loops end (decl.Queue name capacity channel ∷ ds) kept = let p = first_kept names loops (decl.Queue name capacity channel) ds end kept in each_semaphore (after_declaration (decl.Queue name capacity channel) p.left names) p.left.loops end ds p.after
each_semaphore names loops end (decl.Semaphore name count maximum ∷ ds) kept = let p = first_kept names loops (decl.Semaphore name count maximum) ds end kept in All-cons IsFitSemaphore _ _ (semaphore_fits names loops name count maximum p.left p.kept) (each_semaphore (after_declaration (decl.Semaphore name count maximum) p.left names) p.left.loops end ds p.after)
each_semaphore names loops end (decl.Function name parameters body ∷ ds) kept = let p = first_kept names loops (decl.Function name parameters body) ds end kept in each_semaphore (after_declaration (decl.Function name parameters body) p.left names) p.left.loops end ds p.after
each_semaphore names loops end (decl.Thread name parameters priority body ∷ ds) kept = let p = first_kept names loops (decl.Thread name parameters priority body) ds end kept in each_semaphore (after_declaration (decl.Thread name parameters priority body) p.left names) p.left.loops end ds p.after
each_semaphore names loops end (decl.Start place name numbers ∷ ds) kept = let p = first_kept names loops (decl.Start place name numbers) ds end kept in each_semaphore (after_declaration (decl.Start place name numbers) p.left names) p.left.loops end ds p.after

-- what each of the functions keeps
pub each_function : (names : Names) (loops end : ℕ) (ds : List Decl) → declarations_rule names loops ds ≡ Ok end → All (λ function. length function.parameters ≤ 8) (sorted ds).functions
each_function names loops end [] kept = All-nil (λ function. length function.parameters ≤ 8)
each_function names loops end (decl.Kind name fields ∷ ds) kept = let p = first_kept names loops (decl.Kind name fields) ds end kept in each_function (after_declaration (decl.Kind name fields) p.left names) p.left.loops end ds p.after
each_function names loops end (decl.Object name kind ∷ ds) kept = let p = first_kept names loops (decl.Object name kind) ds end kept in each_function (after_declaration (decl.Object name kind) p.left names) p.left.loops end ds p.after
each_function names loops end (decl.Queue name capacity channel ∷ ds) kept = let p = first_kept names loops (decl.Queue name capacity channel) ds end kept in each_function (after_declaration (decl.Queue name capacity channel) p.left names) p.left.loops end ds p.after
each_function names loops end (decl.Semaphore name count maximum ∷ ds) kept = let p = first_kept names loops (decl.Semaphore name count maximum) ds end kept in each_function (after_declaration (decl.Semaphore name count maximum) p.left names) p.left.loops end ds p.after
each_function names loops end (decl.Function name parameters body ∷ ds) kept = let p = first_kept names loops (decl.Function name parameters body) ds end kept in All-cons (λ function. length function.parameters ≤ 8) _ _ (function_fits names loops name parameters body p.left p.kept) (each_function (after_declaration (decl.Function name parameters body) p.left names) p.left.loops end ds p.after)
each_function names loops end (decl.Thread name parameters priority body ∷ ds) kept = let p = first_kept names loops (decl.Thread name parameters priority body) ds end kept in each_function (after_declaration (decl.Thread name parameters priority body) p.left names) p.left.loops end ds p.after
each_function names loops end (decl.Start place name numbers ∷ ds) kept = let p = first_kept names loops (decl.Start place name numbers) ds end kept in each_function (after_declaration (decl.Start place name numbers) p.left names) p.left.loops end ds p.after

-- what each of the templates keeps
pub each_template : (names : Names) (loops end : ℕ) (ds : List Decl) → declarations_rule names loops ds ≡ Ok end → All IsFitTemplate (sorted ds).templates
each_template names loops end [] kept = All-nil IsFitTemplate
each_template names loops end (decl.Kind name fields ∷ ds) kept = let p = first_kept names loops (decl.Kind name fields) ds end kept in each_template (after_declaration (decl.Kind name fields) p.left names) p.left.loops end ds p.after
each_template names loops end (decl.Object name kind ∷ ds) kept = let p = first_kept names loops (decl.Object name kind) ds end kept in each_template (after_declaration (decl.Object name kind) p.left names) p.left.loops end ds p.after
each_template names loops end (decl.Queue name capacity channel ∷ ds) kept = let p = first_kept names loops (decl.Queue name capacity channel) ds end kept in each_template (after_declaration (decl.Queue name capacity channel) p.left names) p.left.loops end ds p.after
each_template names loops end (decl.Semaphore name count maximum ∷ ds) kept = let p = first_kept names loops (decl.Semaphore name count maximum) ds end kept in each_template (after_declaration (decl.Semaphore name count maximum) p.left names) p.left.loops end ds p.after
each_template names loops end (decl.Function name parameters body ∷ ds) kept = let p = first_kept names loops (decl.Function name parameters body) ds end kept in each_template (after_declaration (decl.Function name parameters body) p.left names) p.left.loops end ds p.after
each_template names loops end (decl.Thread name parameters priority body ∷ ds) kept = let p = first_kept names loops (decl.Thread name parameters priority body) ds end kept in All-cons IsFitTemplate _ _ (template_fits names loops name parameters priority body p.left p.kept) (each_template (after_declaration (decl.Thread name parameters priority body) p.left names) p.left.loops end ds p.after)
each_template names loops end (decl.Start place name numbers ∷ ds) kept = let p = first_kept names loops (decl.Start place name numbers) ds end kept in each_template (after_declaration (decl.Start place name numbers) p.left names) p.left.loops end ds p.after

-- the counts stay within their limits to the end
pub few_to_end : (names : Names) (loops end : ℕ) (ds : List Decl) → declarations_rule names loops ds ≡ Ok end → IsFew names.declarations → IsFew (names.declarations ++ ds)
few_to_end names loops end [] kept few = rw (append-nil names.declarations) few
few_to_end names loops end (d ∷ ds) kept few =
    let p = first_kept names loops d ds end kept in
    rw (← append_assoc names.declarations (d ∷ []) ds) (few_to_end (after_declaration d p.left names) p.left.loops end ds p.after (few_after names loops d p.left p.kept few))
