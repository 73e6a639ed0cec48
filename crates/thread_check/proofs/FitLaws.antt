-- Each function and each thread of a program that keeps the rules stays within the limits.
use Rattle.std.proofs.Common.{◌≡◌, ℕ, List, [], ◌∷◌, All, Ok, Option, refl, sym, ◌∙◌, true}
use Rattle.thread_tree.specs.declared.place.At.{At}
use Rattle.thread_tree.specs.declared.place.Num.{Num}
use Rattle.thread_tree.specs.declared.place.Place.{Place}
use Rattle.thread_tree.specs.declared.block.Block.{Block}
use Rattle.thread_tree.specs.declared.tree.Tree.{Tree}
use Rattle.thread_tree.specs.declared.tree.Decl.{Decl}
use Rattle.thread_tree.specs.declared.tree.Decl.TheVariants as decl
use Rattle.thread_tree.specs.Program.{Function, Template, sorted, names_of, program_of}
use Rattle.thread_tree.specs.Need.{Need, nothing, need_of_body, with_need, needs_of, callees, IsSmall, Fits}
use Rattle.thread_check.specs.Verdict.{◌>>◌, in_range}
use Rattle.thread_check.specs.Scope.{Scope, no_scope}
use Rattle.thread_check.specs.Names.{Names}
use Rattle.thread_check.specs.Statements.{block_rule}
use Rattle.thread_check.specs.Declarations.{parameters_rule, declaration_rule, declarations_rule, after_declaration, with_function, with_declaration}
use Rattle.thread_check.specs.Faults.{no_names}
use Rattle.thread_check.proofs.FewLaws.{kept_second}
use Rattle.thread_check.proofs.KeptLaws.{passes, first_kept, All-nil, All-cons}
use Rattle.thread_check.proofs.BodyPeaks.{Agrees}
use Rattle.thread_check.proofs.NeedLaws.{HasPeaks, IsNeed, no_peaks, same_peaks, more_peaks, own_need, function-fresh, declared_last, declares-function, body_needs, final_agrees, agrees_elsewhere, one_need, keeps_needs}

-- a function that is kept has the need of its peak, by all needs that agree with the peaks
function_needs : (names : Names) (loops : ℕ) (name : At) (parameters : List At) (body : Block) (scope : Scope) (callee : ℕ → Need) → declaration_rule names loops (decl.Function name parameters body) ≡ Ok scope → Agrees names callee → IsNeed (need_of_body callee (names_of parameters) body) scope.peak × IsSmall (need_of_body callee (names_of parameters) body)
unfolding declaration_rule
function_needs names loops name parameters body scope callee kept agrees =
    let in_body : Names = record names { in_function = true } in
    let with : Names = with_declaration (decl.Function name parameters body) names in
    let p = passes (parameters_rule with parameters (no_scope loops)) (λ start. block_rule in_body body start) scope (kept_second _ _ scope kept) in
    body_needs with in_body callee loops parameters body p.left scope p.kept p.after (agrees_elsewhere names in_body callee refl refl agrees)

-- a thread that is kept has a small need, by all needs that agree with the peaks
thread_needs : (names : Names) (loops : ℕ) (name : At) (parameters : List At) (priority : Num) (body : Block) (scope : Scope) (callee : ℕ → Need) → declaration_rule names loops (decl.Thread name parameters priority body) ≡ Ok scope → Agrees (with_declaration (decl.Thread name parameters priority body) names) callee → IsSmall (need_of_body callee (names_of parameters) body)
unfolding declaration_rule
thread_needs names loops name parameters priority body scope callee kept agrees =
    let with : Names = with_declaration (decl.Thread name parameters priority body) names in
    let p = passes (parameters_rule with parameters (no_scope loops)) (λ start. in_range priority 0 7 >> block_rule with body start) scope (kept_second _ _ scope kept) in
    (body_needs with with callee loops parameters body p.left scope p.kept (kept_second _ _ scope p.after) agrees).1

kind_keeps : (names : Names) (callee : ℕ → Need) (scope : Scope) (name : At) (fields : List At) → HasPeaks names callee → HasPeaks (after_declaration (decl.Kind name fields) scope names) callee
unfolding with_function
kind_keeps names callee scope name fields has = same_peaks names (after_declaration (decl.Kind name fields) scope names) callee refl has

object_keeps : (names : Names) (callee : ℕ → Need) (scope : Scope) (name kind : At) → HasPeaks names callee → HasPeaks (after_declaration (decl.Object name kind) scope names) callee
unfolding with_function
object_keeps names callee scope name kind has = same_peaks names (after_declaration (decl.Object name kind) scope names) callee refl has

queue_keeps : (names : Names) (callee : ℕ → Need) (scope : Scope) (name : At) (capacity : Num) (channel : Option Num) → HasPeaks names callee → HasPeaks (after_declaration (decl.Queue name capacity channel) scope names) callee
unfolding with_function
queue_keeps names callee scope name capacity channel has = same_peaks names (after_declaration (decl.Queue name capacity channel) scope names) callee refl has

semaphore_keeps : (names : Names) (callee : ℕ → Need) (scope : Scope) (name : At) (count maximum : Num) → HasPeaks names callee → HasPeaks (after_declaration (decl.Semaphore name count maximum) scope names) callee
unfolding with_function
semaphore_keeps names callee scope name count maximum has = same_peaks names (after_declaration (decl.Semaphore name count maximum) scope names) callee refl has

thread_keeps : (names : Names) (callee : ℕ → Need) (scope : Scope) (name : At) (parameters : List At) (priority : Num) (body : Block) → HasPeaks names callee → HasPeaks (after_declaration (decl.Thread name parameters priority body) scope names) callee
unfolding with_function
thread_keeps names callee scope name parameters priority body has = same_peaks names (after_declaration (decl.Thread name parameters priority body) scope names) callee refl has

start_keeps : (names : Names) (callee : ℕ → Need) (scope : Scope) (place : Place) (name : At) (numbers : List Num) → HasPeaks names callee → HasPeaks (after_declaration (decl.Start place name numbers) scope names) callee
unfolding with_function
start_keeps names callee scope place name numbers has = same_peaks names (after_declaration (decl.Start place name numbers) scope names) callee refl has

-- a function that is kept adds its peak
function_adds : (names : Names) (loops end : ℕ) (callee : ℕ → Need) (scope : Scope) (name : At) (parameters : List At) (body : Block) (ds : List Decl) → declaration_rule names loops (decl.Function name parameters body) ≡ Ok scope → HasPeaks names callee → HasPeaks (after_declaration (decl.Function name parameters body) scope names) (with_need callee (record { name = name.name; parameters = names_of parameters; body = body }))
unfolding with_function
function_adds names loops end callee scope name parameters body ds kept has =
    more_peaks names callee (record { name = name.name; parameters = names_of parameters; body = body }) (decl.Function name parameters body) scope refl (function_needs names loops name parameters body scope callee kept (final_agrees names loops loops [] callee has refl)).0 has

-- agreement after a thread is agreement in its body
thread_agrees : (names : Names) (scope : Scope) (callee : ℕ → Need) (name : At) (parameters : List At) (priority : Num) (body : Block) → Agrees (after_declaration (decl.Thread name parameters priority body) scope names) callee → Agrees (with_declaration (decl.Thread name parameters priority body) names) callee
unfolding with_function
thread_agrees names scope callee name parameters priority body agrees =
    agrees_elsewhere (after_declaration (decl.Thread name parameters priority body) scope names) (with_declaration (decl.Thread name parameters priority body) names) callee refl refl agrees

-- each thread has a small need
threads_fit : (names : Names) (loops end : ℕ) (ds : List Decl) (callee : ℕ → Need) → HasPeaks names callee → declarations_rule names loops ds ≡ Ok end → All (λ template. IsSmall (need_of_body (needs_of callee (sorted ds).functions) template.parameters template.body)) (sorted ds).templates
threads_fit names loops end [] callee has kept = All-nil (λ template. IsSmall (need_of_body callee template.parameters template.body))
threads_fit names loops end (decl.Kind name fields ∷ ds) callee has kept = let p = first_kept names loops (decl.Kind name fields) ds end kept in threads_fit (after_declaration (decl.Kind name fields) p.left names) p.left.loops end ds callee (kind_keeps names callee p.left name fields has) p.after
threads_fit names loops end (decl.Object name kind ∷ ds) callee has kept = let p = first_kept names loops (decl.Object name kind) ds end kept in threads_fit (after_declaration (decl.Object name kind) p.left names) p.left.loops end ds callee (object_keeps names callee p.left name kind has) p.after
threads_fit names loops end (decl.Queue name capacity channel ∷ ds) callee has kept = let p = first_kept names loops (decl.Queue name capacity channel) ds end kept in threads_fit (after_declaration (decl.Queue name capacity channel) p.left names) p.left.loops end ds callee (queue_keeps names callee p.left name capacity channel has) p.after
threads_fit names loops end (decl.Semaphore name count maximum ∷ ds) callee has kept = let p = first_kept names loops (decl.Semaphore name count maximum) ds end kept in threads_fit (after_declaration (decl.Semaphore name count maximum) p.left names) p.left.loops end ds callee (semaphore_keeps names callee p.left name count maximum has) p.after
threads_fit names loops end (decl.Function name parameters body ∷ ds) callee has kept = let p = first_kept names loops (decl.Function name parameters body) ds end kept in threads_fit (after_declaration (decl.Function name parameters body) p.left names) p.left.loops end ds (with_need callee (record { name = name.name; parameters = names_of parameters; body = body })) (function_adds names loops end callee p.left name parameters body ds p.kept has) p.after
threads_fit names loops end (decl.Thread name parameters priority body ∷ ds) callee has kept =
    let p = first_kept names loops (decl.Thread name parameters priority body) ds end kept in
    let final : ℕ → Need = needs_of callee (sorted ds).functions in
    let agrees = final_agrees (after_declaration (decl.Thread name parameters priority body) p.left names) p.left.loops end ds callee (thread_keeps names callee p.left name parameters priority body has) p.after in
    let small = thread_needs names loops name parameters priority body p.left final p.kept (thread_agrees names p.left final name parameters priority body agrees) in
    All-cons (λ (template : Template). IsSmall (need_of_body final template.parameters template.body)) (record { name = name.name; parameters = names_of parameters; priority = priority.value; body = body }) (sorted ds).templates small (threads_fit (after_declaration (decl.Thread name parameters priority body) p.left names) p.left.loops end ds callee (thread_keeps names callee p.left name parameters priority body has) p.after)
threads_fit names loops end (decl.Start place name numbers ∷ ds) callee has kept = let p = first_kept names loops (decl.Start place name numbers) ds end kept in threads_fit (after_declaration (decl.Start place name numbers) p.left names) p.left.loops end ds callee (start_keeps names callee p.left place name numbers has) p.after

-- a function's own need, by the needs of all functions
pub record OwnNeed (final : ℕ → Need) (function : Function) : Type 0 where
  pub same : need_of_body final function.parameters function.body ≡ final function.name
  pub small : IsSmall (need_of_body final function.parameters function.body)

-- a function is declared after itself, so that its need stays
own_kept : (names : Names) (loops end : ℕ) (callee : ℕ → Need) (scope : Scope) (name : At) (parameters : List At) (body : Block) (ds : List Decl) → declaration_rule names loops (decl.Function name parameters body) ≡ Ok scope → declarations_rule (after_declaration (decl.Function name parameters body) scope names) scope.loops ds ≡ Ok end → needs_of (with_need callee (record { name = name.name; parameters = names_of parameters; body = body })) (sorted ds).functions name.name ≡ with_need callee (record { name = name.name; parameters = names_of parameters; body = body }) name.name
own_kept names loops end callee scope name parameters body ds kept rest =
    keeps_needs (after_declaration (decl.Function name parameters body) scope names) scope.loops end ds (with_need callee (record { name = name.name; parameters = names_of parameters; body = body })) name.name (decl.Function name parameters body) rest (declared_last names (decl.Function name parameters body) scope name.name (function-fresh names loops name parameters body scope kept) (declares-function name parameters body))

-- each function has its need
functions_fit : (names : Names) (loops end : ℕ) (ds : List Decl) (callee : ℕ → Need) → HasPeaks names callee → declarations_rule names loops ds ≡ Ok end → All (OwnNeed (needs_of callee (sorted ds).functions)) (sorted ds).functions
functions_fit names loops end [] callee has kept = All-nil (OwnNeed callee)
functions_fit names loops end (decl.Kind name fields ∷ ds) callee has kept = let p = first_kept names loops (decl.Kind name fields) ds end kept in functions_fit (after_declaration (decl.Kind name fields) p.left names) p.left.loops end ds callee (kind_keeps names callee p.left name fields has) p.after
functions_fit names loops end (decl.Object name kind ∷ ds) callee has kept = let p = first_kept names loops (decl.Object name kind) ds end kept in functions_fit (after_declaration (decl.Object name kind) p.left names) p.left.loops end ds callee (object_keeps names callee p.left name kind has) p.after
functions_fit names loops end (decl.Queue name capacity channel ∷ ds) callee has kept = let p = first_kept names loops (decl.Queue name capacity channel) ds end kept in functions_fit (after_declaration (decl.Queue name capacity channel) p.left names) p.left.loops end ds callee (queue_keeps names callee p.left name capacity channel has) p.after
functions_fit names loops end (decl.Semaphore name count maximum ∷ ds) callee has kept = let p = first_kept names loops (decl.Semaphore name count maximum) ds end kept in functions_fit (after_declaration (decl.Semaphore name count maximum) p.left names) p.left.loops end ds callee (semaphore_keeps names callee p.left name count maximum has) p.after
functions_fit names loops end (decl.Function name parameters body ∷ ds) callee has kept =
    let p = first_kept names loops (decl.Function name parameters body) ds end kept in
    let this : Function = record { name = name.name; parameters = names_of parameters; body = body } in
    let final : ℕ → Need = needs_of (with_need callee this) (sorted ds).functions in
    let by_final = function_needs names loops name parameters body p.left final p.kept (final_agrees names loops end (decl.Function name parameters body ∷ ds) callee has kept) in
    let by_callee = function_needs names loops name parameters body p.left callee p.kept (final_agrees names loops loops [] callee has refl) in
    let last : final name.name ≡ with_need callee this name.name = own_kept names loops end callee p.left name parameters body ds p.kept p.after in
    let own : OwnNeed final this = record {
      same = one_need (need_of_body final (names_of parameters) body) (need_of_body callee (names_of parameters) body) p.left.peak by_final.0 by_callee.0 ∙ sym (last ∙ own_need callee this);
      small = by_final.1;
    } in
    All-cons (OwnNeed final) this (sorted ds).functions own (functions_fit (after_declaration (decl.Function name parameters body) p.left names) p.left.loops end ds (with_need callee (record { name = name.name; parameters = names_of parameters; body = body })) (function_adds names loops end callee p.left name parameters body ds p.kept has) p.after)
functions_fit names loops end (decl.Thread name parameters priority body ∷ ds) callee has kept = let p = first_kept names loops (decl.Thread name parameters priority body) ds end kept in functions_fit (after_declaration (decl.Thread name parameters priority body) p.left names) p.left.loops end ds callee (thread_keeps names callee p.left name parameters priority body has) p.after
functions_fit names loops end (decl.Start place name numbers ∷ ds) callee has kept = let p = first_kept names loops (decl.Start place name numbers) ds end kept in functions_fit (after_declaration (decl.Start place name numbers) p.left names) p.left.loops end ds callee (start_keeps names callee p.left place name numbers has) p.after

-- a program that keeps the rules fits
pub program_fits : (tree : Tree) (end : ℕ) → declarations_rule no_names 0 tree.decls ≡ Ok end → Fits (program_of tree)
program_fits tree end kept =
    let own = functions_fit no_names 0 end tree.decls (λ name. nothing) (no_peaks no_names refl) kept in
    record {
      templates = threads_fit no_names 0 end tree.decls (λ name. nothing) (no_peaks no_names refl) kept;
      functions = λ k d below. (own k d below).same;
    }

-- each function of a program that keeps the rules has a small need
pub functions_small : (tree : Tree) (end : ℕ) → declarations_rule no_names 0 tree.decls ≡ Ok end → All (λ function. IsSmall (need_of_body (callees (program_of tree)) function.parameters function.body)) (program_of tree).functions
functions_small tree end kept =
    let own = functions_fit no_names 0 end tree.decls (λ name. nothing) (no_peaks no_names refl) kept in
    λ k d below. (own k d below).small
