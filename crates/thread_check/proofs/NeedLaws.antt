-- The needs of a program's functions and threads are what the check counted.
use Rattle.std.proofs.Common.{◌≡◌, ℕ, ◌+◌, ◌≤◌, Bool, true, false, cond, List, [], ◌∷◌, ◌++◌, length, Option, Some, None, is_some, option_map, if◌then◌else◌, Ok, Err, refl, sym, ap, ◌∙◌, subst, arith, length-append, ⊎_elim}
use Rattle.std.proofs.lemmas.Bool.{eq-eqb}
use Rattle.std.proofs.lemmas.Bool.Decides.{eqb_tells}
use Rattle.std.proofs.lemmas.List.{length-map}
use Rattle.std.proofs.lemmas.List.Folds.{find-append}
use Rattle.std.specs.Option.{option_or}
use Rattle.std.specs.List.{find}
use Rattle.thread_tree.specs.declared.place.At.{At}
use Rattle.thread_tree.specs.declared.block.Block.{Block}
use Rattle.thread_tree.specs.declared.tree.Decl.{Decl}
use Rattle.thread_tree.specs.declared.tree.Decl.TheVariants as decl
use Rattle.thread_tree.specs.Program.{Function, sorted, names_of}
use Rattle.thread_tree.specs.Need.{Need, nothing, need_of_body, with_need, needs_of, IsSmall}
use Rattle.thread_check.specs.declared.fault.CheckFault.TheVariants.{TwiceNamed}
use Rattle.thread_check.specs.declared.sort.Sort.TheVariants as sort
use Rattle.thread_check.specs.declared.peak.Peak.{Peak}
use Rattle.thread_check.specs.Verdict.{fine}
use Rattle.thread_check.specs.Scope.{Scope, no_scope, with_local}
use Rattle.thread_check.specs.Names.{Names, declares, declaration_of, sort_of, sort_of_declaration, peak_of}
use Rattle.thread_check.specs.Uses.{fresh}
use Rattle.thread_check.specs.Statements.{block_rule}
use Rattle.thread_check.specs.Declarations.{declared, parameter_declared, parameters_rule, declaration_rule, declarations_rule, after_declaration, with_function}
use Rattle.thread_check.proofs.FewLaws.{kept_first, kept_second, within_limit-kept}
use Rattle.thread_check.proofs.KeptLaws.{first_kept}
use Rattle.thread_check.proofs.PeakLaws.{IsCounted}
use Rattle.thread_check.proofs.BodyPeaks.{Agrees, body_adds}

-- a scope of parameters alone
record IsOfParameters (scope : Scope) : Type 0 where
  blocks : scope.blocks ≡ 0
  peak_locals : scope.peak.locals ≡ length scope.locals
  peak_blocks : scope.peak.blocks ≡ 0
  few : length scope.locals ≤ 8

-- parameters leave a scope of parameters alone
parameters_leave : (names : Names) (ats : List At) (scope end : Scope) → parameters_rule names ats scope ≡ Ok end → IsOfParameters scope → IsOfParameters end × (length end.locals ≡ length scope.locals + length ats)
unfolding parameter_declared
parameters_leave names [] scope end kept only =
    let e : scope ≡ end = cc in
    subst (λ (s : Scope). IsOfParameters s × (length s.locals ≡ length scope.locals + 0)) e (only, omega arith)
parameters_leave names (at ∷ ats) scope end kept only =
    let this : length scope.locals + 1 ≤ 8 = within_limit-kept _ _ _ _ (kept_second _ _ tt (kept_first _ _ end kept)) in
    let long : length (scope.locals ++ at.name ∷ []) ≡ length scope.locals + 1 = length-append scope.locals (at.name ∷ []) in
    let more : IsOfParameters (with_local at.name scope) = record {
      blocks = only.blocks;
      peak_locals = omega (arith, only.peak_locals);
      peak_blocks = omega (arith, only.peak_blocks);
      few = omega arith;
    } in
    let rest = parameters_leave names ats (with_local at.name scope) end (kept_second _ _ end kept) more in
    (rest.0, omega (arith, rest.1))

-- no parameters yet
none_yet : (loops : ℕ) → IsOfParameters (no_scope loops)
none_yet loops = record { blocks = refl; peak_locals = refl; peak_blocks = refl; few = omega arith }

-- a scope of parameters is counted
counted_parameters : (scope : Scope) → IsOfParameters scope → IsCounted scope
counted_parameters scope only = record {
  locals = omega (arith, only.peak_locals);
  blocks = omega (arith, only.blocks);
  most_locals = omega (arith, only.peak_locals, only.few);
  most_blocks = omega (arith, only.peak_blocks);
}

-- a peak is a need
pub record IsNeed (need : Need) (peak : Peak) : Type 0 where
  pub locals : need.locals ≡ peak.locals
  pub blocks : need.blocks ≡ peak.blocks

-- a body's need is its peak
pub body_needs : (with names : Names) (callee : ℕ → Need) (loops : ℕ) (ats : List At) (body : Block) (start end : Scope) → parameters_rule with ats (no_scope loops) ≡ Ok start → block_rule names body start ≡ Ok end → Agrees names callee → IsNeed (need_of_body callee (names_of ats) body) end.peak × IsSmall (need_of_body callee (names_of ats) body)
body_needs with names callee loops ats body start end first rest agrees =
    let only = parameters_leave with ats (no_scope loops) start first (none_yet loops) in
    let after = body_adds names callee agrees body start end (counted_parameters start only.0) rest in
    let long : length (names_of ats) ≡ length ats = length-map ats (λ at. at.name) in
    let is_need : IsNeed (need_of_body callee (names_of ats) body) end.peak = record {
      locals = omega (arith, after.peak_locals, only.0.peak_locals, only.1);
      blocks = omega (arith, after.peak_blocks, only.0.peak_blocks, only.0.blocks);
    } in
    (is_need, record { locals = omega (arith, is_need.locals, after.counted.most_locals); blocks = omega (arith, is_need.blocks, after.counted.most_blocks) })

-- a choice that is no fault took what isn't in scope
fresh-choice : (b : Bool) (other : Option Decl) (at : At) → (if is_some (if b then Some sort.Local else option_map sort_of_declaration other) then Err (TwiceNamed at.place) else fine) ≡ Ok tt → other ≡ None
fresh-choice true other at kept = cc
fresh-choice false None at kept = refl
fresh-choice false (Some d) at kept = cc

-- a fresh name isn't declared
fresh-undeclared : (names : Names) (loops : ℕ) (at : At) → fresh names (no_scope loops) at ≡ Ok tt → declaration_of names at.name ≡ None
unfolding fresh sort_of
fresh-undeclared names loops at kept = fresh-choice false (declaration_of names at.name) at kept

-- a name that is declared stays so
stays_declared : (names : Names) (d e : Decl) (scope : Scope) (name : ℕ) → declaration_of names name ≡ Some d → declaration_of (after_declaration e scope names) name ≡ Some d
stays_declared names d e scope name there =
    find-append (declares name) names.declarations (e ∷ []) ∙ ap (λ o. option_or o (find (declares name) (e ∷ []))) there

-- a function of another name changes no need
other_need : (callee : ℕ → Need) (function : Function) (name : ℕ) → (function.name ≡ name → ⊥) → with_need callee function name ≡ callee name
other_need callee function name other =
    ⊎_elim (λ yes. absurd (other yes.1)) (λ no. ap (λ b. cond b (need_of_body callee function.parameters function.body) (callee name)) no.0) (eqb_tells function.name name)

-- a function's own need
pub own_need : (callee : ℕ → Need) (function : Function) → with_need callee function function.name ≡ need_of_body callee function.parameters function.body
own_need callee function =
    ⊎_elim (λ yes. ap (λ b. cond b (need_of_body callee function.parameters function.body) (callee function.name)) yes.0) (λ no. absurd (no.1 refl)) (eqb_tells function.name function.name)

-- a function that is kept has a fresh name
pub function-fresh : (names : Names) (loops : ℕ) (name : At) (parameters : List At) (body : Block) (scope : Scope) → declaration_rule names loops (decl.Function name parameters body) ≡ Ok scope → declaration_of names name.name ≡ None
unfolding declaration_rule declared
function-fresh names loops name parameters body scope kept = fresh-undeclared names 0 name (kept_first _ _ tt (kept_first _ _ scope kept))

-- what is declared isn't undeclared
different : (a b : Option Decl) (d : Decl) → a ≡ None → a ≡ b → b ≡ Some d → ⊥
different a b d none same there = cc

-- the need of a declared name isn't changed by later declarations
pub keeps_needs : (names : Names) (loops end : ℕ) (ds : List Decl) (callee : ℕ → Need) (name : ℕ) (d : Decl) → declarations_rule names loops ds ≡ Ok end → declaration_of names name ≡ Some d → needs_of callee (sorted ds).functions name ≡ callee name
keeps_needs names loops end [] callee name d kept there = refl
keeps_needs names loops end (decl.Kind name fields ∷ ds) callee n d kept there = let p = first_kept names loops (decl.Kind name fields) ds end kept in keeps_needs (after_declaration (decl.Kind name fields) p.left names) p.left.loops end ds callee n d p.after (stays_declared names d (decl.Kind name fields) p.left n there)
keeps_needs names loops end (decl.Object name kind ∷ ds) callee n d kept there = let p = first_kept names loops (decl.Object name kind) ds end kept in keeps_needs (after_declaration (decl.Object name kind) p.left names) p.left.loops end ds callee n d p.after (stays_declared names d (decl.Object name kind) p.left n there)
keeps_needs names loops end (decl.Queue name capacity channel ∷ ds) callee n d kept there = let p = first_kept names loops (decl.Queue name capacity channel) ds end kept in keeps_needs (after_declaration (decl.Queue name capacity channel) p.left names) p.left.loops end ds callee n d p.after (stays_declared names d (decl.Queue name capacity channel) p.left n there)
keeps_needs names loops end (decl.Semaphore name count maximum ∷ ds) callee n d kept there = let p = first_kept names loops (decl.Semaphore name count maximum) ds end kept in keeps_needs (after_declaration (decl.Semaphore name count maximum) p.left names) p.left.loops end ds callee n d p.after (stays_declared names d (decl.Semaphore name count maximum) p.left n there)
keeps_needs names loops end (decl.Function name parameters body ∷ ds) callee n d kept there =
    let p = first_kept names loops (decl.Function name parameters body) ds end kept in
    let this : Function = record { name = name.name; parameters = names_of parameters; body = body } in
    let none : declaration_of names name.name ≡ None = function-fresh names loops name parameters body p.left p.kept in
    keeps_needs (after_declaration (decl.Function name parameters body) p.left names) p.left.loops end ds (with_need callee this) n d p.after (stays_declared names d (decl.Function name parameters body) p.left n there)
    ∙ other_need callee this n (λ same. absurd (different _ _ d none (ap (declaration_of names) same) there))
keeps_needs names loops end (decl.Thread name parameters priority body ∷ ds) callee n d kept there = let p = first_kept names loops (decl.Thread name parameters priority body) ds end kept in keeps_needs (after_declaration (decl.Thread name parameters priority body) p.left names) p.left.loops end ds callee n d p.after (stays_declared names d (decl.Thread name parameters priority body) p.left n there)
keeps_needs names loops end (decl.Start place name numbers ∷ ds) callee n d kept there = let p = first_kept names loops (decl.Start place name numbers) ds end kept in keeps_needs (after_declaration (decl.Start place name numbers) p.left names) p.left.loops end ds callee n d p.after (stays_declared names d (decl.Start place name numbers) p.left n there)

-- the needs by name are the peaks of the functions so far
pub HasPeaks : Names → (ℕ → Need) → Type 0
HasPeaks names callee = (name : ℕ) → IsNeed (callee name) (peak_of names name)

-- no function has a need
pub no_peaks : (names : Names) → names.functions ≡ [] → HasPeaks names (λ name. nothing)
unfolding HasPeaks peak_of
no_peaks names none = λ name. rw none (record { locals = refl; blocks = refl })

-- a declaration that is no function keeps the peaks
pub same_peaks : (names after : Names) (callee : ℕ → Need) → after.functions ≡ names.functions → HasPeaks names callee → HasPeaks after callee
unfolding HasPeaks peak_of
same_peaks names after callee same has = λ name. rw same (has name)

-- a function has the peak of its body
pub more_peaks : (names : Names) (callee : ℕ → Need) (function : Function) (d : Decl) (scope : Scope) → with_function d scope.peak names.functions ≡ record { name = function.name; peak = scope.peak } ∷ names.functions → IsNeed (need_of_body callee function.parameters function.body) scope.peak → HasPeaks names callee → HasPeaks (after_declaration d scope names) (with_need callee function)
unfolding HasPeaks peak_of
more_peaks names callee function d scope added need has = λ name. rw added (⊎_elim (λ yes. rw yes.0 need) (λ no. rw no.0 (has name)) (eqb_tells function.name name))

-- what is found as a function is declared
found : (o : Option Decl) → option_map sort_of_declaration o ≡ Some sort.Function → (d : Decl) × (o ≡ Some d)
found None e = absurd (cc)
found (Some d) e = (d, refl)

-- the needs of all functions agree with the peaks of those so far
pub final_agrees : (names : Names) (loops end : ℕ) (ds : List Decl) (callee : ℕ → Need) → HasPeaks names callee → declarations_rule names loops ds ≡ Ok end → Agrees names (needs_of callee (sorted ds).functions)
unfolding HasPeaks
final_agrees names loops end ds callee has kept = λ name is_function.
    let there = found (declaration_of names name) is_function in
    let same = keeps_needs names loops end ds callee name there.0 kept there.1 in
    rw same ((has name).locals, (has name).blocks)

-- agreement doesn't turn on the body that it is asked for
pub agrees_elsewhere : (names other : Names) (callee : ℕ → Need) → other.declarations ≡ names.declarations → other.functions ≡ names.functions → Agrees names callee → Agrees other callee
unfolding peak_of
agrees_elsewhere names other callee same_declarations same_functions agrees = rw (same_declarations, same_functions) agrees

-- two needs of one peak are one
pub one_need : (a b : Need) (peak : Peak) → IsNeed a peak → IsNeed b peak → a ≡ b
one_need a b peak x y =
    let locals : a.locals ≡ b.locals = x.locals ∙ sym y.locals in
    let blocks : a.blocks ≡ b.blocks = x.blocks ∙ sym y.blocks in
    ap (λ l. record { locals = l; blocks = a.blocks }) locals ∙ ap (λ m. record { locals = b.locals; blocks = m }) blocks

-- a fresh name is declared after its declaration
pub declared_last : (names : Names) (d : Decl) (scope : Scope) (name : ℕ) → declaration_of names name ≡ None → declares name d ≡ true → declaration_of (after_declaration d scope names) name ≡ Some d
declared_last names d scope name none this =
    find-append (declares name) names.declarations (d ∷ []) ∙ ap (λ o. option_or o (find (declares name) (d ∷ []))) none ∙ ap (λ b. cond b (Some d) None) this

-- a function declares its name
pub declares-function : (name : At) (parameters : List At) (body : Block) → declares name.name (decl.Function name parameters body) ≡ true
unfolding declares
declares-function name parameters body = eq-eqb name.name name.name refl
