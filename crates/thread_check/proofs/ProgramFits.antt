-- The actions of an accepted program fit it, and its functions have no persistent loop.
use Rattle.std.proofs.Common.{◌≡◌, ℕ, true, List, [], ◌∷◌, ◌++◌, Option, Some, None, Ok, Err, refl, sym, ap, ◌∙◌, append_assoc}
use Rattle.std.specs.List.{AllByRecursion, slice_get}
use Rattle.thread_tree.specs.declared.place.At.{At}
use Rattle.thread_tree.specs.declared.place.Num.{Num}
use Rattle.thread_tree.specs.declared.block.Block.{Block}
use Rattle.thread_tree.specs.declared.block.Stmt.{Stmt}
use Rattle.thread_tree.specs.declared.tree.Decl.{Decl}
use Rattle.thread_tree.specs.declared.tree.Decl.TheVariants as decl
use Rattle.thread_tree.specs.declared.tree.Tree.{Tree}
use Rattle.thread_tree.specs.Program.{Function, sorted, program_of}
use Rattle.thread_tree.specs.Actions.{actions}
use Rattle.thread_check.specs.declared.fault.CheckFault.{CheckFault}
use Rattle.thread_check.specs.ActionLists.{actions_in, actions_of_declaration, actions_of_declarations}
use Rattle.thread_check.specs.Verdict.{Answer, ◌>>◌, in_range}
use Rattle.thread_check.specs.Scope.{Scope, no_scope}
use Rattle.thread_check.specs.Names.{Names}
use Rattle.thread_check.specs.Statements.{block_rule}
use Rattle.thread_check.specs.Declarations.{parameters_rule, declaration_rule, declarations_rule, after_declaration, with_declaration}
use Rattle.thread_check.specs.Faults.{no_names, fault_in, fault_of}
use Rattle.thread_check.specs.Fit.{IsFitAction}
use Rattle.thread_check.specs.Loopless.{IsLoopless, IsNoLoop, AreLooplessFunctions}
use Rattle.thread_check.proofs.ActionFits.{action_fits, no_loop}
use Rattle.thread_check.proofs.ActionLaws.{actions_show}
use Rattle.thread_check.proofs.FewLaws.{kept_second}
use Rattle.thread_check.proofs.KeptActions.{IsKept, all_both, all_implied, all_at, actions_kept}
use Rattle.thread_check.proofs.KeptLaws.{passes, first_kept}

-- a body that keeps the rules under these names
record IsKeptBody (names : Names) (body : Block) : Type 0 where
  pub scope : Scope
  pub end : Scope
  pub kept : block_rule names body scope ≡ Ok end

-- the body of a function does
function_body : (names : Names) (before : ℕ) (name : At) (parameters : List At) (body : Block) (scope : Scope) → declaration_rule names before (decl.Function name parameters body) ≡ Ok scope → IsKeptBody (record names { in_function = true }) body
unfolding declaration_rule
function_body names before name parameters body scope kept =
    let in_body : Names = record names { in_function = true } in
    let around : Names = with_declaration (decl.Function name parameters body) names in
    let p = passes (parameters_rule around parameters (no_scope before)) (λ start. block_rule in_body body start) scope (kept_second _ _ scope kept) in
    record { scope = p.left; end = scope; kept = p.after }

-- the body of a template does
thread_body : (names : Names) (before : ℕ) (name : At) (parameters : List At) (priority : Num) (body : Block) (scope : Scope) → declaration_rule names before (decl.Thread name parameters priority body) ≡ Ok scope → IsKeptBody (with_declaration (decl.Thread name parameters priority body) names) body
unfolding declaration_rule
thread_body names before name parameters priority body scope kept =
    let around : Names = with_declaration (decl.Thread name parameters priority body) names in
    let p = passes (parameters_rule around parameters (no_scope before)) (λ start. in_range priority 0 7 >> block_rule around body start) scope (kept_second _ _ scope kept) in
    record { scope = p.left; end = scope; kept = kept_second (in_range priority 0 7) (block_rule around body p.left) scope p.after }

-- the functions among these declarations have no persistent loop
functions_loopless : (names : Names) (before end : ℕ) (ds : List Decl) → declarations_rule names before ds ≡ Ok end → AllByRecursion (λ (function : Function). IsLoopless function.body) (sorted ds).functions
functions_loopless names before end [] kept = tt
functions_loopless names before end (decl.Kind name fields ∷ ds) kept = let p = first_kept names before (decl.Kind name fields) ds end kept in functions_loopless (after_declaration (decl.Kind name fields) p.left names) p.left.loops end ds p.after
functions_loopless names before end (decl.Object name kind ∷ ds) kept = let p = first_kept names before (decl.Object name kind) ds end kept in functions_loopless (after_declaration (decl.Object name kind) p.left names) p.left.loops end ds p.after
functions_loopless names before end (decl.Queue name capacity channel ∷ ds) kept = let p = first_kept names before (decl.Queue name capacity channel) ds end kept in functions_loopless (after_declaration (decl.Queue name capacity channel) p.left names) p.left.loops end ds p.after
functions_loopless names before end (decl.Semaphore name count maximum ∷ ds) kept = let p = first_kept names before (decl.Semaphore name count maximum) ds end kept in functions_loopless (after_declaration (decl.Semaphore name count maximum) p.left names) p.left.loops end ds p.after
functions_loopless names before end (decl.Function name parameters body ∷ ds) kept =
    let p = first_kept names before (decl.Function name parameters body) ds end kept in
    let in_body : Names = record names { in_function = true } in
    let h = function_body names before name parameters body p.left p.kept in
    (all_implied (IsKept in_body) IsNoLoop (no_loop in_body refl) (actions_in body) (actions_kept in_body body h.scope h.end h.kept), functions_loopless (after_declaration (decl.Function name parameters body) p.left names) p.left.loops end ds p.after)
functions_loopless names before end (decl.Thread name parameters priority body ∷ ds) kept = let p = first_kept names before (decl.Thread name parameters priority body) ds end kept in functions_loopless (after_declaration (decl.Thread name parameters priority body) p.left names) p.left.loops end ds p.after
functions_loopless names before end (decl.Start place name numbers ∷ ds) kept = let p = first_kept names before (decl.Start place name numbers) ds end kept in functions_loopless (after_declaration (decl.Start place name numbers) p.left names) p.left.loops end ds p.after

module _ (tree : Tree) where
  abbrev Fits : Stmt → Type 0
  Fits s = IsFitAction (program_of tree) s

  -- the actions of a body fit
  body_fits : (names : Names) (more : List Decl) (body : Block) → names.declarations ++ more ≡ tree.decls → IsKeptBody names body → AllByRecursion Fits (actions_in body)
  body_fits names more body all h = all_implied (IsKept names) Fits (action_fits tree names more all) (actions_in body) (actions_kept names body h.scope h.end h.kept)

  -- the actions of a declaration fit
  declaration_fits : (names : Names) (before : ℕ) (d : Decl) (ds : List Decl) (scope : Scope) → names.declarations ++ d ∷ ds ≡ tree.decls → declaration_rule names before d ≡ Ok scope → AllByRecursion Fits (actions_of_declaration d)
  declaration_fits names before (decl.Kind name fields) ds scope all kept = tt
  declaration_fits names before (decl.Object name kind) ds scope all kept = tt
  declaration_fits names before (decl.Queue name capacity channel) ds scope all kept = tt
  declaration_fits names before (decl.Semaphore name count maximum) ds scope all kept = tt
  declaration_fits names before (decl.Function name parameters body) ds scope all kept =
      body_fits (record names { in_function = true }) (decl.Function name parameters body ∷ ds) body all (function_body names before name parameters body scope kept)
  declaration_fits names before (decl.Thread name parameters priority body) ds scope all kept =
      body_fits (with_declaration (decl.Thread name parameters priority body) names) ds body (append_assoc names.declarations (decl.Thread name parameters priority body ∷ []) ds ∙ all) (thread_body names before name parameters priority body scope kept)
  declaration_fits names before (decl.Start place name numbers) ds scope all kept = tt

  -- the actions of declarations fit
  declarations_fit : (names : Names) (before end : ℕ) (ds : List Decl) → names.declarations ++ ds ≡ tree.decls → declarations_rule names before ds ≡ Ok end → AllByRecursion Fits (actions_of_declarations ds)
  declarations_fit names before end [] all kept = tt
  declarations_fit names before end (d ∷ ds) all kept =
      let p = first_kept names before d ds end kept in
      all_both Fits (actions_of_declaration d) (actions_of_declarations ds) (declaration_fits names before d ds p.left all p.kept)
      (declarations_fit (after_declaration d p.left names) p.left.loops end ds (append_assoc names.declarations (d ∷ []) ds ∙ all) p.after)

-- an answer without a fault
answered : {A : Type 0} (answer : Answer A) → fault_in answer ≡ None → (a : A) × (answer ≡ Ok a)
answered (Ok a) e = (a, refl)
answered (Err fault) e = absurd (let f : ◌≡◌ {A = Option CheckFault} (Some fault) None = e in cc)

-- each action of an accepted program fits it
pub fit : (tree : Tree) → fault_of tree ≡ None → (number : ℕ) (s : Stmt) → slice_get (actions (program_of tree)) number ≡ Some s → IsFitAction (program_of tree) s
unfolding fault_of
fit tree e number s there =
    let kept = answered (declarations_rule no_names 0 tree.decls) e in
    all_at (Fits tree) (actions_of_declarations tree.decls) number (declarations_fit tree no_names 0 kept.0 tree.decls refl kept.1) s (sym (ap (λ l. slice_get l number) (actions_show tree)) ∙ there)

-- no function of an accepted program has a persistent loop
pub loopless : (tree : Tree) → fault_of tree ≡ None → AreLooplessFunctions (program_of tree)
unfolding fault_of
loopless tree e =
    let kept = answered (declarations_rule no_names 0 tree.decls) e in functions_loopless no_names 0 kept.0 tree.decls kept.1
