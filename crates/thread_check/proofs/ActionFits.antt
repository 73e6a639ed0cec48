-- An action that keeps the rules fits its program.
use Rattle.std.proofs.Common.{◌≡◌, ℕ, ◌+◌, ◌-◌, ◌==◌, ◌≤◌, Bool, true, false, cond, not, List, [], ◌∷◌, ◌++◌, length, None, IsSome, IsSomeAnd, Ok, Err, refl, sym, ap, ◌∙◌, subst, arith}
use Rattle.std.proofs.lemmas.Bool.{eqb-true}
use Rattle.std.proofs.lemmas.Bool.Decides.{nat_tests}
use Rattle.std.specs.List.{AllByRecursion, find}
use Rattle.std.specs.Option.{option_map_or}
use Rattle.std.specs.Prelude.{nat_le}
use Rattle.thread_tree.specs.declared.place.Place.{Place}
use Rattle.thread_tree.specs.declared.place.At.{At}
use Rattle.thread_tree.specs.declared.action.Call.{Call}
use Rattle.thread_tree.specs.declared.action.Item.{Item}
use Rattle.thread_tree.specs.declared.action.Item.TheVariants as item
use Rattle.thread_tree.specs.declared.block.Block.{Block}
use Rattle.thread_tree.specs.declared.block.Stmt.{Stmt, out-Stmt}
use Rattle.thread_tree.specs.declared.block.Stmt.TheOpen.{Stmt-F}
use Rattle.thread_tree.specs.declared.block.Stmt.TheOpen as stmt
use Rattle.thread_tree.specs.declared.expr.Expr.{Expr}
use Rattle.thread_tree.specs.declared.needed.Needed.{Needed}
use Rattle.thread_tree.specs.declared.needed.Needed.TheVariants as needed
use Rattle.thread_tree.specs.declared.transaction.TBlock.{TBlock}
use Rattle.thread_tree.specs.declared.tree.Decl.{Decl}
use Rattle.thread_tree.specs.declared.tree.Tree.{Tree}
use Rattle.thread_tree.specs.Kinds.{result_count, kind_of_call}
use Rattle.thread_tree.specs.LocalState.{loop_block}
use Rattle.thread_tree.specs.Pieces.{Piece, named, valued, whom, itemized, applied, pieces}
use Rattle.thread_tree.specs.Program.{Queue, Semaphore, Template, sorted, program_of}
use Rattle.thread_check.specs.declared.fault.Kind.TheVariants as kind
use Rattle.thread_check.specs.declared.fault.CheckFault.TheVariants.{NotAllowedHere, WrongCount}
use Rattle.thread_check.specs.declared.sort.Sort.TheVariants as sort
use Rattle.thread_check.specs.Verdict.{Verdict, ◌>>◌, same_count, within_limit, stands_at}
use Rattle.thread_check.specs.Scope.{Scope}
use Rattle.thread_check.specs.Names.{Names, arity, arity_of_declaration, declaration_of}
use Rattle.thread_check.specs.Uses.{used, same_sort}
use Rattle.thread_check.specs.Expressions.{expression, expressions}
use Rattle.thread_check.specs.Calls.{takers, further_takers, counted_item, item_rule, items_rule, sort_of, piece_rule, pieces_rule, call_rule}
use Rattle.thread_check.specs.Blocks.{allowed}
use Rattle.thread_check.specs.Transactions.{Transaction, tblock_rule}
use Rattle.thread_check.specs.Statements.{atomic_rule, statement_parts}
use Rattle.thread_check.specs.Fit.{IsDeclared, IsFitPiece, IsFitCall, IsFitBlock, IsFitLayer, IsFitAction}
use Rattle.thread_check.specs.Loopless.{IsNoLoop}
use Rattle.thread_check.proofs.DeclaredLaws.{declared_as, of_sort, queue_there, semaphore_there, template_there}
use Rattle.thread_check.proofs.FewLaws.{kept_first, kept_second, within_limit-kept}
use Rattle.thread_check.proofs.GiveLaws.{gives, is_wanted}
use Rattle.thread_check.proofs.KeptActions.{IsKept}
use Rattle.thread_check.proofs.KeptLaws.{passes}
use Rattle.thread_check.proofs.StatementLaws.{statement_rule_out}

-- an item that isn't one too many
counted : (place : Place) (count : ℕ) (v : Verdict) → counted_item place count v ≡ Ok tt → count ≤ 8
unfolding counted_item
counted place count (Ok u) kept = within_limit-kept place kind.Items 8 count kept
counted place count (Err fault) kept = go (stands_at place fault) kept
  where
    go : (b : Bool) → ◌≡◌ {A = Verdict} (cond b (Err fault) (within_limit place kind.Items 8 count >> Err fault)) (Ok tt) → count ≤ 8
    go true e = absurd (cc)
    go false e = within_limit-kept place kind.Items 8 count (kept_first (within_limit place kind.Items 8 count) (Err fault) tt e)

item_counted : (names : Names) (scope : Scope) (count : ℕ) (i : Item) → item_rule names scope count i ≡ Ok tt → count ≤ 8
unfolding item_rule
item_counted names scope count (item.Text place text) kept = within_limit-kept place kind.Items 8 count kept
item_counted names scope count (item.Value place e) kept = counted place count (expression names scope e) kept

-- the items of a print behind so many
items_counted : (names : Names) (scope : Scope) (before : ℕ) (items : List Item) → before ≤ 8 → items_rule names scope before items ≡ Ok tt → before + length items ≤ 8
items_counted names scope before [] few kept = omega arith
items_counted names scope before (i ∷ items) few kept =
    let this : before + 1 ≤ 8 = item_counted names scope (before + 1) i (kept_first (item_rule names scope (before + 1) i) (items_rule names scope (before + 1) items) tt kept) in
    let rest : before + 1 + length items ≤ 8 = items_counted names scope (before + 1) items this (kept_second (item_rule names scope (before + 1) i) (items_rule names scope (before + 1) items) tt kept) in
    omega arith

-- the names after `->` fit where there are some
takers_fit : (names : Names) (scope : Scope) (fits : Bool) (to : List At) → takers names scope fits to ≡ Ok tt → 1 ≤ length to → fits ≡ true
takers_fit names scope fits [] kept some = absurd (omega arith)
takers_fit names scope true (at ∷ ats) kept some = refl
takers_fit names scope false (at ∷ ats) kept some =
    absurd (let f : ◌≡◌ {A = Verdict} (Err (WrongCount at.place)) (Ok tt) = kept_first _ (further_takers names scope (at ∷ []) ats) tt (kept_second (used names scope sort.Local at) _ tt kept) in cc)

-- an `atomic` block has few names
names_few : (names : Names) (scope : Scope) (to : List At) → takers names scope (nat_le (length to) 4) to ≡ Ok tt → length to ≤ 4
names_few names scope [] kept = omega arith
names_few names scope (at ∷ ats) kept =
    let fits : nat_le (length (at ∷ ats)) 4 ≡ true = takers_fit names scope (nat_le (length (at ∷ ats)) 4) (at ∷ ats) kept (omega arith) in grind (arith, nat_tests)

-- an `atomic` block fits
block_fits : (names : Names) (to : List At) (body : TBlock) (scope end : Scope) → atomic_rule names to body scope ≡ Ok end → IsFitBlock to body
unfolding atomic_rule
block_fits names to body scope end kept =
    let t : Transaction = record { names = names; outside = scope.locals; given = length to - 1 } in
    let inner : Scope = record scope { in_loop = false } in
    let p = passes (tblock_rule t body inner) (λ inside. Ok (record scope { peak = inside.peak })) end (kept_second (takers names scope (nat_le (length to) 4) to) _ end kept) in
    record {
      few = names_few names scope to (kept_first (takers names scope (nat_le (length to) 4) to) _ end kept);
      gives = gives t body inner p.left p.kept;
    }

-- the names in scope are the first of a tree
module _ (tree : Tree) (names : Names) (more : List Decl) (all : names.declarations ++ more ≡ tree.decls) where
  abbrev whole : List Decl
  whole = names.declarations ++ more

  -- a name that is used as what it has to be
  name_declared : (scope : Scope) (wanted : Needed) (at : At) → used names scope (sort_of wanted) at ≡ Ok tt → IsDeclared (program_of tree) wanted at.name
  unfolding same_sort
  name_declared scope needed.Queue at kept =
      let of = of_sort sort.Queue (declaration_of names at.name) (declared_as names scope sort.Queue at refl kept) in
      subst (λ ds. IsSome (find (λ (queue : Queue). queue.name == at.name) (sorted ds).queues)) all (queue_there names.declarations more at.name of.it of.there of.of_sort)
  name_declared scope needed.Semaphore at kept =
      let of = of_sort sort.Semaphore (declaration_of names at.name) (declared_as names scope sort.Semaphore at refl kept) in
      subst (λ ds. IsSome (find (λ (semaphore : Semaphore). semaphore.name == at.name) (sorted ds).semaphores)) all (semaphore_there names.declarations more at.name of.it of.there of.of_sort)

  -- a template that is applied to arguments
  template_fits : (scope : Scope) (template : At) (arguments : List Expr) → piece_rule names scope (applied template arguments) ≡ Ok tt → IsFitPiece (program_of tree) (applied template arguments)
  unfolding arity same_sort
  template_fits scope template arguments kept =
      let of = of_sort sort.Thread (declaration_of names template.name) (declared_as names scope sort.Thread template refl (kept_first (used names scope sort.Thread template) _ tt kept)) in
      let t = template_there names.declarations more template.name of.it of.there of.of_sort in
      let known : arity names template.name ≡ arity_of_declaration of.it = ap (λ o. option_map_or arity_of_declaration o 0) of.there in
      let count : length arguments ≡ arity names template.name = eqb-true (length arguments) (arity names template.name) (is_wanted template.place (arity names template.name) (length arguments) (kept_first (same_count template.place (arity names template.name) (length arguments)) (expressions names scope arguments) tt (kept_second (used names scope sort.Thread template) _ tt kept))) in
      let fits : IsSomeAnd (find (λ (t : Template). t.name == template.name) (sorted whole).templates) (λ t. length t.parameters ≡ length arguments) = subst (λ o. IsSomeAnd o (λ t. length t.parameters ≡ length arguments)) (sym t.there) (t.parameters ∙ sym known ∙ sym count) in
      subst (λ ds. IsSomeAnd (find (λ (t : Template). t.name == template.name) (sorted ds).templates) (λ t. length t.parameters ≡ length arguments)) all fits

  piece_fits : (scope : Scope) (piece : Piece) → piece_rule names scope piece ≡ Ok tt → IsFitPiece (program_of tree) piece
  piece_fits scope (named wanted at) kept = name_declared scope wanted at kept
  piece_fits scope (valued e) kept = tt
  piece_fits scope (whom who) kept = tt
  piece_fits scope (itemized items) kept = let few : 0 + length items ≤ 8 = items_counted names scope 0 items (omega arith) kept in omega arith
  piece_fits scope (applied template arguments) kept = template_fits scope template arguments kept

  pieces_fit : (scope : Scope) (ps : List Piece) → pieces_rule names scope ps ≡ Ok tt → AllByRecursion (IsFitPiece (program_of tree)) ps
  pieces_fit scope [] kept = tt
  pieces_fit scope (p ∷ []) kept = (piece_fits scope p kept, tt)
  pieces_fit scope (p ∷ q ∷ ps) kept =
      (piece_fits scope p (kept_first (piece_rule names scope p) (pieces_rule names scope (q ∷ ps)) tt kept), pieces_fit scope (q ∷ ps) (kept_second (piece_rule names scope p) (pieces_rule names scope (q ∷ ps)) tt kept))

  call_fits : (scope end : Scope) (c : Call) (to : List At) → call_rule names scope c >> takers names scope (length to == result_count (kind_of_call c) 0) to >> Ok scope ≡ Ok end → IsFitCall (program_of tree) c to
  unfolding call_rule
  call_fits scope end c to kept = record {
    pieces = pieces_fit scope (pieces c) (kept_first (call_rule names scope c) _ end kept);
    names = λ some. eqb-true (length to) (result_count (kind_of_call c) 0) (takers_fit names scope (length to == result_count (kind_of_call c) 0) to (kept_first (takers names scope (length to == result_count (kind_of_call c) 0) to) (Ok scope) end (kept_second (call_rule names scope c) _ end kept)) some);
  }

  layer_fits : (x : Stmt-F Stmt Block) (scope end : Scope) → statement_parts names x scope ≡ Ok end → IsFitLayer (program_of tree) x
  layer_fits (stmt.Let at e) scope end kept = tt
  layer_fits (stmt.Set at e) scope end kept = tt
  layer_fits (stmt.Apply to callee arguments) scope end kept = tt
  layer_fits (stmt.If e block other) scope end kept = tt
  layer_fits (stmt.While e block) scope end kept = tt
  layer_fits (stmt.Ploop place block) scope end kept = tt
  layer_fits (stmt.Break place) scope end kept = tt
  layer_fits (stmt.Return place value) scope end kept = tt
  layer_fits (stmt.Atomic place to body) scope end kept = block_fits names to body scope end kept
  layer_fits (stmt.Call place c to) scope end kept = call_fits scope end c to kept

  -- an action that keeps the rules fits
  pub action_fits : (s : Stmt) → IsKept names s → IsFitAction (program_of tree) s
  action_fits s h = layer_fits (out-Stmt s) h.scope h.end (sym (statement_rule_out names s h.scope) ∙ h.kept)

-- a word that is allowed
is_allowed : (place : Place) (holds : Bool) → allowed place holds ≡ Ok tt → holds ≡ true
unfolding allowed
is_allowed place true kept = refl
is_allowed place false kept = absurd (let f : ◌≡◌ {A = Verdict} (Err (NotAllowedHere place)) (Ok tt) = kept in cc)

-- a statement of a function that keeps the rules is no persistent loop
layer_no_loop : (names : Names) → names.in_function ≡ true → (x : Stmt-F Stmt Block) (scope end : Scope) → statement_parts names x scope ≡ Ok end → loop_block x ≡ None
layer_no_loop names inside (stmt.Let at e) scope end kept = refl
layer_no_loop names inside (stmt.Set at e) scope end kept = refl
layer_no_loop names inside (stmt.Apply to callee arguments) scope end kept = refl
layer_no_loop names inside (stmt.If e block other) scope end kept = refl
layer_no_loop names inside (stmt.While e block) scope end kept = refl
layer_no_loop names inside (stmt.Ploop place block) scope end kept =
    let outside : not names.in_function ≡ true = is_allowed place (not names.in_function) (kept_first (allowed place (not names.in_function)) _ end kept) in
    absurd (let f : ◌≡◌ {A = Bool} false true = sym (ap not inside) ∙ outside in cc)
layer_no_loop names inside (stmt.Break place) scope end kept = refl
layer_no_loop names inside (stmt.Return place value) scope end kept = refl
layer_no_loop names inside (stmt.Atomic place to body) scope end kept = refl
layer_no_loop names inside (stmt.Call place c to) scope end kept = refl

pub no_loop : (names : Names) → names.in_function ≡ true → (s : Stmt) → IsKept names s → IsNoLoop s
no_loop names inside s h = layer_no_loop names inside (out-Stmt s) h.scope h.end (sym (statement_rule_out names s h.scope) ∙ h.kept)
