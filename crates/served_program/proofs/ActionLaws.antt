-- The actions of a served program are served, and none of them is a persistent loop.
use Rattle.std.proofs.Common.{◌≡◌, ℕ, true, false, ◌&&◌, ◌==◌, List, [], ◌∷◌, length, map, filter, Some, None, is_some, slice_get, refl, sym, ap, subst, ◌∙◌}
use Rattle.std.specs.Prelude.{IsTrue}
use Rattle.std.specs.List.{AllByRecursion, list_all}
use Rattle.std.proofs.lemmas.Bool.{and_parts, cond-false, false≢true}
use Rattle.thread_tree.specs.declared.block.Block.{Block, Block-F, roll-Block, map-Block, out-roll-Block}
use Rattle.thread_tree.specs.declared.block.Stmt.{Stmt, Stmt-F, roll-Stmt, map-Stmt, out-Stmt, out-roll-Stmt}
use Rattle.thread_tree.specs.declared.block.Stmt.TheOpen as stmt
use Rattle.thread_tree.specs.declared.tree.Decl.{Decl}
use Rattle.thread_tree.specs.declared.tree.Decl.TheVariants as decl
use Rattle.thread_tree.specs.declared.tree.Tree.{Tree}
use Rattle.thread_tree.specs.Program.{program_of}
use Rattle.thread_tree.specs.LocalState.{loop_block}
use Rattle.thread_tree.specs.Ahead.{ahead}
use Rattle.thread_tree.specs.Ahead.Arrival.{AtAction}
use Rattle.thread_tree.specs.Actions.{Spot, is_loop, spots, actions, loops}
use Rattle.thread_tree.specs.Relive.{Start, Record}
use Rattle.thread_check.specs.ActionLists.{actions_layer, actions_of, actions_in, actions_in_turn, actions_of_declarations}
use Rattle.thread_check.proofs.Callers.{actions_of_out, actions_in_out, actions_show, each_block, all_both, all_at}
use Rattle.kernel_model.specs.Kernel.{Thread}
use Rattle.kernel_model.specs.Relived.{IsRelived}
use Rattle.kernel_model.proofs.Callers.{relived-arrival}
use Rattle.served_program.specs.Served.{is_served_layer, is_served_stmt, is_served_block, is_served_action, is_served_decl, is_served}
use Rattle.served_program.proofs.ServedLaws.{is_served_stmt_out, is_served_block_out}
use Rattle.served_program.proofs.DeclarationLaws.{served_parts}

-- an action that is served
abbrev IsServedAction : Stmt → Type 0
IsServedAction s = IsTrue (is_served_action (out-Stmt s))

abbrev AreServed : List Stmt → Type 0
AreServed ss = AllByRecursion IsServedAction ss

-- a served statement has served actions
abbrev Has : Stmt → Type 0
Has s = IsTrue (is_served_stmt s) → AreServed (actions_of s)

-- a served block has served actions
abbrev HasIn : Block → Type 0
HasIn b = IsTrue (is_served_block b) → AreServed (actions_in b)

module _ (S B : Type 0) (f : S → Stmt) (g : B → Block) (of_f : (s : S) → Has (f s)) (of_g : (b : B) → HasIn (g b)) where
  -- the parts of a layer
  layer_has : (x : Stmt-F S B) (s : Stmt) → out-Stmt s ≡ map-Stmt S B Stmt Block f g x → IsTrue (is_served_layer is_served_block (map-Stmt S B Stmt Block f g x)) →
      AreServed (actions_layer actions_in (map-Stmt S B Stmt Block f g x) s)
  layer_has (stmt.If e block None) s is h = all_both IsServedAction (actions_in (g block)) [] (of_g block (and_parts (is_served_block (g block)) true h).0) tt
  layer_has (stmt.If e block (Some other)) s is h =
      let both = and_parts (is_served_block (g block)) (is_served_block (g other)) h in
      all_both IsServedAction (actions_in (g block)) (actions_in (g other)) (of_g block both.0) (of_g other both.1)
  layer_has (stmt.While e block) s is h = of_g block h
  layer_has (stmt.Ploop place block) s is h = absurd (false≢true h)
  layer_has (stmt.Atomic place to block) s is h = (ap (λ (x : Stmt-F Stmt Block). is_served_action x) is ∙ h, tt)
  layer_has (stmt.Call place call to) s is h = (ap (λ (x : Stmt-F Stmt Block). is_served_action x) is ∙ h, tt)
  layer_has x s is h = tt

  -- a statement that is made of a layer
  statement_has : (x : Stmt-F S B) → Has (roll-Stmt (map-Stmt S B Stmt Block f g x))
  statement_has x h =
      let y : Stmt-F Stmt Block = map-Stmt S B Stmt Block f g x in
      let s : Stmt = roll-Stmt y in
      subst AreServed (sym (actions_of_out s ∙ ap (λ z. actions_layer actions_in z s) (out-roll-Stmt y)))
      (layer_has x s (out-roll-Stmt y) (ap (λ (l : Stmt-F Stmt Block). is_served_layer is_served_block l) (sym (out-roll-Stmt y)) ∙ sym (is_served_stmt_out s) ∙ h))

  -- statements one after another
  turn_has : (ss : List S) → IsTrue (list_all is_served_stmt (map f ss)) → AreServed (actions_in_turn (map f ss))
  turn_has [] h = tt
  turn_has (s ∷ ss) h =
      let both = and_parts (is_served_stmt (f s)) (list_all is_served_stmt (map f ss)) h in
      all_both IsServedAction (actions_of (f s)) (actions_in_turn (map f ss)) (of_f s both.0) (turn_has ss both.1)

  -- a block that is made of a layer
  block_has : (x : Block-F S B) → HasIn (roll-Block (map-Block S B Stmt Block f g x))
  block_has x h =
      let y : Block-F Stmt Block = map-Block S B Stmt Block f g x in
      let b : Block = roll-Block y in
      subst AreServed (sym (actions_in_out b ∙ ap (λ (l : Block-F Stmt Block). actions_in_turn l.stmts) (out-roll-Block y)))
      (turn_has x.stmts (ap (λ (l : Block-F Stmt Block). list_all is_served_stmt l.stmts) (sym (out-roll-Block y)) ∙ sym (is_served_block_out b) ∙ h))

-- each served block has served actions
block_actions : (b : Block) → HasIn b
block_actions b = each_block Has HasIn (λ S B f g of_f of_g x. statement_has S B f g of_f of_g x) (λ S B f g of_f of_g x. block_has S B f g of_f of_g x) b

-- so have served declarations
declarations_actions : (ds : List Decl) → IsTrue (list_all is_served_decl ds) → AreServed (actions_of_declarations ds)
declarations_actions [] h = tt
declarations_actions (decl.Function name parameters body ∷ ds) h =
    let both = and_parts (is_served_block body) (list_all is_served_decl ds) h in
    all_both IsServedAction (actions_in body) (actions_of_declarations ds) (block_actions body both.0) (declarations_actions ds both.1)
declarations_actions (decl.Thread name parameters priority body ∷ ds) h =
    let both = and_parts (length parameters == 0 && is_served_block body) (list_all is_served_decl ds) h in
    all_both IsServedAction (actions_in body) (actions_of_declarations ds)
    (block_actions body (and_parts (length parameters == 0) (is_served_block body) both.0).1) (declarations_actions ds both.1)
declarations_actions (d ∷ ds) h = declarations_actions ds (and_parts (is_served_decl d) (list_all is_served_decl ds) h).1

-- all actions of a served program
served_actions : (tree : Tree) → IsTrue (is_served tree) → AreServed (actions (program_of tree))
served_actions tree h = subst AreServed (sym (actions_show tree)) (declarations_actions tree.decls (served_parts tree h).0)

-- the action of a number
pub served_action : (tree : Tree) (number : ℕ) (s : Stmt) → IsTrue (is_served tree) → slice_get (actions (program_of tree)) number ≡ Some s → IsTrue (is_served_action (out-Stmt s))
served_action tree number s h at = all_at IsServedAction (actions (program_of tree)) number (served_actions tree h) s at

-- the action at which a thread arrives that its start and its records give back
pub arrives_served : (tree : Tree) (start : Start) (rs : List Record) (thread : Thread) → IsTrue (is_served tree) → IsRelived (program_of tree) start rs thread →
    (s : Stmt) → (ahead (program_of tree) thread.local).arrival ≡ AtAction s → IsTrue (is_served_action (out-Stmt s))
arrives_served tree start rs thread h lives s at =
    let found = relived-arrival tree start rs thread s lives at in served_action tree found.0 s h found.1

-- a served action is no persistent loop
no_loop : (x : Stmt-F Stmt Block) → IsTrue (is_served_action x) → is_some (loop_block x) ≡ false
no_loop (stmt.Ploop place block) h = absurd (false≢true h)
no_loop x h = refl

-- where the actions of spots are served, none is a persistent loop
none_left : (these : List Spot) → AreServed (map (λ spot. spot.statement) these) → filter is_loop these ≡ []
none_left [] h = refl
none_left (spot ∷ these) h =
    cond-false (is_loop spot) (spot ∷ filter is_loop these) (filter is_loop these) (no_loop (out-Stmt spot.statement) h.0) ∙ none_left these h.1

-- a served program has no persistent loop
pub served_no_loops : (tree : Tree) → IsTrue (is_served tree) → loops (program_of tree) ≡ []
served_no_loops tree h = none_left (spots (program_of tree)) (served_actions tree h)
