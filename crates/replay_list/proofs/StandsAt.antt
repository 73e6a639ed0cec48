-- The statement at which a context stands.
use Rattle.std.proofs.Common.{◌≡◌, ℕ, zero, suc, List, [], ◌∷◌, false, Option, Some, None, refl, ap, sym, ◌∙◌, arith, ◌<◌, length, subst}
use Rattle.std.specs.Prelude.{slice_get, IsSomeAnd}
use Rattle.thread_tree.specs.declared.block.Block.{Block}
use Rattle.thread_tree.specs.declared.block.Stmt.{Stmt, out-Stmt}
use Rattle.thread_tree.specs.declared.block.Stmt.TheOpen.{Stmt-F}
use Rattle.thread_tree.specs.declared.block.Stmt.TheOpen as stmt
use Rattle.thread_tree.specs.Actions.{actions}
use Rattle.thread_tree.specs.Kinds.{Action, action_layer, action_of}
use Rattle.thread_tree.specs.LocalState.{next_action}
use Rattle.thread_tree.specs.Program.{Program}
use Rattle.thread_machine.proofs.Callers.{action_at, no_action_at_end}
use Rattle.thread_machine.specs.declared.context.Ctx.{Ctx}
use Rattle.thread_machine.specs.Context.{is_move, local_of, statement_of}

-- an action is no move
layer-stays : (p : Program) (layer : Stmt-F Stmt Block) (a : Action) → action_layer p layer ≡ Some a → is_move layer ≡ false
layer-stays p (stmt.Let at e) a is = absurd (let f : ◌≡◌ {A = Option Action} None (Some a) = is in cc)
layer-stays p (stmt.Set at e) a is = absurd (let f : ◌≡◌ {A = Option Action} None (Some a) = is in cc)
layer-stays p (stmt.Apply to callee arguments) a is = absurd (let f : ◌≡◌ {A = Option Action} None (Some a) = is in cc)
layer-stays p (stmt.If e block other) a is = absurd (let f : ◌≡◌ {A = Option Action} None (Some a) = is in cc)
layer-stays p (stmt.While e block) a is = absurd (let f : ◌≡◌ {A = Option Action} None (Some a) = is in cc)
layer-stays p (stmt.Ploop place block) a is = refl
layer-stays p (stmt.Break place) a is = absurd (let f : ◌≡◌ {A = Option Action} None (Some a) = is in cc)
layer-stays p (stmt.Return place value) a is = absurd (let f : ◌≡◌ {A = Option Action} None (Some a) = is in cc)
layer-stays p (stmt.Atomic place to block) a is = refl
layer-stays p (stmt.Call place call to) a is = refl

-- a context stands at the statement of an action
pub record IsAt (p : Program) (ctx : Ctx) (a : Action) : Type 0 where
  pub statement : Stmt
  pub here : statement_of p ctx ≡ Some statement
  pub is : action_of p statement ≡ Some a

pub stands_at : (p : Program) (ctx : Ctx) (a : Action) → next_action p (local_of p ctx) ≡ Some a → IsAt p ctx a
stands_at p ctx a e = go (statement_of p ctx) refl
  where
    go : (o : Option Stmt) → statement_of p ctx ≡ o → IsAt p ctx a
    go None here = absurd (let f : ◌≡◌ {A = Option Action} None (Some a) = sym (no_action_at_end p ctx here) ∙ e in cc)
    go (Some s) here = record { statement = s; here = here; is = action_at p ctx s a here e }

-- what the number of the action asks for
pub number_asks : (p : Program) (ctx : Ctx) (a : Action) → next_action p (local_of p ctx) ≡ Some a → IsSomeAnd (statement_of p ctx) (λ s. is_move (out-Stmt s) ≡ false)
number_asks p ctx a e =
    let at = stands_at p ctx a e in
    let stays = layer-stays p (out-Stmt at.statement) a at.is in
    rw (at.here) stays

-- what is some
pub some_and : {X : Type 0} (P : X → Type 0) (o : Option X) → IsSomeAnd o P → (x : X) × (o ≡ Some x) × P x
some_and P None h = absurd h
some_and P (Some x) h = (x, refl, h)

-- a place where something is lies within a list
pub get_within : {X : Type 0} (xs : List X) (n : ℕ) (x : X) → slice_get xs n ≡ Some x → n < length xs
get_within {X} [] n x e = absurd (let f : ◌≡◌ {A = Option X} None (Some x) = e in cc)
get_within (y ∷ xs) zero x e = omega arith
get_within (y ∷ xs) (suc n) x e = let rest = get_within xs n x e in omega (arith, rest)

-- the action of a number is the one at which the context stands
pub numbered : (p q : Program) (ctx : Ctx) (a : Action) (n : ℕ) → q ≡ p → next_action p (local_of p ctx) ≡ Some a → slice_get (actions q) n ≡ statement_of q ctx → n < length (actions p)
numbered p q ctx a n same e found =
    let at = stands_at p ctx a e in
    let at_p : slice_get (actions p) n ≡ statement_of p ctx = subst (λ (x : Program). slice_get (actions x) n ≡ statement_of x ctx) same found in
    get_within (actions p) n at.statement (at_p ∙ at.here)

pub action_found : (p q : Program) (ctx : Ctx) (a : Action) (n : ℕ) (s : Stmt) → q ≡ p → next_action p (local_of p ctx) ≡ Some a → slice_get (actions q) n ≡ statement_of q ctx → slice_get (actions p) n ≡ Some s → action_of p s ≡ Some a
action_found p q ctx a n s same e found is =
    let at = stands_at p ctx a e in
    let at_p : slice_get (actions p) n ≡ statement_of p ctx = subst (λ (x : Program). slice_get (actions x) n ≡ statement_of x ctx) same found in
    let both : ◌≡◌ {A = Option Stmt} (Some s) (Some at.statement) = sym is ∙ at_p ∙ at.here in
    let one : s ≡ at.statement = cc in
    ap (action_of p) one ∙ at.is
