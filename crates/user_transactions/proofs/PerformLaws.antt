-- An `atomic` block from its statement to its end.
use Rattle.std.proofs.Common.{◌≡◌, ℕ, zero, suc, ◌+◌, ◌-◌, ◌*◌, ◌<◌, ◌≤◌, List, [], ◌∷◌, ◌++◌, length, take, refl, ap, sym, subst, ◌∙◌, arith}
use Rattle.std.proofs.lemmas.List.{append-nil}
use Rattle.std.proofs.lemmas.Option.{none-some}
use Rattle.std.specs.Prelude.{slice_get, replicate, IfSome, Option, Some, None}
use Rattle.nv_memory.specs.declared.nv.Nv.{Ghosts}
use Rattle.undo_journal.proofs.Callers.{IsWithin-more}
use Rattle.kernel_image.specs.Decoded.{Decoded}
use Rattle.kernel_model.specs.Transactions.{Thing, BlockEnd, things, block, block_by}
use Rattle.kernel_model.specs.Transactions.BlockEnd.{Gave}
use Rattle.persistent_objects.specs.Objects.{objects_of}
use Rattle.thread_tree.specs.declared.block.Block.{Block}
use Rattle.thread_tree.specs.declared.block.Stmt.{Stmt, out-Stmt, fold_out-Stmt, map-Stmt}
use Rattle.thread_tree.specs.declared.block.Stmt.TheOpen.{Stmt-F}
use Rattle.thread_tree.specs.declared.block.Stmt.TheOpen as stmt
use Rattle.thread_tree.specs.declared.place.At.{At}
use Rattle.thread_tree.specs.declared.place.Place.{Place}
use Rattle.thread_tree.specs.declared.transaction.TBlock.{TBlock}
use Rattle.thread_tree.specs.Actions.{actions}
use Rattle.thread_tree.specs.Need.{Need, Weight, weight_of, weight_of_layer, need_of, need_of_layer, need_of_tblock, callees}
use Rattle.thread_tree.specs.Program.{Program}
use Rattle.user_transactions.specs.declared.fate.Fate.TheVariants as fate
use Rattle.user_transactions.specs.declared.level.Level.TheVariants.{Body}
use Rattle.user_transactions.specs.declared.tx_end.TxEnd.{TxEnd}
use Rattle.user_transactions.specs.declared.work.Work.{Work}
use Rattle.user_transactions.specs.Performed.{body_in, given_in}
use Rattle.user_transactions.specs.Runs.{Ran, whole}
use Rattle.user_transactions.specs.Works.{work_of, end_from, IsEnd, Keeps}
use Rattle.user_transactions.proofs.MoveLaws.{block_ends}

-- one zero more, of which three are kept
pub zeros_more : (n next : ℕ) (values : List ℕ) → next ≡ suc n → values ≡ take {A = ℕ} 3 (replicate n 0) → take {A = ℕ} 3 (values ++ 0 ∷ []) ≡ take 3 (replicate next 0)
zeros_more n next values is zeros = ap (λ (vs : List ℕ). take {A = ℕ} 3 (vs ++ 0 ∷ [])) zeros ∙ go n ∙ ap (λ (k : ℕ). take {A = ℕ} 3 (replicate k 0)) (sym is)
  where
    go : (n : ℕ) → take {A = ℕ} 3 (take 3 (replicate n 0) ++ 0 ∷ []) ≡ take 3 (replicate (suc n) 0)
    go zero = refl
    go (suc zero) = refl
    go (suc (suc zero)) = refl
    go (suc (suc (suc n))) = refl

-- what the words keep within more operations
pub Keeps-more : {N : Type 0} (g : Ghosts N) (p : Program) (old new : N) (a b : ℕ) → a ≤ b → Keeps g p old new a → Keeps g p old new b
Keeps-more g p old new a b le keeps = record {
  frame = keeps.frame;
  sound = keeps.sound;
  layout = keeps.layout;
  lent = keeps.lent;
  within = IsWithin-more g old new a b le keeps.within;
}

module _ (p : Program) (d : Decoded) (w : Work) (body : TBlock) (keep given : ℕ) (none : w.operations ≡ 0) (all : w.moves ≡ 10000) where
  -- the block from its beginning
  block-is : block p (objects_of p d) w.locals.items given body ≡ end_from p given d w (whole Body body keep [])
  block-is = λ i. block_by p given (sym all i) (record { objects = objects_of p d; locals = w.locals.items; operations = sym none i; todo = sym (append-nil (things body)) i })

  -- nothing is left to do
  pub performed-went : (e : Decoded) (v : Work) → Ran p d w (whole Body body keep) e v fate.Went → block p (objects_of p d) w.locals.items given body ≡ Gave (objects_of p e) (replicate given 0)
  performed-went e v ran = block-is ∙ ran given [] ∙ block_ends p given (work_of p e v []) v.moves refl

  pub performed-broke : (e : Decoded) (v : Work) → Ran p d w (whole Body body keep) e v fate.Broke → block p (objects_of p d) w.locals.items given body ≡ Gave (objects_of p e) (replicate given 0)
  performed-broke e v ran = block-is ∙ ran given [] ∙ block_ends p given (work_of p e v []) v.moves refl

  -- the block ended before
  pub performed-ended : (e : Decoded) (v : Work) (end : TxEnd) → Ran p d w (whole Body body keep) e v (fate.Ended end) → IsEnd p end e (block p (objects_of p d) w.locals.items given body)
  performed-ended e v end ran = subst (λ (b : BlockEnd). IsEnd p end e b) (sym block-is) (ran given [])

-- the statement at a place is one alone
abbrev from-some : Stmt → Option Stmt → Stmt
from-some s None = s
from-some s (Some t) = t

abbrev body-from : TBlock → Option TBlock → TBlock
body-from b None = b
body-from b (Some found) = found

same-action : (p : Program) (number : ℕ) (s t : Stmt) → slice_get (actions p) number ≡ Some s → slice_get (actions p) number ≡ Some t → s ≡ t
same-action p number s t at_s at_t = ap (from-some s) (sym at_s ∙ at_t)

-- the action that was found is the one at hand
module _ (p : Program) (number : ℕ) (s t : Stmt) (place : Place) (to : List At) (body : TBlock) (at_s : slice_get (actions p) number ≡ Some s) (at_t : slice_get (actions p) number ≡ Some t) (is : out-Stmt s ≡ stmt.Atomic place to body) where
  layer-is : out-Stmt t ≡ stmt.Atomic place to body
  layer-is = ap (λ (x : Stmt). out-Stmt x) (sym (same-action p number s t at_s at_t)) ∙ is

  -- the block of the action
  pub body-is : body_in (out-Stmt t) ≡ Some body
  body-is = ap (λ (layer : Stmt-F Stmt Block). body_in layer) layer-is

  pub body-same : (found : TBlock) → Some found ≡ body_in (out-Stmt t) → found ≡ body
  body-same found there = ap (body-from found) (there ∙ body-is)

  -- how many values it has to give
  pub given-is : given_in (out-Stmt t) ≡ length to - 1
  given-is = ap (λ (layer : Stmt-F Stmt Block). given_in layer) layer-is

-- an `atomic` statement needs what its block needs
pub room-inside : (callee : ℕ → Need) (s : Stmt) (place : Place) (to : List At) (body : TBlock) (locals : ℕ) → out-Stmt s ≡ stmt.Atomic place to body → locals + (weight_of callee s).need.locals ≤ 48 → locals + (need_of_tblock body).locals ≤ 48
unfolding weight_of need_of
room-inside callee s place to body locals is room =
    let same = ap (λ (w : Weight). w.need.locals) (fold_out-Stmt Weight Need (weight_of_layer callee) need_of_layer s ∙ ap (λ (layer : Stmt-F Stmt Block). weight_of_layer callee (map-Stmt Stmt Block Weight Need (weight_of callee) (need_of callee) layer)) is) in
    omega (arith, room, same)

-- there is room for the locals of the statement that comes next
pub room-next : (callee : ℕ → Need) (next : Option Stmt) (s : Stmt) (locals : ℕ) → next ≡ Some s → IfSome next (λ s. locals + (weight_of callee s).need.locals ≤ 48) → locals + (weight_of callee s).need.locals ≤ 48
room-next callee next s locals is room = subst (λ (o : Option Stmt). IfSome o (λ s. locals + (weight_of callee s).need.locals ≤ 48)) is room
