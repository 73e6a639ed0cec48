-- A block from its first statement to its end.
use Rattle.std.proofs.Common.{◌≡◌, ℕ, ◌+◌, ◌-◌, ◌*◌, ◌≤◌, List, [], ◌∷◌, ◌++◌, length, map, drop, refl, ap, sym, subst, ◌∙◌, arith}
use Rattle.std.proofs.Math.ListN.{drop_of_length-le}
use Rattle.std.specs.Prelude.{slice_get, option_copied, Option, Some, None}
use Rattle.nv_memory.specs.declared.nv.Nv.{Ghosts}
use Rattle.kernel_image.specs.Decoded.{Decoded, image_in}
use Rattle.kernel_model.specs.Sound.{AreSoundObjects}
use Rattle.kernel_model.specs.Transactions.{Thing, BlockEnd, block_by, things, broken, broken_off}
use Rattle.kernel_model.specs.Transactions.Thing.{Do, End, Test}
use Rattle.persistent_objects.specs.Objects.{objects_of}
use Rattle.thread_tree.specs.declared.expr.Expr.{Expr}
use Rattle.thread_tree.specs.declared.local.Local.{Local}
use Rattle.thread_tree.specs.declared.transaction.TBlock.{TBlock, out-TBlock}
use Rattle.thread_tree.specs.declared.transaction.TStmt.{TStmt, out-TStmt}
use Rattle.thread_tree.specs.Need.{need_of_tblock}
use Rattle.thread_tree.specs.Program.{Program}
use Rattle.user_transactions.specs.declared.fate.Fate.{Fate}
use Rattle.user_transactions.specs.declared.fate.Fate.TheVariants as fate
use Rattle.user_transactions.specs.declared.level.Level.{Level}
use Rattle.user_transactions.specs.declared.level.Level.TheVariants.{Body, Inner, Turn}
use Rattle.user_transactions.specs.declared.step.Step.{Step}
use Rattle.user_transactions.specs.declared.step.Step.TheVariants as step
use Rattle.user_transactions.specs.declared.tx_end.TxEnd.{TxEnd}
use Rattle.user_transactions.specs.declared.work.Work.{Work}
use Rattle.user_transactions.specs.Fates.{behind_level, Leaves, Acted}
use Rattle.user_transactions.specs.Runs.{Ran, Closed, Closes, Shrinks, IsLevelOf, whole}
use Rattle.user_transactions.specs.Steps.{behind, declares}
use Rattle.user_transactions.specs.Works.{work_of, end_from, IsEnd, Keeps}
use Rattle.user_transactions.proofs.GiveLaws.{rest_from}
use Rattle.user_transactions.proofs.KeepLaws.{keeps_same, keeps_then}
use Rattle.user_transactions.proofs.RoomLaws.{HasRoom, HasRoom-block, HasRoom-rest}

-- the statements from a place on
abbrev pub from_place : ℕ → TBlock → List Thing
from_place at block = map Do (drop at (out-TBlock block).stmts)

next-statement : (block : TBlock) (at : ℕ) (s : TStmt) → slice_get (out-TBlock block).stmts at ≡ Some s → from_place at block ≡ Do s ∷ from_place (at + 1) block
next-statement block at s is = ap (λ (xs : List TStmt). map Do xs) (rest_from (out-TBlock block).stmts at s is)

-- a `break` passes the statements that follow
broken-past : (xs : List TStmt) (locals : List Local) (rest : List Thing) → broken locals (map Do xs ++ rest) ≡ broken locals rest
broken-past [] locals rest = refl
broken-past (x ∷ xs) locals rest = broken-past xs locals rest

-- what a block in a statement is
behind-is : (test : Option Expr) (level : Level) (block : TBlock) (keep : ℕ) (rest : List Thing) → IsLevelOf test level → behind_level level block keep rest ≡ behind test block keep rest
behind-is None Body block keep rest is = absurd is
behind-is None Inner block keep rest is = refl
behind-is None (Turn e) block keep rest is = absurd is
behind-is (Some test) Body block keep rest is = absurd is
behind-is (Some test) Inner block keep rest is = absurd is
behind-is (Some test) (Turn e) block keep rest is = ap (λ (x : Expr). End keep ∷ Test x block ∷ rest) is

-- fewer locals were there
pub Shrinks-more : (level : Level) (less more locals : ℕ) (f : Fate) → less ≤ more → Shrinks level less locals f → Shrinks level more locals f
Shrinks-more level less more locals fate.Went le shrinks = omega (arith, shrinks)
Shrinks-more level less more locals fate.Broke le shrinks = omega (arith, shrinks)
Shrinks-more level less more locals (fate.Ended end) le shrinks = tt

-- a block in a statement leaves none of its locals
pub inner-went : (level : Level) (test : Option Expr) (keep locals : ℕ) → IsLevelOf test level → Shrinks level keep locals fate.Went → locals ≤ keep + 0
inner-went Body None keep locals is shrinks = absurd is
inner-went Body (Some e) keep locals is shrinks = absurd is
inner-went Inner test keep locals is shrinks = shrinks
inner-went (Turn e) test keep locals is shrinks = shrinks

pub inner-broke : (level : Level) (test : Option Expr) (keep locals : ℕ) → IsLevelOf test level → Shrinks level keep locals fate.Broke → locals ≤ keep + 0
inner-broke level test keep locals is shrinks = inner-went level test keep locals is shrinks

-- things that come to the same are done alike
pub Ran-from : (p : Program) (d : Decoded) (w : Work) (before : List Thing → List Thing) (e : Decoded) (v : Work) (between : List Thing → List Thing) (new : Decoded) (u : Work) (f : Fate) →
    ((given : ℕ) (rest : List Thing) → end_from p given d w (before rest) ≡ end_from p given e v (between rest)) → Ran p e v between new u f → Ran p d w before new u f
Ran-from p d w before e v between new u fate.Went same ran = λ given rest. same given rest ∙ ran given rest
Ran-from p d w before e v between new u fate.Broke same ran = λ given rest. same given rest ∙ ran given rest
Ran-from p d w before e v between new u (fate.Ended end) same ran = λ given rest. subst (λ (b : BlockEnd). IsEnd p end new b) (sym (same given rest)) (ran given rest)

-- a statement with the block in it
pub Ran-inside : (p : Program) (d : Decoded) (w : Work) (s : TStmt) (e : Decoded) (v : Work) (block : TBlock) (test : Option Expr) (level : Level) (new : Decoded) (u : Work) (f : Fate) →
    ((given : ℕ) (rest : List Thing) → end_from p given d w (Do s ∷ rest) ≡ end_from p given e v (things block ++ behind test block (length v.locals.items) rest)) → IsLevelOf test level →
    Ran p e v (whole level block (length v.locals.items)) new u f → Ran p d w (λ rest. Do s ∷ rest) new u f
Ran-inside p d w s e v block test level new u f enters is ran =
    Ran-from p d w (λ rest. Do s ∷ rest) e v (whole level block (length v.locals.items)) new u f
    (λ given rest. enters given rest ∙ ap (λ (todo : List Thing). end_from p given e v (things block ++ todo)) (sym (behind-is test level block (length v.locals.items) rest is))) ran

-- behind the things that were done a block is left by a `break`
pub Ran-left : (p : Program) (d : Decoded) (w : Work) (s : TStmt) (e : Decoded) (v u : Work) (level : Level) (block : TBlock) (keep at : ℕ) (f : Fate) → Ran p d w (λ rest. Do s ∷ rest) e v fate.Broke → Leaves p e v level block keep u f →
    Ran p d w (λ rest. Do s ∷ (from_place at block ++ behind_level level block keep rest)) e u f
Ran-left p d w s e v u level block keep at fate.Went broke leaves = λ given rest.
    broke given (from_place at block ++ behind_level level block keep rest)
    ∙ ap (λ (left : List Local × List Thing). block_by p given v.moves (record { objects = objects_of p e; locals = left.0; operations = v.operations; todo = left.1 })) (broken-past (drop at (out-TBlock block).stmts) v.locals.items (behind_level level block keep rest))
    ∙ leaves given rest
Ran-left p d w s e v u level block keep at fate.Broke broke leaves = λ given rest.
    broke given (from_place at block ++ behind_level level block keep rest)
    ∙ ap (λ (left : List Local × List Thing). block_by p given v.moves (record { objects = objects_of p e; locals = left.0; operations = v.operations; todo = left.1 })) (broken-past (drop at (out-TBlock block).stmts) v.locals.items (behind_level level block keep rest))
    ∙ leaves given rest
Ran-left p d w s e v u level block keep at (fate.Ended end) broke leaves = absurd leaves

module _ {N : Type 0} (g : Ghosts N) (p : Program) where
  -- the statements of a block up to a place were done
  pub record IsRunning (level : Level) (block : TBlock) (old : N) (w : Work) (keep at : ℕ) (new : N) (v : Work) : Type 0 where
    pub same : (given : ℕ) (rest : List Thing) → end_from p given (image_in (g.words old)) w (whole level block (length w.locals.items) rest)
        ≡ end_from p given (image_in (g.words new)) v (from_place at block ++ behind_level level block keep rest)
    pub keeps : Keeps g p old new (v.operations - w.operations)
    pub few : v.operations ≤ 64
    pub more : w.operations ≤ v.operations
    pub moves : v.moves ≤ w.moves
    pub room : HasRoom (length v.locals.items) (drop at (out-TBlock block).stmts)
    pub kept : keep ≤ length w.locals.items

  -- none was done yet
  pub IsRunning-start : (level : Level) (block : TBlock) (old : N) (w : Work) → (keep : ℕ) → keep ≡ length w.locals.items → AreSoundObjects p (objects_of p (image_in (g.words old))) → w.operations ≤ 64 →
      length w.locals.items + (need_of_tblock block).locals ≤ 48 → IsRunning level block old w keep 0 old w
  IsRunning-start level block old w keep is sound few room = record {
    same = λ given rest. ap (λ (k : ℕ). end_from p given (image_in (g.words old)) w (whole level block k rest)) (sym is);
    keeps = keeps_same g p old (w.operations - w.operations) sound;
    few = few;
    more = omega arith;
    moves = omega arith;
    room = HasRoom-block (length w.locals.items) block room;
    kept = omega arith;
  }

  module _ (level : Level) (block : TBlock) (old : N) (w : Work) (keep at : ℕ) (mid : N) (v : Work) (running : IsRunning level block old w keep at mid v) where
    -- what is left to do begins with the statement
    at-statement : (s : TStmt) → slice_get (out-TBlock block).stmts at ≡ Some s → (given : ℕ) (rest : List Thing) →
        end_from p given (image_in (g.words old)) w (whole level block (length w.locals.items) rest)
        ≡ end_from p given (image_in (g.words mid)) v (Do s ∷ (from_place (at + 1) block ++ behind_level level block keep rest))
    at-statement s is given rest = running.same given rest ∙ ap (λ (xs : List Thing). end_from p given (image_in (g.words mid)) v (xs ++ behind_level level block keep rest)) (next-statement block at s is)

    -- what was kept so far, with what a statement or a block's end keeps
    pub keeps-on : (new : N) (u : Work) → Keeps g p mid new (u.operations - v.operations) → v.operations ≤ u.operations → Keeps g p old new (u.operations - w.operations)
    keeps-on new u kept more = keeps_then g p old mid new w.operations v.operations u.operations running.more more running.keeps kept

    -- the statement was done
    pub IsRunning-next : (s : TStmt) (new : N) (u : Work) → slice_get (out-TBlock block).stmts at ≡ Some s → Ran p (image_in (g.words mid)) v (λ rest. Do s ∷ rest) (image_in (g.words new)) u fate.Went →
        Keeps g p mid new (u.operations - v.operations) → v.operations ≤ u.operations → u.operations ≤ 64 → u.moves ≤ v.moves → length u.locals.items ≤ length v.locals.items + declares (out-TStmt s) →
        IsRunning level block old w keep (at + 1) new u
    IsRunning-next s new u is went kept more few moves grown = record {
      same = λ given rest. at-statement s is given rest ∙ went given (from_place (at + 1) block ++ behind_level level block keep rest);
      keeps = keeps-on new u kept more;
      few = few;
      more = omega (arith, running.more);
      moves = omega (arith, running.moves);
      room = HasRoom-rest (length v.locals.items) (length u.locals.items) s (drop (at + 1) (out-TBlock block).stmts) grown
          (subst (λ (xs : List TStmt). HasRoom (length v.locals.items) xs) (rest_from (out-TBlock block).stmts at s is) running.room);
      kept = running.kept;
    }

    -- the statement ended the whole
    pub Ran-ended : (s : TStmt) (new : Decoded) (u : Work) (end : TxEnd) → slice_get (out-TBlock block).stmts at ≡ Some s → Ran p (image_in (g.words mid)) v (λ rest. Do s ∷ rest) new u (fate.Ended end) →
        Ran p (image_in (g.words old)) w (whole level block (length w.locals.items)) new u (fate.Ended end)
    Ran-ended s new u end is ended = λ given rest.
        subst (λ (b : BlockEnd). IsEnd p end new b) (sym (at-statement s is given rest)) (ended given (from_place (at + 1) block ++ behind_level level block keep rest))

    -- the statement left the block
    pub Ran-broke : (s : TStmt) (new : Decoded) (u x : Work) (f : Fate) → slice_get (out-TBlock block).stmts at ≡ Some s → Ran p (image_in (g.words mid)) v (λ rest. Do s ∷ rest) new u fate.Broke → Leaves p new u level block keep x f →
        Ran p (image_in (g.words old)) w (whole level block (length w.locals.items)) new x f
    Ran-broke s new u x f is broke leaves =
        Ran-from p (image_in (g.words old)) w (whole level block (length w.locals.items)) (image_in (g.words mid)) v (λ rest. Do s ∷ (from_place (at + 1) block ++ behind_level level block keep rest)) new x f
        (at-statement s is) (Ran-left p (image_in (g.words mid)) v s new u x level block keep (at + 1) f broke leaves)

    -- there is room for what the statement declares
    pub HasRoom-at : (s : TStmt) → slice_get (out-TBlock block).stmts at ≡ Some s → HasRoom (length v.locals.items) (s ∷ drop (at + 1) (out-TBlock block).stmts)
    HasRoom-at s is = subst (λ (xs : List TStmt). HasRoom (length v.locals.items) xs) (rest_from (out-TBlock block).stmts at s is) running.room

    -- behind the last statement
    at-end : length (out-TBlock block).stmts ≤ at → (given : ℕ) (rest : List Thing) →
        end_from p given (image_in (g.words old)) w (whole level block (length w.locals.items) rest) ≡ end_from p given (image_in (g.words mid)) v (behind_level level block keep rest)
    at-end past given rest = running.same given rest ∙ ap (λ (xs : List TStmt). end_from p given (image_in (g.words mid)) v (map Do xs ++ behind_level level block keep rest)) (drop_of_length-le (out-TBlock block).stmts past)

    -- the block of a loop begins anew
    pub IsRunning-again : (u : Work) (next : ℕ) → length (out-TBlock block).stmts ≤ at → Closed p (image_in (g.words mid)) v (behind_level level block keep) level block u None →
        next ≡ length u.locals.items → length u.locals.items ≤ keep → v.operations ≤ u.operations → u.operations ≤ 64 → u.moves ≤ v.moves → length w.locals.items + (need_of_tblock block).locals ≤ 48 →
        IsRunning level block old w next 0 mid u
    IsRunning-again u next past closed is few_locals more few moves room = record {
      same = λ given rest. at-end past given rest ∙ closed given rest ∙ ap (λ (k : ℕ). end_from p given (image_in (g.words mid)) u (whole level block k rest)) (sym is);
      keeps = keeps-on mid u (keeps_same g p mid (u.operations - v.operations) running.keeps.sound) more;
      few = few;
      more = omega (arith, running.more);
      moves = omega (arith, running.moves);
      room = HasRoom-block (length u.locals.items) block (omega (arith, running.kept));
      kept = omega (arith, running.kept);
    }

    -- the block was left at its end
    pub Ran-closed : (u : Work) (f : Fate) → length (out-TBlock block).stmts ≤ at → Closed p (image_in (g.words mid)) v (behind_level level block keep) level block u (Some f) →
        Ran p (image_in (g.words old)) w (whole level block (length w.locals.items)) (image_in (g.words mid)) u f
    Ran-closed u fate.Went past closed = λ given rest. at-end past given rest ∙ closed given rest
    Ran-closed u fate.Broke past closed = absurd closed
    Ran-closed u (fate.Ended end) past closed = λ given rest. subst (λ (b : BlockEnd). IsEnd p end (image_in (g.words mid)) b) (sym (at-end past given rest)) (closed given rest)
