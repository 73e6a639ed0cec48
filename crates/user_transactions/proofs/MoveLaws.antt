-- A block makes its next move.
use Rattle.std.proofs.Common.{◌≡◌, ℕ, zero, suc, ◌+◌, ◌-◌, ◌<◌, refl, ap, sym, subst, ◌∙◌, arith, true≢false}
use Rattle.std.specs.Prelude.{Bool, true, false, List, ◌∷◌, ◌++◌, length, take, is_some, option_copied, Option, Some, None, Result, Ok, Err}
use Rattle.kernel_model.specs.Transactions.{Work, BlockEnd, block_by, move, goes_on, stops, ending, too_many_moves, Thing, moved_by, things, broken_off}
use Rattle.kernel_model.specs.Transactions.Thing.{Do, End, Test}
use Rattle.kernel_model.specs.Transactions.BlockEnd.{Fault}
use Rattle.kernel_image.specs.Decoded.{Decoded}
use Rattle.thread_tree.specs.declared.transaction.TBlock.{TBlock}
use Rattle.thread_tree.specs.declared.transaction.TStmt.{TStmt, out-TStmt}
use Rattle.thread_tree.specs.declared.transaction.TStmt.TheOpen.{TStmt-F}
use Rattle.thread_tree.specs.declared.transaction.TStmt.TheOpen as tstmt
use Rattle.thread_tree.specs.Program.{Program}
use Rattle.persistent_objects.specs.Objects.{objects_of}
use Rattle.user_transactions.specs.declared.step.Step.{Step}
use Rattle.user_transactions.specs.declared.step.Step.TheVariants as step
use Rattle.user_transactions.specs.declared.tx_end.TxEnd.{TxEnd}
use Rattle.user_transactions.specs.declared.tx_end.TxEnd.TheVariants as tx_end
use Rattle.user_transactions.specs.declared.work.Work.{Work as Code}
use Rattle.user_transactions.specs.Fates.{Acted, EndsBlock}
use Rattle.user_transactions.specs.Steps.{Stepped, IsEnding, ends, behind}
use Rattle.user_transactions.specs.Works.{work_of, end_from, IsEnd}
use Rattle.user_transactions.specs.Runs.{Tested}
use Rattle.thread_tree.specs.declared.expr.Expr.{Expr}

module _ (p : Program) (given : ℕ) (w : Work) where
  unrolled : (m n : ℕ) → m ≡ n + 1 → block_by p given m w ≡ goes_on p given (λ next. block_by p given n next) w (move p w)
  unfolding block_by
  unrolled m n is = let next : m ≡ suc n = omega (arith, is) in ap (λ (k : ℕ). block_by p given k w) next

  -- the move is made
  pub block_next : (m : ℕ) (next : Work) → 0 < m → move p w ≡ Some (Ok next) → block_by p given m w ≡ block_by p given (m - 1) next
  block_next m next some is = unrolled m (m - 1) (omega arith) ∙ ap (λ (o : Option (Result Work ℕ)). goes_on p given (λ next. block_by p given (m - 1) next) w o) is

  -- the move faults
  pub block_fault : (m fault : ℕ) → 0 < m → move p w ≡ Some (Err fault) → block_by p given m w ≡ Fault fault
  block_fault m fault some is = unrolled m (m - 1) (omega arith) ∙ ap (λ (o : Option (Result Work ℕ)). goes_on p given (λ next. block_by p given (m - 1) next) w o) is

  -- no move is left
  pub block_full : (next : Result Work ℕ) → move p w ≡ Some next → block_by p given 0 w ≡ Fault too_many_moves
  unfolding block_by
  block_full next is = ap (λ (o : Option (Result Work ℕ)). stops p given w o) is

  -- there is no move
  pub block_ends : (m : ℕ) → move p w ≡ None → block_by p given m w ≡ ending p given w w.todo
  unfolding block_by
  block_ends zero is = ap (λ (o : Option (Result Work ℕ)). stops p given w o) is
  block_ends (suc m) is = ap (λ (o : Option (Result Work ℕ)). goes_on p given (λ next. block_by p given m next) w o) is

-- a statement that ends no block is a move
pub moves_on : (p : Program) (w : Work) (rest : List Thing) (layer : TStmt-F TStmt TBlock) → ends layer ≡ false → is_some (moved_by p w rest layer) ≡ true
moves_on p w rest (tstmt.Let at e) is = refl
moves_on p w rest (tstmt.LetNew at kind) is = refl
moves_on p w rest (tstmt.Set at e) is = refl
moves_on p w rest (tstmt.SetNew at kind) is = refl
moves_on p w rest (tstmt.Store field e) is = refl
moves_on p w rest (tstmt.Free e) is = refl
moves_on p w rest (tstmt.If e block other) is = refl
moves_on p w rest (tstmt.While e block) is = refl
moves_on p w rest (tstmt.Break place) is = refl
moves_on p w rest (tstmt.Abort place) is = absurd (true≢false is)
moves_on p w rest (tstmt.Give place es) is = absurd (true≢false is)

ends_here : (p : Program) (w : Work) (rest : List Thing) (layer : TStmt-F TStmt TBlock) → ends layer ≡ true → moved_by p w rest layer ≡ None
ends_here p w rest (tstmt.Let at e) is = absurd (true≢false (sym is))
ends_here p w rest (tstmt.LetNew at kind) is = absurd (true≢false (sym is))
ends_here p w rest (tstmt.Set at e) is = absurd (true≢false (sym is))
ends_here p w rest (tstmt.SetNew at kind) is = absurd (true≢false (sym is))
ends_here p w rest (tstmt.Store field e) is = absurd (true≢false (sym is))
ends_here p w rest (tstmt.Free e) is = absurd (true≢false (sym is))
ends_here p w rest (tstmt.If e block other) is = absurd (true≢false (sym is))
ends_here p w rest (tstmt.While e block) is = absurd (true≢false (sym is))
ends_here p w rest (tstmt.Break place) is = absurd (true≢false (sym is))
ends_here p w rest (tstmt.Abort place) is = refl
ends_here p w rest (tstmt.Give place es) is = refl

-- a block at a statement that is a move, without moves left
full : (p : Program) (given : ℕ) (w : Work) (m : ℕ) → m ≡ 0 → is_some (move p w) ≡ true → block_by p given m w ≡ Fault too_many_moves
full p given w m none some = ap (λ (k : ℕ). block_by p given k w) none ∙ go (move p w) refl some
  where
    go : (o : Option (Result Work ℕ)) → move p w ≡ o → is_some o ≡ true → block_by p given 0 w ≡ Fault too_many_moves
    go None is some' = absurd (true≢false (sym some'))
    go (Some next) is some' = block_full p given w next is

-- the statement ends the block
pub acted_end : (p : Program) (d : Decoded) (w : Code) (s : TStmt) (end : TxEnd) → IsEnding p d w (out-TStmt s) (Some end) → Acted p d w s d w (step.Ended end)
acted_end p d w s end ending' given rest =
    subst (λ (b : BlockEnd). IsEnd p end d b) (sym (block_ends p given (work_of p d w (Do s ∷ rest)) w.moves (ends_here p (work_of p d w (Do s ∷ rest)) rest (out-TStmt s) ending'.0))) (ending'.1 (Do s ∷ rest))

-- no move is left for the statement
pub acted_full : (p : Program) (d : Decoded) (w : Code) (s : TStmt) → IsEnding p d w (out-TStmt s) None → w.moves ≡ 0 → Acted p d w s d w (step.Ended (tx_end.Fault 1))
acted_full p d w s moves none given rest =
    subst (λ (b : BlockEnd). IsEnd p (tx_end.Fault 1) d b) (sym (full p given (work_of p d w (Do s ∷ rest)) w.moves none (moves_on p (work_of p d w (Do s ∷ rest)) rest (out-TStmt s) moves))) refl

-- the statement's move was made
pub acted_step : (p : Program) (d : Decoded) (w : Code) (s : TStmt) (e : Decoded) (v : Code) (next : Step) → 0 < w.moves → v.moves ≡ w.moves - 1 → Stepped p d (record w { moves = w.moves - 1 }) e v (out-TStmt s) next → Acted p d w s e v next
acted_step p d w s e v step.Went some less stepped = λ given rest.
    block_next p given (work_of p d w (Do s ∷ rest)) w.moves (work_of p e v rest) some (stepped (Do s ∷ rest) rest)
    ∙ ap (λ (m : ℕ). block_by p given m (work_of p e v rest)) (sym less)
acted_step p d w s e v step.Broke some less stepped = λ given rest.
    block_next p given (work_of p d w (Do s ∷ rest)) w.moves (broken_off (work_of p e v rest) rest) some (stepped (Do s ∷ rest) rest)
    ∙ ap (λ (m : ℕ). block_by p given m (broken_off (work_of p e v rest) rest)) (sym less)
acted_step p d w s e v (step.Entered block test) some less stepped = λ given rest.
    block_next p given (work_of p d w (Do s ∷ rest)) w.moves (work_of p e v (things block.now ++ behind (option_copied test) block.now (length v.locals.items) rest)) some (stepped (Do s ∷ rest) rest)
    ∙ ap (λ (m : ℕ). block_by p given m (work_of p e v (things block.now ++ behind (option_copied test) block.now (length v.locals.items) rest))) (sym less)
acted_step p d w s e v (step.Ended (tx_end.Gave values)) some less stepped = λ given rest. absurd (stepped (Do s ∷ rest) rest)
acted_step p d w s e v (step.Ended tx_end.Aborted) some less stepped = λ given rest. absurd (stepped (Do s ∷ rest) rest)
acted_step p d w s e v (step.Ended (tx_end.Fault fault)) some less stepped = λ given rest.
    subst (λ (b : BlockEnd). IsEnd p (tx_end.Fault fault) e b) (sym (block_fault p given (work_of p d w (Do s ∷ rest)) w.moves fault some (stepped (Do s ∷ rest) rest))) refl

-- the end of a block was passed
pub closed_end : (p : Program) (d : Decoded) (w v : Code) (keep : ℕ) → 0 < w.moves → v.moves ≡ w.moves - 1 → v.locals.items ≡ take keep w.locals.items → v.operations ≡ w.operations → EndsBlock p d w keep v None
closed_end p d w v keep some less locals operations = λ given rest.
    block_next p given (work_of p d w (End keep ∷ rest)) w.moves (record (work_of p d w rest) { locals = take keep w.locals.items }) some refl
    ∙ (λ i. block_by p given (sym less i) (record { objects = objects_of p d; locals = sym locals i; operations = sym operations i; todo = rest }))

-- no move is left for it
pub closed_full : (p : Program) (d : Decoded) (w v : Code) (keep : ℕ) → w.moves ≡ 0 → EndsBlock p d w keep v (Some (tx_end.Fault 1))
closed_full p d w v keep none = λ given rest.
    subst (λ (b : BlockEnd). IsEnd p (tx_end.Fault 1) d b) (sym (full p given (work_of p d w (End keep ∷ rest)) w.moves none refl)) refl

-- no move is left for a loop's test
pub tested_full : (p : Program) (d : Decoded) (w : Code) (e : Expr) (block : TBlock) → w.moves ≡ 0 → (given : ℕ) (rest : List Thing) → IsEnd p (tx_end.Fault 1) d (end_from p given d w (Test e block ∷ rest))
tested_full p d w e block none given rest =
    subst (λ (b : BlockEnd). IsEnd p (tx_end.Fault 1) d b) (sym (full p given (work_of p d w (Test e block ∷ rest)) w.moves none refl)) refl

-- the test faults
pub tested_fault : (p : Program) (d : Decoded) (w v : Code) (e : Expr) (block : TBlock) (fault : ℕ) → 0 < w.moves → Tested p d (record w { moves = w.moves - 1 }) v e block (Err fault) → (given : ℕ) (rest : List Thing) → IsEnd p (tx_end.Fault fault) d (end_from p given d w (Test e block ∷ rest))
tested_fault p d w v e block fault some tested given rest =
    subst (λ (b : BlockEnd). IsEnd p (tx_end.Fault fault) d b) (sym (block_fault p given (work_of p d w (Test e block ∷ rest)) w.moves fault some (tested (Test e block ∷ rest) rest))) refl

-- the loop's block is next
pub tested_true : (p : Program) (d : Decoded) (w v : Code) (e : Expr) (block : TBlock) (b : Bool) → 0 < w.moves → v.moves ≡ w.moves - 1 → Tested p d (record w { moves = w.moves - 1 }) v e block (Ok b) → b ≡ true → (given : ℕ) (rest : List Thing) → end_from p given d w (Test e block ∷ rest) ≡ end_from p given d v (things block ++ End (length v.locals.items) ∷ Test e block ∷ rest)
tested_true p d w v e block true some less tested is given rest =
    block_next p given (work_of p d w (Test e block ∷ rest)) w.moves (work_of p d v (things block ++ End (length v.locals.items) ∷ Test e block ∷ rest)) some (tested (Test e block ∷ rest) rest)
    ∙ ap (λ (m : ℕ). block_by p given m (work_of p d v (things block ++ End (length v.locals.items) ∷ Test e block ∷ rest))) (sym less)
tested_true p d w v e block false some less tested is given rest = absurd (true≢false (sym is))

-- what follows the loop is next
pub tested_false : (p : Program) (d : Decoded) (w v : Code) (e : Expr) (block : TBlock) (b : Bool) → 0 < w.moves → v.moves ≡ w.moves - 1 → Tested p d (record w { moves = w.moves - 1 }) v e block (Ok b) → b ≡ false → (given : ℕ) (rest : List Thing) → end_from p given d w (Test e block ∷ rest) ≡ end_from p given d v rest
tested_false p d w v e block false some less tested is given rest =
    block_next p given (work_of p d w (Test e block ∷ rest)) w.moves (work_of p d v rest) some (tested (Test e block ∷ rest) rest)
    ∙ ap (λ (m : ℕ). block_by p given m (work_of p d v rest)) (sym less)
tested_false p d w v e block true some less tested is given rest = absurd (true≢false is)
