-- What becomes of a block.
use Rattle.std.specs.Prelude.{◌≡◌, ℕ, ◌+◌, List, ◌∷◌, ◌++◌, length, option_copied, Option, Some, None}
use Rattle.kernel_image.specs.Decoded.{Decoded}
use Rattle.kernel_model.specs.Transactions.{Thing, things, block_by, broken_off}
use Rattle.kernel_model.specs.Transactions.Thing.{Do, End, Test}
use Rattle.thread_tree.specs.declared.transaction.TBlock.{TBlock}
use Rattle.thread_tree.specs.declared.transaction.TStmt.{TStmt}
use Rattle.thread_tree.specs.Program.{Program}
use Rattle.user_transactions.specs.declared.fate.Fate.{Fate}
use Rattle.user_transactions.specs.declared.fate.Fate.TheVariants as fate
use Rattle.user_transactions.specs.declared.level.Level.{Level}
use Rattle.user_transactions.specs.declared.level.Level.TheVariants.{Body, Inner, Turn}
use Rattle.user_transactions.specs.declared.step.Step.{Step}
use Rattle.user_transactions.specs.declared.step.Step.TheVariants as step
use Rattle.user_transactions.specs.declared.tx_end.TxEnd.{TxEnd}
use Rattle.user_transactions.specs.declared.work.Work.{Work}
use Rattle.user_transactions.specs.Steps.{behind}
use Rattle.user_transactions.specs.Works.{work_of, end_from, IsEnd}

-- what follows the statements of a block that was entered with so many locals
abbrev pub behind_level : Level → TBlock → ℕ → List Thing → List Thing
behind_level Body block keep rest = rest
behind_level Inner block keep rest = End keep ∷ rest
behind_level (Turn e) block keep rest = End keep ∷ Test e.now block ∷ rest

-- a `break` in a block: what follows the innermost loop is next
abbrev pub Leaves : Program → Decoded → Work → Level → TBlock → ℕ → Work → Fate → Type 0
Leaves p d w level block keep v fate.Went = (given : ℕ) (rest : List Thing) →
    block_by p given w.moves (broken_off (work_of p d w (behind_level level block keep rest)) (behind_level level block keep rest)) ≡ end_from p given d v rest
Leaves p d w level block keep v fate.Broke = (given : ℕ) (rest : List Thing) →
    block_by p given w.moves (broken_off (work_of p d w (behind_level level block keep rest)) (behind_level level block keep rest))
    ≡ block_by p given v.moves (broken_off (work_of p d v rest) rest)
Leaves p d w level block keep v (fate.Ended end) = ⊥

-- a statement of a block: what follows it is next, or what follows the loop, or a block in it, or the whole ends
abbrev pub Acted : Program → Decoded → Work → TStmt → Decoded → Work → Step → Type 0
Acted p d w s e v step.Went = (given : ℕ) (rest : List Thing) → end_from p given d w (Do s ∷ rest) ≡ end_from p given e v rest
Acted p d w s e v step.Broke = (given : ℕ) (rest : List Thing) →
    end_from p given d w (Do s ∷ rest) ≡ block_by p given v.moves (broken_off (work_of p e v rest) rest)
Acted p d w s e v (step.Entered block test) = (given : ℕ) (rest : List Thing) →
    end_from p given d w (Do s ∷ rest) ≡ end_from p given e v (things block.now ++ behind (option_copied test) block.now (length v.locals.items) rest)
Acted p d w s e v (step.Ended end) = (given : ℕ) (rest : List Thing) → IsEnd p end e (end_from p given d w (Do s ∷ rest))

-- a move was spent, unless the whole has ended
abbrev pub IsSpent : ℕ → ℕ → Step → Type 0
IsSpent old new step.Went = old ≡ new + 1
IsSpent old new step.Broke = old ≡ new + 1
IsSpent old new (step.Entered block test) = old ≡ new + 1
IsSpent old new (step.Ended end) = Unit {0}

-- the end of a block was passed, or the whole ends there
abbrev pub EndsBlock : Program → Decoded → Work → ℕ → Work → Option TxEnd → Type 0
EndsBlock p d w keep v None = (given : ℕ) (rest : List Thing) → end_from p given d w (End keep ∷ rest) ≡ end_from p given d v rest
EndsBlock p d w keep v (Some end) = (given : ℕ) (rest : List Thing) → IsEnd p end d (end_from p given d w (End keep ∷ rest))
