-- What becomes of a block that is performed.
use Rattle.std.specs.Prelude.{◌≡◌, ℕ, ◌+◌, ◌≤◌, Bool, true, false, List, [], ◌∷◌, ◌++◌, length, Result, Ok, Err, Option, Some, None}
use Rattle.kernel_image.specs.Decoded.{Decoded}
use Rattle.kernel_model.specs.Transactions.{Thing, things, moved_by, block_by, broken_off}
use Rattle.kernel_model.specs.Transactions.Thing.{Do, End, Test}
use Rattle.thread_tree.specs.declared.expr.Expr.{Expr}
use Rattle.thread_tree.specs.declared.transaction.TBlock.{TBlock}
use Rattle.thread_tree.specs.declared.transaction.TStmt.TheOpen as tstmt
use Rattle.thread_tree.specs.Program.{Program}
use Rattle.user_transactions.specs.declared.fate.Fate.{Fate}
use Rattle.user_transactions.specs.declared.fate.Fate.TheVariants as fate
use Rattle.user_transactions.specs.declared.level.Level.{Level}
use Rattle.user_transactions.specs.declared.level.Level.TheVariants.{Body, Inner, Turn}
use Rattle.user_transactions.specs.declared.tx_end.TxEnd.{TxEnd}
use Rattle.user_transactions.specs.declared.work.Work.{Work}
use Rattle.user_transactions.specs.Fates.{behind_level}
use Rattle.user_transactions.specs.Works.{work_of, end_from, IsEnd}
use Rattle.thread_tree.specs.declared.limits.TheConstants.{LOCALS}

-- a loop's test: its block is next, or what follows, or its fault
abbrev pub Tested : Program → Decoded → Work → Work → Expr → TBlock → Result Bool ℕ → Type 0
Tested p d w v e block (Ok true) = (todo rest : List Thing) → moved_by p (work_of p d w todo) rest (tstmt.While e block)
    ≡ Some (Ok (work_of p d v (things block ++ End (length v.locals.items) ∷ Test e block ∷ rest)))
Tested p d w v e block (Ok false) = (todo rest : List Thing) → moved_by p (work_of p d w todo) rest (tstmt.While e block)
    ≡ Some (Ok (work_of p d v rest))
Tested p d w v e block (Err fault) = (todo rest : List Thing) → moved_by p (work_of p d w todo) rest (tstmt.While e block) ≡ Some (Err fault)

-- behind these things a block begins anew, or it is left, or the whole ends
abbrev pub Closed : Program → Decoded → Work → (List Thing → List Thing) → Level → TBlock → Work → Option Fate → Type 0
Closed p d w behind level block v None = (given : ℕ) (rest : List Thing) →
    end_from p given d w (behind rest) ≡ end_from p given d v (things block ++ behind_level level block (length v.locals.items) rest)
Closed p d w behind level block v (Some fate.Went) = (given : ℕ) (rest : List Thing) → end_from p given d w (behind rest) ≡ end_from p given d v rest
Closed p d w behind level block v (Some fate.Broke) = ⊥
Closed p d w behind level block v (Some (fate.Ended end)) = (given : ℕ) (rest : List Thing) → IsEnd p end d (end_from p given d w (behind rest))

-- these things were done: what follows is next, or what follows the innermost loop, or the whole ends
abbrev pub Ran : Program → Decoded → Work → (List Thing → List Thing) → Decoded → Work → Fate → Type 0
Ran p d w before e v fate.Went = (given : ℕ) (rest : List Thing) → end_from p given d w (before rest) ≡ end_from p given e v rest
Ran p d w before e v fate.Broke = (given : ℕ) (rest : List Thing) →
    end_from p given d w (before rest) ≡ block_by p given v.moves (broken_off (work_of p e v rest) rest)
Ran p d w before e v (fate.Ended end) = (given : ℕ) (rest : List Thing) → IsEnd p end e (end_from p given d w (before rest))

-- a block with what follows it
abbrev pub whole : Level → TBlock → ℕ → List Thing → List Thing
whole level block keep rest = things block ++ behind_level level block keep rest

-- how many locals of a block may be left when it was left: only the whole of an `atomic` block leaves its own
abbrev pub kept_by : Level → ℕ
kept_by Body = LOCALS
kept_by Inner = 0
kept_by (Turn e) = 0

-- the locals that are left of a block that was left
abbrev pub Shrinks : Level → ℕ → ℕ → Fate → Type 0
Shrinks level keep locals fate.Went = locals ≤ keep + kept_by level
Shrinks level keep locals fate.Broke = locals ≤ keep + kept_by level
Shrinks level keep locals (fate.Ended end) = Unit {0}

-- the locals with which a block begins anew, or that are left
abbrev pub Closes : Level → ℕ → ℕ → Option Fate → Type 0
Closes level keep locals None = locals ≤ keep
Closes level keep locals (Some fate) = Shrinks level keep locals fate

-- fewer moves are left for a block that begins anew
abbrev pub Spends : ℕ → ℕ → Option Fate → Type 0
Spends old new None = new + 1 ≤ old
Spends old new (Some fate) = new ≤ old

-- what a block in a statement is
abbrev pub IsLevelOf : Option Expr → Level → Type 0
IsLevelOf None Body = ⊥
IsLevelOf None Inner = Unit {0}
IsLevelOf None (Turn e) = ⊥
IsLevelOf (Some test) Body = ⊥
IsLevelOf (Some test) Inner = ⊥
IsLevelOf (Some test) (Turn e) = e.now ≡ test
