-- What a run over all its boots leaves.
use Rattle.std.specs.Prelude.{◌≡◌, ℕ, ◌+◌, ◌*◌, ◌≤◌, List, [], ◌∷◌, ◌++◌, length, drop, Option, None, Some, false}
use Rattle.nv_memory.specs.Budget.{first_budget}
use Rattle.nv_memory.specs.declared.nv.Nv.{Ghosts}
use Rattle.outer_world.specs.Written.{put_to, IsPart}
use Rattle.kernel_model.specs.Dump.{text_of}
use Rattle.kernel_image.specs.Decoded.{image_in}
use Rattle.undo_journal.specs.Undo.{IsAtRest}
use Rattle.replay_list.specs.Kept.{counter_of, recovery_steps}
use Rattle.replay_list.specs.Stands.{Stands}
use Rattle.kernel_boots.specs.Boots.{DidNotRise}
use Rattle.kernel_boots.specs.Courses.{Course, uncut, last}
use Rattle.intos_run.specs.Boots.{IsLater, IsCutBoot, EachBoot}
use Rattle.intos_run.specs.Report.{goes_dark, before_last, cut_boots, start_lines, report}
use Rattle.boot_report.specs.Lines.{end_line}
use Rattle.thread_tree.specs.declared.limits.TheConstants.{MOVES}

-- the steps that a recovery from these words of the run may take
abbrev pub restoring : Course → List ℕ → ℕ
restoring c words = recovery_steps words (uncut c (counter_of words))

-- and those of the recoveries of the boots that were cut
abbrev pub recovered : Course → List ℕ → List (List ℕ) → ℕ
recovered c first [] = 0
recovered c first (left ∷ ends) = restoring c first + recovered c left ends

-- the steps are at most those of the recoveries of all boots, and 10,000 for each event and each boot
abbrev pub StepsWithin : Course → ℕ → ℕ → List ℕ → List (List ℕ) → List ℕ → Type 0
StepsWithin c old new first ends left =
    new ≤ old + recovered c first ends + restoring c (before_last first ends) + MOVES * (counter_of left + length ends + 1)

-- the budgets that a device has: the one that counts now, and those to come; on mains none
abbrev pub budgets_of : Option ℕ → List ℕ → List ℕ
budgets_of None to_come = []
budgets_of (Some left) to_come = left ∷ to_come

-- The budgets were really set: those of the boots that were cut are spent, and the next one counts. Behind the last
-- one the device is on mains with none to come.
pub record HasBudgets (cuts : List ℕ) (ends : List (List ℕ)) (now : Option ℕ) (later : List ℕ) : Type 0 where
  pub left : DidNotRise (first_budget (drop (length ends) cuts)) now
  pub to_come : later ≡ drop (length ends + 1) cuts

-- Every image is kept for a kernel of the course: each boot that was cut left the words of one that counts no fewer
-- events than the one before, and so did the last boot.
pub record HasImages (c : Course) (cuts : List ℕ) (first : List ℕ) (ends : List (List ℕ)) (words : List ℕ) : Type 0 where
  pub each : EachBoot (λ number. IsCutBoot c) 1 cuts first ends
  pub last : IsLater c (before_last first ends) words

-- the lines of a run that came to the last event, without its dump
abbrev pub lines_before_dump : Course → List ℕ → List ℕ → List (List ℕ) → List (List ℕ)
lines_before_dump c cuts first ends =
    cut_boots c 1 cuts first ends
    ++ (start_lines c (length ends + 1) (before_last first ends) ++ end_line (length ends + 1) (last c) ∷ [])

-- a run that came to the last event, before its dump
pub record IsWhole {N : Type 0} (g : Ghosts N) (c : Course) (cuts first : List ℕ) (old new : Option (List ℕ)) (nv : N) : Type 0 where
  pub budgets : HasBudgets cuts (g.ends nv) (g.left nv) (g.to_come nv)
  pub images : HasImages c cuts first (g.ends nv) (g.words nv)
  pub complete : counter_of (g.words nv) ≡ last c
  pub at_rest : IsAtRest (g.words nv)
  pub stands : Stands c.program (image_in (g.words nv)) (uncut c (last c))
  pub live : goes_dark (first_budget (drop (length (g.ends nv)) cuts)) (before_last first (g.ends nv)) ≡ false
  pub text : new ≡ put_to old (text_of (lines_before_dump c cuts first (g.ends nv)))

-- a run that the sink's failure ended
pub record IsBroken {N : Type 0} (g : Ghosts N) (c : Course) (cuts first : List ℕ) (old new : Option (List ℕ)) (nv : N) : Type 0 where
  pub budgets : HasBudgets cuts (g.ends nv) (g.left nv) (g.to_come nv)
  pub images : HasImages c cuts first (g.ends nv) (g.words nv)
  pub text : IsPart old new (report c cuts first (g.ends nv) (g.words nv))

-- the device is as it was
pub record IsUntouched {N : Type 0} (g : Ghosts N) (old new : N) : Type 0 where
  pub words : g.words new ≡ g.words old
  pub left : g.left new ≡ g.left old
  pub to_come : g.to_come new ≡ g.to_come old
  pub ends : g.ends new ≡ g.ends old
