-- How a boot ends.
use Rattle.std.specs.Prelude.{◌≡◌, ◌==◌, ℕ, ◌+◌, ◌-◌, ◌*◌, ◌<◌, ◌≤◌, List, [], ◌∷◌, ◌++◌, Option, Some, false, if◌then◌else◌, slice_index}
use Rattle.nv_memory.specs.Budget.{IsShort}
use Rattle.nv_memory.specs.declared.nv.Nv.{Ghosts}
use Rattle.outer_world.specs.Causes.{Rose}
use Rattle.outer_world.specs.Written.{put_to, IsPart}
use Rattle.kernel_model.specs.Dump.{text_of}
use Rattle.kernel_image.specs.Decoded.{image_in}
use Rattle.undo_journal.specs.Undo.{magic, IsAtRest}
use Rattle.replay_list.specs.Kept.{counter_of}
use Rattle.replay_list.specs.Stands.{Stands}
use Rattle.kernel_boots.specs.Boots.{IsSpent}
use Rattle.kernel_boots.specs.Courses.{Course, uncut, last, IsUnderWay}
use Rattle.boot_report.specs.Lines.{begin_lines, end_line, cut_line}
use Rattle.intos_run.specs.Boots.{IsLater, IsCutBoot}
use Rattle.intos_run.specs.Report.{goes_dark, start_lines, cut_boot, last_boot}
use Rattle.intos_run.specs.Runs.{restoring}
use Rattle.intos_run.specs.declared.boot.BootEnd.{BootEnd}
use Rattle.intos_run.specs.declared.boot.BootEnd.TheVariants.{Done, Cut, SinkFailed}
use Rattle.thread_tree.specs.declared.limits.TheConstants.{MOVES}
use Rattle.kernel_events.specs.declared.writes.TheConstants.{EVENT_WRITES}

-- a fact for each way in which a boot ends
abbrev pub MatchEnd : {N : Type 0} → BootEnd N → (N → Type 0) → (N → Type 0) → (N → Type 0) → Type 0
MatchEnd (Done nv) P Q R = P nv
MatchEnd (Cut nv) P Q R = Q nv
MatchEnd (SinkFailed nv) P Q R = R nv

-- one fact, whichever way it ends
abbrev pub EachEnd : {N : Type 0} → BootEnd N → (N → Type 0) → Type 0
EachEnd end P = MatchEnd end P P P

-- the sink's faults rose where the boot ended for them, and stand as they were otherwise
abbrev pub HasEndCause : {N : Type 0} → BootEnd N → ℕ → ℕ → Type 0
HasEndCause end before now = MatchEnd end (λ _. now ≡ before) (λ _. now ≡ before) (λ _. Rose before now)

-- the steps of a boot are at most those of its recovery, and 10,000 for each event that it committed and for one more
abbrev pub BootSteps : Course → ℕ → ℕ → List ℕ → List ℕ → Type 0
BootSteps c old new before left =
    new + MOVES * counter_of before ≤ old + restoring c before + MOVES * (counter_of left + 1)

-- the words that a recovered kernel left are kept for a kernel of the course that counts at least n events
pub record IsWorked (c : Course) (n : ℕ) (words : List ℕ) : Type 0 where
  pub under_way : IsUnderWay c words
  pub later : n ≤ counter_of words

-- the lines of a boot whose recovery was finished after n events, and which came to m events
unfoldable pub live_lines : Course → ℕ → ℕ → ℕ → ℕ → List (List ℕ)
live_lines c number undone n m =
    begin_lines number undone c.program (uncut c n) ++ (if m == last c then end_line number (last c) ∷ [] else cut_line number m ∷ [])

-- a kernel recovered after n events went on to these words, its lines were written, and it came to the last event
pub record EndsDone {N : Type 0} (g : Ghosts N) (c : Course) (number undone n : ℕ) (idle : N) (old new : Option (List ℕ)) (nv : N) : Type 0 where
  pub worked : IsWorked c n (g.words nv)
  pub all : counter_of (g.words nv) ≡ last c
  pub at_rest : IsAtRest (g.words nv)
  pub stands : Stands c.program (image_in (g.words nv)) (uncut c (last c))
  pub spent : IsSpent g idle nv
  pub text : new ≡ put_to old (text_of (live_lines c number undone n (counter_of (g.words nv))))

-- it was cut before the last event
pub record EndsCut {N : Type 0} (g : Ghosts N) (c : Course) (number undone n : ℕ) (idle : N) (old new : Option (List ℕ)) (nv : N) : Type 0 where
  pub worked : IsWorked c n (g.words nv)
  pub some : counter_of (g.words nv) < last c
  pub progress : IsShort (g.left idle) (EVENT_WRITES * (counter_of (g.words nv) + 1 - n))
  pub dark : g.left nv ≡ Some 0
  pub spent : IsSpent g idle nv
  pub text : new ≡ put_to old (text_of (live_lines c number undone n (counter_of (g.words nv))))

-- the sink failed, and a part of its lines was written
pub record EndsFailed {N : Type 0} (g : Ghosts N) (c : Course) (number undone n : ℕ) (idle : N) (old new : Option (List ℕ)) (nv : N) : Type 0 where
  pub worked : IsWorked c n (g.words nv)
  pub formatted : counter_of (g.words nv) ≡ last c → slice_index (g.words nv) 0 ≡ magic
  pub spent : IsSpent g idle nv
  pub text : IsPart old new (text_of (live_lines c number undone n (counter_of (g.words nv))))

-- a boot came to the last event
pub record IsDone {N : Type 0} (g : Ghosts N) (c : Course) (number : ℕ) (before : N) (old new : Option (List ℕ)) (nv : N) : Type 0 where
  pub live : goes_dark (g.left before) (g.words before) ≡ false
  pub images : IsLater c (g.words before) (g.words nv)
  pub all : counter_of (g.words nv) ≡ last c
  pub at_rest : IsAtRest (g.words nv)
  pub stands : Stands c.program (image_in (g.words nv)) (uncut c (last c))
  pub spent : IsSpent g before nv
  pub text : new ≡ put_to old (text_of (start_lines c number (g.words before) ++ end_line number (last c) ∷ []))

-- a boot was cut
pub record IsCut {N : Type 0} (g : Ghosts N) (c : Course) (number : ℕ) (before : N) (old new : Option (List ℕ)) (nv : N) : Type 0 where
  pub boot : IsCutBoot c (g.left before) (g.words before) (g.words nv)
  pub dark : g.left nv ≡ Some 0
  pub spent : IsSpent g before nv
  pub text : new ≡ put_to old (text_of (cut_boot c number (g.left before) (g.words before) (g.words nv)))

-- a boot ended because the sink failed: a part of its report was written
pub record IsFailed {N : Type 0} (g : Ghosts N) (c : Course) (number : ℕ) (before : N) (old new : Option (List ℕ)) (nv : N) : Type 0 where
  pub images : IsLater c (g.words before) (g.words nv)
  pub spent : IsSpent g before nv
  pub text : IsPart old new (text_of (last_boot c number (g.left before) (g.words before) (g.words nv)))
