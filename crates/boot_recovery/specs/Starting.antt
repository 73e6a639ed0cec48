-- What formatting is for: the image that it writes stands for the kernel at the start.
use Rattle.std.specs.Prelude.{◌≡◌, ℕ, List, slice_index}
use Rattle.thread_tree.specs.Program.{Program}
use Rattle.thread_tree.specs.Limits.{IsWithinLimits}
use Rattle.kernel_model.specs.Run.{initial}
use Rattle.kernel_image.specs.Decoded.{decoded_of}
use Rattle.kernel_image.specs.Initial.{initial_cell}
use Rattle.replay_list.specs.Kept.{IsKept}
use Rattle.replay_list.specs.Stands.{Stands}

-- the image that formatting writes stands for the kernel of the program at the start
abbrev pub FormattedStands : Type 0
FormattedStands = (p : Program) → IsWithinLimits p → Stands p (decoded_of (initial_cell p)) (initial p)

-- a blank device is kept for that kernel
abbrev pub BlankIsKept : Type 0
BlankIsKept = (p : Program) (words : List ℕ) → slice_index words 0 ≡ 0 → IsKept p words (initial p)
