-- What formatting is for: the image that it writes shows the kernel of the program at the start.
use Rattle.std.specs.Prelude.{◌≡◌, ℕ, ◌==◌, ◌<◌, if◌then◌else◌, List, slice_index}
use Rattle.undo_journal.specs.Undo.{IsAtRest}
use Rattle.kernel_model.specs.Run.{initial}
use Rattle.kernel_model.specs.Show.{visible}
use Rattle.kernel_model.specs.Visible.{Visible}
use Rattle.thread_tree.specs.Program.{Program}
use Rattle.thread_tree.specs.Limits.{IsWithinLimits}
use Rattle.kernel_image.specs.Decoded.{decoded_of, image_in}
use Rattle.kernel_image.specs.Shown.{shown}
use Rattle.kernel_image.specs.Initial.{initial_cell, initial_word}

-- each word of the device is the one that formatting writes
pub record IsFormatted (p : Program) (words : List ℕ) : Type 0 where
  pub each : (at : ℕ) → at < 16384 → slice_index words at ≡ initial_word p at

-- the image in such words is the one of the initial cells
abbrev pub FormattedImage : Type 0
FormattedImage = (p : Program) (words : List ℕ) → IsFormatted p words → image_in words ≡ decoded_of (initial_cell p)

-- that image shows the kernel of the program at the start
abbrev pub ShowsTheStart : Type 0
ShowsTheStart = (p : Program) → IsWithinLimits p → shown p (decoded_of (initial_cell p)) ≡ visible p (initial p)

-- what the words of a device show; one that isn't formatted shows the kernel at the start
unfoldable pub shown_in : Program → List ℕ → Visible
shown_in p words = if slice_index words 0 == 0 then visible p (initial p) else shown p (image_in words)

-- formatted words have no entries in the journal, and show the kernel at the start as the blank ones did
abbrev pub FormattedRests : Type 0
FormattedRests = (p : Program) (words : List ℕ) → IsFormatted p words → IsAtRest words

abbrev pub FormattedShows : Type 0
FormattedShows = (p : Program) (words : List ℕ) → IsWithinLimits p → IsFormatted p words → shown_in p words ≡ visible p (initial p)
