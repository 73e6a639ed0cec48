-- When the words of a device, with the journal undone, are kept for a state of the kernel.
use Rattle.std.specs.Prelude.{◌≡◌, ◌≢◌, ℕ, ◌+◌, ◌==◌, if◌then◌else◌, List, sum_by, slice_index}
use Rattle.undo_journal.specs.Undo.{magic, entries, undoing, IsJournalled}
use Rattle.thread_tree.specs.Program.{Program}
use Rattle.kernel_model.specs.Kernel as kernel
use Rattle.kernel_model.specs.Kernel.{State}
use Rattle.kernel_model.specs.Kernel.Row.{Free, Ended, Live}
use Rattle.kernel_model.specs.Run.{initial}
use Rattle.kernel_image.specs.Decoded.{saved_image_in}
use Rattle.replay_list.specs.Stands.{Stands}

-- a formatted device whose words, with the well formed journal undone, stand for a kernel
pub record IsSaved (p : Program) (words : List ℕ) (K : State) : Type 0 where
  pub journalled : IsJournalled words
  pub stands : Stands p (saved_image_in words) K

-- a device that isn't formatted yet is kept for the kernel at the start
pub record IsBlank (p : Program) (words : List ℕ) (K : State) : Type 0 where
  pub blank : slice_index words 0 ≡ 0
  pub initial : K ≡ initial p

-- the words are kept for a kernel
pub record IsKept (p : Program) (words : List ℕ) (K : State) : Type 0 where
  pub saved : slice_index words 0 ≡ magic → IsSaved p words K
  pub blank : slice_index words 0 ≢ magic → IsBlank p words K

-- what it takes to restore the thread of a row: its moves and its records, and one
abbrev pub cost_of_row : kernel.Row → ℕ
cost_of_row Free = 0
cost_of_row (Ended template priority code) = 0
cost_of_row (Live thread) = thread.age + thread.passed + 1

-- what a recovery takes of a formatted device whose words are kept for a kernel
abbrev pub cost : List ℕ → State → ℕ
cost words K = entries words + 1 + sum_by cost_of_row K.rows

-- how many writes a recovery needs: all of them to format, or those that undo the journal
abbrev pub recovering : List ℕ → ℕ
recovering words = if slice_index words 0 == magic then undoing words else 16384

-- the steps that a recovery may take
abbrev pub recovery_steps : List ℕ → State → ℕ
recovery_steps words K = if slice_index words 0 == magic then cost words K else 16384

-- how many events the words show
unfoldable pub counter_of : List ℕ → ℕ
counter_of words = if slice_index words 0 == magic then (saved_image_in words).events else 0
