use Rattle.std.proofs.Common.{◌≡◌, ◌+◌, List, length, take}
use Rattle.std.specs.Prelude.{sum_by}
use Rattle.thread_tree.specs.Program.{program_of}
use Rattle.kernel_model.specs.Kernel.{Row}
use Rattle.kernel_image.specs.Agree.{Both}
use Rattle.kernel_image.specs.Decoded.{image_in}
use Rattle.replay_list.specs.Stands.{IsRow, HasContext}
use Rattle.boot_recovery.specs.Remaining.{age_in}
use Rattle.boot_recovery.proofs.rows.restore_all.Given as goal

abbrev pub invariant-loop-thread : goal.invariant-loop-thread
invariant-loop-thread g l = record {
  sized : length l.contexts ≡ 16;
  restored : (rows : List Row) → Both (IsRow (program_of l.program)) (image_in (g.W.Words.present l.words)).rows rows → Both (HasContext (program_of l.program)) (take l.thread l.contexts) (take l.thread rows);
  stepped : (rows : List Row) → Both (IsRow (program_of l.program)) (image_in (g.W.Words.present l.words)).rows rows → l.steps ≡ l.fn.steps + sum_by age_in (take l.thread rows);
}
