use Rattle.std.proofs.Common.{◌≡◌, ◌≤◌, ◌*◌, take}
use Rattle.std.specs.Prelude.{sum_by}
use Rattle.thread_tree.specs.Program.{program_of}
use Rattle.kernel_image.specs.Decoded.{image_in}
use Rattle.kernel_model.specs.Kernel.{State}
use Rattle.replay_list.specs.Stands.{KernelStands}
use Rattle.boot_report.specs.Lines.{passed_in}
use Rattle.boot_report.proofs.passing.passed_by_all.Given as goal

abbrev pub invariant-loop-thread : goal.invariant-loop-thread
invariant-loop-thread g l = record {
  all : (K : State) → KernelStands (program_of l.program) (image_in (g.W.Words.present l.words)) l.contexts K
      → l.all ≡ sum_by passed_in (take l.thread K.rows);
  few : l.all ≤ 256 * l.thread;
}
