use Rattle.std.proofs.Common.{ℕ, ◌-◌}
use Rattle.thread_tree.specs.Program.{program_of}
use Rattle.thread_machine.specs.Context.{local_of}
use Rattle.thread_machine.specs.Reached.{IsContext}
use Rattle.kernel_model.specs.Kernel.{Thread}
use Rattle.kernel_image.specs.Decoded.{image_in, row_at}
use Rattle.boot_recovery.specs.Remaining.{Remains}
use Rattle.boot_recovery.proofs.restoring.replay_all.Given as goal

abbrev pub invariant-loop-from : goal.invariant-loop-from
invariant-loop-from g l = record {
  context : IsContext (program_of l.program) l.ctx;
  goes : (before : ℕ) (known : Thread) → Remains (program_of l.program) (row_at (image_in (g.W.Words.present l.words)) l.thread) 0 (local_of (program_of l.program) l.fn.ctx) before l.fn.steps known → Remains (program_of l.program) (row_at (image_in (g.W.Words.present l.words)) l.thread) l.from (local_of (program_of l.program) l.ctx) before l.steps known;
}

abbrev pub decreases-loop-from : goal.decreases-loop-from
decreases-loop-from g l = l.used - l.from
