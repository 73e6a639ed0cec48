use Rattle.std.proofs.Common.{◌≡◌}
use Rattle.thread_tree.specs.Program.{program_of}
use Rattle.kernel_image.specs.Decoded.{image_in}
use Rattle.kernel_model.specs.Dump.{text_of}
use Rattle.kernel_dump.proofs.Callers.{lines_below, text_from, IsLeft}
use Rattle.boot_report.proofs.Rows.{lines_at}
use Rattle.boot_report.proofs.threads.put_threads.Given as goal

abbrev pub invariant-loop-thread : goal.invariant-loop-thread
invariant-loop-thread g l = record {
  left : IsLeft (g.S.Sink.bytes l.initial.sink) (g.S.Sink.bytes l.sink)
      (text_of (lines_below (lines_at l.number (program_of l.program) (image_in (g.W.Words.present l.words)) l.contexts) 16))
      (text_from (lines_at l.number (program_of l.program) (image_in (g.W.Words.present l.words)) l.contexts) l.thread 16);
  faults : g.S.Sink.faults l.sink ≡ g.S.Sink.faults l.initial.sink;
}
