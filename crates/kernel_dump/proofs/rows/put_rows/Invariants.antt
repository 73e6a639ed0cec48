use Rattle.std.proofs.Common.{◌≡◌}
use Rattle.thread_tree.specs.Program.{program_of}
use Rattle.kernel_model.specs.Dump.{text_of}
use Rattle.kernel_model.specs.Show.{names_of}
use Rattle.kernel_image.specs.Cells.{present}
use Rattle.kernel_dump.proofs.Looped.{lines_below, text_from}
use Rattle.kernel_dump.proofs.PutInParts.{IsLeft}
use Rattle.kernel_dump.proofs.ThreadLines.{lines_of_thread}
use Rattle.kernel_dump.proofs.rows.put_rows.Given as goal

abbrev pub invariant-loop-thread : goal.invariant-loop-thread
invariant-loop-thread g l = record {
  left : IsLeft (g.S.Sink.bytes l.initial.sink) (g.S.Sink.bytes l.sink)
      (text_of (lines_below (lines_of_thread (names_of (program_of l.program)) (present (g.W.Words.present l.words))) 16))
      (text_from (lines_of_thread (names_of (program_of l.program)) (present (g.W.Words.present l.words))) l.thread 16);
  faults : g.S.Sink.faults l.sink ≡ g.S.Sink.faults l.initial.sink;
}
