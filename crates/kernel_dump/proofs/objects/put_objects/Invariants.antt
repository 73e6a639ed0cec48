use Rattle.std.proofs.Common.{◌≡◌}
use Rattle.thread_tree.specs.Program.{program_of}
use Rattle.kernel_model.specs.Dump.{text_of}
use Rattle.kernel_model.specs.Show.{names_of}
use Rattle.kernel_image.specs.Decoded.{image_in}
use Rattle.kernel_dump.proofs.Looped.{lines_below, text_from}
use Rattle.kernel_dump.proofs.PutInParts.{IsLeft}
use Rattle.kernel_dump.specs.Parts.{lines_at}
use Rattle.kernel_dump.proofs.objects.put_objects.Given as goal

abbrev pub invariant-loop-half : goal.invariant-loop-half
invariant-loop-half g l = record {
  left : IsLeft (g.S.Sink.bytes l.initial.sink) (g.S.Sink.bytes l.sink)
      (text_of (lines_below (lines_at (names_of (program_of l.program)) (program_of l.program) (image_in (g.W.Words.present l.words)).heap (image_in (g.W.Words.present l.words)).live) 2048))
      (text_from (lines_at (names_of (program_of l.program)) (program_of l.program) (image_in (g.W.Words.present l.words)).heap (image_in (g.W.Words.present l.words)).live) l.half 2048);
  faults : g.S.Sink.faults l.sink ≡ g.S.Sink.faults l.initial.sink;
}
