use Rattle.std.proofs.Common.{◌≡◌, ◌≤◌, length, map}
use Rattle.kernel_model.specs.Dump.{console_line, console_lines, text_of}
use Rattle.kernel_dump.proofs.PutInParts.{IsLeft}
use Rattle.kernel_dump.proofs.console.put_console_lines.Given as goal

abbrev pub decreases-loop-rest : goal.decreases-loop-rest
decreases-loop-rest g l = length l.rest

abbrev pub invariant-loop-rest : goal.invariant-loop-rest
invariant-loop-rest g l = record {
  short : length l.rest ≤ 8192;
  left : IsLeft (g.S.Sink.bytes l.initial.sink) (g.S.Sink.bytes l.sink)
      (text_of (map console_line (console_lines l.initial.rest))) (text_of (map console_line (console_lines l.rest)));
  faults : g.S.Sink.faults l.sink ≡ g.S.Sink.faults l.initial.sink;
}
