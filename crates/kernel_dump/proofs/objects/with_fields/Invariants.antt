use Rattle.std.proofs.Common.{◌≡◌, ◌≤◌, ◌+◌, ◌*◌, ◌++◌, length}
use Rattle.std.specs.Prelude.{map, slice_index}
use Rattle.thread_tree.specs.Program.{program_of}
use Rattle.kernel_model.specs.Show.{bytes_of}
use Rattle.kernel_image.specs.Decoded.{image_in, listed}
use Rattle.kernel_dump.specs.Parts.{fields_in, fields_text}
use Rattle.kernel_dump.proofs.ObjectLines.{fields_from}
use Rattle.kernel_dump.proofs.objects.with_fields.Given as goal

abbrev pub invariant-loop-field : goal.invariant-loop-field
invariant-loop-field g l = record {
  text : l.line ++ fields_from (bytes_of (program_of l.program)) (λ field. slice_index (image_in (g.W.Words.present l.words)).heap (l.place + 1 + field)) (fields_in l.decl) l.field
      ≡ l.initial.line ++ fields_text (map (bytes_of (program_of l.program)) (fields_in l.decl)) (listed (length (fields_in l.decl)) (λ field. slice_index (image_in (g.W.Words.present l.words)).heap (l.place + 1 + field)));
  len : length l.line ≤ 100 + 36 * l.field;
}
