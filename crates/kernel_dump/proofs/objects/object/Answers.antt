use Rattle.std.proofs.Common.{ℕ, List, ◌+◌, ◌++◌, length, ap, sym, ◌∙◌}
use Rattle.std.specs.Prelude.{map, slice_index}
use Rattle.thread_tree.specs.Program.{program_of}
use Rattle.kernel_model.specs.Show.{bytes_of}
use Rattle.kernel_image.specs.Decoded.{image_in, listed}
use Rattle.kernel_dump.specs.Parts.{fields_in, fields_text}
use Rattle.kernel_dump.proofs.ObjectLines.{object_found}
use Rattle.kernel_dump.proofs.objects.object.Goals as goal

pub returns-in-Some-clause-text : goal.returns-in-Some-clause-text
returns-in-Some-clause-text g c =
    let heap = (image_in (g.W.Words.present c.args.words.now)).heap in
    let ids = fields_in c.in-Some.decl.now in
    c.with_fields.ensures.text
    ∙ ap (λ (text : List ℕ). text ++ fields_text (map (bytes_of (program_of c.args.program.now)) ids) (listed (length ids) (λ field. slice_index heap (c.args.place + 1 + field)))) c.object_start-line.ensures.text
    ∙ sym (object_found c.args.program.now heap c.args.place c.heap_word-header.result c.saturating_sub-kind.result c.in-Some.decl.now c.heap_word-header.ensures.word c.saturating_sub-kind.ensures (sym c.in-Some.ensures.found))
