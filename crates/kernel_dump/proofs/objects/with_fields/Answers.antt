use Rattle.std.proofs.Common.{ℕ, List, ◌+◌, ◌<◌, ◌≤◌, ◌++◌, length, codes, ap, sym, ◌∙◌, arith, append-nil}
use Rattle.std.specs.Fmt.{decimal}
use Rattle.std.specs.Prelude.{slice_index}
use Rattle.thread_tree.specs.Program.{program_of}
use Rattle.kernel_model.specs.Show.{bytes_of}
use Rattle.kernel_image.specs.Decoded.{image_in}
use Rattle.kernel_dump.specs.Parts.{fields_in}
use Rattle.kernel_dump.proofs.ObjectLines.{fields_from, fields_from-first, fields_from-next, fields_from-last, field_put}
use Rattle.kernel_dump.proofs.objects.with_fields.Goals as goal

pub loop-field-init : goal.loop-field-init
loop-field-init g c = record {
  text = ap (λ (text : List ℕ). c.args.line ++ text) (fields_from-first (bytes_of (program_of c.args.program.now)) (λ field. slice_index (image_in (g.W.Words.present c.args.words.now)).heap (c.args.place + 1 + field)) (fields_in c.args.decl.now));
  len = omega (arith, c.requires.room);
}

pub loop-field-preserved : goal.loop-field-preserved
loop-field-preserved g c =
    let f = bytes_of (program_of c.args.program.now) in
    let value : ℕ → ℕ = λ field. slice_index (image_in (g.W.Words.present c.args.words.now)).heap (c.args.place + 1 + field) in
    let ids = fields_in c.args.decl.now in
    let k = c.loop-field.field in
    let line = c.loop-field.line in
    let low : k < length ids = omega (arith, c.loop-field-test.true, c.field_count-field-end.ensures.count) in
    let name = c.bytes_of-name.ensures.bytes ∙ ap f c.field_name.ensures.name in
    let put = c.number-line.ensures.text
    ∙ ap (λ (text : List ℕ). text ++ decimal c.heap_word-value.result) c.word-in-loop-field.ensures.text
    ∙ ap (λ (text : List ℕ). text ++ codes "=" ++ decimal c.heap_word-value.result) c.bytes.ensures.text
    ∙ ap (λ (text : List ℕ). text ++ c.bytes_of-name.result.now ++ codes "=" ++ decimal c.heap_word-value.result) c.word.ensures.text
    ∙ ap (λ (text : List ℕ). line ++ codes " " ++ text ++ codes "=" ++ decimal c.heap_word-value.result) name
    ∙ ap (λ (n : ℕ). line ++ codes " " ++ f (slice_index ids k) ++ codes "=" ++ decimal n) c.heap_word-value.ensures.word in
    record {
      text = ap (λ (text : List ℕ). text ++ fields_from f value ids (k + 1)) put
          ∙ field_put line (f (slice_index ids k)) (fields_from f value ids (k + 1)) _ (value k) (ap (λ (text : List ℕ). line ++ text) (sym (fields_from-next f value ids k low)) ∙ c.loop-field.invariant.text);
      len = omega (arith, c.loop-field.invariant.len, c.number-line.ensures.len, c.word-in-loop-field.ensures.len, c.bytes.ensures.len, c.word.ensures.len, c.bytes_of-name.ensures.short);
    }

pub returns-clause-text : goal.returns-clause-text
returns-clause-text g c =
    let f = bytes_of (program_of c.args.program.now) in
    let value : ℕ → ℕ = λ field. slice_index (image_in (g.W.Words.present c.args.words.now)).heap (c.args.place + 1 + field) in
    let ids = fields_in c.args.decl.now in
    let past : length ids ≤ c.loop-field.field = omega (arith, c.loop-field-test.false, c.field_count-field-end.ensures.count) in
    sym (append-nil c.loop-field.line) ∙ ap (λ (text : List ℕ). c.loop-field.line ++ text) (sym (fields_from-last f value ids c.loop-field.field past)) ∙ c.loop-field.invariant.text
