use Rattle.std.proofs.Common.{◌∙◌, sym}
use Rattle.thread_tree.specs.Program.{program_of}
use Rattle.kernel_image.specs.Decoded.{image_in, row_at}
use Rattle.boot_recovery.proofs.RowLaws.{row_word_1, row_word_13}
use Rattle.boot_recovery.proofs.BeginLaws.{finds_birth, starts_birth, finds_loop, starts_loop}
use Rattle.boot_recovery.proofs.restoring.begin.Goals as goal

pub fresh-ctx-requires : goal.fresh-ctx-requires
fresh-ctx-requires g c = record {
  template = finds_birth (program_of c.args.program.now) (row_at (image_in (g.W.Words.present c.args.words.now)) c.args.thread) c.load-template.result c.as_slice.result.now c.requires.starts.0
      (row_word_13 _ c.args.thread c.requires.thread ∙ sym c.load-start.ensures.word ∙ c.if-start-eq0.true)
      (row_word_1 _ c.args.thread c.requires.thread ∙ sym c.load-template.ensures.word)
      (sym (c.as_slice.ensures.value ∙ c.start_values-values.ensures.values)) c.requires.starts.1;
}

pub returns-then-start-eq0-clause-started : goal.returns-then-start-eq0-clause-started
returns-then-start-eq0-clause-started g c =
    let none = row_word_13 _ c.args.thread c.requires.thread ∙ sym c.load-start.ensures.word ∙ c.if-start-eq0.true in
    let template = row_word_1 _ c.args.thread c.requires.thread ∙ sym c.load-template.ensures.word in
    let values = sym (c.as_slice.ensures.value ∙ c.start_values-values.ensures.values) in
    starts_birth (program_of c.args.program.now) (row_at (image_in (g.W.Words.present c.args.words.now)) c.args.thread) c.load-template.result c.as_slice.result.now _ none template values
    (finds_birth (program_of c.args.program.now) (row_at (image_in (g.W.Words.present c.args.words.now)) c.args.thread) c.load-template.result c.as_slice.result.now c.requires.starts.0 none template values c.requires.starts.1)
    c.fresh-ctx.ensures.born

pub at_loop-ctx-requires : goal.at_loop-ctx-requires
at_loop-ctx-requires g c = record {
  there = finds_loop (program_of c.args.program.now) (row_at (image_in (g.W.Words.present c.args.words.now)) c.args.thread) c.load-start.result c.as_slice-2.result.now c.requires.starts.0
      (row_word_13 _ c.args.thread c.requires.thread ∙ sym c.load-start.ensures.word)
      c.if-start-eq0.false
      (sym (c.as_slice-2.ensures.value ∙ c.start_values-values.ensures.values)) c.requires.starts.1;
}

pub returns-clause-started : goal.returns-clause-started
returns-clause-started g c =
    let start = row_word_13 _ c.args.thread c.requires.thread ∙ sym c.load-start.ensures.word in
    let values = sym (c.as_slice-2.ensures.value ∙ c.start_values-values.ensures.values) in
    starts_loop (program_of c.args.program.now) (row_at (image_in (g.W.Words.present c.args.words.now)) c.args.thread) c.load-start.result c.as_slice-2.result.now _ start c.if-start-eq0.false values
    (finds_loop (program_of c.args.program.now) (row_at (image_in (g.W.Words.present c.args.words.now)) c.args.thread) c.load-start.result c.as_slice-2.result.now c.requires.starts.0 start c.if-start-eq0.false values c.requires.starts.1)
    c.at_loop-ctx.ensures.inside
