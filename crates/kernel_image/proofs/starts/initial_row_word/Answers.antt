use Rattle.std.proofs.Common.{ℕ, ap, sym, ◌∙◌}
use Rattle.thread_tree.specs.Program.{program_of}
use Rattle.kernel_image.specs.Initial.{initial_row_word}
use Rattle.kernel_image.proofs.StartLaws.{row_word-started}
use Rattle.kernel_image.proofs.starts.initial_row_word.Goals as goal

pub returns-in-2 : goal.returns-in-2
returns-in-2 c = record {
  word =
      c.started_priority.ensures.priority
      ∙ sym (row_word-started (program_of c.args.program.now) c.args.thread 2 c.in-Some.name c.in-Some.ensures.template)
      ∙ ap (λ (w : ℕ). initial_row_word (program_of c.args.program.now) c.args.thread w) (sym c.in-2.is);
}
