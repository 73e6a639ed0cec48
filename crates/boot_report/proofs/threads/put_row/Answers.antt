use Rattle.std.proofs.Common.{Option, ap, sym, ◌∙◌}
use Rattle.std.specs.Option.{option_copied}
use Rattle.outer_world.proofs.Callers.{put_nothing}
use Rattle.outer_world.specs.Written.{put_to}
use Rattle.thread_tree.specs.Program.{program_of}
use Rattle.thread_machine.specs.declared.context.Ctx.{Ctx}
use Rattle.kernel_image.specs.Decoded.{image_in, row_at}
use Rattle.kernel_model.specs.Dump.{text_of}
use Rattle.boot_report.specs.Parts.{lines_by}
use Rattle.boot_report.proofs.threads.put_row.Goals as goal

pub returns-in-None-clause-puts : goal.returns-in-None-clause-puts
returns-in-None-clause-puts g c =
    let old = g.S.Sink.bytes c.args.sink.now in
    let row = row_at (image_in (g.W.Words.present c.args.words.now)) c.args.thread in
    let none = sym c.get.ensures.found ∙ ap option_copied c.in-None.is in
    sym (ap (λ (found : Option Ctx). put_to old (text_of (lines_by c.args.number (program_of c.args.program.now) c.args.thread row.template found))) none ∙ put_nothing old)
