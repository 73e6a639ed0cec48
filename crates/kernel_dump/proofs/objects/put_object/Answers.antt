use Rattle.std.proofs.Common.{ℕ, List, ap, sym, ◌∙◌}
use Rattle.outer_world.proofs.Callers.{put_nothing}
use Rattle.outer_world.specs.Written.{put_to}
use Rattle.thread_tree.specs.Program.{program_of}
use Rattle.kernel_model.specs.Dump.{text_of}
use Rattle.kernel_model.specs.Show.{names_of}
use Rattle.kernel_image.specs.Decoded.{image_in}
use Rattle.kernel_dump.proofs.ObjectLines.{lines_at_none}
use Rattle.kernel_dump.proofs.objects.put_object.Goals as goal

pub returns-then-not-is_begun-clause-puts : goal.returns-then-not-is_begun-clause-puts
returns-then-not-is_begun-clause-puts g c =
    let image = image_in (g.W.Words.present c.args.words.now) in
    let old = g.S.Sink.bytes c.args.sink.now in
    let none = sym c.is_begun.ensures.is ∙ c.if-not-is_begun.true in
    sym (ap (λ (lines : List (List ℕ)). put_to old (text_of lines)) (lines_at_none (names_of (program_of c.args.program.now)) (program_of c.args.program.now) image.heap image.live c.args.half none) ∙ put_nothing old)
