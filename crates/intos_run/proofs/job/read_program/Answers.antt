use Rattle.std.proofs.Common.{IfErr, subst}
use Rattle.intos_run.specs.Refusals.{RefusesText}
use Rattle.intos_run.proofs.TextFaults.{answer_refused}
use Rattle.intos_run.proofs.job.read_program.Goals as goal

pub returns-in-Ok-clause-refused : goal.returns-in-Ok-clause-refused
returns-in-Ok-clause-refused g c =
    let whole = c.in-Ok.ensures.whole in
    answer_refused c.read_text.result (g.F.Files.contents c.args.files.now c.args.name.now) c.read_all.new.into.items (g.F.Files.taken c.args.files.now) (g.F.Files.taken c.read_all.new.self) (g.F.Files.faults c.args.files.now) (g.F.Files.faults c.read_all.new.self) whole.within whole.exact c.in-Ok.ensures.cause.cause
    (subst (λ text. IfErr c.read_text.result (RefusesText text)) c.deref.ensures.value c.read_text.ensures.refused)
