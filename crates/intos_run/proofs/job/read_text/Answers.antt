use Rattle.std.proofs.Common.{sym, subst}
use Rattle.intos_run.specs.Refusals.{RefusesText}
use Rattle.intos_run.proofs.TextFaults.{refuses}
use Rattle.intos_run.proofs.job.read_text.Goals as goal

pub returns-in-Err-clause-refused : goal.returns-in-Err-clause-refused
returns-in-Err-clause-refused c =
    subst (RefusesText c.args.text.now) (sym c.refusal_of_text.ensures.same) (refuses c.args.text.now c.in-Err.fault c.requires.short c.in-Err.ensures.answer c.in-Err.ensures.explained)
