use Rattle.intos_run.proofs.ReportLemmas.{tells}
use Rattle.intos_run.proofs.top.refuse.Goals as goal

pub returns-clause-tells : goal.returns-clause-tells
returns-clause-tells g c = tells _ _ _ _ _ _ c.put.ensures.puts c.put.ensures.cause
