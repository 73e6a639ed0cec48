-- The answers of `holding_laws`.
use Rattle.kernel_calls.proofs.HoldLaws.{held-now, held-later, acted-answers, acted-blocks}
use Rattle.kernel_calls.proofs.laws.holding_laws.Goals as goal

pub returns-clause-held_now : goal.returns-clause-held_now
returns-clause-held_now c = held-now

pub returns-clause-held_later : goal.returns-clause-held_later
returns-clause-held_later c = held-later

pub returns-clause-answers : goal.returns-clause-answers
returns-clause-answers c = acted-answers

pub returns-clause-blocks : goal.returns-clause-blocks
returns-clause-blocks c = acted-blocks
