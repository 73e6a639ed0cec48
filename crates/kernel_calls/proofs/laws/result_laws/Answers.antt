-- The answers of `result_laws`.
use Rattle.kernel_calls.proofs.ResultLaws.{matches-woken, matches-served, listed_same, listed_finished, listed_recorded, context_held, unfinished_at}
use Rattle.kernel_calls.proofs.laws.result_laws.Goals as goal

pub returns-clause-woken : goal.returns-clause-woken
returns-clause-woken c = matches-woken c.standing_laws.ensures.finished

pub returns-clause-served : goal.returns-clause-served
returns-clause-served c = matches-served c.standing_laws.ensures.finished

pub returns-clause-listed_same : goal.returns-clause-listed_same
returns-clause-listed_same c = listed_same

pub returns-clause-listed_finished : goal.returns-clause-listed_finished
returns-clause-listed_finished c = listed_finished

pub returns-clause-listed_recorded : goal.returns-clause-listed_recorded
returns-clause-listed_recorded c = listed_recorded

pub returns-clause-context : goal.returns-clause-context
returns-clause-context c = context_held

pub returns-clause-unfinished : goal.returns-clause-unfinished
returns-clause-unfinished c = unfinished_at
