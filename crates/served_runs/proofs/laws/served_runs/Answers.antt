-- No thread of the run of a served program is delayed or waits.
use Rattle.served_runs.proofs.RunLaws.{ready_run, untimed_run}
use Rattle.served_runs.proofs.laws.served_runs.Goals as goal

pub returns-clause-ready : goal.returns-clause-ready
returns-clause-ready c = ready_run

pub returns-clause-untimed : goal.returns-clause-untimed
returns-clause-untimed c = untimed_run
