-- The laws of open calls.
use Rattle.kernel_model.proofs.AwaitLaws.{delayed-calls, waiting-calls, awaited-calls, woken-calls}
use Rattle.kernel_model.proofs.laws.open_calls.Goals as goal

pub returns-clause-delayed : goal.returns-clause-delayed
returns-clause-delayed c = λ p K t wake thread. delayed-calls p K t thread wake

pub returns-clause-waiting : goal.returns-clause-waiting
returns-clause-waiting c = waiting-calls

pub returns-clause-awaited : goal.returns-clause-awaited
returns-clause-awaited c = awaited-calls

pub returns-clause-woken : goal.returns-clause-woken
returns-clause-woken c = λ p K t tick thread. woken-calls p K t thread tick
