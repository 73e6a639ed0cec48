-- The laws of a step.
use Rattle.kernel_model.proofs.StepLaws.{step-nobody, step-finished, step-watchdog, step-no_room, step-acted, step-ready, ran_ahead-sound, ran_ahead-caller}
use Rattle.kernel_model.proofs.laws.stepping.Goals as goal

pub returns-clause-nobody : goal.returns-clause-nobody
returns-clause-nobody c = step-nobody

pub returns-clause-ran_ahead : goal.returns-clause-ran_ahead
returns-clause-ran_ahead c = ran_ahead-sound

pub returns-clause-finished : goal.returns-clause-finished
returns-clause-finished c = step-finished

pub returns-clause-watchdog : goal.returns-clause-watchdog
returns-clause-watchdog c = step-watchdog

pub returns-clause-no_room : goal.returns-clause-no_room
returns-clause-no_room c = step-no_room

pub returns-clause-acted : goal.returns-clause-acted
returns-clause-acted c = step-acted

pub returns-clause-ready : goal.returns-clause-ready
returns-clause-ready c = step-ready

pub returns-clause-caller : goal.returns-clause-caller
returns-clause-caller c = ran_ahead-caller
