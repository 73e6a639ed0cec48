-- The laws of actions.
use Rattle.kernel_model.proofs.ActLemmas.{effect-sound}
use Rattle.kernel_model.proofs.ServeLemmas.{settled-sound}
use Rattle.kernel_model.proofs.StampLaws.{effect-stamps}
use Rattle.kernel_model.proofs.ResultLaws.{call-many}
use Rattle.kernel_model.proofs.laws.acting.Goals as goal

pub returns-clause-acts : goal.returns-clause-acts
returns-clause-acts c = λ p K t debt local s limits sound few caller. effect-sound p limits K t local debt sound caller few s

pub returns-clause-settles : goal.returns-clause-settles
returns-clause-settles c = λ p t debt local. settled-sound p t local debt

pub returns-clause-many : goal.returns-clause-many
returns-clause-many c = call-many

pub returns-clause-stamps : goal.returns-clause-stamps
returns-clause-stamps c = effect-stamps
