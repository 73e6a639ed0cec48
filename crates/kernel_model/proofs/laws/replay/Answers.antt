-- The laws of replay.
use Rattle.kernel_model.proofs.ReliveLemmas.{born-relived, served-relived, opened-relived, finished-relived, turned-relived, relived-placed}
use Rattle.kernel_model.proofs.WrittenLemmas.{relived-arrival}
use Rattle.kernel_model.proofs.laws.replay.Goals as goal

pub returns-clause-born : goal.returns-clause-born
returns-clause-born c = born-relived

pub returns-clause-served : goal.returns-clause-served
returns-clause-served c = served-relived

pub returns-clause-opened : goal.returns-clause-opened
returns-clause-opened c = opened-relived

pub returns-clause-finished : goal.returns-clause-finished
returns-clause-finished c = finished-relived

pub returns-clause-turned : goal.returns-clause-turned
returns-clause-turned c = turned-relived

pub returns-clause-placed : goal.returns-clause-placed
returns-clause-placed c = relived-placed

pub returns-clause-arrives : goal.returns-clause-arrives
returns-clause-arrives c = relived-arrival
