-- The laws of persistent loops.
use Rattle.kernel_model.proofs.PlacedLemmas.{moved-placed, bind-placed, inside-placed}
use Rattle.kernel_model.proofs.TurnLemmas.{birth-placed, ahead-placed, turn-placed, turn-inside}
use Rattle.kernel_model.proofs.laws.loops.Goals as goal

pub returns-clause-born : goal.returns-clause-born
returns-clause-born c = birth-placed

pub returns-clause-entered : goal.returns-clause-entered
returns-clause-entered c = inside-placed

pub returns-clause-moved : goal.returns-clause-moved
returns-clause-moved c = moved-placed

pub returns-clause-ahead : goal.returns-clause-ahead
returns-clause-ahead c = ahead-placed

pub returns-clause-bound : goal.returns-clause-bound
returns-clause-bound c = bind-placed

pub returns-clause-turned : goal.returns-clause-turned
returns-clause-turned c = turn-placed

pub returns-clause-turn_enters : goal.returns-clause-turn_enters
returns-clause-turn_enters c = turn-inside
