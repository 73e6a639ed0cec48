-- The answers of `moving_laws`.
use Rattle.kernel_calls.proofs.BlockLaws.{aside_left, matches-asleep, matches-blocked, awaited_listed, matches-awake}
use Rattle.kernel_calls.proofs.laws.moving_laws.Goals as goal

pub returns-clause-aside : goal.returns-clause-aside
returns-clause-aside c = aside_left

pub returns-clause-asleep : goal.returns-clause-asleep
returns-clause-asleep c = matches-asleep

pub returns-clause-blocked : goal.returns-clause-blocked
returns-clause-blocked c = matches-blocked

pub returns-clause-awaited : goal.returns-clause-awaited
returns-clause-awaited c = awaited_listed

pub returns-clause-awake : goal.returns-clause-awake
returns-clause-awake c = matches-awake c.standing_laws.ensures.finished
