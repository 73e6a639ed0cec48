-- The answers of `midst_laws`.
use Rattle.kernel_calls.proofs.PutLaws.{life_unlisted, matches-put}
use Rattle.kernel_calls.proofs.FrameLaws.{matches-same, matches-changed, matches-relisted, matches-open, matches-left, matches-ended, matches-parts, matches-fewer, matches-counted}
use Rattle.kernel_calls.proofs.laws.midst_laws.Goals as goal

pub returns-clause-life : goal.returns-clause-life
returns-clause-life c = life_unlisted

pub returns-clause-put : goal.returns-clause-put
returns-clause-put c = matches-put

pub returns-clause-same : goal.returns-clause-same
returns-clause-same c = matches-same

pub returns-clause-changed : goal.returns-clause-changed
returns-clause-changed c = matches-changed

pub returns-clause-relisted : goal.returns-clause-relisted
returns-clause-relisted c = matches-relisted

pub returns-clause-open : goal.returns-clause-open
returns-clause-open c = matches-open

pub returns-clause-left : goal.returns-clause-left
returns-clause-left c = matches-left

pub returns-clause-ended : goal.returns-clause-ended
returns-clause-ended c = matches-ended

pub returns-clause-parts : goal.returns-clause-parts
returns-clause-parts c = matches-parts

pub returns-clause-fewer : goal.returns-clause-fewer
returns-clause-fewer c = matches-fewer

pub returns-clause-counted : goal.returns-clause-counted
returns-clause-counted c = matches-counted
