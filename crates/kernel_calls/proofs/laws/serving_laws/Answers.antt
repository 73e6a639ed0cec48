-- The answers of `serving_laws`.
use Rattle.kernel_calls.proofs.ServingLaws.{acted_serving, first_awaited}
use Rattle.kernel_calls.proofs.laws.serving_laws.Goals as goal

pub returns-clause-acted : goal.returns-clause-acted
returns-clause-acted c = acted_serving

pub returns-clause-first : goal.returns-clause-first
returns-clause-first c = first_awaited c.waking.ensures.first_awaited
