use Rattle.std.proofs.Common.{◌≡◌, arith}
use Rattle.persistent_heap.proofs.Taken.{fits_least, none_fits}
use Rattle.persistent_heap.proofs.taking.take.Goals as goal

pub returns-in_ok-take_front-in-Some-clause-least :
    goal.returns-in_ok-take_front-in-Some-clause-least
returns-in_ok-take_front-in-Some-clause-least g c =
    fits_least _ c.args.words c.in-Some.link c.in-Some.hole c.requires.heap c.in-Some.ensures.fit (omega arith)

pub returns-in_ok-take_front-in-Some-clause-none :
    goal.returns-in_ok-take_front-in-Some-clause-none
returns-in_ok-take_front-in-Some-clause-none g c =
    λ zero. absurd (let none : c.in-Some.hole.place ≡ 0 = cc in omega (arith, c.in-Some.ensures.fit.leads.is.behind))

pub returns-in-None-clause-least : goal.returns-in-None-clause-least
returns-in-None-clause-least g c = none_fits _ c.args.words c.requires.heap (omega arith) c.in-None.ensures.fit
