use Rattle.std.proofs.Common.{arith}
use Rattle.persistent_heap.proofs.Walks.{link_within}
use Rattle.persistent_heap.proofs.GivenBack.{joined_within, given_between, given_grown}
use Rattle.persistent_heap.proofs.giving_back.give_back.Goals as goal

pub overflow_add-both : goal.overflow_add-both
overflow_add-both g c =
    let within = joined_within _ c.args.place c.args.words c.parting-link.result c.requires.heap c.parting-link.ensures.parts _ _ (c.joined-next.ensures.joined c.parting-link.ensures.parts) in
    omega (arith, within, (c.in-Some.ensures.touches c.parting-link.ensures.parts).1)

pub store_hole-requires-clause-within : goal.store_hole-requires-clause-within
store_hole-requires-clause-within g c =
    let within = joined_within _ c.args.place c.args.words c.parting-link.result c.requires.heap c.parting-link.ensures.parts _ _ (c.joined-next.ensures.joined c.parting-link.ensures.parts) in
    omega (arith, within, (c.in-Some.ensures.touches c.parting-link.ensures.parts).1)

pub insert-requires-clause-link : goal.insert-requires-clause-link
insert-requires-clause-link g c = link_within _ c.parting-link.result c.requires.heap c.parting-link.ensures.parts.passed.stands

pub insert-requires-clause-hole : goal.insert-requires-clause-hole
insert-requires-clause-hole g c =
    omega (arith, joined_within _ c.args.place c.args.words c.parting-link.result c.requires.heap c.parting-link.ensures.parts _ _ (c.joined-next.ensures.joined c.parting-link.ensures.parts))

pub returns-in-Some-clause-given_back : goal.returns-in-Some-clause-given_back
returns-in-Some-clause-given_back g c =
    let touches = c.in-Some.ensures.touches c.parting-link.ensures.parts in
    given_grown _ c.args.place c.args.words c.parting-link.result c.requires.heap c.parting-link.ensures.parts _ _ (c.joined-next.ensures.joined c.parting-link.ensures.parts)
    _ c.in-Some.last touches.0 touches.1 c.in_ok-store_hole.ensures.stored

pub returns-clause-given_back : goal.returns-clause-given_back
returns-clause-given_back g c =
    given_between _ c.args.place c.args.words c.parting-link.result c.requires.heap c.parting-link.ensures.parts _ _ (c.joined-next.ensures.joined c.parting-link.ensures.parts)
    _ (c.in_default.ensures.touches c.parting-link.ensures.parts) c.in_ok-insert.ensures.stored
