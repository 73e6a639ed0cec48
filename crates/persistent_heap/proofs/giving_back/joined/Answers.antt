use Rattle.std.proofs.Common.{arith}
use Rattle.persistent_heap.proofs.GivenBack.{joined_none, joined_apart, joined_both, hole_within, hole_some, hole_behind}
use Rattle.persistent_heap.proofs.giving_back.joined.Goals as goal

pub returns-in_default : goal.returns-in_default
returns-in_default g c = record {
  joined = λ at. joined_none _ c.args.block c.args.link c.requires.block c.requires.heap c.requires.taken at (c.in_default.ensures.hole at.passed.stands);
}

pub returns-then-block-hole : goal.returns-then-block-hole
returns-then-block-hole g c = record {
  joined = λ at. joined_apart _ c.args.block c.args.link c.requires.block c.requires.heap c.requires.taken at _ (c.in-Some.ensures.hole at.passed.stands) c.if-block-hole.true;
}

pub heap_word-next-requires : goal.heap_word-next-requires
heap_word-next-requires g c =
    let first = c.in-Some.ensures.hole c.requires.parts.passed.stands in
    let within = hole_within _ c.args.block c.args.link c.requires.block c.requires.heap c.requires.taken c.requires.parts _ first in
    let some = hole_some _ c.args.block c.args.link c.requires.block c.requires.heap c.requires.taken c.requires.parts _ first in
    record { within = omega (arith, within, some) }

pub overflow_add-both : goal.overflow_add-both
overflow_add-both g c =
    let first = c.in-Some.ensures.hole c.requires.parts.passed.stands in
    let within = hole_within _ c.args.block c.args.link c.requires.block c.requires.heap c.requires.taken c.requires.parts _ first in
    let apart = hole_behind _ c.args.block c.args.link c.requires.block c.requires.heap c.requires.taken c.requires.parts _ first in
    omega (arith, within, apart)

pub returns : goal.returns
returns g c = record {
  joined = λ at. joined_both _ c.args.block c.args.link c.requires.block c.requires.heap c.requires.taken at _ (c.in-Some.ensures.hole at.passed.stands) _ c.if-block-hole.false c.heap_word-next.ensures.word;
}
