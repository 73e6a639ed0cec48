use Rattle.std.proofs.Common.{ap, arith}
use Rattle.persistent_heap.specs.Holes.{link_word}
use Rattle.persistent_heap.proofs.Walks.{link_within}
use Rattle.persistent_heap.proofs.GivenBack.{first_touches, ends, ends_before, ends_apart}
use Rattle.persistent_heap.proofs.giving_back.touching.Goals as goal

pub returns-in_default : goal.returns-in_default
returns-in_default g c = record { touches = λ at. first_touches _ c.args.place c.args.link c.requires.low c.requires.heap (ap link_word c.in_default.is) at }

pub heap_word-size-requires : goal.heap_word-size-requires
heap_word-size-requires g c =
    let at = ap link_word c.in-Behind.is in
    record { within = omega (arith, at, link_within _ c.args.link c.requires.heap c.requires.parts.passed.stands) }

pub overflow_add-last : goal.overflow_add-last
overflow_add-last g c =
    omega (arith, ends_before _ c.args.place c.args.link _ _ c.requires.heap c.requires.taken (ap link_word c.in-Behind.is) c.heap_word-size.ensures.word c.requires.parts)

pub returns-then-last-size : goal.returns-then-last-size
returns-then-last-size g c = record {
  touches = λ at. ends_apart _ c.args.place c.args.link _ _ c.requires.heap c.requires.taken (ap link_word c.in-Behind.is) c.heap_word-size.ensures.word at c.if-last-size.true;
}

pub returns : goal.returns
returns g c = record {
  touches = λ at. (
    ends _ c.args.place c.args.link _ _ c.requires.heap c.requires.taken (ap link_word c.in-Behind.is) c.heap_word-size.ensures.word at,
    omega (arith, ends_before _ c.args.place c.args.link _ _ c.requires.heap c.requires.taken (ap link_word c.in-Behind.is) c.heap_word-size.ensures.word at),
  );
}
