use Rattle.std.proofs.Common.{arith}
use Rattle.persistent_heap.proofs.Walks.{link_within, next_within, next_none, next_some}
use Rattle.persistent_heap.proofs.walk.next_hole.Goals as goal

pub led_to-place-requires : goal.led_to-place-requires
led_to-place-requires g c = record { within = link_within _ c.args.link c.requires.heap c.requires.stands }

pub returns-then-place-eq0 : goal.returns-then-place-eq0
returns-then-place-eq0 g c = record { hole = λ at. next_none _ c.args.link _ c.requires.heap at c.led_to-place.ensures.place c.if-place-eq0.true }

pub heap_word-size-requires : goal.heap_word-size-requires
heap_word-size-requires g c =
    record { within = omega (arith, next_within _ c.args.link _ c.requires.heap c.requires.stands c.led_to-place.ensures.place c.if-place-eq0.false) }

pub returns : goal.returns
returns g c = record {
  hole = λ at. next_some _ c.args.link _ c.requires.heap at c.led_to-place.ensures.place _ c.if-place-eq0.false c.heap_word-size.ensures.word;
}
