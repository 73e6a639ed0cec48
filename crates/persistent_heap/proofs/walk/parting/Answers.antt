use Rattle.std.proofs.Common.{sym, arith}
use Rattle.persistent_heap.proofs.Walks.{Passed-first, step, leads_to, StartsBehind-none, StartsBehind-some}
use Rattle.persistent_heap.proofs.walk.parting.Goals as goal

pub loop-hole-init : goal.loop-hole-init
loop-hole-init g c = Passed-first _ _

pub returns-then-place-hole : goal.returns-then-place-hole
returns-then-place-hole g c = record {
  parts = record {
    passed = c.loop-hole.invariant;
    higher = StartsBehind-some c.args.place _ _ (sym (c.in-Some.ensures.hole c.loop-hole.invariant.stands)) c.if-place-hole.true;
  };
}

pub loop-hole-smaller : goal.loop-hole-smaller
loop-hole-smaller g c =
    let leads = leads_to _ c.loop-hole.link _ c.requires.heap c.loop-hole.invariant.stands (sym (c.in-Some.ensures.hole c.loop-hole.invariant.stands)) in
    omega (arith, leads.0, leads.1.is.some, leads.1.is.within)

pub loop-hole-preserved : goal.loop-hole-preserved
loop-hole-preserved g c = step _ c.loop-hole.link _ _ c.loop-hole.invariant (sym (c.in-Some.ensures.hole c.loop-hole.invariant.stands)) (omega arith)

pub returns : goal.returns
returns g c = record {
  parts = record {
    passed = c.loop-hole.invariant;
    higher = StartsBehind-none c.args.place _ (sym (c.in_default.ensures.hole c.loop-hole.invariant.stands));
  };
}
