-- Where the local is found, the slots are those before it, the local with its value, and those behind it.
use Rattle.std.proofs.Common.{arith}
use Rattle.thread_machine.proofs.ScopeLemmas.{assigned_through}
use Rattle.thread_machine.proofs.scope.assign.Goals as goal

pub returns-then-deref-at : goal.returns-then-deref-at
returns-then-deref-at c = record {
  assigned = assigned_through c.args.base c.loop-at.at c.args.name c.args.value c.args.slots.now.items c.loop-at.slots.items c.deref_mut.result.now c.deref.result.now c.deref_mut.ensures.value (cc) c.loop-at.invariant.0 (omega arith) c.if-deref-at.true;
}
