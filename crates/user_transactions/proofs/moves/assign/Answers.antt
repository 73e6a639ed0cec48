-- Where the local is found, the locals are those before it, the local with its value, and those behind it.
use Rattle.std.proofs.Common.{arith}
use Rattle.user_transactions.proofs.LocalLaws.{assigned_through}
use Rattle.user_transactions.proofs.moves.assign.Goals as goal

pub returns-then-deref-at : goal.returns-then-deref-at
returns-then-deref-at c = record {
  assigned = assigned_through c.loop-at.at c.args.name c.args.value c.args.locals.now.items c.loop-at.locals.items c.deref_mut.result.now c.deref.result.now c.deref_mut.ensures.value (cc) c.loop-at.invariant.0 (omega arith) c.if-deref-at.true;
}
