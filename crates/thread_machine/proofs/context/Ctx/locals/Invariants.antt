use Rattle.std.proofs.Common.{◌≡◌, take}
use Rattle.thread_machine.proofs.context.Ctx.locals.Given as goal

abbrev pub invariant-loop-at : goal.invariant-loop-at
invariant-loop-at l = l.locals.items ≡ take l.at l.self.slots.items
