-- A local more is in scope behind its statement.
use Rattle.thread_machine.proofs.KeepLemmas.{declared_on}
use Rattle.thread_machine.proofs.context.Ctx.declare.Goals as goal

pub returns-clause-scoped : goal.returns-clause-scoped
returns-clause-scoped c = λ p s here one scoped.
    let t = c.args.self.now in
    declared_on p t.body t.cursors.items t.slots.items c.push.new.self.items t.base t.at c.args.name c.args.value s here one c.push.ensures.items scoped
