-- What the block that was entered is in the local state.

use Rattle.thread_machine.proofs.KeepLemmas.{entered_by}
use Rattle.thread_machine.proofs.StateLemmas.{entered_local, entered_counted}
use Rattle.thread_machine.proofs.context.Ctx.enter.Goals as goal

pub returns-clause-counted : goal.returns-clause-counted
returns-clause-counted c = λ p counted.
    entered_counted p c.args.self.now c.push.new.self c.args.way _ c.requires.block c.push.ensures.items counted

pub returns-clause-moved : goal.returns-clause-moved
returns-clause-moved c = λ p s block here chosen.
    entered_local p c.args.self.now c.push.new.self c.args.way s block c.requires.block (rw (← c.len.ensures.value) c.push.ensures.items) here chosen

pub returns-clause-scoped : goal.returns-clause-scoped
returns-clause-scoped c = λ p s here none scoped.
    let t = c.args.self.now in
    entered_by p t.body t.cursors.items c.push.new.self.items t.slots.items t.base t.at c.args.way s c.requires.block here none (rw (← c.len.ensures.value) c.push.ensures.items) scoped
