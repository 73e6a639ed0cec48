-- A block's cursor changes nothing of the frames that wait.
use Rattle.std.proofs.Common.{◌∙◌, subst}
use Rattle.thread_machine.specs.Scope.{IsOpenBy}
use Rattle.thread_machine.proofs.KeepLemmas.{popped_open}
use Rattle.thread_machine.proofs.LevelLemmas.{popped_waiting, popped_result, no_call}
use Rattle.thread_machine.proofs.moves.pop_call.Goals as goal

pub loop-cursor-preserved : goal.loop-cursor-preserved
loop-cursor-preserved c = λ p template.
    let is_block = no_call c.in-Some.cursor.way c.in-First.is in (
      (c.loop-cursor.invariant p template).0 ∙ popped_waiting p template c.loop-cursor.cursors.items c.pop.new.self.items c.in-Some.cursor (c.in-Some.ensures.items) is_block,
      (c.loop-cursor.invariant p template).1 ∙ popped_result p template c.loop-cursor.cursors.items c.pop.new.self.items c.in-Some.cursor (c.in-Some.ensures.items) is_block,
      λ base slots held. popped_open p template c.loop-cursor.cursors.items c.pop.new.self.items c.in-Some.cursor slots base c.in-Some.ensures.items is_block ((c.loop-cursor.invariant p template).2 base slots held),
    )

pub returns-in-Call-clause-scoped : goal.returns-in-Call-clause-scoped
returns-in-Call-clause-scoped c = λ p body base slots held.
    subst (λ xs. IsOpenBy p body xs slots base) c.in-Some.ensures.items ((c.loop-cursor.invariant p body).2 base slots held)

pub returns-clause-scoped : goal.returns-clause-scoped
returns-clause-scoped c = λ p body base slots held.
    subst (λ xs. IsOpenBy p body xs slots base) c.in_default.ensures.items ((c.loop-cursor.invariant p body).2 base slots held)
