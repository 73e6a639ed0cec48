-- A body's statements have nothing behind them.
use Rattle.std.proofs.Common.{sym}
use Rattle.thread_machine.proofs.LevelLemmas.{behind_none, behind_call}
use Rattle.thread_machine.proofs.moves.pop_block.Goals as goal

pub returns-in-None-clause-body : goal.returns-in-None-clause-body
returns-in-None-clause-body c = λ p template.
    behind_none p template c.args.cursors.now.items (rw (← c.deref.ensures.0) (sym c.in-None.ensures.value))

pub returns-in-Call-clause-body : goal.returns-in-Call-clause-body
returns-in-Call-clause-body c = λ p template.
    behind_call p template c.args.cursors.now.items c.in-Some.cursor.now (rw (← c.deref.ensures.0) (sym c.in-Some.ensures.value)) c.in-Call.is
