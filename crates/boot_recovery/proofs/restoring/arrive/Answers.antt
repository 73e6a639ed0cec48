use Rattle.std.proofs.Common.{◌∙◌, sym}
use Rattle.boot_recovery.proofs.LifeLaws.{arrived_open, arrived_ready}
use Rattle.boot_recovery.proofs.RowLaws.{row_word_0}
use Rattle.boot_recovery.proofs.restoring.arrive.Goals as goal

pub returns-then-load-ne-READY-clause-arrived : goal.returns-then-load-ne-READY-clause-arrived
returns-then-load-ne-READY-clause-arrived g c = λ before from known is used remains.
    arrived_open _ _ from _ _ before _ _ known is used remains
    (λ one. c.if-load-ne-READY.true (c.load.ensures.word ∙ sym (row_word_0 _ c.args.thread c.requires.thread) ∙ one))
    c.ahead.ensures.moved c.ahead.ensures.stepped

pub returns-else-load-ne-READY-clause-arrived : goal.returns-else-load-ne-READY-clause-arrived
returns-else-load-ne-READY-clause-arrived g c = λ before from known is used remains.
    arrived_ready _ _ from _ before _ known is used remains
    (row_word_0 _ c.args.thread c.requires.thread ∙ sym c.load.ensures.word ∙ c.if-load-ne-READY.false)
