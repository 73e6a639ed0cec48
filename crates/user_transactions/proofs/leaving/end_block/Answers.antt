-- No move left, or the end was passed.
use Rattle.std.proofs.Common.{refl, arith}
use Rattle.user_transactions.proofs.MoveLaws.{closed_end, closed_full}
use Rattle.user_transactions.proofs.leaving.end_block.Goals as goal

pub returns-then-work-eq0-clause-ended : goal.returns-then-work-eq0-clause-ended
returns-then-work-eq0-clause-ended c p d = closed_full p d c.args.work.now c.args.work.now c.args.keep c.if-work-eq0.true

pub returns-clause-ended : goal.returns-clause-ended
returns-clause-ended c p d = closed_end p d c.args.work.now _ c.args.keep (omega arith) refl c.truncate.ensures.items refl
