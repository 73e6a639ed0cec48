-- The end of the block, no move left, or the move.
use Rattle.std.proofs.Common.{arith}
use Rattle.thread_tree.specs.Program.{program_of}
use Rattle.kernel_image.specs.Decoded.{image_in}
use Rattle.user_transactions.proofs.MoveLaws.{acted_end, acted_full, acted_step}
use Rattle.user_transactions.proofs.acts.act.Goals as goal

pub returns-in-Some-clause-acted : goal.returns-in-Some-clause-acted
returns-in-Some-clause-acted g c = acted_end (program_of c.args.program.now) (image_in (g.N.Nv.words c.args.tx.now)) c.args.work.now c.args.statement.now c.in-Some.end c.in-Some.ensures.ended

pub returns-then-work-eq0-clause-acted : goal.returns-then-work-eq0-clause-acted
returns-then-work-eq0-clause-acted g c = acted_full (program_of c.args.program.now) (image_in (g.N.Nv.words c.args.tx.now)) c.args.work.now c.args.statement.now c.in_default.ensures.ended c.if-work-eq0.true

pub returns-clause-acted : goal.returns-clause-acted
returns-clause-acted g c = acted_step (program_of c.args.program.now) (image_in (g.N.Nv.words c.args.tx.now)) c.args.work.now c.args.statement.now (image_in (g.N.Nv.words c.step.new.tx)) c.step.new.work c.in_ok-next.next (omega arith) c.step.ensures.moves c.in_ok-next.ensures.stepped
