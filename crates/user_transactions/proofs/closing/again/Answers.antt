-- No move left, a fault, the block, or what follows the loop.
use Rattle.std.proofs.Common.{ap, arith}
use Rattle.thread_tree.specs.Program.{program_of}
use Rattle.kernel_image.specs.Decoded.{image_in}
use Rattle.user_transactions.specs.declared.work.Work.{Work}
use Rattle.user_transactions.proofs.MoveLaws.{tested_full, tested_fault, tested_true, tested_false}
use Rattle.user_transactions.proofs.closing.again.Goals as goal

pub returns-then-work-eq0-clause-closed : goal.returns-then-work-eq0-clause-closed
returns-then-work-eq0-clause-closed g c = tested_full (program_of c.args.program.now) (image_in (g.N.Nv.words c.args.tx.now)) c.args.work.now c.args.e.now c.args.block.now c.if-work-eq0.true

pub returns-in-Err-clause-closed : goal.returns-in-Err-clause-closed
returns-in-Err-clause-closed g c = tested_fault (program_of c.args.program.now) (image_in (g.N.Nv.words c.args.tx.now)) c.args.work.now c.test.new.work c.args.e.now c.args.block.now c.in-Err.fault (omega arith) c.in-Err.ensures.tested

pub returns-then-is_next-clause-closed : goal.returns-then-is_next-clause-closed
returns-then-is_next-clause-closed g c = tested_true (program_of c.args.program.now) (image_in (g.N.Nv.words c.args.tx.now)) c.args.work.now c.test.new.work c.args.e.now c.args.block.now c.in-Ok.is_next (omega arith) (ap (λ (w : Work). w.moves) c.test.ensures.kept) c.in-Ok.ensures.tested c.if-is_next.true

pub returns-else-is_next-clause-closed : goal.returns-else-is_next-clause-closed
returns-else-is_next-clause-closed g c = tested_false (program_of c.args.program.now) (image_in (g.N.Nv.words c.args.tx.now)) c.args.work.now c.test.new.work c.args.e.now c.args.block.now c.in-Ok.is_next (omega arith) (ap (λ (w : Work). w.moves) c.test.ensures.kept) c.in-Ok.ensures.tested c.if-is_next.false
