-- Nothing was left to do, or the block ended before.
use Rattle.std.proofs.Common.{length, refl, sym, subst}
use Rattle.thread_tree.specs.Program.{program_of}
use Rattle.kernel_image.specs.Decoded.{image_in}
use Rattle.kernel_model.specs.Transactions.{BlockEnd}
use Rattle.user_transactions.specs.declared.fate.Fate.{Fate}
use Rattle.user_transactions.specs.declared.fate.Fate.TheVariants as fate
use Rattle.user_transactions.specs.declared.level.Level.TheVariants.{Body}
use Rattle.user_transactions.specs.declared.tx_end.TxEnd.TheVariants.{Gave}
use Rattle.user_transactions.specs.declared.work.Work.{Work}
use Rattle.user_transactions.specs.Runs.{Ran, whole}
use Rattle.user_transactions.specs.Works.{IsEnd}
use Rattle.user_transactions.proofs.PerformLaws.{performed-went, performed-broke, performed-ended}
use Rattle.user_transactions.proofs.performing.perform_body.Goals as goal

pub returns-in-Went-clause-ended : goal.returns-in-Went-clause-ended
returns-in-Went-clause-ended g c =
    let w : Work = record { locals = c.args.locals; operations = 0; moves = 10000 } in
    let is = performed-went (program_of c.args.program.now) (image_in (g.N.Nv.words c.args.tx.now)) w c.args.body.now (length c.args.locals.items) c.args.given refl refl (image_in (g.N.Nv.words c.run.new.tx)) c.run.new.work (subst (λ (f : Fate). Ran (program_of c.args.program.now) (image_in (g.N.Nv.words c.args.tx.now)) w (whole Body c.args.body.now (length c.args.locals.items)) (image_in (g.N.Nv.words c.run.new.tx)) c.run.new.work f) c.in-Went.is c.in_ok-run.ensures.ran) in
    subst (λ (b : BlockEnd). IsEnd (program_of c.args.program.now) (Gave c.zeros.result) (image_in (g.N.Nv.words c.run.new.tx)) b) (sym is) (refl, c.zeros.ensures.zeros)

pub returns-in-Broke-clause-ended : goal.returns-in-Broke-clause-ended
returns-in-Broke-clause-ended g c =
    let w : Work = record { locals = c.args.locals; operations = 0; moves = 10000 } in
    let is = performed-broke (program_of c.args.program.now) (image_in (g.N.Nv.words c.args.tx.now)) w c.args.body.now (length c.args.locals.items) c.args.given refl refl (image_in (g.N.Nv.words c.run.new.tx)) c.run.new.work (subst (λ (f : Fate). Ran (program_of c.args.program.now) (image_in (g.N.Nv.words c.args.tx.now)) w (whole Body c.args.body.now (length c.args.locals.items)) (image_in (g.N.Nv.words c.run.new.tx)) c.run.new.work f) c.in-Broke.is c.in_ok-run.ensures.ran) in
    subst (λ (b : BlockEnd). IsEnd (program_of c.args.program.now) (Gave c.zeros-in-Broke.result) (image_in (g.N.Nv.words c.run.new.tx)) b) (sym is) (refl, c.zeros-in-Broke.ensures.zeros)

pub returns-in-Ended-clause-ended : goal.returns-in-Ended-clause-ended
returns-in-Ended-clause-ended g c =
    let w : Work = record { locals = c.args.locals; operations = 0; moves = 10000 } in
    performed-ended (program_of c.args.program.now) (image_in (g.N.Nv.words c.args.tx.now)) w c.args.body.now (length c.args.locals.items) c.args.given refl refl (image_in (g.N.Nv.words c.run.new.tx)) c.run.new.work c.in-Ended.end (subst (λ (f : Fate). Ran (program_of c.args.program.now) (image_in (g.N.Nv.words c.args.tx.now)) w (whole Body c.args.body.now (length c.args.locals.items)) (image_in (g.N.Nv.words c.run.new.tx)) c.run.new.work f) c.in-Ended.is c.in_ok-run.ensures.ran)
