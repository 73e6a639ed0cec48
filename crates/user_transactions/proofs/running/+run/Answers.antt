-- A block's statements, its end, and the ways out of it.
use Rattle.std.proofs.Common.{ℕ, ◌≡◌, ◌+◌, ◌≤◌, ◌∷◌, length, subst, sym, ap, arith}
use Rattle.std.specs.Prelude.{option_copied, IsTrue}
use Rattle.thread_tree.specs.Program.{program_of}
use Rattle.thread_tree.specs.declared.transaction.TBlock.{out-TBlock}
use Rattle.thread_tree.specs.declared.transaction.TStmt.{out-TStmt}
use Rattle.kernel_model.specs.Transactions.Thing.{Do}
use Rattle.kernel_image.specs.Decoded.{image_in}
use Rattle.served_program.proofs.Callers.{tstmts_served, tstmt_served_at}
use Rattle.user_transactions.specs.declared.fate.Fate.{Fate}
use Rattle.user_transactions.specs.declared.fate.Fate.TheVariants as fate
use Rattle.user_transactions.specs.declared.step.Step.{Step}
use Rattle.user_transactions.specs.declared.step.Step.TheVariants as step
use Rattle.user_transactions.specs.Fates.{Acted, IsSpent}
use Rattle.user_transactions.specs.Runs.{Ran, Shrinks, whole}
use Rattle.user_transactions.specs.Steps.{Enters, IsInside, declares}
use Rattle.user_transactions.proofs.KeepLaws.{keeps_then}
use Rattle.user_transactions.proofs.RoomLaws.{HasRoom-first, HasRoom-inside}
use Rattle.user_transactions.proofs.RunLaws.{IsRunning-start, IsRunning-next, IsRunning-again, Ran-inside, Ran-ended, Ran-broke, Ran-closed, Shrinks-more, HasRoom-at, inner-went, inner-broke}
use Rattle.user_transactions.proofs.running.+run.Goals as goal

pub running-init : goal.running-init
running-init g t c = IsRunning-start g.N.Nv (program_of c.args.program.now) c.args.level c.args.block.now c.args.tx.now c.args.work.now c.len-keep.result c.len-keep.ensures.value c.requires.objects c.requires.few c.requires.locals

pub running-preserved-in-None : goal.running-preserved-in-None
running-preserved-in-None g t c = IsRunning-again g.N.Nv (program_of c.args.program.now) c.args.level c.args.block.now c.args.tx.now c.args.work.now c.running.keep c.running.at c.running.tx c.running.work c.running.invariant c.close.new.work c.len-keep-in-None.result (omega (arith, c.if-at-len.true, c.len.ensures)) c.in-None.ensures.closed c.len-keep-in-None.ensures.value c.in-None.ensures.closes c.close.ensures.more (c.close.ensures.few c.running.invariant.few) (omega (arith, c.in-None.ensures.spends)) c.requires.locals

pub act-requires-clause-served : goal.act-requires-clause-served
act-requires-clause-served g t c = tstmt_served_at (out-TBlock c.args.block.now).stmts c.running.at c.get.result.now (tstmts_served c.args.block.now c.requires.served) c.get.ensures

pub act-requires-clause-locals : goal.act-requires-clause-locals
act-requires-clause-locals g t c = HasRoom-first (length c.running.work.locals.items) c.get.result.now _ (HasRoom-at g.N.Nv (program_of c.args.program.now) c.args.level c.args.block.now c.args.tx.now c.args.work.now c.running.keep c.running.at c.running.tx c.running.work c.running.invariant c.get.result.now c.get.ensures)

pub running-preserved-in-Went : goal.running-preserved-in-Went
running-preserved-in-Went g t c =
    let went : Ran (program_of c.args.program.now) (image_in (g.N.Nv.words c.running.tx)) c.running.work (λ rest. Do c.get.result.now ∷ rest) (image_in (g.N.Nv.words c.act.new.tx)) c.act.new.work fate.Went = subst (λ (n : Step). Acted (program_of c.args.program.now) (image_in (g.N.Nv.words c.running.tx)) c.running.work c.get.result.now (image_in (g.N.Nv.words c.act.new.tx)) c.act.new.work n) c.in-Went.is c.in_ok-act.ensures.acted in
    IsRunning-next g.N.Nv (program_of c.args.program.now) c.args.level c.args.block.now c.args.tx.now c.args.work.now c.running.keep c.running.at c.running.tx c.running.work c.running.invariant c.get.result.now c.act.new.tx c.act.new.work c.get.ensures went c.in_ok-act.ensures.keeps c.act.ensures.more c.act.ensures.few c.act.ensures.moves c.act.ensures.grown

pub returns-in-Broke-clause-ran : goal.returns-in-Broke-clause-ran
returns-in-Broke-clause-ran g t c =
    let broke : Ran (program_of c.args.program.now) (image_in (g.N.Nv.words c.running.tx)) c.running.work (λ rest. Do c.get.result.now ∷ rest) (image_in (g.N.Nv.words c.act.new.tx)) c.act.new.work fate.Broke = subst (λ (n : Step). Acted (program_of c.args.program.now) (image_in (g.N.Nv.words c.running.tx)) c.running.work c.get.result.now (image_in (g.N.Nv.words c.act.new.tx)) c.act.new.work n) c.in-Broke.is c.in_ok-act.ensures.acted in
    Ran-broke g.N.Nv (program_of c.args.program.now) c.args.level c.args.block.now c.args.tx.now c.args.work.now c.running.keep c.running.at c.running.tx c.running.work c.running.invariant c.get.result.now (image_in (g.N.Nv.words c.act.new.tx)) c.act.new.work c.leave.new.work c.leave.result c.get.ensures broke (c.leave.ensures.left (program_of c.args.program.now) (image_in (g.N.Nv.words c.act.new.tx)) c.args.block.now)

pub returns-in-Broke-clause-shrunk : goal.returns-in-Broke-clause-shrunk
returns-in-Broke-clause-shrunk g t c =
    let room = HasRoom-first (length c.running.work.locals.items) c.get.result.now _ (HasRoom-at g.N.Nv (program_of c.args.program.now) c.args.level c.args.block.now c.args.tx.now c.args.work.now c.running.keep c.running.at c.running.tx c.running.work c.running.invariant c.get.result.now c.get.ensures) in
    Shrinks-more c.args.level c.running.keep (length c.args.work.now.locals.items) (length c.leave.new.work.locals.items) c.leave.result c.running.invariant.kept (c.leave.ensures.shrunk (omega (arith, room, c.act.ensures.grown)))

pub returns-in-Ended-clause-ran : goal.returns-in-Ended-clause-ran
returns-in-Ended-clause-ran g t c =
    let ended : Ran (program_of c.args.program.now) (image_in (g.N.Nv.words c.running.tx)) c.running.work (λ rest. Do c.get.result.now ∷ rest) (image_in (g.N.Nv.words c.act.new.tx)) c.act.new.work (fate.Ended c.in-Ended.end) = subst (λ (n : Step). Acted (program_of c.args.program.now) (image_in (g.N.Nv.words c.running.tx)) c.running.work c.get.result.now (image_in (g.N.Nv.words c.act.new.tx)) c.act.new.work n) c.in-Ended.is c.in_ok-act.ensures.acted in
    Ran-ended g.N.Nv (program_of c.args.program.now) c.args.level c.args.block.now c.args.tx.now c.args.work.now c.running.keep c.running.at c.running.tx c.running.work c.running.invariant c.get.result.now (image_in (g.N.Nv.words c.act.new.tx)) c.act.new.work c.in-Ended.end c.get.ensures ended

pub run-requires : goal.run-requires
run-requires g t c κs within =
    let spent : IsSpent c.running.work.moves c.act.new.work.moves (step.Entered c.in-Entered.inner c.in-Entered.test) = subst (λ (n : Step). IsSpent c.running.work.moves c.act.new.work.moves n) c.in-Entered.is c.in_ok-act.ensures.spent in
    let inside : IsInside (out-TStmt c.get.result.now) c.in-Entered.inner.now = subst (λ (n : Step). Enters (out-TStmt c.get.result.now) n) c.in-Entered.is c.in_ok-act.ensures.enters in
    let kept = c.in_ok-act.ensures.keeps in (
      omega (arith, spent, c.running.invariant.moves, c.decreases),
      (
        within,
        (
          inside.served,
          (
            kept.sound,
            (
              c.act.ensures.few,
              (
                omega (arith, c.requires.room, c.running.invariant.keeps.within.room, kept.within.room, c.act.ensures.more, c.running.invariant.more),
                HasRoom-inside (length c.running.work.locals.items) (length c.act.new.work.locals.items) c.get.result.now _ c.in-Entered.inner.now (HasRoom-at g.N.Nv (program_of c.args.program.now) c.args.level c.args.block.now c.args.tx.now c.args.work.now c.running.keep c.running.at c.running.tx c.running.work c.running.invariant c.get.result.now c.get.ensures) c.act.ensures.grown inside,
              ),
            ),
          ),
        ),
      ),
    )

pub running-preserved : goal.running-preserved
running-preserved g t c =
    let enters : Acted (program_of c.args.program.now) (image_in (g.N.Nv.words c.running.tx)) c.running.work c.get.result.now (image_in (g.N.Nv.words c.act.new.tx)) c.act.new.work (step.Entered c.in-Entered.inner c.in-Entered.test) = subst (λ (n : Step). Acted (program_of c.args.program.now) (image_in (g.N.Nv.words c.running.tx)) c.running.work c.get.result.now (image_in (g.N.Nv.words c.act.new.tx)) c.act.new.work n) c.in-Entered.is c.in_ok-act.ensures.acted in
    let inner : Ran (program_of c.args.program.now) (image_in (g.N.Nv.words c.act.new.tx)) c.act.new.work (whole c.level_of.result c.in-Entered.inner.now (length c.act.new.work.locals.items)) (image_in (g.N.Nv.words c.run.new.tx)) c.run.new.work fate.Went = subst (λ (f : Fate). Ran (program_of c.args.program.now) (image_in (g.N.Nv.words c.act.new.tx)) c.act.new.work (whole c.level_of.result c.in-Entered.inner.now (length c.act.new.work.locals.items)) (image_in (g.N.Nv.words c.run.new.tx)) c.run.new.work f) c.in-Went-2.is c.in_ok-run-in-Entered.ensures.ran in
    let ran = Ran-inside (program_of c.args.program.now) (image_in (g.N.Nv.words c.running.tx)) c.running.work c.get.result.now (image_in (g.N.Nv.words c.act.new.tx)) c.act.new.work c.in-Entered.inner.now (option_copied c.in-Entered.test) c.level_of.result (image_in (g.N.Nv.words c.run.new.tx)) c.run.new.work fate.Went enters c.level_of.ensures.level inner in
    let kept = keeps_then g.N.Nv (program_of c.args.program.now) c.running.tx c.act.new.tx c.run.new.tx c.running.work.operations c.act.new.work.operations c.run.new.work.operations c.act.ensures.more c.run.ensures.more c.in_ok-act.ensures.keeps c.in_ok-run-in-Entered.ensures.keeps in
    let few : length c.run.new.work.locals.items ≤ length c.act.new.work.locals.items + 0 = inner-went c.level_of.result (option_copied c.in-Entered.test) (length c.act.new.work.locals.items) (length c.run.new.work.locals.items) c.level_of.ensures.level (subst (λ (f : Fate). Shrinks c.level_of.result (length c.act.new.work.locals.items) (length c.run.new.work.locals.items) f) c.in-Went-2.is c.in_ok-run-in-Entered.ensures.shrunk) in
    IsRunning-next g.N.Nv (program_of c.args.program.now) c.args.level c.args.block.now c.args.tx.now c.args.work.now c.running.keep c.running.at c.running.tx c.running.work c.running.invariant c.get.result.now c.run.new.tx c.run.new.work c.get.ensures ran kept (omega (arith, c.act.ensures.more, c.run.ensures.more)) c.run.ensures.few (omega (arith, c.act.ensures.moves, c.run.ensures.moves)) (omega (arith, few, c.act.ensures.grown))

pub returns-in-Broke-2-clause-ran : goal.returns-in-Broke-2-clause-ran
returns-in-Broke-2-clause-ran g t c =
    let enters : Acted (program_of c.args.program.now) (image_in (g.N.Nv.words c.running.tx)) c.running.work c.get.result.now (image_in (g.N.Nv.words c.act.new.tx)) c.act.new.work (step.Entered c.in-Entered.inner c.in-Entered.test) = subst (λ (n : Step). Acted (program_of c.args.program.now) (image_in (g.N.Nv.words c.running.tx)) c.running.work c.get.result.now (image_in (g.N.Nv.words c.act.new.tx)) c.act.new.work n) c.in-Entered.is c.in_ok-act.ensures.acted in
    let inner : Ran (program_of c.args.program.now) (image_in (g.N.Nv.words c.act.new.tx)) c.act.new.work (whole c.level_of.result c.in-Entered.inner.now (length c.act.new.work.locals.items)) (image_in (g.N.Nv.words c.run.new.tx)) c.run.new.work fate.Broke = subst (λ (f : Fate). Ran (program_of c.args.program.now) (image_in (g.N.Nv.words c.act.new.tx)) c.act.new.work (whole c.level_of.result c.in-Entered.inner.now (length c.act.new.work.locals.items)) (image_in (g.N.Nv.words c.run.new.tx)) c.run.new.work f) c.in-Broke-2.is c.in_ok-run-in-Entered.ensures.ran in
    let ran = Ran-inside (program_of c.args.program.now) (image_in (g.N.Nv.words c.running.tx)) c.running.work c.get.result.now (image_in (g.N.Nv.words c.act.new.tx)) c.act.new.work c.in-Entered.inner.now (option_copied c.in-Entered.test) c.level_of.result (image_in (g.N.Nv.words c.run.new.tx)) c.run.new.work fate.Broke enters c.level_of.ensures.level inner in
    Ran-broke g.N.Nv (program_of c.args.program.now) c.args.level c.args.block.now c.args.tx.now c.args.work.now c.running.keep c.running.at c.running.tx c.running.work c.running.invariant c.get.result.now (image_in (g.N.Nv.words c.run.new.tx)) c.run.new.work c.leave-in-Broke-2.new.work c.leave-in-Broke-2.result c.get.ensures ran (c.leave-in-Broke-2.ensures.left (program_of c.args.program.now) (image_in (g.N.Nv.words c.run.new.tx)) c.args.block.now)

pub returns-in-Broke-2-clause-shrunk : goal.returns-in-Broke-2-clause-shrunk
returns-in-Broke-2-clause-shrunk g t c =
    let room = HasRoom-first (length c.running.work.locals.items) c.get.result.now _ (HasRoom-at g.N.Nv (program_of c.args.program.now) c.args.level c.args.block.now c.args.tx.now c.args.work.now c.running.keep c.running.at c.running.tx c.running.work c.running.invariant c.get.result.now c.get.ensures) in
    let few : length c.run.new.work.locals.items ≤ length c.act.new.work.locals.items + 0 = inner-broke c.level_of.result (option_copied c.in-Entered.test) (length c.act.new.work.locals.items) (length c.run.new.work.locals.items) c.level_of.ensures.level (subst (λ (f : Fate). Shrinks c.level_of.result (length c.act.new.work.locals.items) (length c.run.new.work.locals.items) f) c.in-Broke-2.is c.in_ok-run-in-Entered.ensures.shrunk) in
    Shrinks-more c.args.level c.running.keep (length c.args.work.now.locals.items) (length c.leave-in-Broke-2.new.work.locals.items) c.leave-in-Broke-2.result c.running.invariant.kept (c.leave-in-Broke-2.ensures.shrunk (omega (arith, room, few, c.act.ensures.grown)))

pub returns-in-Ended-2-clause-ran : goal.returns-in-Ended-2-clause-ran
returns-in-Ended-2-clause-ran g t c =
    let enters : Acted (program_of c.args.program.now) (image_in (g.N.Nv.words c.running.tx)) c.running.work c.get.result.now (image_in (g.N.Nv.words c.act.new.tx)) c.act.new.work (step.Entered c.in-Entered.inner c.in-Entered.test) = subst (λ (n : Step). Acted (program_of c.args.program.now) (image_in (g.N.Nv.words c.running.tx)) c.running.work c.get.result.now (image_in (g.N.Nv.words c.act.new.tx)) c.act.new.work n) c.in-Entered.is c.in_ok-act.ensures.acted in
    let inner : Ran (program_of c.args.program.now) (image_in (g.N.Nv.words c.act.new.tx)) c.act.new.work (whole c.level_of.result c.in-Entered.inner.now (length c.act.new.work.locals.items)) (image_in (g.N.Nv.words c.run.new.tx)) c.run.new.work (fate.Ended c.in-Ended-2.end) = subst (λ (f : Fate). Ran (program_of c.args.program.now) (image_in (g.N.Nv.words c.act.new.tx)) c.act.new.work (whole c.level_of.result c.in-Entered.inner.now (length c.act.new.work.locals.items)) (image_in (g.N.Nv.words c.run.new.tx)) c.run.new.work f) c.in-Ended-2.is c.in_ok-run-in-Entered.ensures.ran in
    let ran = Ran-inside (program_of c.args.program.now) (image_in (g.N.Nv.words c.running.tx)) c.running.work c.get.result.now (image_in (g.N.Nv.words c.act.new.tx)) c.act.new.work c.in-Entered.inner.now (option_copied c.in-Entered.test) c.level_of.result (image_in (g.N.Nv.words c.run.new.tx)) c.run.new.work (fate.Ended c.in-Ended-2.end) enters c.level_of.ensures.level inner in
    Ran-ended g.N.Nv (program_of c.args.program.now) c.args.level c.args.block.now c.args.tx.now c.args.work.now c.running.keep c.running.at c.running.tx c.running.work c.running.invariant c.get.result.now (image_in (g.N.Nv.words c.run.new.tx)) c.run.new.work c.in-Ended-2.end c.get.ensures ran
