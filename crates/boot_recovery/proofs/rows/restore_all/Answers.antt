use Rattle.std.proofs.Common.{◌+◌, ◌∙◌, List, take, length, ap, sym, subst, arith}
use Rattle.std.proofs.lemmas.List.{length-set, take_all}
use Rattle.std.proofs.lemmas.List.Sums.{sum_by_more}
use Rattle.std.specs.Prelude.{slice_index_or, sum_by, Option}
use Rattle.thread_tree.specs.Program.{program_of}
use Rattle.thread_machine.specs.declared.context.Ctx.{Ctx}
use Rattle.kernel_model.specs.Kernel.{Row}
use Rattle.kernel_model.specs.Kernel.Row.{Free}
use Rattle.kernel_image.specs.Agree.{Both}
use Rattle.kernel_image.specs.Cells.{present}
use Rattle.replay_list.specs.Stands.{HasContext}
use Rattle.boot_recovery.specs.Remaining.{age_in}
use Rattle.boot_recovery.proofs.BothLaws.{rows_in, row_in, both_more, both_all}
use Rattle.boot_recovery.proofs.rows.restore_all.Goals as goal

pub restore_row-ctx-requires-clause-stands : goal.restore_row-ctx-requires-clause-stands
restore_row-ctx-requires-clause-stands g c =
    let rows = c.requires.stands.0 in
    (slice_index_or rows c.loop-thread.thread Free, row_in (program_of c.args.program.now) (present (g.W.Words.present c.args.words.now)) rows c.loop-thread.thread c.requires.stands.1 c.loop-thread-test.true)

pub loop-thread-preserved : goal.loop-thread-preserved
loop-thread-preserved g c =
    let low = c.loop-thread-test.true in
    let sized = c.loop-thread.invariant.sized in
    record {
      sized = ap (λ (cs : List (Option Ctx)). length cs) c.set.ensures.put ∙ length-set _ _ _ ∙ sized;
      restored = λ rows both.
          let all = rows_in (program_of c.args.program.now) (present (g.W.Words.present c.args.words.now)) rows both in
          subst (λ (cs : List (Option Ctx)). Both (HasContext (program_of c.args.program.now)) (take (c.loop-thread.thread + 1) cs) (take (c.loop-thread.thread + 1) rows)) (sym c.set.ensures.put)
          (both_more (program_of c.args.program.now) c.loop-thread.contexts rows c.loop-thread.thread c.restore_row-ctx.result (omega (arith, low, sized)) (omega (arith, low, all)) (c.loop-thread.invariant.restored rows both)
          (c.restore_row-ctx.ensures.restored (slice_index_or rows c.loop-thread.thread Free) (row_in (program_of c.args.program.now) (present (g.W.Words.present c.args.words.now)) rows c.loop-thread.thread both low)));
      stepped = λ rows both.
          let all = rows_in (program_of c.args.program.now) (present (g.W.Words.present c.args.words.now)) rows both in
          let more = sum_by_more age_in rows c.loop-thread.thread Free (omega (arith, low, all)) in
          let step = c.restore_row-ctx.ensures.stepped (slice_index_or rows c.loop-thread.thread Free) (row_in (program_of c.args.program.now) (present (g.W.Words.present c.args.words.now)) rows c.loop-thread.thread both low) in
          let before = c.loop-thread.invariant.stepped rows both in
          omega (arith, more, step, before);
    }

pub returns-clause-restored : goal.returns-clause-restored
returns-clause-restored g c = λ rows both.
    let past = c.loop-thread-test.false in
    let sized = c.loop-thread.invariant.sized in
    let all = rows_in (program_of c.args.program.now) (present (g.W.Words.present c.args.words.now)) rows both in
    both_all (program_of c.args.program.now) c.loop-thread.contexts rows c.loop-thread.thread (omega (arith, past, sized)) (omega (arith, past, all)) (c.loop-thread.invariant.restored rows both)

pub returns-clause-stepped : goal.returns-clause-stepped
returns-clause-stepped g c = λ rows both.
    let past = c.loop-thread-test.false in
    let all = rows_in (program_of c.args.program.now) (present (g.W.Words.present c.args.words.now)) rows both in
    let whole = ap (λ (rs : List Row). sum_by age_in rs) (take_all c.loop-thread.thread rows (omega (arith, past, all))) in
    let before = c.loop-thread.invariant.stepped rows both in
    omega (arith, whole, before)
