use Rattle.std.proofs.Common.{◌≡◌, false, refl, sym, ◌∙◌, ap}
use Rattle.std.specs.Result.{is_err}
use Rattle.nv_memory.specs.Budget.{first_budget, later_budgets}
use Rattle.thread_tree.specs.Program.{program_of}
use Rattle.kernel_model.specs.Show.{timed_list}
use Rattle.replay_list.specs.Kept.{counter_of}
use Rattle.kernel_boots.specs.Courses.{uncut, last}
use Rattle.intos_run.specs.Steps.{steps_course}
use Rattle.intos_run.proofs.TopLemmas.{on_ok, budgets-of_planned, put_whole, part_whole, first-blank, same_steps}
use Rattle.intos_run.proofs.top.run_job.Goals as goal

pub run_steps-requires-clause-blank : goal.run_steps-requires-clause-blank
run_steps-requires-clause-blank g c = first-blank _ (c.plan.ensures.words ∙ c.requires.blank)

pub dump-requires-clause-stands : goal.dump-requires-clause-stands
dump-requires-clause-stands g c =
    let on = steps_course (program_of c.args.job.now.program) c.args.job.now.steps in
    (uncut on (last on), c.in-Ok.ensures.run.stands, ap (λ n. timed_list (uncut on n)) c.run_steps.ensures.all ∙ c.run_steps.ensures.untimed)

pub returns-in-Ok-dump-clause-complete : goal.returns-in-Ok-dump-clause-complete
returns-in-Ok-dump-clause-complete g c _ = ap counter_of c.in-Ok-dump.ensures.words ∙ c.in-Ok.ensures.run.complete ∙ c.run_steps.ensures.all

pub returns-in-Ok-dump-clause-text : goal.returns-in-Ok-dump-clause-text
returns-in-Ok-dump-clause-text g c _ =
    let on = steps_course (program_of c.args.job.now.program) c.args.job.now.steps in
    let words = g.N.Nv.words c.in-Ok.done in
    let run = c.in-Ok.ensures.run in
    let fine : is_err c.plan.result ≡ false = sym c.is_err.ensures.value ∙ c.if-is_err.false in
    let planned = budgets-of_planned c.args.job.now.cuts.items _ _ (on_ok c.plan.result _ fine c.plan.ensures.left ∙ ap first_budget c.deref.ensures.value) (on_ok c.plan.result _ fine c.plan.ensures.to_come ∙ ap later_budgets c.deref.ensures.value) in
    put_whole on c.args.job.now.cuts.items _ (g.N.Nv.words c.args.nv) _ _ _ _ words _ _ _ planned c.plan.ensures.words
    c.in-Ok-dump.ensures.ends c.in-Ok-dump.ensures.words run.at_rest run.complete run.live run.text (c.in-Ok-dump.ensures.puts (uncut on (last on)) run.stands)

pub returns-in-Err-dump-clause-part : goal.returns-in-Err-dump-clause-part
returns-in-Err-dump-clause-part g c _ =
    let on = steps_course (program_of c.args.job.now.program) c.args.job.now.steps in
    let words = g.N.Nv.words c.in-Ok.done in
    let run = c.in-Ok.ensures.run in
    let fine : is_err c.plan.result ≡ false = sym c.is_err.ensures.value ∙ c.if-is_err.false in
    let planned = budgets-of_planned c.args.job.now.cuts.items _ _ (on_ok c.plan.result _ fine c.plan.ensures.left ∙ ap first_budget c.deref.ensures.value) (on_ok c.plan.result _ fine c.plan.ensures.to_come ∙ ap later_budgets c.deref.ensures.value) in
    part_whole on c.args.job.now.cuts.items _ (g.N.Nv.words c.args.nv) _ _ _ _ words _ _ _ planned c.plan.ensures.words
    c.in-Err-dump.ensures.ends c.in-Err-dump.ensures.words run.at_rest run.complete run.live run.text (c.in-Err-dump.ensures.puts (uncut on (last on)) run.stands)

pub returns-in-Ok-dump-clause-steps : goal.returns-in-Ok-dump-clause-steps
returns-in-Ok-dump-clause-steps g c _ =
    same_steps _ _ _ _ _ _ _ _ _ _ c.plan.ensures.words c.in-Ok-dump.ensures.ends c.in-Ok-dump.ensures.words c.dump.ensures.steps c.in-Ok.ensures.steps

pub returns-in-Err-dump-clause-steps : goal.returns-in-Err-dump-clause-steps
returns-in-Err-dump-clause-steps g c _ =
    same_steps _ _ _ _ _ _ _ _ _ _ c.plan.ensures.words c.in-Err-dump.ensures.ends c.in-Err-dump.ensures.words c.dump.ensures.steps c.in-Ok.ensures.steps

pub returns-in-Err-clause-steps : goal.returns-in-Err-clause-steps
returns-in-Err-clause-steps g c _ =
    same_steps _ _ _ _ _ _ _ _ _ _ c.plan.ensures.words refl refl refl c.in-Err.ensures.steps
