use Rattle.std.proofs.Common.{◌≡◌, length, refl, ◌∙◌, ap, arith}
use Rattle.std.proofs.lemmas.List.{length-replicate}
use Rattle.std.proofs.lemmas.List.Elements.{All-replicate}
use Rattle.thread_tree.specs.Program.{program_of}
use Rattle.kernel_model.specs.declared.event.Event.TheVariants.{Step}
use Rattle.kernel_model.specs.Run.{initial}
use Rattle.kernel_model.specs.Show.{timed_list}
use Rattle.intos_run.specs.Steps.{only_steps}
use Rattle.intos_run.proofs.top.run_steps.Goals as goal

pub run_boots-requires-clause-under_way : goal.run_boots-requires-clause-under_way
run_boots-requires-clause-under_way g c =
    let p = program_of c.args.program.now in
    (initial p, c.beginning.ensures.blank p (only_steps c.args.steps) (g.N.Nv.words c.args.nv) c.requires.blank)

pub run_boots-requires-clause-all_steps : goal.run_boots-requires-clause-all_steps
run_boots-requires-clause-all_steps g c = All-replicate (λ event. event ≡ Step) c.args.steps Step refl

pub run_boots-requires-clause-few_events : goal.run_boots-requires-clause-few_events
run_boots-requires-clause-few_events g c =
    let many : length (only_steps c.args.steps) ≡ c.args.steps = length-replicate c.args.steps Step in
    omega (arith, many, c.requires.few_steps)

pub returns-clause-run : goal.returns-clause-run
returns-clause-run g c =
    let p = program_of c.args.program.now in
    c.run_boots.ensures.run (initial p) (c.beginning.ensures.blank p (only_steps c.args.steps) (g.N.Nv.words c.args.nv) c.requires.blank)

pub returns-clause-all : goal.returns-clause-all
returns-clause-all g c = c.beginning.ensures.all (program_of c.args.program.now) (only_steps c.args.steps) ∙ length-replicate c.args.steps Step

pub returns-clause-untimed : goal.returns-clause-untimed
returns-clause-untimed g c =
    ap timed_list (c.beginning.ensures.start (program_of c.args.program.now) (only_steps c.args.steps) c.args.steps)
    ∙ c.served_runs.ensures.untimed c.args.program.now c.args.steps c.args.steps c.requires.served

pub returns-clause-steps : goal.returns-clause-steps
returns-clause-steps g c =
    let p = program_of c.args.program.now in
    c.run_boots.ensures.steps (initial p) (c.beginning.ensures.blank p (only_steps c.args.steps) (g.N.Nv.words c.args.nv) c.requires.blank)
