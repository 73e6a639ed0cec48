use Rattle.std.proofs.Common.{◌≡◌, ◌⊎◌, ℕ, inl, inr, sym, ◌∙◌, arith}
use Rattle.std.proofs.lemmas.Option.{IfSome_then}
use Rattle.outer_world.specs.Written.{put_to, IsPart}
use Rattle.thread_tree.specs.Program.{program_of}
use Rattle.replay_list.specs.Kept.{counter_of}
use Rattle.intos_run.specs.Report.{report}
use Rattle.intos_run.specs.Runs.{HasBudgets, HasImages, StepsWithin}
use Rattle.intos_run.specs.Steps.{steps_course}
use Rattle.intos_run.proofs.TaskLemmas.{same_task, for_task, refused, refused_for_memory}
use Rattle.intos_run.proofs.top.run.Goals as goal

-- a run that was begun didn't end with status 7
begun : (status : ℕ) → (status ≡ 0) ⊎ (status ≡ 6) → status ≡ 7 → ⊥
begun status (inl zero) seven = omega (arith, zero, seven)
begun status (inr six) seven = omega (arith, six, seven)

pub returns-in-Ok-clause-budgets : goal.returns-in-Ok-clause-budgets
returns-in-Ok-clause-budgets g c is task asks =
    let end = c.run_job.result in
    for_task (λ t steps cuts. HasBudgets cuts (g.N.Nv.ends end.nv) (g.N.Nv.left end.nv) (g.N.Nv.to_come end.nv)) _ _ _ task
    (same_task _ _ _ _ _ task c.in-Ok.ensures.job asks) (c.run_job.ensures.budgets (begun end.status is))

pub returns-in-Ok-clause-images : goal.returns-in-Ok-clause-images
returns-in-Ok-clause-images g c is task asks =
    let end = c.run_job.result in
    for_task (λ t steps cuts. HasImages (steps_course (program_of t) steps) cuts (g.N.Nv.words c.args.nv) (g.N.Nv.ends end.nv) (g.N.Nv.words end.nv)) _ _ _ task
    (same_task _ _ _ _ _ task c.in-Ok.ensures.job asks)
    (c.run_job.ensures.images (begun end.status is))

pub returns-in-Ok-clause-complete : goal.returns-in-Ok-clause-complete
returns-in-Ok-clause-complete g c is task asks =
    let end = c.run_job.result in
    for_task (λ t steps cuts. counter_of (g.N.Nv.words end.nv) ≡ steps) _ _ _ task
    (same_task _ _ _ _ _ task c.in-Ok.ensures.job asks) (c.run_job.ensures.complete is)

pub returns-in-Ok-clause-text : goal.returns-in-Ok-clause-text
returns-in-Ok-clause-text g c is task asks =
    let end = c.run_job.result in
    for_task (λ t steps cuts. g.S.Sink.bytes c.run_job.new.sink ≡ put_to (g.S.Sink.bytes c.args.sink.now) (report (steps_course (program_of t) steps) cuts (g.N.Nv.words c.args.nv) (g.N.Nv.ends end.nv) (g.N.Nv.words end.nv))) _ _ _ task
    (same_task _ _ _ _ _ task c.in-Ok.ensures.job asks)
    (c.run_job.ensures.text is)

pub returns-in-Ok-clause-text_so_far : goal.returns-in-Ok-clause-text_so_far
returns-in-Ok-clause-text_so_far g c is task asks =
    let end = c.run_job.result in
    for_task (λ t steps cuts. IsPart (g.S.Sink.bytes c.args.sink.now) (g.S.Sink.bytes c.run_job.new.sink) (report (steps_course (program_of t) steps) cuts (g.N.Nv.words c.args.nv) (g.N.Nv.ends end.nv) (g.N.Nv.words end.nv))) _ _ _ task
    (same_task _ _ _ _ _ task c.in-Ok.ensures.job asks)
    (c.run_job.ensures.part is)

pub returns-in-Ok-clause-steps : goal.returns-in-Ok-clause-steps
returns-in-Ok-clause-steps g c is task asks =
    let end = c.run_job.result in
    for_task (λ t steps cuts. StepsWithin (steps_course (program_of t) steps) c.args.steps.now c.run_job.new.steps (g.N.Nv.words c.args.nv) (g.N.Nv.ends end.nv) (g.N.Nv.words end.nv)) _ _ _ task
    (same_task _ _ _ _ _ task c.in-Ok.ensures.job asks)
    (c.run_job.ensures.steps (begun end.status is))

pub returns-in-Err-clause-refused : goal.returns-in-Err-clause-refused
returns-in-Err-clause-refused g c is =
    refused _ _ _ _ _ _ _ _ _ _ c.in-Err.refusal (sym c.refuse.ensures.status ∙ is) c.in-Err.ensures.refused c.refuse.ensures.tells

pub returns-in-Ok-clause-accepted : goal.returns-in-Ok-clause-accepted
returns-in-Ok-clause-accepted g c _ =
    let job = c.in-Ok.ensures.job in
    (job.0, _, _, job.1, IfSome_then (g.F.Files.contents c.args.files.now job.0) job.2 (λ text program. (c.in-Ok.job.program, program)))

pub returns-in-Ok-clause-served : goal.returns-in-Ok-clause-served
returns-in-Ok-clause-served g c task asks calm quiet = elim c.run_job.ensures.statuses [
  | inl zero ↦ inl zero
  | inr others ↦ elim others [
    | inl six ↦ absurd (quiet (c.run_job.ensures.broken six))
    | inr seven ↦ inr seven
  ]
]

pub returns-in-Err-clause-served : goal.returns-in-Err-clause-served
returns-in-Err-clause-served g c task asks calm quiet =
    inr (c.refuse.ensures.status ∙ refused_for_memory _ _ _ _ _ _ c.in-Err.refusal c.in-Err.ensures.refused task asks calm)
