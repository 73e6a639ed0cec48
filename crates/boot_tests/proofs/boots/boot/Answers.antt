-- What is kept on the device goes on along the course from the start.
use Rattle.thread_tree.specs.Program.{program_of}
use Rattle.std.specs.Prelude.{replicate}
use Rattle.kernel_image.specs.Decoded.{image_in}
use Rattle.kernel_model.specs.declared.event.Event.TheVariants.{Step}
use Rattle.kernel_model.specs.Run.{initial}
use Rattle.replay_list.specs.Kept.{counter_of}
use Rattle.kernel_boots.specs.Courses.{from_start, uncut}
use Rattle.std.proofs.lemmas.List.Elements.{All-replicate}
use Rattle.std.proofs.Common.{refl, ◌≡◌}
use Rattle.boot_tests.proofs.boots.boot.Goals as goal

pub work-requires-clause-all_steps : goal.work-requires-clause-all_steps
work-requires-clause-all_steps g c = All-replicate (λ event. event ≡ Step) 4 Step refl

pub work-requires-clause-live : goal.work-requires-clause-live
work-requires-clause-live g c =
    let p = program_of c.args.program.now in
    let on = from_start p (replicate 4 Step) in
    let words = g.N.Nv.words c.args.nv in
    let kernel = c.in-Ok.kernel in (
      initial p,
      c.beginning.ensures.recovered on words (image_in (g.N.Nv.words kernel.idle)) kernel.contexts c.requires.under_way
          (c.in-Ok.ensures.stands (uncut on (counter_of words)) c.requires.under_way.kept),
    )

pub returns-in-Ok-work-clause-live : goal.returns-in-Ok-work-clause-live
returns-in-Ok-work-clause-live g c =
    let p = program_of c.args.program.now in
    let on = from_start p (replicate 4 Step) in
    let words = g.N.Nv.words c.args.nv in
    let kernel = c.in-Ok.kernel in
    c.in-Ok-work.ensures.live (initial p) (c.beginning.ensures.recovered on words (image_in (g.N.Nv.words kernel.idle)) kernel.contexts c.requires.under_way
    (c.in-Ok.ensures.stands (uncut on (counter_of words)) c.requires.under_way.kept))

pub returns-in-Err-work-clause-under_way : goal.returns-in-Err-work-clause-under_way
returns-in-Err-work-clause-under_way g c =
    let p = program_of c.args.program.now in
    let on = from_start p (replicate 4 Step) in
    let words = g.N.Nv.words c.args.nv in
    let kernel = c.in-Ok.kernel in
    c.in-Err-work.ensures.under_way (initial p) (c.beginning.ensures.recovered on words (image_in (g.N.Nv.words kernel.idle)) kernel.contexts c.requires.under_way
    (c.in-Ok.ensures.stands (uncut on (counter_of words)) c.requires.under_way.kept))

pub returns-in-Err-clause-under_way : goal.returns-in-Err-clause-under_way
returns-in-Err-clause-under_way g c =
    let p = program_of c.args.program.now in
    let on = from_start p (replicate 4 Step) in
    let words = g.N.Nv.words c.args.nv in
    c.beginning.ensures.lost on words (g.N.Nv.words c.in-Err.dark) c.requires.under_way (c.in-Err.ensures.kept (uncut on (counter_of words)) c.requires.under_way.kept)
