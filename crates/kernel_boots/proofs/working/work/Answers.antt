-- One event more, or the power is cut in it.
use Rattle.std.proofs.Common.{◌≡◌, ◌+◌, ◌-◌, ◌*◌, slice_get, Some, sym, ap, ◌∙◌, arith}
use Rattle.std.proofs.lemmas.Option.{slice_get_within}
use Rattle.thread_tree.specs.Program.{program_of}
use Rattle.kernel_image.specs.Decoded.{image_in}
use Rattle.kernel_boots.specs.Courses.{course, uncut}
use Rattle.kernel_boots.proofs.CourseLaws.{live-counts, next-counts, next-live, kept-counts, kept-goes_on, told, is-step, past-unless}
use Rattle.kernel_boots.proofs.SpentLaws.{fell-at-most, at-most-then, fell-then, short-then}
use Rattle.kernel_boots.proofs.working.work.Goals as goal

pub perform_event-requires-clause-step : goal.perform_event-requires-clause-step
perform_event-requires-clause-step g c =
    let same = c.loop-event.invariant in
    let is : slice_get (g.W.World.events c.args.world.now) c.loop-event.events ≡ Some c.in-Some.event = told _ _ _ _ _ c.next.ensures.event same.same c.in-Some.is in
    is-step (g.W.World.events c.args.world.now) c.loop-event.events c.in-Some.event c.requires.all_steps is

pub perform_event-requires-clause-stands : goal.perform_event-requires-clause-stands
perform_event-requires-clause-stands g c =
    let same = c.loop-event.invariant in
    let K = c.requires.live.0 in
    let on = course (program_of c.args.program.now) K (g.W.World.events c.args.world.now) in
    let live = same.live K c.requires.live.1 in
    let d = image_in (g.N.Nv.words c.loop-event.idle) in
    let is : slice_get (g.W.World.events c.args.world.now) c.loop-event.events ≡ Some c.in-Some.event = told _ _ _ _ _ c.next.ensures.event same.same c.in-Some.is in
    let less = slice_get_within (g.W.World.events c.args.world.now) c.loop-event.events c.in-Some.event is in
    let many = live-counts c.soundness.ensures.run_counted on d c.loop-event.contexts live in
    (uncut on d.events, live.stands, omega (arith, many, less, same.is, c.requires.few))

pub loop-event-preserved : goal.loop-event-preserved
loop-event-preserved g c =
    let p = program_of c.args.program.now in
    let E = g.W.World.events c.args.world.now in
    let n = c.loop-event.events in
    let same = c.loop-event.invariant in
    let d = image_in (g.N.Nv.words c.loop-event.idle) in
    let e = image_in (g.N.Nv.words c.in-Ok.next) in
    let done = c.in-Ok.ensures.ends in
    let is : slice_get E n ≡ Some c.in-Some.event = told _ _ _ _ _ c.next.ensures.event same.same c.in-Some.is in
    let at : slice_get E d.events ≡ Some c.in-Some.event = ap (slice_get E) (sym same.is) ∙ is in
    let less = slice_get_within E n c.in-Some.event is in
    let counted = c.soundness.ensures.run_counted in
    let first = course p c.requires.live.0 E in
    let before = same.live c.requires.live.0 c.requires.live.1 in
    let first_many = live-counts counted first d c.loop-event.contexts before in
    let after_it = c.in-Ok.ensures.happened (uncut first d.events) before.stands (omega (arith, first_many, less, same.is, c.requires.few)) in
    let count = next-counts counted first c.soundness.ensures.counted d e c.loop-event.contexts c.perform_event.new.contexts c.in-Some.event before after_it in
    record {
      at_rest = done.at_rest;
      live = λ K was.
          let on = course p K E in
          let live = same.live K was in
          let many = live-counts counted on d c.loop-event.contexts live in
          next-live counted on c.soundness.ensures.counted d e c.loop-event.contexts c.perform_event.new.contexts c.in-Some.event live at
          (c.in-Ok.ensures.happened (uncut on d.events) live.stands (omega (arith, many, less, same.is, c.requires.few)));
      is = omega (arith, same.is, count);
      same = c.next.ensures.same ∙ same.same;
      floor = omega (arith, c.next.ensures.floor);
      later = omega (arith, same.later);
      spent = record {
        left = at-most-then (g.N.Nv.left c.args.kernel.idle) (g.N.Nv.left c.loop-event.idle) (g.N.Nv.left c.in-Ok.next) same.spent.left (fell-at-most 6400 (g.N.Nv.left c.loop-event.idle) (g.N.Nv.left c.in-Ok.next) done.left);
        to_come = done.to_come ∙ same.spent.to_come;
        ends = done.ends ∙ same.spent.ends;
      };
      fell = fell-then (6400 * (n - (image_in (g.N.Nv.words c.args.kernel.idle)).events)) 6400 (6400 * (n + 1 - (image_in (g.N.Nv.words c.args.kernel.idle)).events))
          (g.N.Nv.left c.args.kernel.idle) (g.N.Nv.left c.loop-event.idle) (g.N.Nv.left c.in-Ok.next) same.fell done.left (omega (arith, same.later));
      counted = omega (arith, same.counted, c.in-Ok.ensures.counted);
      few = omega (arith, same.few, c.in-Ok.ensures.steps);
    }

pub returns-in-Err-clause-some : goal.returns-in-Err-clause-some
returns-in-Err-clause-some g c =
    slice_get_within (g.W.World.events c.args.world.now) c.loop-event.events c.in-Some.event
    (told _ _ _ _ _ c.next.ensures.event c.loop-event.invariant.same c.in-Some.is)

pub returns-in-Err-clause-under_way : goal.returns-in-Err-clause-under_way
returns-in-Err-clause-under_way g c = λ K was.
    let p = program_of c.args.program.now in
    let on = course p K (g.W.World.events c.args.world.now) in
    let same = c.loop-event.invariant in
    let live = same.live K was in
    let lost = c.in-Err.ensures.ends in
    let laws = c.standing_laws.ensures in
    let idle = g.N.Nv.words c.loop-event.idle in
    let dark = g.N.Nv.words c.in-Err.dark in
    let kept = laws.kept_undone p idle dark (uncut on (image_in idle).events) lost.undone lost.journalled same.at_rest.formatted (laws.kept p idle (uncut on (image_in idle).events) same.at_rest live.stands.image) in
    kept-goes_on c.soundness.ensures.run_counted on laws.kept_events dark (image_in idle) c.loop-event.contexts live kept

pub returns-in-Err-clause-count : goal.returns-in-Err-clause-count
returns-in-Err-clause-count g c =
    let p = program_of c.args.program.now in
    let on = course p c.requires.live.0 (g.W.World.events c.args.world.now) in
    let same = c.loop-event.invariant in
    let live = same.live c.requires.live.0 c.requires.live.1 in
    let lost = c.in-Err.ensures.ends in
    let laws = c.standing_laws.ensures in
    let idle = g.N.Nv.words c.loop-event.idle in
    let dark = g.N.Nv.words c.in-Err.dark in
    let kept = laws.kept_undone p idle dark (uncut on (image_in idle).events) lost.undone lost.journalled same.at_rest.formatted (laws.kept p idle (uncut on (image_in idle).events) same.at_rest live.stands.image) in
    same.is ∙ sym (kept-counts c.soundness.ensures.run_counted on laws.kept_events dark (image_in idle) c.loop-event.contexts live kept)

pub returns-in-Err-clause-progress : goal.returns-in-Err-clause-progress
returns-in-Err-clause-progress g c =
    let n = c.loop-event.events in
    let many = (image_in (g.N.Nv.words c.args.kernel.idle)).events in
    let same = c.loop-event.invariant in
    short-then (6400 * (n - many)) 6400 (6400 * (n + 1 - many)) (g.N.Nv.left c.args.kernel.idle) (g.N.Nv.left c.loop-event.idle)
    same.fell c.in-Err.ensures.ends.short (omega (arith, same.later))

pub returns-clause-all : goal.returns-clause-all
returns-clause-all g c =
    let same = c.loop-event.invariant in
    let past = past-unless (g.W.World.events c.args.world.now) c.loop-event.events (told _ _ _ _ _ c.next.ensures.event same.same c.in_default.is) in
    omega (arith, past, same.is)
