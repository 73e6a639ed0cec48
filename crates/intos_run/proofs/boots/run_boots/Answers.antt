use Rattle.std.proofs.Common.{List, length, refl, sym, ◌∙◌, ap, subst, arith}
use Rattle.thread_tree.specs.Program.{program_of}
use Rattle.kernel_model.specs.declared.event.Event.{Event}
use Rattle.replay_list.specs.Kept.{counter_of}
use Rattle.kernel_boots.specs.Courses.{course, IsUnderWay, AreSteps}
use Rattle.intos_run.specs.Ends.{BootSteps, IsDone, IsCut, IsFailed}
use Rattle.intos_run.proofs.RunLemmas.{by_events, at_first, at_next, steps_at, steps_next, whole_at, broken_at}
use Rattle.intos_run.proofs.boots.run_boots.Goals as goal

pub boots-init : goal.boots-init
boots-init g c = record {
  stands = λ K under_way.
      at_first g.N.Nv (course (program_of c.args.program.now) K (g.W.World.events c.args.world.now)) _ _ c.args.nv (g.S.Sink.bytes c.args.sink.now) under_way c.requires.no_ends refl refl c.requires.mains;
  same = refl;
  floor = c.requires.floor;
  faults = refl;
  steps = λ K under_way. omega arith;
}

-- the boot goes on along the course on which the words were under way
pub boot-requires-clause-under_way : goal.boot-requires-clause-under_way
boot-requires-clause-under_way g c =
    let K = c.requires.under_way.0 in
    let at = c.boots.invariant.stands K c.requires.under_way.1 in
    (K, subst (λ (E : List Event). IsUnderWay (course (program_of c.args.program.now) K E) (g.N.Nv.words c.boots.nv)) (sym c.boots.invariant.same) at.under_way)

pub boot-requires-clause-all_steps : goal.boot-requires-clause-all_steps
boot-requires-clause-all_steps g c = subst AreSteps (sym c.boots.invariant.same) c.requires.all_steps

pub boot-requires-clause-few : goal.boot-requires-clause-few
boot-requires-clause-few g c = omega (arith, c.requires.few_events, ap length c.boots.invariant.same)

pub returns-in-Done-clause-run : goal.returns-in-Done-clause-run
returns-in-Done-clause-run g c = λ K under_way.
    let p = program_of c.args.program.now in
    let E = g.W.World.events c.args.world.now in
    let nv = c.boots.nv in
    let at = c.boots.invariant.stands K under_way in
    whole_at g.N.Nv (course p K E) _ _ _ _ _ _ _ at c.in-Done.done
    (by_events (λ E. IsUnderWay (course p K E) (g.N.Nv.words nv)) (λ E. IsDone g.N.Nv (course p K E) c.boots.number nv (g.S.Sink.bytes c.boots.sink) (g.S.Sink.bytes c.boot.new.sink) c.in-Done.done)
    E (g.W.World.events c.boots.world) c.boots.invariant.same (c.in-Done.ensures.ends K) at.under_way)

pub boots-preserved : goal.boots-preserved
boots-preserved g c =
    let p = program_of c.args.program.now in
    let E = g.W.World.events c.args.world.now in
    let nv = c.boots.nv in
    let dark = c.in-Cut.dark in
    let next = c.again-nv.result in
    record {
      stands = λ K under_way.
          let at = c.boots.invariant.stands K under_way in
          let cut = by_events (λ E. IsUnderWay (course p K E) (g.N.Nv.words nv)) (λ E. IsCut g.N.Nv (course p K E) c.boots.number nv (g.S.Sink.bytes c.boots.sink) (g.S.Sink.bytes c.boot.new.sink) dark)
          E (g.W.World.events c.boots.world) c.boots.invariant.same (c.in-Cut.ensures.ends K) at.under_way in
          at_next g.N.Nv (course p K E) _ _ _ _ _ _ _ at dark next cut c.again-nv.ensures.words c.again-nv.ensures.left c.again-nv.ensures.to_come c.again-nv.ensures.ends;
      same = c.in-Cut.ensures.same ∙ c.boots.invariant.same;
      floor = omega (arith, c.in-Cut.ensures.floor, ap counter_of c.again-nv.ensures.words);
      faults = c.in-Cut.ensures.cause ∙ c.boots.invariant.faults;
      steps = λ K under_way.
          let at = c.boots.invariant.stands K under_way in
          let cut = by_events (λ E. IsUnderWay (course p K E) (g.N.Nv.words nv)) (λ E. IsCut g.N.Nv (course p K E) c.boots.number nv (g.S.Sink.bytes c.boots.sink) (g.S.Sink.bytes c.boot.new.sink) dark)
          E (g.W.World.events c.boots.world) c.boots.invariant.same (c.in-Cut.ensures.ends K) at.under_way in
          let boot = by_events (λ E. IsUnderWay (course p K E) (g.N.Nv.words nv)) (λ E. BootSteps (course p K E) c.boots.counter c.boot.new.counter (g.N.Nv.words nv) (g.N.Nv.words dark))
          E (g.W.World.events c.boots.world) c.boots.invariant.same (c.in-Cut.ensures.steps K) at.under_way in
          steps_next g.N.Nv (course p K E) _ _ _ _ (g.S.Sink.bytes c.args.sink.now) _ _ at _ _ _ dark next (c.boots.invariant.steps K under_way) boot cut.spent.ends c.again-nv.ensures.ends c.again-nv.ensures.words;
    }

pub returns-in-SinkFailed-clause-run : goal.returns-in-SinkFailed-clause-run
returns-in-SinkFailed-clause-run g c = λ K under_way.
    let p = program_of c.args.program.now in
    let E = g.W.World.events c.args.world.now in
    let nv = c.boots.nv in
    let at = c.boots.invariant.stands K under_way in
    broken_at g.N.Nv (course p K E) _ _ _ _ _ _ _ at c.in-SinkFailed.stopped
    (by_events (λ E. IsUnderWay (course p K E) (g.N.Nv.words nv)) (λ E. IsFailed g.N.Nv (course p K E) c.boots.number nv (g.S.Sink.bytes c.boots.sink) (g.S.Sink.bytes c.boot.new.sink) c.in-SinkFailed.stopped)
    E (g.W.World.events c.boots.world) c.boots.invariant.same (c.in-SinkFailed.ensures.ends K) at.under_way)

pub returns-in-Done-clause-steps : goal.returns-in-Done-clause-steps
returns-in-Done-clause-steps g c = λ K under_way.
    let p = program_of c.args.program.now in
    let E = g.W.World.events c.args.world.now in
    let nv = c.boots.nv in
    let at = c.boots.invariant.stands K under_way in
    let done = by_events (λ E. IsUnderWay (course p K E) (g.N.Nv.words nv)) (λ E. IsDone g.N.Nv (course p K E) c.boots.number nv (g.S.Sink.bytes c.boots.sink) (g.S.Sink.bytes c.boot.new.sink) c.in-Done.done)
    E (g.W.World.events c.boots.world) c.boots.invariant.same (c.in-Done.ensures.ends K) at.under_way in
    let boot = by_events (λ E. IsUnderWay (course p K E) (g.N.Nv.words nv)) (λ E. BootSteps (course p K E) c.boots.counter c.boot.new.counter (g.N.Nv.words nv) (g.N.Nv.words c.in-Done.done))
    E (g.W.World.events c.boots.world) c.boots.invariant.same (c.in-Done.ensures.steps K) at.under_way in
    steps_at g.N.Nv (course p K E) _ _ _ _ (g.S.Sink.bytes c.args.sink.now) _ _ at _ _ _ c.in-Done.done (c.boots.invariant.steps K under_way) boot done.spent.ends

pub returns-in-SinkFailed-clause-steps : goal.returns-in-SinkFailed-clause-steps
returns-in-SinkFailed-clause-steps g c = λ K under_way.
    let p = program_of c.args.program.now in
    let E = g.W.World.events c.args.world.now in
    let nv = c.boots.nv in
    let at = c.boots.invariant.stands K under_way in
    let failed = by_events (λ E. IsUnderWay (course p K E) (g.N.Nv.words nv)) (λ E. IsFailed g.N.Nv (course p K E) c.boots.number nv (g.S.Sink.bytes c.boots.sink) (g.S.Sink.bytes c.boot.new.sink) c.in-SinkFailed.stopped)
    E (g.W.World.events c.boots.world) c.boots.invariant.same (c.in-SinkFailed.ensures.ends K) at.under_way in
    let boot = by_events (λ E. IsUnderWay (course p K E) (g.N.Nv.words nv)) (λ E. BootSteps (course p K E) c.boots.counter c.boot.new.counter (g.N.Nv.words nv) (g.N.Nv.words c.in-SinkFailed.stopped))
    E (g.W.World.events c.boots.world) c.boots.invariant.same (c.in-SinkFailed.ensures.steps K) at.under_way in
    steps_at g.N.Nv (course p K E) _ _ _ _ (g.S.Sink.bytes c.args.sink.now) _ _ at _ _ _ c.in-SinkFailed.stopped (c.boots.invariant.steps K under_way) boot failed.spent.ends
