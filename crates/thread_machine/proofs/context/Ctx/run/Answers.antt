-- Running ahead is the definition's, move by move.
use Rattle.std.proofs.Common.{◌+◌, ◌-◌, arith, refl, sym, ap, ◌∙◌}
use Rattle.thread_tree.specs.Ahead.{ahead}
use Rattle.thread_tree.specs.Program.{program_of}
use Rattle.thread_machine.specs.Context.{local_of}
use Rattle.thread_machine.specs.Reached.Reached.{Moved}
use Rattle.thread_machine.proofs.ReachedLemmas.{reached_within}
use Rattle.thread_machine.proofs.RunLemmas.{ahead_begins, ahead_more, ahead_stops, ahead_ends}
use Rattle.thread_machine.proofs.context.Ctx.run.Goals as goal

pub loop-at-init : goal.loop-at-init
loop-at-init g c = (c.requires.context, omega arith, ahead_begins (program_of c.args.tree.now) (local_of (program_of c.args.tree.now) c.args.self.now))

pub step-requires-clause-counted : goal.step-requires-clause-counted
step-requires-clause-counted g c = c.loop-at.invariant.0.counted

pub step-requires-clause-within : goal.step-requires-clause-within
step-requires-clause-within g c = reached_within (program_of c.args.tree.now) (local_of (program_of c.args.tree.now) c.loop-at.self) c.requires.sound c.loop-at.invariant.0.reached

pub returns-then-not-step-clause-context : goal.returns-then-not-step-clause-context
returns-then-not-step-clause-context g c = rw (c.if-not-step.ensures.unmoved refl) c.loop-at.invariant.0

pub returns-then-not-step-clause-arrived : goal.returns-then-not-step-clause-arrived
returns-then-not-step-clause-arrived g c =
    let p = program_of c.args.tree.now in
    rw (c.if-not-step.ensures.unmoved refl)
    (ahead_stops p (local_of p c.args.self.now) (local_of p c.loop-at.self) c.loop-at.at (10000 - c.loop-at.at) (ahead p (local_of p c.args.self.now)) c.if-not-step.ensures.moved c.loop-at.invariant.2).0

pub returns-then-not-step-clause-moved : goal.returns-then-not-step-clause-moved
returns-then-not-step-clause-moved g c =
    let p = program_of c.args.tree.now in
    rw (c.if-not-step.ensures.unmoved refl)
    (ahead_stops p (local_of p c.args.self.now) (local_of p c.loop-at.self) c.loop-at.at (10000 - c.loop-at.at) (ahead p (local_of p c.args.self.now)) c.if-not-step.ensures.moved c.loop-at.invariant.2).1

pub returns-then-not-step-clause-stepped : goal.returns-then-not-step-clause-stepped
returns-then-not-step-clause-stepped g c =
    let p = program_of c.args.tree.now in
    c.loop-at.invariant.1 ∙ ap (λ n. c.args.steps.now + n)
    (sym (ahead_stops p (local_of p c.args.self.now) (local_of p c.loop-at.self) c.loop-at.at (10000 - c.loop-at.at) (ahead p (local_of p c.args.self.now)) c.if-not-step.ensures.moved c.loop-at.invariant.2).2)

pub loop-at-preserved : goal.loop-at-preserved
loop-at-preserved g c =
    let p = program_of c.args.tree.now in (
      record {
        reached = Moved p (local_of p c.loop-at.self) (local_of p c.step.new.self) c.loop-at.invariant.0.reached c.if-not-step.ensures.moved;
        counted = c.if-not-step.ensures.counted;
        scoped = c.if-not-step.ensures.scoped c.loop-at.invariant.0.scoped;
      },
      omega (arith, c.tick.ensures.counted, c.loop-at.invariant.1),
      ahead_more p (local_of p c.args.self.now) (local_of p c.loop-at.self) (local_of p c.step.new.self) c.loop-at.at (10000 - c.loop-at.at) (10000 - (c.loop-at.at + 1)) (ahead p (local_of p c.args.self.now)) (omega (arith, c.loop-at-test.true)) c.if-not-step.ensures.moved c.loop-at.invariant.2,
    )

pub returns-clause-arrived : goal.returns-clause-arrived
returns-clause-arrived g c =
    let p = program_of c.args.tree.now in
    (ahead_ends p (local_of p c.args.self.now) (local_of p c.loop-at.self) c.loop-at.at (10000 - c.loop-at.at) (ahead p (local_of p c.args.self.now)) c.has_move.result (omega (arith, c.loop-at-test.false)) c.has_move.ensures.value c.loop-at.invariant.2).0

pub returns-clause-moved : goal.returns-clause-moved
returns-clause-moved g c =
    let p = program_of c.args.tree.now in
    (ahead_ends p (local_of p c.args.self.now) (local_of p c.loop-at.self) c.loop-at.at (10000 - c.loop-at.at) (ahead p (local_of p c.args.self.now)) c.has_move.result (omega (arith, c.loop-at-test.false)) c.has_move.ensures.value c.loop-at.invariant.2).1

pub returns-clause-stepped : goal.returns-clause-stepped
returns-clause-stepped g c =
    let p = program_of c.args.tree.now in
    c.loop-at.invariant.1 ∙ ap (λ n. c.args.steps.now + n)
    (sym (ahead_ends p (local_of p c.args.self.now) (local_of p c.loop-at.self) c.loop-at.at (10000 - c.loop-at.at) (ahead p (local_of p c.args.self.now)) c.has_move.result (omega (arith, c.loop-at-test.false)) c.has_move.ensures.value c.loop-at.invariant.2).2)
