-- The loop is the statement at hand, or blocks would be too deep.
use Rattle.std.proofs.Common.{◌∙◌, ap, arith}
use Rattle.thread_tree.specs.Program.{program_of}
use Rattle.thread_machine.specs.declared.context.Ctx.{Ctx}
use Rattle.thread_machine.specs.Seeking.{sought}
use Rattle.thread_machine.proofs.InnerLemmas.{arrived, deepest}
use Rattle.thread_machine.proofs.context.Ctx.seek.Goals as goal

pub returns-in-None-narrow : goal.returns-in-None-narrow
returns-in-None-narrow c =
    let p = program_of c.args.tree.now in
    record {
      arrived = λ spot is. arrived p c.narrow.new.self c.in-Some.here spot c.narrow.ensures.way c.in-None-narrow.ensures.own (ap (λ (x : Ctx). sought p x c.in-Some.here) c.in-None-narrow.ensures.kept ∙ c.in-Some.ensures.sought ∙ c.loop-depth.invariant.3 ∙ is);
    }

pub returns : goal.returns
returns c = record {
  arrived = λ spot is. deepest (program_of c.args.tree.now) c.loop-depth.self c.loop-depth.left spot c.loop-depth.invariant.0 (omega (arith, c.loop-depth.invariant.2, c.loop-depth-test.false)) (c.loop-depth.invariant.3 ∙ is);
}
