-- The bodies before the one that has the loop are passed by.
use Rattle.std.proofs.Common.{◌∙◌, ap, sym, arith}
use Rattle.std.specs.Prelude.{slice_get}
use Rattle.thread_tree.specs.Program.{program_of}
use Rattle.thread_machine.specs.Seen.{seen}
use Rattle.thread_machine.proofs.LoopLemmas.{place_begins, place_here, place_none, place_passed}
use Rattle.thread_machine.proofs.at_loop.place_of.Goals as goal

pub loop-at-init : goal.loop-at-init
loop-at-init c = ap (λ xs. slice_get xs c.args.number) (place_begins (program_of c.args.tree.now))

pub returns-in-None : goal.returns-in-None
returns-in-None c = record {
  place = λ spot found. place_none (program_of c.args.tree.now) c.loop-at.at c.args.number c.loop-at.left spot c.loop-at.at c.loop-at.left (sym c.in-None.ensures.found) c.loop-at.invariant found;
}

pub returns-then-left-count : goal.returns-then-left-count
returns-then-left-count c = record {
  place = λ spot found. place_here (program_of c.args.tree.now) c.loop-at.at c.args.number c.loop-at.left c.loops_in-count.result (seen c.in-Some.body) spot c.requires.sound c.loop-at.invariant (sym c.in-Some.ensures.found) c.loops_in-count.ensures.count c.if-left-count.true found;
}

pub loop-at-preserved : goal.loop-at-preserved
loop-at-preserved c =
    c.loop-at.invariant ∙ place_passed (program_of c.args.tree.now) c.loop-at.at c.loop-at.left c.loops_in-count.result (seen c.in-Some.body) c.requires.sound (sym c.in-Some.ensures.found) c.loops_in-count.ensures.count (omega (arith, c.if-left-count.false))
