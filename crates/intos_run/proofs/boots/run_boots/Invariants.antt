use Rattle.std.proofs.Common.{◌≡◌, ◌+◌, ◌-◌, ◌*◌, ◌≤◌, length}
use Rattle.thread_tree.specs.Program.{program_of}
use Rattle.kernel_model.specs.Kernel.{State}
use Rattle.replay_list.specs.Kept.{counter_of}
use Rattle.kernel_boots.specs.Courses.{course, IsUnderWay}
use Rattle.intos_run.specs.Runs.{budgets_of, recovered}
use Rattle.intos_run.proofs.RunLemmas.{IsAt}
use Rattle.intos_run.proofs.boots.run_boots.Given as goal

abbrev pub invariant-boots : goal.invariant-boots
invariant-boots g l = record {
  stands : (K : State) → IsUnderWay (course (program_of l.program) K (g.W.World.events l.initial.world)) (g.N.Nv.words l.initial.nv)
      → IsAt g.N.Nv (course (program_of l.program) K (g.W.World.events l.initial.world)) (budgets_of (g.N.Nv.left l.initial.nv) (g.N.Nv.to_come l.initial.nv)) (g.N.Nv.words l.initial.nv) (g.S.Sink.bytes l.initial.sink) (g.S.Sink.bytes l.sink) l.number l.nv;
  same : g.W.World.events l.world ≡ g.W.World.events l.initial.world;
  floor : g.W.World.floor l.world ≤ counter_of (g.N.Nv.words l.nv);
  faults : g.S.Sink.faults l.sink ≡ g.S.Sink.faults l.initial.sink;
  steps : (K : State) → IsUnderWay (course (program_of l.program) K (g.W.World.events l.initial.world)) (g.N.Nv.words l.initial.nv)
      → l.counter ≤ l.initial.counter + recovered (course (program_of l.program) K (g.W.World.events l.initial.world)) (g.N.Nv.words l.initial.nv) (g.N.Nv.ends l.nv) + 10000 * (counter_of (g.N.Nv.words l.nv) + length (g.N.Nv.ends l.nv));
}

abbrev pub decreases-boots : goal.decreases-boots
decreases-boots g l = length (budgets_of (g.N.Nv.left l.initial.nv) (g.N.Nv.to_come l.initial.nv)) - length (g.N.Nv.ends l.nv)
