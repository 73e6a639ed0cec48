-- The kernel is live on each course on which it was live, and as many events as it counts are committed.
use Rattle.std.proofs.Common.{◌≡◌, ◌+◌, ◌-◌, ◌*◌, ◌≤◌, length}
use Rattle.undo_journal.specs.Undo.{IsAtRest}
use Rattle.undo_journal.specs.Lending.{FellWithin}
use Rattle.thread_tree.specs.Program.{program_of}
use Rattle.kernel_image.specs.Decoded.{image_in}
use Rattle.kernel_model.specs.Kernel.{State}
use Rattle.kernel_boots.specs.Boots.{IsSpent}
use Rattle.kernel_boots.specs.Courses.{course, IsLive}
use Rattle.kernel_boots.proofs.working.work.Given as goal

abbrev pub invariant-loop-event : goal.invariant-loop-event
invariant-loop-event g l = record {
  at_rest : IsAtRest (g.N.Nv.words l.idle);
  live : (K : State) → IsLive (course (program_of l.program) K (g.W.World.events l.initial.world)) (image_in (g.N.Nv.words l.initial.idle)) l.initial.contexts
      → IsLive (course (program_of l.program) K (g.W.World.events l.initial.world)) (image_in (g.N.Nv.words l.idle)) l.contexts;
  is : l.events ≡ (image_in (g.N.Nv.words l.idle)).events;
  same : g.W.World.events l.world ≡ g.W.World.events l.initial.world;
  floor : g.W.World.floor l.world ≤ l.events;
  later : (image_in (g.N.Nv.words l.initial.idle)).events ≤ l.events;
  spent : IsSpent g.N.Nv l.initial.idle l.idle;
  fell : FellWithin (6400 * (l.events - (image_in (g.N.Nv.words l.initial.idle)).events)) (g.N.Nv.left l.initial.idle) (g.N.Nv.left l.idle);
  counted : l.initial.counter ≤ l.counter;
  few : l.counter + 10000 * (image_in (g.N.Nv.words l.initial.idle)).events ≤ l.initial.counter + 10000 * l.events;
}

abbrev pub decreases-loop-event : goal.decreases-loop-event
decreases-loop-event g l = length (g.W.World.events l.initial.world) - l.events
