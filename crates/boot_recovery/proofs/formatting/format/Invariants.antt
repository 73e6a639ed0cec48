use Rattle.std.proofs.Common.{◌≡◌, ◌+◌, ◌-◌, ◌≤◌, ◌<◌, ℕ, slice_index}
use Rattle.std.specs.Prelude.{IfSome}
use Rattle.nv_memory.specs.Budget.{spent}
use Rattle.thread_tree.specs.Program.{program_of}
use Rattle.kernel_image.specs.Initial.{initial_word}
use Rattle.boot_recovery.proofs.formatting.format.Given as goal

abbrev pub invariant-loop-at : goal.invariant-loop-at
invariant-loop-at g l = record {
  blank : slice_index (g.N.Nv.words l.nv) 0 ≡ 0;
  initial : (a : ℕ) → 1 ≤ a → a < l.at → slice_index (g.N.Nv.words l.nv) a ≡ initial_word (program_of l.program) a;
  behind : (a : ℕ) → l.at ≤ a → slice_index (g.N.Nv.words l.nv) a ≡ slice_index (g.N.Nv.words l.initial.nv) a;
  written : IfSome (g.N.Nv.left l.initial.nv) (λ writes. l.at ≤ writes + 1);
  left : g.N.Nv.left l.nv ≡ spent (g.N.Nv.left l.initial.nv) (l.at - 1);
  to_come : g.N.Nv.to_come l.nv ≡ g.N.Nv.to_come l.initial.nv;
  ends : g.N.Nv.ends l.nv ≡ g.N.Nv.ends l.initial.nv;
  steps : l.steps + 1 ≡ l.initial.steps + l.at;
}
