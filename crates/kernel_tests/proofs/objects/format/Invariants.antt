use Rattle.std.proofs.Common.{◌≡◌, ◌<◌, ℕ, slice_index}
use Rattle.thread_tree.specs.Program.{program_of}
use Rattle.kernel_image.specs.Initial.{initial_word}
use Rattle.kernel_tests.proofs.objects.format.Given as goal

abbrev pub invariant-loop-at : goal.invariant-loop-at
invariant-loop-at g l = record {
  initial : (a : ℕ) → a < l.at → slice_index (g.N.Nv.words l.nv) a ≡ initial_word (program_of l.program) a;
}
