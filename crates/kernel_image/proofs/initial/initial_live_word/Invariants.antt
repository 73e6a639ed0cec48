-- The word has the bits from here on.
use Rattle.std.proofs.Common.{◌≡◌, ◌+◌, ◌*◌}
use Rattle.std.specs.Prelude.{is_some}
use Rattle.thread_tree.specs.Program.{program_of}
use Rattle.kernel_model.specs.Objects.{object_at, static_objects}
use Rattle.kernel_image.proofs.InitialLaws.{bits_from}
use Rattle.kernel_image.proofs.initial.initial_live_word.Given as goal

abbrev pub invariant-loop-k : goal.invariant-loop-k
invariant-loop-k l =
    l.word ≡ bits_from (λ k. is_some (object_at (static_objects (program_of l.program)) (64 * l.i + 2 * k))) l.k
