use Rattle.std.proofs.Common.{◌≡◌, ◌+◌, ◌*◌, ap, ◌∙◌, arith}
use Rattle.std.specs.Prelude.{is_some}
use Rattle.thread_tree.specs.Program.{program_of}
use Rattle.kernel_model.specs.Objects.{object_at, static_objects}
use Rattle.kernel_image.proofs.InitialLaws.{bits_from, bits_from-all}
use Rattle.kernel_image.proofs.initial.initial_live_word.Goals as goal

pub returns : goal.returns
returns c =
    let none : c.loop-k.k ≡ 0 = omega arith in
    record {
      word =
          c.loop-k.invariant
          ∙ ap (bits_from (λ k. is_some (object_at (static_objects (program_of c.args.program.now)) (64 * c.args.i + 2 * k)))) none
          ∙ bits_from-all (program_of c.args.program.now) c.args.i;
    }
