use Rattle.std.proofs.Common.{◌∷◌, []}
use Rattle.thread_tree.specs.Program.{program_of}
use Rattle.kernel_tests.proofs.ArrivedLaws.{given_context}
use Rattle.kernel_tests.proofs.finished.gives.Goals as goal

pub returns : goal.returns
returns g c =
    let r = c.requires.unfinished in
    record {
      context = given_context (program_of c.args.program.now) (1 ∷ 41 ∷ []) r.0 c.args.contexts.now c.finish.new.contexts (c.in-Ok.ensures.finished r.0 r.1 r.2).given;
    }
