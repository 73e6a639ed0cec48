use Rattle.std.proofs.Common.{ap, sym, ◌∙◌}
use Rattle.kernel_image.specs.Decoded.{image_in}
use Rattle.persistent_objects.specs.Objects.{objects_of}
use Rattle.kernel_model.specs.Transactions.{read}
use Rattle.thread_tree.specs.Program.{program_of}
use Rattle.user_transactions.proofs.moves.value.Goals as goal

pub returns-in-Ok-clause-value : goal.returns-in-Ok-clause-value
returns-in-Ok-clause-value g c =
    ap (λ locals. read (program_of c.args.program.now) (objects_of (program_of c.args.program.now) (image_in (g.N.Nv.words c.args.tx.now))) locals c.args.e.now c.args.work.now.operations) (sym c.as_slice.ensures.value) ∙ sym c.in-Ok.ensures.read

pub returns-in-Err-clause-value : goal.returns-in-Err-clause-value
returns-in-Err-clause-value g c =
    ap (λ locals. read (program_of c.args.program.now) (objects_of (program_of c.args.program.now) (image_in (g.N.Nv.words c.args.tx.now))) locals c.args.e.now c.args.work.now.operations) (sym c.as_slice.ensures.value) ∙ sym c.in-Err.ensures.read
