use Rattle.std.proofs.Common.{sym, subst, arith}
use Rattle.thread_tree.specs.Program.{program_of}
use Rattle.kernel_image.specs.Start.{IsFormatted}
use Rattle.boot_recovery.proofs.KeptLaws.{written_formatted}
use Rattle.boot_recovery.proofs.formatting.format.Goals as goal

pub returns-clause-formatted : goal.returns-clause-formatted
returns-clause-formatted g c =
    subst (IsFormatted (program_of c.args.program.now)) (sym c.in_ok-write-2.ensures.written)
    (written_formatted (program_of c.args.program.now) (g.N.Nv.words c.loop-at.nv) (g.met.N.Nv.sized c.loop-at.nv) (λ a some within. c.loop-at.invariant.initial a some (omega arith)))
