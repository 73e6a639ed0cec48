use Rattle.thread_tree.specs.Program.{program_of}
use Rattle.boot_recovery.proofs.KeptLaws.{settled_stands}
use Rattle.boot_recovery.proofs.recovery.undo.Goals as goal

pub returns-clause-stands : goal.returns-clause-stands
returns-clause-stands g c = λ K kept.
    settled_stands (program_of c.args.program.now) (g.N.Nv.words c.args.nv) (g.N.Nv.words c.in_ok-idle.idle) K kept c.requires.formatted c.in_ok-idle.ensures.at_rest c.in_ok-idle.ensures.undone
