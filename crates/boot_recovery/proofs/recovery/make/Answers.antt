use Rattle.thread_tree.specs.Program.{program_of}
use Rattle.boot_recovery.proofs.KeptLaws.{made_stands}
use Rattle.boot_recovery.proofs.recovery.make.Goals as goal

pub returns-in_ok-idle-in-Ok-clause-stands : goal.returns-in_ok-idle-in-Ok-clause-stands
returns-in_ok-idle-in-Ok-clause-stands g c =
    let formatted = c.in-Ok.ensures.formatted in
    made_stands (program_of c.args.program.now) (g.N.Nv.words c.format.new.nv) (g.N.Nv.words c.in_ok-idle-in-Ok.idle)
    (c.formatting_shows_the_start.ensures.at_rest (program_of c.args.program.now) (g.N.Nv.words c.format.new.nv) formatted)
    c.in_ok-idle-in-Ok.ensures.settled
    (c.formatting_shows_the_start.ensures.image (program_of c.args.program.now) (g.N.Nv.words c.format.new.nv) formatted)
    (c.formatting_stands.ensures.stands (program_of c.args.program.now) c.tree.ensures.within)
