use Rattle.thread_tree.specs.Program.{program_of}
use Rattle.kernel_model.specs.Run.{initial}
use Rattle.boot_tests.proofs.report.begun.Goals as goal

pub recovered-requires-clause-kept : goal.recovered-requires-clause-kept
recovered-requires-clause-kept g c =
    (initial (program_of c.args.program.now), c.formatting_stands.ensures.blank (program_of c.args.program.now) (g.N.Nv.words c.args.nv) c.requires.blank)

pub put_begin-requires : goal.put_begin-requires
put_begin-requires g c =
    let start = initial (program_of c.args.program.now) in
    let blank = c.formatting_stands.ensures.blank (program_of c.args.program.now) (g.N.Nv.words c.args.nv) c.requires.blank in
    record { stands = (start, c.in-Ok.ensures.stands start blank) }
