use Rattle.thread_tree.specs.Program.{program_of}
use Rattle.kernel_tests.proofs.FormattedLaws.{formatted_objects}
use Rattle.kernel_tests.proofs.objects.settled.Goals as goal

pub returns : goal.returns
returns g c =
    let p = program_of c.args.program.now in
    let words = g.N.Nv.words c.args.nv in
    let rest = c.formatting_shows_the_start.ensures.at_rest p words c.requires.formatted in
    let image = c.formatting_shows_the_start.ensures.image p words c.requires.formatted in
    let shows = c.formatting_shows_the_start.ensures.shown p c.tree.ensures.within in
    let sound = c.soundness.ensures.initial p c.tree.ensures.within in
    record {
      objects = formatted_objects p words (g.N.Nv.words c.in_ok-idle.idle) rest c.in_ok-idle.ensures.settled image shows sound;
    }
