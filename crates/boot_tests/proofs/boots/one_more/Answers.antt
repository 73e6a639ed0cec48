-- Behind a boot of four steps the kernel is that of the uncut run, which has counted at most four events.
use Rattle.std.proofs.Common.{length, replicate, arith}
use Rattle.std.proofs.lemmas.List.{length-replicate}
use Rattle.thread_tree.specs.Program.{program_of}
use Rattle.kernel_image.specs.Decoded.{image_in}
use Rattle.kernel_model.specs.declared.event.Event.TheVariants.{Step}
use Rattle.kernel_boots.specs.Courses.{from_start, uncut}
use Rattle.boot_tests.proofs.boots.one_more.Goals as goal

pub event-requires-clause-stands : goal.event-requires-clause-stands
event-requires-clause-stands g c =
    let on = from_start (program_of c.args.program.now) (replicate 4 Step) in
    let live = c.in-Ok.ensures.live in
    let n = (image_in (g.N.Nv.words c.in-Ok.kernel.idle)).events in
    let many = c.beginning.ensures.counts on n live.began live.within in
    let all = c.beginning.ensures.all (program_of c.args.program.now) (replicate 4 Step) in
    let four = length-replicate 4 Step in
    (uncut on n, live.stands, omega (arith, many, live.within, all, four))
