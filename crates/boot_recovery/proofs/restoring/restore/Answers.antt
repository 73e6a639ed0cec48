use Rattle.thread_tree.specs.Program.{program_of}
use Rattle.kernel_image.specs.Decoded.{image_in, row_at}
use Rattle.boot_recovery.proofs.LifeLaws.{begins, life_starts}
use Rattle.boot_recovery.proofs.restoring.restore.Goals as goal

pub begin-ctx-requires-clause-few : goal.begin-ctx-requires-clause-few
begin-ctx-requires-clause-few g c = c.requires.live.1.1.few

pub begin-ctx-requires-clause-starts : goal.begin-ctx-requires-clause-starts
begin-ctx-requires-clause-starts g c = life_starts (program_of c.args.program.now) (row_at (image_in (g.W.Words.present c.args.words.now)) c.args.thread) c.requires.live.0 c.requires.live.1.1

pub replay_all-requires-clause-more : goal.replay_all-requires-clause-more
replay_all-requires-clause-more g c = (c.args.steps.now, c.requires.live.0, begins (program_of c.args.program.now) (row_at (image_in (g.W.Words.present c.args.words.now)) c.args.thread) _ c.args.steps.now c.requires.live.0 c.begin-ctx.ensures.started c.requires.live.1.1)

pub returns-clause-restored : goal.returns-clause-restored
returns-clause-restored g c = λ known is.
    let all = c.replay_all.ensures.replayed c.args.steps.now known (begins (program_of c.args.program.now) (row_at (image_in (g.W.Words.present c.args.words.now)) c.args.thread) _ c.args.steps.now known c.begin-ctx.ensures.started is.1) in
    let back = c.arrive.ensures.arrived c.args.steps.now all.0 known is.0 all.1 all.2 in
    record { local = back.local; context = c.arrive.ensures.context }

pub returns-clause-stepped : goal.returns-clause-stepped
returns-clause-stepped g c = λ known is.
    let all = c.replay_all.ensures.replayed c.args.steps.now known (begins (program_of c.args.program.now) (row_at (image_in (g.W.Words.present c.args.words.now)) c.args.thread) _ c.args.steps.now known c.begin-ctx.ensures.started is.1) in
    let back = c.arrive.ensures.arrived c.args.steps.now all.0 known is.0 all.1 all.2 in
    back.counted
