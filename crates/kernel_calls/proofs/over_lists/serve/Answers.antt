use Rattle.std.proofs.Common.{ap}
use Rattle.kernel_image.specs.Decoded.{Decoded}
use Rattle.thread_tree.specs.Program.{program_of}
use Rattle.kernel_calls.proofs.over_lists.serve.Goals as goal

pub returns-clause-served : goal.returns-clause-served
returns-clause-served g c whose K known is =
    let p = program_of c.args.program.now in
    let held = c.result_laws.ensures.context p c.args.thread whose _ c.args.contexts.now K c.args.thread known is.matches is.lives is.held in
    let unfinished = c.result_laws.ensures.unfinished p c.args.contexts.now c.args.thread known is.action c.args.results.now held is.next is.many in
    c.result_laws.ensures.served p whose _ _ c.args.contexts.now _ K c.args.thread known c.args.results.now held.ctx c.requires.thread is held.context.local (c.in_ok-finish.ensures.finished held.ctx is.action unfinished)

pub returns-clause-events : goal.returns-clause-events
returns-clause-events g c =
    let r = c.requires.serving in
    let p = program_of c.args.program.now in
    let is = r.3 in
    let held = c.result_laws.ensures.context p c.args.thread r.0 _ c.args.contexts.now r.1 c.args.thread r.2 is.matches is.lives is.held in
    let unfinished = c.result_laws.ensures.unfinished p c.args.contexts.now c.args.thread r.2 is.action c.args.results.now held is.next is.many in
    ap (λ (d : Decoded). d.events) (c.in_ok-finish.ensures.finished held.ctx is.action unfinished).appended.rest
