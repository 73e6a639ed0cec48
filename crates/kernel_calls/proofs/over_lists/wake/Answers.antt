use Rattle.std.proofs.Common.{sym, ap, ◌∙◌}
use Rattle.kernel_model.specs.Kernel.{with_row}
use Rattle.kernel_model.specs.Kernel.Row.{Free}
use Rattle.kernel_image.specs.Decoded.{Decoded}
use Rattle.thread_tree.specs.Program.{program_of}
use Rattle.kernel_calls.proofs.over_lists.wake.Goals as goal

pub leave_all-requires-clause-listed : goal.leave_all-requires-clause-listed
leave_all-requires-clause-listed g c =
    let r = c.requires.awaited in
    let p = program_of c.args.program.now in
    let is = r.4 in
    let held = c.result_laws.ensures.context p r.0 r.1 _ c.args.contexts.now r.2 c.args.thread r.3 is.matches is.lives is.held in
    let unfinished = c.result_laws.ensures.unfinished p c.args.contexts.now c.args.thread r.3 is.awaiting.awaited c.args.results.now held is.awaiting.next (sym is.awaiting.many) in
    (r.2, r.3, c.moving_laws.ensures.awaited p r.0 r.1 _ _ c.args.contexts.now _ r.2 c.args.thread r.3 c.args.results.now held.ctx is (c.in_ok-finish.ensures.finished held.ctx is.awaiting.awaited unfinished))

pub make_ready-requires-clause-listed : goal.make_ready-requires-clause-listed
make_ready-requires-clause-listed g c =
    let r = c.requires.awaited in
    let p = program_of c.args.program.now in
    let is = r.4 in
    let held = c.result_laws.ensures.context p r.0 r.1 _ c.args.contexts.now r.2 c.args.thread r.3 is.matches is.lives is.held in
    let unfinished = c.result_laws.ensures.unfinished p c.args.contexts.now c.args.thread r.3 is.awaiting.awaited c.args.results.now held is.awaiting.next (sym is.awaiting.many) in
    let listed = c.moving_laws.ensures.awaited p r.0 r.1 _ _ c.args.contexts.now _ r.2 c.args.thread r.3 c.args.results.now held.ctx is (c.in_ok-finish.ensures.finished held.ctx is.awaiting.awaited unfinished) in
    (with_row r.2 c.args.thread Free, r.3, c.moving_laws.ensures.aside _ r.2 c.args.thread r.3 c.requires.thread is.matches.sixteen (c.in_ok-leave_all.ensures.listed r.2 r.3 listed) (c.in_ok-leave_all.ensures.bears r.2 r.3 listed), is.fits)

pub returns-clause-woken : goal.returns-clause-woken
returns-clause-woken g c caller whose K known is =
    let p = program_of c.args.program.now in
    let held = c.result_laws.ensures.context p caller whose _ c.args.contexts.now K c.args.thread known is.matches is.lives is.held in
    let unfinished = c.result_laws.ensures.unfinished p c.args.contexts.now c.args.thread known is.awaiting.awaited c.args.results.now held is.awaiting.next (sym is.awaiting.many) in
    let finished = c.in_ok-finish.ensures.finished held.ctx is.awaiting.awaited unfinished in
    let listed = c.moving_laws.ensures.awaited p caller whose _ _ c.args.contexts.now _ K c.args.thread known c.args.results.now held.ctx is finished in
    let aside = c.moving_laws.ensures.aside _ K c.args.thread known c.requires.thread is.matches.sixteen (c.in_ok-leave_all.ensures.listed K known listed) (c.in_ok-leave_all.ensures.bears K known listed) in
    c.moving_laws.ensures.awake p caller whose _ _ _ _ c.args.contexts.now _ K c.args.thread known c.args.results.now held.ctx c.requires.thread is held.context.local finished
    c.in_ok-leave_all.ensures.unlisted (c.in_ok-make_ready.ensures.listed (with_row K c.args.thread Free) known aside) c.in_ok-make_ready.ensures.unlisted

pub returns-clause-events : goal.returns-clause-events
returns-clause-events g c =
    let r = c.requires.awaited in
    let p = program_of c.args.program.now in
    let is = r.4 in
    let held = c.result_laws.ensures.context p r.0 r.1 _ c.args.contexts.now r.2 c.args.thread r.3 is.matches is.lives is.held in
    let unfinished = c.result_laws.ensures.unfinished p c.args.contexts.now c.args.thread r.3 is.awaiting.awaited c.args.results.now held is.awaiting.next (sym is.awaiting.many) in
    c.list_laws.ensures.events _ _ (c.in_ok-make_ready.ensures.unlisted ∙ c.in_ok-leave_all.ensures.unlisted)
    ∙ ap (λ (d : Decoded). d.events) (c.in_ok-finish.ensures.finished held.ctx is.awaiting.awaited unfinished).appended.rest
