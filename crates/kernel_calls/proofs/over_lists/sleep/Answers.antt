use Rattle.std.proofs.Common.{◌∙◌}
use Rattle.kernel_model.specs.Kernel.{with_row}
use Rattle.kernel_model.specs.Kernel.Row.{Free}
use Rattle.kernel_image.specs.Decoded.{image_in}
use Rattle.ready_delay_lists.specs.Lists.{IsListed}
use Rattle.kernel_calls.proofs.over_lists.sleep.Goals as goal

pub put_timed-requires-clause-listed : goal.put_timed-requires-clause-listed
put_timed-requires-clause-listed g c =
    let r = c.requires.calling in
    let K = r.3 in
    let known = r.4 in
    let is = r.5 in
    let listed : IsListed (image_in (g.N.Nv.words c.args.tx.now)) K c.args.thread known = record { listed = is.matches.listed; lives = is.lives } in
    (with_row K c.args.thread Free, known, c.moving_laws.ensures.aside _ K c.args.thread known c.requires.thread is.matches.sixteen (c.in_ok-leave_all.ensures.listed K known listed) (c.in_ok-leave_all.ensures.bears K known listed))

pub returns-clause-asleep : goal.returns-clause-asleep
returns-clause-asleep g c p whose contexts K known is =
    let listed : IsListed (image_in (g.N.Nv.words c.args.tx.now)) K c.args.thread known = record { listed = is.matches.listed; lives = is.lives } in
    let aside = c.moving_laws.ensures.aside _ K c.args.thread known c.requires.thread is.matches.sixteen (c.in_ok-leave_all.ensures.listed K known listed) (c.in_ok-leave_all.ensures.bears K known listed) in
    c.moving_laws.ensures.asleep p whose _ _ _ contexts K c.args.thread known c.args.wake c.requires.thread is c.in_ok-leave_all.ensures.unlisted (c.in_ok-put_timed.ensures.listed (with_row K c.args.thread Free) known aside) c.in_ok-put_timed.ensures.unlisted

pub returns-clause-events : goal.returns-clause-events
returns-clause-events g c = c.list_laws.ensures.events _ _ (c.in_ok-put_timed.ensures.unlisted ∙ c.in_ok-leave_all.ensures.unlisted)
