use Rattle.std.proofs.Common.{ℕ, subst}
use Rattle.kernel_model.specs.Serve.{settle}
use Rattle.kernel_model.specs.Serve.Fate.{Blocks}
use Rattle.kernel_image.specs.Decoded.{image_in}
use Rattle.kernel_calls.specs.Matches.{Matches, nobody}
use Rattle.kernel_calls.proofs.over_lists.hold.Goals as goal

pub returns-then-limit-eq0-clause-acted : goal.returns-then-limit-eq0-clause-acted
returns-then-limit-eq0-clause-acted g c p whose contexts K known is =
    c.holding_laws.ensures.answers p whose c.args.thread _ contexts _ K _ c.timed_out.result
    (c.holding_laws.ensures.held_now p K c.args.what c.args.target c.args.value c.args.limit c.if-limit-eq0.true) (c.timed_out.ensures.results p c.args.target) is.matches

pub returns-clause-acted : goal.returns-clause-acted
returns-clause-acted g c p whose contexts K known is =
    let until = c.until_of-until.ensures.until p c.args.thread whose contexts K is.matches in
    c.holding_laws.ensures.blocks p whose c.args.thread _ contexts _ K _
    (c.holding_laws.ensures.held_later p K c.args.what c.args.target c.args.value c.args.limit c.if-limit-eq0.false)
    (subst (λ (n : ℕ). Matches p nobody whose (image_in (g.N.Nv.words c.block.new.tx)) contexts (settle p c.args.thread (Blocks (record { what = c.args.what; target = c.args.target; value = c.args.value; until = n })) K)) until
    (c.in_ok-block.ensures.blocked p whose contexts K known is))
