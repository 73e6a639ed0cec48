-- The best of all rows is the thread that the kernel chooses.
use Rattle.std.proofs.Common.{◌≡◌, ℕ, subst, arith}
use Rattle.kernel_image.specs.Decoded.{Decoded, image_in}
use Rattle.ready_delay_lists.specs.Best.{IsBest}
use Rattle.ready_delay_lists.proofs.Agreeing.{chosen_is}
use Rattle.ready_delay_lists.proofs.ready.chosen.Goals as goal

pub returns-clause-chosen : goal.returns-clause-chosen
returns-clause-chosen g c = λ K formed both.
    let d : Decoded = image_in (g.W.Words.present c.args.words.now) in
    let all : c.loop-thread.thread ≡ 16 = omega (arith, c.loop-thread-test.false, c.loop-thread.auto.thread-end) in
    chosen_is K d formed both c.order.ensures.passes c.order.ensures.is_first c.loop-thread.best
    (subst (λ (rows : ℕ). IsBest d rows c.loop-thread.best) all c.loop-thread.invariant.0)
