-- Each branch of an `if` is what its value chooses.
use Rattle.thread_machine.proofs.MoveLemmas.{branched_first, branched_other, other_is, first_of_if}
use Rattle.thread_machine.proofs.context.Ctx.branch.Goals as goal

pub returns-then-value-ne0-clause-moved : goal.returns-then-value-ne0-clause-moved
returns-then-value-ne0-clause-moved c = λ p s e block other here layer has value.
    branched_first p c.args.self.now c.args.value s e block other _ here layer value c.if-value-ne0.true
    (c.enter.ensures.moved p s block here (first_of_if p s e block other layer))

pub returns-then-has_other-clause-moved : goal.returns-then-has_other-clause-moved
returns-then-has_other-clause-moved c = λ p s e block other here layer has value.
    branched_other p c.args.self.now c.args.value s e block other _ here layer value c.if-value-ne0.false
    (has) c.if-has_other.true
    (λ b is. c.enter-then-has_other.ensures.moved p s b here (other_is p s e block other b layer is))
