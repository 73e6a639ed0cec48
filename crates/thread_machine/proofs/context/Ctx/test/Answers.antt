-- A `while` whose condition isn't 0 enters its block.
use Rattle.thread_machine.proofs.MoveLemmas.{tested_first, first_of_while}
use Rattle.thread_machine.proofs.context.Ctx.test.Goals as goal

pub returns-then-value-ne0-clause-moved : goal.returns-then-value-ne0-clause-moved
returns-then-value-ne0-clause-moved c = λ p s e block here layer value.
    tested_first p c.args.self.now c.args.value s e block _ here layer value c.if-value-ne0.true
    (c.enter.ensures.moved p s block here (first_of_while p s e block layer))
