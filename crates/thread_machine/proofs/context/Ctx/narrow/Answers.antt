-- The block that has the loop is entered.
use Rattle.std.proofs.Common.{◌≡◌, ◌<◌, ◌∙◌, Some, ap, sym, subst}
use Rattle.std.specs.Prelude.{IsSomeAnd, slice_get}
use Rattle.thread_tree.specs.declared.block.Stmt.{out-Stmt}
use Rattle.thread_tree.specs.Program.{program_of}
use Rattle.thread_machine.specs.Context.{statement_of}
use Rattle.thread_machine.specs.Loops.{loops_of}
use Rattle.thread_machine.proofs.InnerLemmas.{entered_way}
use Rattle.thread_machine.proofs.context.Ctx.narrow.Goals as goal

pub enter-requires-clause-block : goal.enter-requires-clause-block
enter-requires-clause-block c = let inner = c.in_ok-way.ensures.inner (program_of c.args.tree.now) in inner.enters

pub returns-clause-way : goal.returns-clause-way
returns-clause-way c =
    let p = program_of c.args.tree.now in
    let here : statement_of p c.args.self.now ≡ Some c.in_ok-statement.statement.now =
    sym (c.in_ok-statement.ensures.found ∙ ap (λ xs. slice_get xs c.args.self.now.at) c.block.ensures.found) in
    let lt : c.args.left < loops_of (out-Stmt c.in_ok-statement.statement.now) = subst (λ o. IsSomeAnd o (λ s. c.args.left < loops_of (out-Stmt s))) here c.requires.inside in
    let inner = c.in_ok-way.ensures.inner p in
    (entered_way p c.args.self.now c.enter.new.self c.in_ok-statement.statement.now c.in_ok-way.way c.args.left c.in_ok-way.number inner c.requires.way here lt c.enter.ensures.cursors c.enter.ensures.kept (c.enter.ensures.moved p c.in_ok-statement.statement.now inner.block here inner.is)).0

pub returns-clause-sought : goal.returns-clause-sought
returns-clause-sought c =
    let p = program_of c.args.tree.now in
    let here : statement_of p c.args.self.now ≡ Some c.in_ok-statement.statement.now =
    sym (c.in_ok-statement.ensures.found ∙ ap (λ xs. slice_get xs c.args.self.now.at) c.block.ensures.found) in
    let lt : c.args.left < loops_of (out-Stmt c.in_ok-statement.statement.now) = subst (λ o. IsSomeAnd o (λ s. c.args.left < loops_of (out-Stmt s))) here c.requires.inside in
    let inner = c.in_ok-way.ensures.inner p in
    (entered_way p c.args.self.now c.enter.new.self c.in_ok-statement.statement.now c.in_ok-way.way c.args.left c.in_ok-way.number inner c.requires.way here lt c.enter.ensures.cursors c.enter.ensures.kept (c.enter.ensures.moved p c.in_ok-statement.statement.now inner.block here inner.is)).1
