-- The locals behind a call are those before it.
use Rattle.std.proofs.Common.{◌∙◌, ap}
use Rattle.std.specs.Option.{option_copied}
use Rattle.thread_tree.specs.Actions.{names_in}
use Rattle.thread_tree.specs.Program.{program_of}
use Rattle.thread_machine.proofs.KeepLemmas.{left_call}
use Rattle.thread_machine.proofs.NameLemmas.{names_given}
use Rattle.thread_machine.proofs.context.Ctx.return_to.Goals as goal

pub returns-clause-scoped : goal.returns-clause-scoped
returns-clause-scoped c = λ call held.
    let s = c.args.self.now in
    rw c.place_behind-self.ensures.value
    (left_call (program_of c.args.tree.now) s.body s.cursors.items c.args.cursor s.slots.items c.give.new.slots.items s.base (option_copied c.statement_at-statement.result) call held
    (ap names_in c.give.ensures.given ∙ names_given c.taking.result _ c.args.value c.truncate.new.self.items ∙ ap names_in c.truncate.ensures.items))
