-- What goes on behind a block that was left.
use Rattle.std.proofs.Common.{◌∙◌, ap}
use Rattle.std.specs.Option.{option_copied}
use Rattle.std.specs.Prelude.{slice_get}
use Rattle.thread_tree.specs.Program.{program_of}
use Rattle.thread_machine.proofs.KeepLemmas.{left_after}
use Rattle.thread_machine.proofs.StateLemmas.{left_local}
use Rattle.thread_machine.proofs.context.Ctx.leave.Goals as goal

pub returns-clause-moved : goal.returns-clause-moved
returns-clause-moved c =
    rw c.cut.ensures.kept
    (left_local (program_of c.args.tree.now) c.args.self.now c.cut.new.self.slots c.args.cursor.keep c.args.cursor.at c.place_after-self.result c.is_loop-self.result (option_copied c.statement_at-statement.result) c.cut.ensures.slots
    (c.statement_at-statement.ensures.found ∙ ap (λ xs. slice_get xs c.args.cursor.at) c.block.ensures.found)
    c.is_loop-self.ensures.value c.place_after-self.ensures.value)

pub returns-clause-scoped : goal.returns-clause-scoped
returns-clause-scoped c = λ block held.
    let s = c.args.self.now in
    rw (c.cut.ensures.kept, c.place_after-self.ensures.value)
    (left_after (program_of c.args.tree.now) s.body s.cursors.items c.args.cursor s.slots.items c.cut.new.self.slots.items s.base (option_copied c.statement_at-statement.result) block held c.cut.ensures.slots)
