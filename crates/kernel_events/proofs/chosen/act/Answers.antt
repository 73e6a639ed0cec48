-- The action at which the thread arrives is a print or a block, and fits.
use Rattle.std.proofs.Common.{ap, sym, ◌∙◌}
use Rattle.std.specs.Option.{option_copied}
use Rattle.thread_tree.specs.declared.block.Stmt.{out-Stmt}
use Rattle.thread_tree.specs.Program.{program_of}
use Rattle.kernel_events.proofs.ServedLaws.{block-of, few-items, few-names, fit-gives, one-of, served-block}
use Rattle.kernel_events.proofs.chosen.act.Goals as goal

pub print_event-requires-clause-few : goal.print_event-requires-clause-few
print_event-requires-clause-few g c =
    let s = c.action-statement.result.now in
    few-items (program_of c.args.program.now) (out-Stmt s) c.in-Some.items.now (sym c.printed_items.ensures.found ∙ ap option_copied c.in-Some.is) (c.tree.ensures.fit c.args.number s c.action-statement.ensures)

pub block_event-requires-clause-few : goal.block_event-requires-clause-few
block_event-requires-clause-few g c =
    let s = c.action-statement.result.now in
    few-names (program_of c.args.program.now) (out-Stmt s) c.in-Some-block_names.to.now (sym c.block_names.ensures.found ∙ ap option_copied c.in-Some-block_names.is) (c.tree.ensures.fit c.args.number s c.action-statement.ensures)

pub block_event-requires-clause-here : goal.block_event-requires-clause-here
block_event-requires-clause-here g c =
    let s = c.action-statement.result.now in
    let served = c.served_laws.ensures.acts c.args.program.now c.args.number s c.requires.served c.action-statement.ensures in
    let to = c.in-Some-block_names.to.now in
    let is = block-of (out-Stmt s) to (sym c.block_names.ensures.found ∙ ap option_copied c.in-Some-block_names.is) in
    (s, is.place, is.body, c.action-statement.ensures, is.is, served-block (out-Stmt s) to is served, fit-gives (program_of c.args.program.now) (out-Stmt s) to is (c.tree.ensures.fit c.args.number s c.action-statement.ensures))

pub unreachable-requires : goal.unreachable-requires
unreachable-requires g c =
    let s = c.action-statement.result.now in
    let served = c.served_laws.ensures.acts c.args.program.now c.args.number s c.requires.served c.action-statement.ensures in
    one-of (out-Stmt s) served (sym c.printed_items.ensures.found ∙ ap option_copied c.in-None.is) (sym c.block_names.ensures.found ∙ ap option_copied c.in-None-block_names.is)
