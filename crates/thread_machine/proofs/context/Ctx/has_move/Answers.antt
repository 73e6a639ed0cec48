-- The next move is that of the statement at hand, or of the end of its block.
use Rattle.std.proofs.Common.{◌∙◌, sym, ap}
use Rattle.std.specs.Prelude.{slice_get}
use Rattle.thread_tree.specs.Program.{program_of}
use Rattle.thread_machine.proofs.RunLemmas.{move_at_statement, move_at_end, no_move_at_end}
use Rattle.thread_machine.proofs.context.Ctx.has_move.Goals as goal

pub returns-in-Some : goal.returns-in-Some
returns-in-Some c = record {
  value = c.is_move.ensures.value ∙ sym (move_at_statement (program_of c.args.tree.now) c.args.self.now c.in-Some.statement.now (sym (c.in-Some.ensures.found ∙ ap (λ xs. slice_get xs c.args.self.now.at) c.block.ensures.found)));
}

pub returns-in-Some-last : goal.returns-in-Some-last
returns-in-Some-last c = record {
  value = sym (move_at_end (program_of c.args.tree.now) c.args.self.now c.in-Some-last.field-0.now (sym (c.in-None.ensures.found ∙ ap (λ xs. slice_get xs c.args.self.now.at) c.block.ensures.found)) (rw (← c.deref.ensures.0) (sym c.in-Some-last.ensures.value)));
}

pub returns-in-None-last : goal.returns-in-None-last
returns-in-None-last c = record {
  value = sym (no_move_at_end (program_of c.args.tree.now) c.args.self.now (sym (c.in-None.ensures.found ∙ ap (λ xs. slice_get xs c.args.self.now.at) c.block.ensures.found)) (rw (← c.deref.ensures.0) (sym c.in-None-last.ensures.value)));
}
