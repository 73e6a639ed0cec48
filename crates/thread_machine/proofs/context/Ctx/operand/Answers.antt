-- The value of an operand of the action at hand.
use Rattle.std.proofs.Common.{◌∙◌, refl, sym, ap, Some, None}
use Rattle.std.specs.Prelude.{slice_get}
use Rattle.thread_tree.specs.LocalState.{next_action}
use Rattle.thread_tree.specs.Program.{program_of}
use Rattle.thread_machine.specs.Context.{local_of}
use Rattle.thread_machine.proofs.BindLemmas.{operand_value, no_action_at_end}
use Rattle.thread_machine.proofs.context.Ctx.operand.Goals as goal

pub returns-in-Some-operand_in : goal.returns-in-Some-operand_in
returns-in-Some-operand_in c =
    let p = program_of c.args.program.now in
    let s = c.args.self.now in
    record {
      value = operand_value p s c.in-Some.statement.now c.args.which c.evaluate.result (Some c.in-Some-operand_in.e.now) (next_action p (local_of p s))
          (sym (c.in-Some.ensures.found ∙ ap (λ xs. slice_get xs s.at) (rw (← c.tree.ensures.same) c.block.ensures.found))) refl c.in-Some-operand_in.ensures.found (rw (← c.own.ensures.own) c.evaluate.ensures.value);
    }

pub returns-in-None-operand_in : goal.returns-in-None-operand_in
returns-in-None-operand_in c =
    let p = program_of c.args.program.now in
    let s = c.args.self.now in
    record {
      value = operand_value p s c.in-Some.statement.now c.args.which 0 None (next_action p (local_of p s))
          (sym (c.in-Some.ensures.found ∙ ap (λ xs. slice_get xs s.at) (rw (← c.tree.ensures.same) c.block.ensures.found))) refl c.in-None-operand_in.ensures.found tt;
    }

pub returns-in-None : goal.returns-in-None
returns-in-None c =
    let p = program_of c.args.program.now in
    let s = c.args.self.now in
    record {
      value = rw (no_action_at_end p s (sym (c.in-None.ensures.found ∙ ap (λ xs. slice_get xs s.at) (rw (← c.tree.ensures.same) c.block.ensures.found)))) tt;
    }
