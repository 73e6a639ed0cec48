-- The slots are the locals of all frames.
use Rattle.std.proofs.Common.{◌∙◌, sym, arith}
use Rattle.std.proofs.lemmas.List.{take_all}
use Rattle.thread_tree.specs.Program.{program_of}
use Rattle.thread_machine.proofs.BindLemmas.{all_locals}
use Rattle.thread_machine.proofs.context.Ctx.locals.Goals as goal

pub returns : goal.returns
returns c = record {
  locals = c.loop-at.invariant ∙ take_all c.loop-at.at c.args.self.now.slots.items (omega arith) ∙ sym (all_locals (program_of c.args.program.now) c.args.self.now c.requires.context.counted);
}
